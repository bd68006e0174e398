use Rattle.std.proofs.Common.{rules, ◌≡◌, sym, ap, ◌∙◌, subst, true, arith, ◌≤◌}
use Rattle.atomic_table.specs.Table.{Me}
use mathlib.Core.List.{IsPrefix}
use Rattle.al_front.specs.declared.view.View.{View}
use Rattle.al_front.specs.Rule.{settled, looked, longer}
use Rattle.al_front.proofs.Keeping.{settles_as, looks_as}
use Rattle.al_front.proofs.steps.settle_as.Goals as goal

pub load-requires : goal.load-requires
load-requires g c =
    let f = c.args.front.now in
    let v = c.args.seat.now.me.0 in
    (search rules, omega (arith, f.words.0), settles_as _ g.N.Name.base _ _ v.is_main v.is_store v.list c.args.floor v.met c.args.met_floor _ f.keyed c.requires.view)

pub load-requires-2 : goal.load-requires-2
load-requires-2 g c =
    let f = c.args.front.now in
    let v = c.args.seat.now.me.0 in
    let is = c.load.ensures.2.0 ∙ ap (λ (m : Me (Unit {0}) View). (settled m.0, m.1)) c.requires.view in
    (search rules, omega (arith, f.words.0), looks_as _ g.N.Name.base _ _ v.is_main v.is_store (longer v.list v.met) c.args.floor c.args.met_floor _ f.keyed is)

pub returns : goal.returns
returns g c =
    let v = c.args.seat.now.me.0 in
    let is = c.load.ensures.2.0 ∙ ap (λ (m : Me (Unit {0}) View). (settled m.0, m.1)) c.requires.view in
    let was = c.load-2.ensures.2.0 ∙ ap (λ (m : Me (Unit {0}) View). (looked m.0, m.1)) is in
    let list : c.load-2.new.seat.me.0.list ≡ c.load.new.seat.me.0.list = ap (λ (m : Me (Unit {0}) View). m.0.list) c.load-2.ensures.2.0 in
    record {
      seat = search rules;
      view = was;
      lists = (subst (λ l. IsPrefix v.list l) (sym list) c.load.ensures.2.1, subst (λ l. IsPrefix v.met l) (sym list) c.load.ensures.2.2);
      main = λ q. list ∙ c.load.ensures.2.3 q;
      store = subst (λ (m : Me (Unit {0}) View). m.0.is_store ≡ true → m.0.met_floor ≤ m.0.floor) is c.load-2.ensures.2.1;
    }
