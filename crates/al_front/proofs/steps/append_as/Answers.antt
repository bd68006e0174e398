use Rattle.std.proofs.Common.{rules, sym, ap, ◌∙◌, [], ◌∷◌, ◌++◌, ℕ, List, true, false, arith}
use Rattle.atomic_table.specs.Table.{Me}
use Rattle.al_front.specs.declared.view.View.{View}
use Rattle.al_front.specs.Rule.{sitting, with_entry}
use Rattle.al_front.proofs.Keeping.{appends_as}
use Rattle.al_front.proofs.steps.append_as.Goals as goal

pub fetch_add-requires : goal.fetch_add-requires
fetch_add-requires g c =
    let f = c.args.front.now in
    (search rules, omega (arith, f.words.0), appends_as _ g.N.Name.base _ _ c.args.seat.now.me.0.list c.args.floor g.E.Entry.bytes _ f.keyed c.requires.view c.requires.seat.1)

pub returns : goal.returns
returns g c =
    let base = g.N.Name.base in
    let old = c.args.seat.now.me.0.list in
    (search rules, c.fetch_add.ensures.2 ∙ (ap (λ (m : Me (Unit {0}) View). (with_entry g.E.Entry.bytes m.0, m.1)) c.requires.view ∙ ap (λ (b : List ℕ). (sitting true false base (old ++ b ∷ []) c.args.floor, [])) (sym c.requires.entry)))
