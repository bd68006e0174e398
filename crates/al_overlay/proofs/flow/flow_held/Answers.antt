use Rattle.std.proofs.Common.{◌≡◌, ap, sym, subst, cond, is_some, Option, Some, None, Ordering, IfSome}
use Rattle.std.specs.BTreeMap.{get, is_at}
use Rattle.al_base.specs.declared.key.Key.{Key}
use Rattle.al_base.specs.declared.key.Key.TheVariants as key
use Rattle.al_rows.proofs.Keys.{derived_order}
use Rattle.al_rows.specs.Rows.{InRange}
use Rattle.al_overlay.specs.declared.held.Held.{Held}
use Rattle.al_overlay.specs.Held.{at}
use Rattle.al_overlay.proofs.flow.flow_held.Goals as goal

pub flow_at-requires : goal.flow_at-requires
flow_at-requires g c =
    let k = key.Account c.args.who.now in
    let is : Some c.in-Some.held.now ≡ at c.args.rows.now.entries k = subst (λ (R : Key → Key → Ordering). Some c.in-Some.held.now ≡ get R c.args.rows.now k) derived_order c.in-Some.ensures.value in
    subst (λ o. IfSome o (λ h. IfSome h.row (InRange k))) (sym is) (c.requires k)

pub returns-in-Some-clause-flows : goal.returns-in-Some-clause-flows
returns-in-Some-clause-flows g c =
    let k = key.Account c.args.who.now in
    let m = c.args.rows.now in
    let w : Held = c.flow_at.new.held in
    let updates = ((c.get_mut.follows.holds w).3 (sym (ap is_some c.in-Some.ensures.value))).0 in
    let is : Some c.in-Some.held.now ≡ at m.entries k = subst (λ (R : Key → Key → Ordering). Some c.in-Some.held.now ≡ get R m k) derived_order c.in-Some.ensures.value in
    record {
      was = c.in-Some.held.now;
      now = w;
      there = is;
      updates = subst (λ (R : Key → Key → Ordering). (q : Key) → get R (c.get_mut.follows.lender w) q ≡ cond (is_at (R k) q) (Some w) (get R m q)) derived_order updates;
      block = c.flow_at.ensures.block;
      gives = c.flow_at.ensures.gives;
      kept = c.flow_at.ensures.kept;
      stays = c.flow_at.ensures.err;
    }
