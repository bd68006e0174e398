use Rattle.std.proofs.Common.{◌≡◌, ◌∙◌, sym, ap, subst, cond, is_some, Some, IsSome, Option, Ordering, option_map}
use Rattle.std.specs.BTreeMap.{get, is_at}
use Rattle.al_base.specs.declared.key.Key.{Key}
use Rattle.al_base.specs.Keys.{key_cmp}
use Rattle.al_rows.specs.declared.row.Row.{Row}
use Rattle.al_rows.proofs.Keys.{derived_order}
use Rattle.al_overlay.specs.declared.held.Held.{Held}
use Rattle.al_overlay.specs.Held.{at, with_row}
use Rattle.al_overlay.proofs.held.replace.Goals as goal

pub returns-in-Some-clause-ok : goal.returns-in-Some-clause-ok
returns-in-Some-clause-ok c =
    let k = c.args.key.now in
    let m = c.args.rows.now in
    let was = c.in-Some.held.now in
    let w : Held = record { block = was.block; row = c.replace.new.dest } in
    let updates = ((c.get_mut.follows.holds w).3 (sym (ap is_some c.in-Some.ensures.value))).0 in
    let all = subst (λ (R : Key → Key → Ordering). (q : Key) → get R (c.get_mut.follows.lender w) q ≡ cond (is_at (R k) q) (Some w) (get R m q)) derived_order updates in
    let is : Some was ≡ at m.entries k = subst (λ (R : Key → Key → Ordering). Some was ≡ get R m k) derived_order c.in-Some.ensures.value in
    let new : Some w ≡ option_map (with_row c.args.row) (at m.entries k) =
    ap (λ (r : Option Row). Some (with_row r was)) c.replace.ensures.after ∙ ap (option_map (with_row c.args.row)) is in
    λ q. all q ∙ ap (λ o. cond (is_at (key_cmp k) q) o (at m.entries q)) new
