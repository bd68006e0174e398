use Rattle.std.proofs.Common.{◌≡◌, ◌∙◌, sym, ap, subst, cond, Option, Some, []}
use Rattle.std.specs.BTreeMap.{is_at}
use Rattle.al_base.specs.declared.key.Key.{Key}
use Rattle.al_base.specs.Keys.{key_cmp}
use Rattle.al_rows.specs.declared.row.Row.{Row}
use Rattle.al_overlay.specs.Held.{at}
use Rattle.al_overlay.proofs.Holds.{held-now, held-work}
use Rattle.al_overlay.proofs.held.hold.Goals as goal

pub returns-clause-work : goal.returns-clause-work
returns-clause-work c = λ t m ss w is.
    let updates = subst (λ (b : Option Row). (q : Key) → at c.put.new.rows.entries q ≡ cond (is_at (key_cmp c.args.key.now) q) (Some (record { block = b; row = c.args.row })) (at c.args.rows.now.entries q)) c.in_ok-block.ensures c.in_ok-put.ensures.ok in
    held-work c.args.rows.now.entries c.put.new.rows.entries ss c.args.key.now c.args.row updates t m w is c.requires

pub returns-clause-now : goal.returns-clause-now
returns-clause-now c = λ m none is.
    let updates = subst (λ (b : Option Row). (q : Key) → at c.put.new.rows.entries q ≡ cond (is_at (key_cmp c.args.key.now) q) (Some (record { block = b; row = c.args.row })) (at c.args.rows.now.entries q)) c.in_ok-block.ensures c.in_ok-put.ensures.ok in
    held-now c.args.rows.now.entries c.put.new.rows.entries [] c.args.key.now c.args.row updates m none is
