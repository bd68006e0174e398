use Rattle.std.proofs.Common.{subst, Ordering}
use Rattle.al_base.specs.declared.key.Key.{Key}
use Rattle.al_rows.proofs.Keys.{derived_order}
use Rattle.std.specs.BTreeMap.{IsOrdered}
use Rattle.al_rows.proofs.Views.{ranged-get}
use Rattle.al_rows.specs.declared.stored.Stored.{Stored}
use Rattle.al_rows.specs.Rows.{IsKept}
use Rattle.al_deltas.proofs.Applied.{all_kept}
use Rattle.al_deltas.proofs.kept.apply.Goals as goal

pub apply_all-applied-requires-clause-kept : goal.apply_all-applied-requires-clause-kept
apply_all-applied-requires-clause-kept c = λ q. ranged-get (λ k (s : Stored). IsKept k s.row) c.args.rows.now.entries q c.requires.kept

pub returns-clause-kept : goal.returns-clause-kept
returns-clause-kept c = all_kept c.apply_all-applied.new.rows (subst (λ (R : Key → Key → Ordering). IsOrdered R c.apply_all-applied.new.rows) derived_order c.len-count.ensures.ordered) c.apply_all-applied.ensures.kept
