use Rattle.std.proofs.Common.{◌≡◌, ℕ}
use Rattle.std.specs.BTreeMap as tree
use Rattle.std.specs.Option.{option_or}
use Rattle.std.specs.Ordering.{nat_cmp}
use Rattle.al_rows.specs.Finite.{first_some}
use Rattle.al_rows.specs.Rows.{creator_at}
use Rattle.al_rows.proofs.index.creators_among.Given as goal

abbrev pub invariant-loop-key : goal.invariant-loop-key
invariant-loop-key l = (id : ℕ) → option_or (tree.get nat_cmp l.creators id) (first_some (λ e. creator_at id e.0 e.1.row) l.key-iterator) ≡ first_some (λ e. creator_at id e.0 e.1.row) l.rows.entries
