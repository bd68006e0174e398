-- The step of a block over rows, by the Algorand ledger specification, with the first refusal.
use Rattle.std.specs.Prelude.{ℕ, List}
use Rattle.std.specs.declared.result.Result.{Result}
use Rattle.al_block.specs.declared.block.Block.{Block}
use Rattle.al_rows.specs.Rows.{RowMap}
use Rattle.al_overlay.specs.Rules.{then_do}
use Rattle.al_eval.specs.declared.before.Before.{Before}
use Rattle.al_tail.specs.declared.tail.Entry.{Entry}
pub use Rattle.al_eval.specs.Refusals.{Refusal, broken, header, pool_short, expired}
use Rattle.al_eval.specs.Header.{first_fault, header_checks, rewards_checks, payset_fault, counter_fault, unless_fault}
use Rattle.al_eval.specs.Pool.{rewards_due, owed_by, pool_paid}
use Rattle.al_eval.specs.Items.{all_items}
use Rattle.al_eval.specs.Expiry.{all_expired}

-- first the header, then the pool pays the units before the block, then the digest of the payset, then the groups in order, then the accounts that are listed as expired, and last the count of the transactions
unfoldable pub block_rows : Before → ℕ → List Entry → Block → RowMap → Result RowMap Refusal
block_rows s units past b m =
    then_do (unless_fault (first_fault (header_checks s b.header)) m)
    (λ m. then_do (unless_fault (first_fault (rewards_checks (rewards_due s b.header.round units m) b.header)) m)
    (λ m. then_do (pool_paid s.chain.special.pool (owed_by s units b.header) m)
    (λ m. then_do (unless_fault (payset_fault b) m)
    (λ m. then_do (all_items s.chain b.header.level b.header.round 0 past s.header.counter 0 b.items m)
    (λ n. then_do (all_expired b.header.round 0 b.header.expired n.rows)
    (λ k. unless_fault (counter_fault b.header n.counter) k))))))
