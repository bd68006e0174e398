-- That each block of a generated chain is taken, or that a clash of digests is shown.
use Rattle.std.specs.Prelude.{◌≡◌, ◌≢◌, ◌⊎◌, ◌≤◌, ◌<◌, ◌+◌, ℕ, suc, List, Contains, Ok}
use Rattle.al_eval.specs.State.{State, replay, step}
use Rattle.al_generated.specs.Chain.{generated_blocks, items_behind, origin, progress_after}
use Rattle.al_generator.specs.Genesis.{pool, sink}
use Rattle.al_moves.specs.Resources.{app_account}
use Rattle.al_msgpack.specs.Spelled.{spelled}
use Rattle.al_msgpack.specs.declared.val.Val.TheVariants as values
use Rattle.al_states.specs.Due.{due_block}
use Rattle.al_txn.specs.Ids.{txid_of}
use Rattle.al_txn.specs.Txn.{txn}
use Rattle.al_txn.specs.declared.txn.Item.{Item}
use Rattle.al_txn.specs.declared.txn.Txn.{Txn}

-- what a transaction's id is the digest of
abbrev pub txn_bytes : Txn → List ℕ
txn_bytes t = spelled (values.Map (txn.write t))

-- two transactions of the chain's first n blocks, whose rounds are at most 10 apart and whose spellings differ, have one id
pub record HasOneId (number n : ℕ) : Type 0 where
  pub one : Item
  pub other : Item
  pub earlier : ℕ
  pub later : ℕ
  pub in_order : earlier ≤ later
  pub near : later ≤ earlier + 10
  pub within : later < n
  pub one_is : Contains (items_behind number earlier) one
  pub other_is : Contains (items_behind number later) other
  pub differ : txn_bytes one.txn ≢ txn_bytes other.txn
  pub same : txid_of one.txn ≡ txid_of other.txn

-- the account of an application, of a number up to that of the next transaction behind n blocks, is the sink or the pool
pub record IsSpecial (number n : ℕ) : Type 0 where
  pub app : ℕ
  pub within : app ≤ suc (progress_after number n).count
  pub account : (app_account app ≡ sink) ⊎ (app_account app ≡ pool)

-- digests that agree where the strings do not
abbrev pub Clash : ℕ → ℕ → Type 0
Clash number n = HasOneId number n ⊎ IsSpecial number n

-- the step takes the block behind the first n of a generated chain, or a clash is shown of the first n + 1
abbrev pub GeneratedIsTaken : Type 0
GeneratedIsTaken = (number n : ℕ) (s : State) → n < 100000 → replay origin (generated_blocks number n) ≡ Ok s
    → ((t : State) × (step s (due_block s 0 (items_behind number n)) ≡ Ok t)) ⊎ Clash number (suc n)
