-- The transactions of a block over the rows, with the first refusal.
use Rattle.std.specs.Prelude.{ℕ, ◌+◌, List, [], ◌∷◌, ◌++◌, nat_lt, if◌then◌else◌, replicate}
use Rattle.std.specs.declared.option.Option.{Option}
use Rattle.std.specs.declared.option.Option.TheVariants.{None, Some}
use Rattle.std.specs.declared.result.Result.{Result}
use Rattle.std.specs.declared.result.Result.TheVariants.{Ok, Err}
use Rattle.std.specs.Option.{option_or, option_map}
use Rattle.al_rows.specs.Rows.{RowMap, same_bytes}
use Rattle.al_txn.specs.declared.chain.Chain.{Chain}
use Rattle.al_txn.specs.declared.txn.Txn.{Txn}
use Rattle.al_txn.specs.declared.txn.Item.{Item}
use Rattle.al_overlay.specs.declared.rule.Rule.{Rule}
use Rattle.al_overlay.specs.Rules.{then_do, plain_rule, held_until as rule_until, unless_refused}
use Rattle.al_overlay.specs.Accounts.{moved}
use Rattle.al_moves.specs.Pay.{rekeyed}
use Rattle.al_moves.specs.Minimum.{checked}
use Rattle.al_tail.specs.declared.tail.Entry.{Entry}
use Rattle.al_tail.specs.Past.{entry_of, has_id, is_no_lease, lease_until}
use Rattle.al_eval.specs.Refusals.{Refusal, broken}
use Rattle.al_eval.specs.Groups.{size_of, opened}
use Rattle.al_eval.specs.Body.{Context, done_by}

-- ---- before a transaction changes anything

-- 32, 33: the round is outside the transaction's rounds
abbrev pub window_fault : ℕ → Txn → Option Rule
window_fault round t = if nat_lt round t.first then Some (plain_rule 32) else if nat_lt t.last round then Some (plain_rule 33) else None

-- 30: the id stands in the chain
abbrev pub id_fault : ℕ → List Entry → Entry → Option Rule
id_fault round past e = if has_id round e.id past then Some (plain_rule 30) else None

-- the last round that a lease that is not zero is held
abbrev pub held_until : ℕ → List Entry → Entry → Option ℕ
held_until round past e = if is_no_lease e.lease then None else lease_until round e.sender e.lease past

-- 31: the lease is held
abbrev pub lease_fault : ℕ → List Entry → Entry → Option Rule
lease_fault round past e = option_map (rule_until 31) (held_until round past e)

-- the first rule that a member of a group breaks before it changes anything: its rounds, its id, its lease
unfoldable pub item_fault : ℕ → List Entry → Item → Option Rule
item_fault round past i = option_or (window_fault round i.txn) (option_or (id_fault round past (entry_of i.txn)) (lease_fault round past (entry_of i.txn)))

-- ---- a transaction

-- the fee moves to the sink, then who signs is set, then the body does its work, and then what changed keeps its minimum
unfoldable pub applied : Chain → Context → RowMap → Result RowMap Rule
applied c x m =
    then_do (moved x.level x.item.txn.sender c.special.sink x.item.txn.fee m)
    (λ a. then_do (rekeyed x.item.txn.sender x.item.txn.rekey a)
    (λ b. then_do (done_by x.item.txn.body x b)
    (λ d. checked x.level c.special m d)))

-- over the transactions before it in the chain and in the block
unfoldable pub transacted : Chain → List Entry → Context → RowMap → Result RowMap Rule
transacted c past x m = then_do (unless_refused (item_fault x.round past x.item) m) (λ n. applied c x n)

abbrev pub at_place : ℕ → Result RowMap Rule → Result RowMap Refusal
at_place place (Ok m) = Ok m
at_place place (Err r) = Err (broken place r)

-- ---- the transactions of a block

-- what they leave: the rows, and the count of all transactions of the chain, inner ones included
pub record Ran : Type 0 where
  pub rows : RowMap
  pub counter : ℕ

-- The transactions in order, from a place of the payset on, by the reward level and the round of the block. What is carried: the entries of those before in the chain and in the block, the count of all transactions so far, and how many members of a group are left. A group is looked at before its first member, and then each member
abbrev pub all_items : Chain → ℕ → ℕ → ℕ → List Entry → ℕ → ℕ → List Item → RowMap → Result Ran Refusal
all_items c level round place past counter left [] m = Ok (record { rows = m; counter = counter })
all_items c level round place past counter left (i ∷ is) m =
    then_do (opened c place left (i ∷ is))
    (λ left. then_do (at_place place (transacted c past (record { level = level; round = round; next = counter + 1; item = i }) m))
    (λ n. all_items c level round (place + 1) (past ++ entry_of i.txn ∷ []) (counter + size_of i) left is n))
