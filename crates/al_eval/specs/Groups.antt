-- A group of transactions, before any of them changes anything.
use Rattle.std.specs.Prelude.{ℕ, ◌+◌, ◌-◌, ◌*◌, zero, suc, List, [], ◌∷◌, length, take, sum_by, nat_lt, if◌then◌else◌, replicate}
use Rattle.std.specs.declared.option.Option.{Option}
use Rattle.std.specs.declared.option.Option.TheVariants.{None, Some}
use Rattle.std.specs.declared.result.Result.{Result}
use Rattle.std.specs.declared.result.Result.TheVariants.{Ok, Err}
use Rattle.std.specs.Option.{option_or, option_map}
use Rattle.al_block.specs.Hashes.{group_size}
use Rattle.al_rewards.specs.Totals.{capped}
use Rattle.al_rows.specs.Rows.{same_bytes}
use Rattle.al_bodies.specs.Effect.{inner_in}
use Rattle.al_txn.specs.declared.chain.Chain.{Chain}
use Rattle.al_txn.specs.declared.txn.Item.{Item}
use Rattle.al_txn.specs.Form.{form_fault}
use Rattle.al_txn.specs.Ids.{group_id_of}
use Rattle.al_overlay.specs.declared.rule.Rule.{Rule}
use Rattle.al_overlay.specs.Rules.{plain_rule, too_few}
use Rattle.al_eval.specs.Refusals.{Refusal, broken}

-- ---- how many transactions there are

-- how many transactions an entry of the payset is: its own, and the inner ones
abbrev pub size_of : Item → ℕ
size_of i = 1 + sum_by inner_in i.effects

-- ---- groups

-- the most members of a group
abbrev pub most_members : ℕ
most_members = 16

-- the least fee of a transaction, in microAlgos
abbrev pub least_fee : ℕ
least_fee = 1000

-- a broken rule with its place in the block, or what comes behind
abbrev pub first_at : ℕ → Option Rule → Option (ℕ × Rule) → Option (ℕ × Rule)
first_at place None rest = rest
first_at place (Some r) rest = Some (place, r)

-- 34: a group has too many members
abbrev pub size_fault : List Item → Option Rule
size_fault group = if nat_lt most_members (length group) then Some (plain_rule 34) else None

abbrev pub form_rule : Item → Chain → Option Rule
form_rule i c = option_map plain_rule (form_fault i c)

-- 1 to 24: the first member from a place on that breaks a rule of form
abbrev pub forms_fault : Chain → ℕ → List Item → Option (ℕ × Rule)
forms_fault c place [] = None
forms_fault c place (i ∷ is) = first_at place (form_rule i c) (forms_fault c (place + 1) is)

-- 35: a group id that is not zero is not that of the members
abbrev pub group_id_fault : List Item → Option Rule
group_id_fault [] = None
group_id_fault (i ∷ is) =
    if same_bytes i.txn.group (replicate 32 0) then None else if same_bytes i.txn.group (group_id_of (i ∷ is)) then None else Some (plain_rule 35)

-- the fees of all members together, in microAlgos
abbrev pub pooled : List Item → ℕ
pooled group = sum_by (λ i. i.txn.fee) group

-- the least that they may be, for each transaction of the group, or the greatest number of 64 bits
abbrev pub needed : List Item → ℕ
needed group = capped (least_fee * sum_by size_of group)

-- 36: they are below it
abbrev pub pool_fault : List Item → Option Rule
pool_fault group = if nat_lt (pooled group) (needed group) then Some (too_few 36 (pooled group) (needed group)) else None

-- the first rule that a group breaks before any member changes anything: its size, the forms of its members, its id, its fees
unfoldable pub group_fault : Chain → ℕ → List Item → Option (ℕ × Rule)
group_fault c place group =
    first_at place (size_fault group) (option_or (forms_fault c place group) (first_at place (group_id_fault group) (first_at place (pool_fault group) None)))

-- where no member of the group before is left, the group at the front is looked at
abbrev pub entered : Chain → ℕ → ℕ → List Item → Option (ℕ × Rule)
entered c place zero items = group_fault c place (take (group_size items) items)
entered c place (suc left) items = None

-- how many members of the group are left behind the first transaction
abbrev pub left_after : ℕ → List Item → ℕ
left_after zero items = group_size items - 1
left_after (suc left) items = left

abbrev pub unless_broken : {X : Type 0} → Option (ℕ × Rule) → X → Result X Refusal
unless_broken None x = Ok x
unless_broken (Some f) x = Err (broken f.0 f.1)

-- the group at the front is opened: how many of its members are left behind the first transaction
abbrev pub opened : Chain → ℕ → ℕ → List Item → Result ℕ Refusal
opened c place left items = unless_broken (entered c place left items) (left_after left items)
