-- The groups of a block's transactions, and the transactions as a fold over them.
use Rattle.std.specs.Prelude.{◌≡◌, ⊤, ℕ, ◌+◌, List, [], ◌∷◌, ◌++◌, All, Bool, true, false, ◌&&◌, not, if◌then◌else◌, length, map, sum_by, flat_map, replicate}
use Rattle.std.specs.declared.result.Result.{Result}
use Rattle.std.specs.declared.result.Result.TheVariants.{Ok}
use Rattle.al_rows.specs.Rows.{RowMap, same_bytes}
use Rattle.al_txn.specs.declared.chain.Chain.{Chain}
use Rattle.al_txn.specs.declared.txn.Item.{Item}
use Rattle.al_overlay.specs.Rules.{then_do}
use Rattle.al_tail.specs.declared.tail.Entry.{Entry}
use Rattle.al_tail.specs.Past.{entry_of}
use Rattle.al_eval.specs.Refusals.{Refusal}
use Rattle.al_eval.specs.Groups.{group_fault, size_of, unless_broken}
use Rattle.al_eval.specs.Items.{all_items, at_place, transacted, Ran}

-- ---- groups

-- two transactions have one group id, and it is not zero
abbrev pub joins : Item → Item → Bool
joins i j = not (same_bytes i.txn.group (replicate 32 0)) && same_bytes j.txn.group i.txn.group

-- the same of a transaction and the first of a group
abbrev pub joins_group : Item → List Item → Bool
joins_group i [] = false
joins_group i (j ∷ js) = joins i j

-- a transaction in front of groups: it joins the first of them, or is a group of its own
abbrev pub joined : Item → List (List Item) → List (List Item)
joined i [] = (i ∷ []) ∷ []
joined i (g ∷ gs) = if joins_group i g then (i ∷ g) ∷ gs else (i ∷ []) ∷ g ∷ gs

-- the groups of transactions, in order
abbrev pub grouped : List Item → List (List Item)
grouped [] = []
grouped (i ∷ is) = joined i (grouped is)

-- ---- what they do

-- The members of a group in order, from a place of the payset on, by the reward level and the round of the block, over the entries of those before in the chain and in the block, and the count of all transactions so far
abbrev pub members : Chain → ℕ → ℕ → ℕ → List Entry → ℕ → List Item → RowMap → Result RowMap Refusal
members c level round place past counter [] m = Ok m
members c level round place past counter (i ∷ is) m =
    then_do (at_place place (transacted c past (record { level = level; round = round; next = counter + 1; item = i }) m))
    (λ n. members c level round (place + 1) (past ++ entry_of i.txn ∷ []) (counter + size_of i) is n)

-- The groups in order: each is looked at as a whole, then its members come, and behind them the groups behind it, by the place, the entries and the count that its members lead to
abbrev pub all_groups : Chain → ℕ → ℕ → ℕ → List Entry → ℕ → List (List Item) → RowMap → Result Ran Refusal
all_groups c level round place past counter [] m = Ok (record { rows = m; counter = counter })
all_groups c level round place past counter (g ∷ gs) m =
    then_do (unless_broken (group_fault c place g) m)
    (λ m. then_do (members c level round place past counter g m)
    (λ n. all_groups c level round (place + length g) (past ++ map (λ i. entry_of i.txn) g) (counter + sum_by size_of g) gs n))

-- ---- laws

-- one transaction, or some with one group id that is not zero
abbrev pub IsGroup : List Item → Type 0
IsGroup [] = ⊥
IsGroup (i ∷ is) = All (λ j. joins i j ≡ true) is

-- no transaction of a group would join the group behind it
abbrev pub AreApart : List (List Item) → Type 0
AreApart [] = ⊤
AreApart (g ∷ []) = ⊤
AreApart (g ∷ h ∷ gs) = All (λ i. joins_group i h ≡ false) g × AreApart (h ∷ gs)

-- the transactions are cut into groups, each as long as it can be
pub record AreGroups (items : List Item) (gs : List (List Item)) : Type 0 where
  pub whole : flat_map (λ g. g) gs ≡ items
  pub groups : All IsGroup gs
  pub apart : AreApart gs

-- transactions are cut into groups in one way
pub record ItemsAreGrouped : Type 0 where
  pub are : (items : List Item) → AreGroups items (grouped items)
  pub only : (items : List Item) (gs : List (List Item)) → AreGroups items gs → gs ≡ grouped items

-- the groups in order do what the transactions do one by one
abbrev pub GroupsAreItems : Type 0
GroupsAreItems =
    (c : Chain) (level round place : ℕ) (past : List Entry) (counter : ℕ) (items : List Item) (m : RowMap) → all_groups c level round place past counter (grouped items) m ≡ all_items c level round place past counter 0 items m
