-- The transactions of a block are a fold over its groups.
use Rattle.std.proofs.Common.{◌≡◌, refl, sym, ap, ◌∙◌, ℕ, zero, suc, ◌+◌, ◌-◌, List, [], ◌∷◌, ◌++◌, All, Bool, true, false, ◌&&◌, not, if◌then◌else◌, Option, Some, None, Result, Ok, Err, length, map, take, drop, sum_by, flat_map, replicate, arith, add-zero, add_assoc, append-nil, append_assoc, true≢false}
use Rattle.std.proofs.lemmas.List.Sums.{sum_by-cons}
use Rattle.std.proofs.lemmas.List.Elements.{All-nil, All-cons, All-head, All-tail, All-weaker}
use Rattle.std.specs.Cmp.Lexicographic.{nat_list_eq_equiv, same_text}
use Rattle.al_block.specs.Hashes.{group_size, run}
use Rattle.al_rows.specs.Rows.{RowMap, same_bytes}
use Rattle.al_txn.specs.declared.chain.Chain.{Chain}
use Rattle.al_txn.specs.declared.txn.Item.{Item}
use Rattle.al_overlay.specs.declared.rule.Rule.{Rule}
use Rattle.al_overlay.specs.Rules.{then_do}
use Rattle.al_tail.specs.declared.tail.Entry.{Entry}
use Rattle.al_tail.specs.Past.{entry_of}
use Rattle.al_eval.specs.Refusals.{Refusal}
use Rattle.al_eval.specs.Groups.{group_fault, opened, size_of, unless_broken}
use Rattle.al_eval.specs.Items.{all_items, at_place, transacted, Ran}
use Rattle.al_eval.specs.Grouped.{joins, joins_group, joined, grouped, members, all_groups, IsGroup, AreApart, ItemsAreGrouped, GroupsAreItems}

-- ---- transactions that join

and_second : (a b : Bool) → (a && b) ≡ true → b ≡ true
and_second true b h = h
and_second false b h = absurd (true≢false (sym h))

joins_alike : (i j : Item) → joins i j ≡ true → (k : Item) → joins i k ≡ joins j k
joins_alike i j e k =
    ap (λ (id : List ℕ). not (same_bytes id (replicate 32 0)) && same_bytes k.txn.group id)
    (sym (same_text j.txn.group i.txn.group (sym (and_second (not (same_bytes i.txn.group (replicate 32 0))) (same_bytes j.txn.group i.txn.group) e))))

joins_group_alike : (i j : Item) → joins i j ≡ true → (g : List Item) → joins_group i g ≡ joins_group j g
joins_group_alike i j e [] = refl
joins_group_alike i j e (k ∷ ks) = joins_alike i j e k

-- ---- the groups are the transactions, and are groups

joined_whole : (i : Item) (gs : List (List Item)) → flat_map (λ g. g) (joined i gs) ≡ i ∷ flat_map (λ g. g) gs
joined_whole i [] = refl
joined_whole i (g ∷ gs) = by_test (joins_group i g)
  where
    by_test : (b : Bool) → flat_map (λ g. g) (if b then (i ∷ g) ∷ gs else (i ∷ []) ∷ g ∷ gs) ≡ i ∷ (g ++ flat_map (λ g. g) gs)
    by_test true = refl
    by_test false = refl

grouped_whole : (items : List Item) → flat_map (λ g. g) (grouped items) ≡ items
grouped_whole [] = refl
grouped_whole (i ∷ is) = joined_whole i (grouped is) ∙ ap (λ (js : List Item). i ∷ js) (grouped_whole is)

group_more : (i : Item) (g : List Item) → joins_group i g ≡ true → IsGroup g → IsGroup (i ∷ g)
group_more i [] e h = absurd h
group_more i (j ∷ js) e h = All-cons (λ k. joins i k ≡ true) j js e (All-weaker (λ k. joins j k ≡ true) (λ k. joins i k ≡ true) (λ k p. joins_alike i j e k ∙ p) js h)

joined_groups : (i : Item) (gs : List (List Item)) → All IsGroup gs → All IsGroup (joined i gs)
joined_groups i [] h = All-cons IsGroup (i ∷ []) [] (All-nil (λ j. joins i j ≡ true)) h
joined_groups i (g ∷ gs) h = by_test (joins_group i g) refl
  where
    by_test : (b : Bool) → joins_group i g ≡ b → All IsGroup (if b then (i ∷ g) ∷ gs else (i ∷ []) ∷ g ∷ gs)
    by_test true e = All-cons IsGroup (i ∷ g) gs (group_more i g e (All-head IsGroup g gs h)) (All-tail IsGroup g gs h)
    by_test false e = All-cons IsGroup (i ∷ []) (g ∷ gs) (All-nil (λ j. joins i j ≡ true)) h

grouped_groups : (items : List Item) → All IsGroup (grouped items)
grouped_groups [] = All-nil IsGroup
grouped_groups (i ∷ is) = joined_groups i (grouped is) (grouped_groups is)

apart_more : (i : Item) (g : List Item) (gs : List (List Item)) → joins_group i g ≡ true → AreApart (g ∷ gs) → AreApart ((i ∷ g) ∷ gs)
apart_more i g [] e h = tt
apart_more i [] (x ∷ gs) e h = absurd (true≢false (sym e))
apart_more i (j ∷ js) (x ∷ gs) e h =
    let first = All-head (λ k. joins_group k x ≡ false) j js h.0 in
    (All-cons (λ k. joins_group k x ≡ false) i (j ∷ js) (joins_group_alike i j e x ∙ first) h.0, h.1)

joined_apart : (i : Item) (gs : List (List Item)) → AreApart gs → AreApart (joined i gs)
joined_apart i [] h = tt
joined_apart i (g ∷ gs) h = by_test (joins_group i g) refl
  where
    by_test : (b : Bool) → joins_group i g ≡ b → AreApart (if b then (i ∷ g) ∷ gs else (i ∷ []) ∷ g ∷ gs)
    by_test true e = apart_more i g gs e h
    by_test false e = (All-cons (λ k. joins_group k g ≡ false) i [] e (All-nil (λ k. joins_group k g ≡ false)), h)

grouped_apart : (items : List Item) → AreApart (grouped items)
grouped_apart [] = tt
grouped_apart (i ∷ is) = joined_apart i (grouped is) (grouped_apart is)

-- ---- no other groups are

group_rest : (i j : Item) (js : List Item) → IsGroup (i ∷ j ∷ js) → IsGroup (j ∷ js)
group_rest i j js h =
    let e = All-head (λ k. joins i k ≡ true) j js h in
    All-weaker (λ k. joins i k ≡ true) (λ k. joins j k ≡ true) (λ k p. sym (joins_alike i j e k) ∙ p) js (All-tail (λ k. joins i k ≡ true) j js h)

apart_less : (i : Item) (is : List Item) (gs : List (List Item)) → AreApart ((i ∷ is) ∷ gs) → AreApart (is ∷ gs)
apart_less i is [] h = tt
apart_less i is (g ∷ gs) h = (All-tail (λ k. joins_group k g ≡ false) i is h.0, h.1)

apart_rest : (g : List Item) (gs : List (List Item)) → AreApart (g ∷ gs) → AreApart gs
apart_rest g [] h = tt
apart_rest g (x ∷ gs) h = h.1

joined_alone : (i : Item) (gs : List (List Item)) → AreApart ((i ∷ []) ∷ gs) → joined i gs ≡ (i ∷ []) ∷ gs
joined_alone i [] h = refl
joined_alone i (g ∷ gs) h = ap (λ (b : Bool). if b then (i ∷ g) ∷ gs else (i ∷ []) ∷ g ∷ gs) (All-head (λ k. joins_group k g ≡ false) i [] h.0)

joined_first : (i j : Item) (js : List Item) (gs : List (List Item)) → joins i j ≡ true → joined i ((j ∷ js) ∷ gs) ≡ (i ∷ j ∷ js) ∷ gs
joined_first i j js gs e = ap (λ (b : Bool). if b then (i ∷ j ∷ js) ∷ gs else (i ∷ []) ∷ (j ∷ js) ∷ gs) e

grouped_first : (g : List Item) (gs : List (List Item)) (items : List Item) → IsGroup g → AreApart (g ∷ gs) → gs ≡ grouped items → g ∷ gs ≡ grouped (g ++ items)
grouped_first [] gs items h a e = absurd h
grouped_first (i ∷ []) gs items h a e = sym (joined_alone i gs a) ∙ ap (joined i) e
grouped_first (i ∷ j ∷ js) gs items h a e =
    sym (joined_first i j js gs (All-head (λ k. joins i k ≡ true) j js h)) ∙ ap (joined i) (grouped_first (j ∷ js) gs items (group_rest i j js h) (apart_less i (j ∷ js) gs a) e)

grouped_only : (gs : List (List Item)) → All IsGroup gs → AreApart gs → gs ≡ grouped (flat_map (λ g. g) gs)
grouped_only [] h a = refl
grouped_only (g ∷ gs) h a = grouped_first g gs (flat_map (λ g. g) gs) (All-head IsGroup g gs h) a (grouped_only gs (All-tail IsGroup g gs h) (apart_rest g gs a))

pub items_are_grouped : ItemsAreGrouped
items_are_grouped = record {
  are = λ items. record { whole = grouped_whole items; groups = grouped_groups items; apart = grouped_apart items };
  only = λ items gs h. grouped_only gs h.groups h.apart ∙ ap grouped h.whole;
}

-- ---- the group at the front

size_first : (i : Item) (is : List Item) → group_size (i ∷ is) ≡ (if same_bytes i.txn.group (replicate 32 0) then 1 else suc (run i.txn.group is))
size_first i is = ap (λ (b : Bool). if same_bytes i.txn.group (replicate 32 0) then 1 else (if b then suc (run i.txn.group is) else 0)) (nat_list_eq_equiv.refl i.txn.group)

size_one : (i : Item) → group_size (i ∷ []) ≡ 1
size_one i = size_first i [] ∙ by_test (same_bytes i.txn.group (replicate 32 0))
  where
    by_test : (b : Bool) → (if b then 1 else suc (run i.txn.group [])) ≡ 1
    by_test true = refl
    by_test false = refl

size_more : (i j : Item) (js : List Item) → group_size (i ∷ j ∷ js) ≡ (if joins i j then suc (group_size (j ∷ js)) else 1)
size_more i j js = size_first i (j ∷ js) ∙ by_test (same_bytes i.txn.group (replicate 32 0)) refl (same_bytes j.txn.group i.txn.group) refl
  where
    second : same_bytes i.txn.group (replicate 32 0) ≡ false → same_bytes j.txn.group i.txn.group ≡ true → group_size (j ∷ js) ≡ suc (run i.txn.group js)
    second e h =
        size_first j js ∙ ap (λ (id : List ℕ). if same_bytes id (replicate 32 0) then 1 else suc (run id js)) (same_text j.txn.group i.txn.group (sym h)) ∙ ap (λ (b : Bool). if b then 1 else suc (run i.txn.group js)) e

    by_test : (a : Bool) → same_bytes i.txn.group (replicate 32 0) ≡ a → (b : Bool) → same_bytes j.txn.group i.txn.group ≡ b → (if a then 1 else suc (if b then suc (run i.txn.group js) else 0)) ≡ (if not a && b then suc (group_size (j ∷ js)) else 1)
    by_test true e b h = refl
    by_test false e true h = ap (λ (n : ℕ). suc n) (sym (second e h))
    by_test false e false h = refl

-- how many members of the group at the front are left behind its first, and the groups with it
record Front (i : Item) (is : List Item) : Type 0 where
  left : ℕ
  size : group_size (i ∷ is) ≡ suc left
  groups : grouped (i ∷ is) ≡ (i ∷ take left is) ∷ grouped (drop left is)

front : (i : Item) (is : List Item) → Front i is
front i [] = record { left = 0; size = size_one i; groups = refl }
front i (j ∷ js) = by_test (joins i j) refl (front j js)
  where
    by_test : (b : Bool) → joins i j ≡ b → Front j js → Front i (j ∷ js)
    by_test true e f = record {
      left = suc f.left;
      size = size_more i j js ∙ ap (λ (b : Bool). if b then suc (group_size (j ∷ js)) else 1) e ∙ ap (λ (n : ℕ). suc n) f.size;
      groups = ap (joined i) f.groups ∙ joined_first i j (take f.left js) (grouped (drop f.left js)) e;
    }
    by_test false e f = record {
      left = 0;
      size = size_more i j js ∙ ap (λ (b : Bool). if b then suc (group_size (j ∷ js)) else 1) e;
      groups = ap (joined i) f.groups ∙ ap (λ (b : Bool). if b then (i ∷ j ∷ take f.left js) ∷ grouped (drop f.left js) else (i ∷ []) ∷ (j ∷ take f.left js) ∷ grouped (drop f.left js)) e ∙ ap (λ (gs : List (List Item)). (i ∷ []) ∷ gs) (sym f.groups);
    }

-- ---- one step after another

steps_alike : (r : Result RowMap Refusal) (f g : RowMap → Result Ran Refusal) → ((n : RowMap) → f n ≡ g n) → then_do r f ≡ then_do r g
steps_alike (Ok n) f g h = h n
steps_alike (Err e) f g h = refl

steps_then : (r : Result RowMap Refusal) (f : RowMap → Result RowMap Refusal) (g h : RowMap → Result Ran Refusal) → ((n : RowMap) → then_do (f n) g ≡ h n) → then_do (then_do r f) g ≡ then_do r h
steps_then (Ok n) f g h e = e n
steps_then (Err x) f g h e = refl

looked_then : (o : Option (ℕ × Rule)) (m : RowMap) (left : ℕ) (f : RowMap → Result Ran Refusal) (g : ℕ → Result Ran Refusal) → f m ≡ g left → then_do (unless_broken o m) f ≡ then_do (unless_broken o left) g
looked_then None m left f g e = e
looked_then (Some x) m left f g e = refl

-- ---- the members of a group, and what is behind them

less_one : (n : ℕ) → suc n - 1 ≡ n
less_one n = omega arith

opened_front : (c : Chain) (place : ℕ) (i : Item) (is : List Item) (f : Front i is) (g : ℕ → Result Ran Refusal) → then_do (opened c place zero (i ∷ is)) g ≡ then_do (unless_broken (group_fault c place (i ∷ take f.left is)) f.left) g
opened_front c place i is f g =
    ap (λ (n : ℕ). then_do (unless_broken (group_fault c place (take n (i ∷ is))) (n - 1)) g) f.size ∙ ap (λ (n : ℕ). then_do (unless_broken (group_fault c place (i ∷ take f.left is)) n) g) (less_one f.left)

module _ (c : Chain) (level round : ℕ) where
  -- the groups behind some transactions
  abbrev behind : ℕ → List Entry → ℕ → List Item → List (List Item) → RowMap → Result Ran Refusal
  behind place past counter is gs m = all_groups c level round (place + length is) (past ++ map (λ i. entry_of i.txn) is) (counter + sum_by size_of is) gs m

  behind_none : (place : ℕ) (past : List Entry) (counter : ℕ) (gs : List (List Item)) (m : RowMap) → behind place past counter [] gs m ≡ all_groups c level round place past counter gs m
  behind_none place past counter gs m = λ t. all_groups c level round (add-zero place t) (append-nil past t) (add-zero counter t) gs m

  behind_more : (place : ℕ) (past : List Entry) (counter : ℕ) (i : Item) (is : List Item) (gs : List (List Item)) (m : RowMap) → behind place past counter (i ∷ is) gs m ≡ behind (place + 1) (past ++ entry_of i.txn ∷ []) (counter + size_of i) is gs m
  behind_more place past counter i is gs m = λ t. all_groups c level round (places t) (entries t) (counts t) gs m
    where
      places : place + suc (length is) ≡ place + 1 + length is
      places = omega arith

      entries : past ++ (entry_of i.txn ∷ map (λ (j : Item). entry_of j.txn) is) ≡ past ++ entry_of i.txn ∷ [] ++ map (λ (j : Item). entry_of j.txn) is
      entries = sym (append_assoc past (entry_of i.txn ∷ []) (map (λ (j : Item). entry_of j.txn) is))

      counts : counter + sum_by size_of (i ∷ is) ≡ counter + size_of i + sum_by size_of is
      counts = ap (λ (n : ℕ). counter + n) (sum_by-cons size_of i is) ∙ sym (add_assoc counter (size_of i) (sum_by size_of is))

  -- what the first of some transactions leaves
  abbrev first_done : ℕ → List Entry → ℕ → Item → RowMap → Result RowMap Refusal
  first_done place past counter i m = at_place place (transacted c past (record { level = level; round = round; next = counter + 1; item = i }) m)

  -- the first member of a group, then the others and the groups behind them
  member_then : (place : ℕ) (past : List Entry) (counter : ℕ) (i : Item) (is : List Item) (gs : List (List Item)) (m : RowMap) (rest : RowMap → Result Ran Refusal) → ((n : RowMap) → then_do (members c level round (place + 1) (past ++ entry_of i.txn ∷ []) (counter + size_of i) is n) (behind (place + 1) (past ++ entry_of i.txn ∷ []) (counter + size_of i) is gs) ≡ rest n) → then_do (members c level round place past counter (i ∷ is) m) (behind place past counter (i ∷ is) gs) ≡ then_do (first_done place past counter i m) rest
  member_then place past counter i is gs m rest h =
      let others : RowMap → Result RowMap Refusal = members c level round (place + 1) (past ++ entry_of i.txn ∷ []) (counter + size_of i) is in
      let from_all : RowMap → Result Ran Refusal = behind place past counter (i ∷ is) gs in
      let from_others : RowMap → Result Ran Refusal = behind (place + 1) (past ++ entry_of i.txn ∷ []) (counter + size_of i) is gs in
      steps_then (first_done place past counter i m) others from_all rest
      (λ n. steps_alike (others n) from_all from_others (λ o. behind_more place past counter i is gs o) ∙ h n)

  -- the members that are left of a group, and then the groups behind them, do what the transactions do one by one
  abbrev IsWalked : ℕ → List Entry → ℕ → ℕ → List Item → RowMap → Type 0
  IsWalked place past counter left is m =
      then_do (members c level round place past counter (take left is) m) (behind place past counter (take left is) (grouped (drop left is))) ≡ all_items c level round place past counter left is m

  walked_none : (place : ℕ) (past : List Entry) (counter left : ℕ) (m : RowMap) → IsWalked place past counter left [] m
  walked_none place past counter zero m = behind_none place past counter [] m
  walked_none place past counter (suc left) m = behind_none place past counter [] m

  walked_first : (place : ℕ) (past : List Entry) (counter left : ℕ) (i : Item) (is : List Item) (m : RowMap) → ((left : ℕ) (n : RowMap) → IsWalked (place + 1) (past ++ entry_of i.txn ∷ []) (counter + size_of i) left is n) → IsWalked place past counter left (i ∷ is) m
  walked_first place past counter zero i is m h =
      let f : Front i is = front i is in
      let others : List Item = take f.left is in
      let gs : List (List Item) = grouped (drop f.left is) in
      let rest : ℕ → RowMap → Result Ran Refusal = λ left. all_items c level round (place + 1) (past ++ entry_of i.txn ∷ []) (counter + size_of i) left is in
      let turn : ℕ → Result Ran Refusal = λ left. then_do (first_done place past counter i m) (rest left) in
      behind_none place past counter (grouped (i ∷ is)) m ∙ ap (λ (gs : List (List Item)). all_groups c level round place past counter gs m) f.groups
      ∙ looked_then (group_fault c place (i ∷ others)) m f.left (λ n. then_do (members c level round place past counter (i ∷ others) n) (behind place past counter (i ∷ others) gs)) turn (member_then place past counter i others gs m (rest f.left) (h f.left))
      ∙ sym (opened_front c place i is f turn)
  walked_first place past counter (suc left) i is m h =
      member_then place past counter i (take left is) (grouped (drop left is)) m (all_items c level round (place + 1) (past ++ entry_of i.txn ∷ []) (counter + size_of i) left is) (h left)

  walked : (place : ℕ) (past : List Entry) (counter left : ℕ) (is : List Item) (m : RowMap) → IsWalked place past counter left is m
  walked place past counter left [] m = walked_none place past counter left m
  walked place past counter left (i ∷ is) m = walked_first place past counter left i is m (λ left n. walked (place + 1) (past ++ entry_of i.txn ∷ []) (counter + size_of i) left is n)

pub groups_are_items : GroupsAreItems
groups_are_items c level round place past counter items m = sym (behind_none c level round place past counter (grouped items) m) ∙ walked c level round place past counter 0 items m
