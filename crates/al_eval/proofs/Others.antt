-- No rule that is tested before anything changes is one of those on what passes the most.
use Rattle.std.proofs.Common.{◌≡◌, ◌≢◌, refl, ℕ, ◌+◌, ◌≤◌, List, [], ◌∷◌, Option, Some, None, Bool, true, false, if◌then◌else◌, nat_lt, option_map, arith, IfSome, length, take, replicate, zero, suc}
use Rattle.std.specs.Option.{option_or}
use Rattle.std.specs.List.{AllByRecursion}
use Rattle.al_block.specs.Hashes.{group_size}
use Rattle.al_txn.specs.Ids.{group_id_of}
use Rattle.al_rows.specs.Rows.{same_bytes}
use Rattle.al_bodies.specs.declared.body.Body.{Body}
use Rattle.al_txn.specs.declared.chain.Chain.{Chain}
use Rattle.al_txn.specs.declared.txn.Txn.{Txn}
use Rattle.al_txn.specs.declared.txn.Item.{Item}
use Rattle.al_txn.specs.Form.{first_broken, common_tests, keyreg_tests, move_tests, config_tests, freeze_tests, call_tests, tests_of, body_tests, form_fault}
use Rattle.al_overlay.specs.declared.rule.Rule.{Rule}
use Rattle.al_overlay.specs.Rules.{plain_rule}
use Rattle.al_tail.specs.declared.tail.Entry.{Entry}
use Rattle.al_tail.specs.Past.{entry_of, has_id}
use Rattle.al_eval.specs.Groups.{first_at, size_fault, form_rule, forms_fault, group_id_fault, pooled, pool_fault, group_fault, entered, needed, most_members}
use Rattle.al_eval.specs.Items.{held_until, item_fault}
use Rattle.al_resources.specs.Sound.{IsOtherRule}
use Rattle.al_bodies.specs.declared.body.Body.TheVariants as body

abbrev pub IsOther : Option Rule → Type 0
IsOther o = IfSome o IsOtherRule

other_plain : (n : ℕ) → n ≤ 40 → (n ≢ 41) × (n ≢ 53)
other_plain n l = (λ e. absurd (omega arith), λ e. absurd (omega arith))

first_few : (ts : List (ℕ × Bool)) → AllByRecursion (λ t. t.0 ≤ 40) ts → IfSome (first_broken ts) (λ n. n ≤ 40)
first_few [] h = tt
first_few (t ∷ ts) h = elim t.1 as (λ b. IfSome (if b then Some t.0 else first_broken ts) (λ n. n ≤ 40)) [ true ↦ h.0 | false ↦ first_few ts h.1 ]

few : (n : ℕ) (m : ℕ) → n + m ≡ 40 → n ≤ 40
few n m e = omega arith

few_common : (t : Txn) (c : Chain) → IfSome (first_broken (common_tests t c)) (λ n. n ≤ 40)
unfolding common_tests
few_common t c = first_few (common_tests t c) (few 1 39 refl, (few 2 38 refl, (few 3 37 refl, (few 4 36 refl, (few 5 35 refl, (few 6 34 refl, (few 7 33 refl, (few 8 32 refl, tt))))))))

few_of : (i : Item) (b : Body) → IfSome (first_broken (tests_of i b)) (λ n. n ≤ 40)
unfolding keyreg_tests move_tests config_tests freeze_tests call_tests
few_of i (body.Pay p) = first_few (tests_of i (body.Pay p)) (few 9 31 refl, tt)
few_of i (body.KeyReg k) = first_few (keyreg_tests k i.txn.last) (few 10 30 refl, (few 11 29 refl, (few 12 28 refl, (few 13 27 refl, (few 14 26 refl, tt)))))
few_of i (body.Config c) = first_few (config_tests c) (few 17 23 refl, (few 18 22 refl, (few 19 21 refl, (few 20 20 refl, tt))))
few_of i (body.Move m) = first_few (move_tests m) (few 15 25 refl, (few 16 24 refl, tt))
few_of i (body.Freeze f) = first_few (freeze_tests f) (few 21 19 refl, (few 22 18 refl, tt))
few_of i (body.App a) = first_few (call_tests a.app i.effects) (few 23 17 refl, (few 24 16 refl, tt))

few_body : (i : Item) → IfSome (first_broken (body_tests i)) (λ n. n ≤ 40)
unfolding body_tests
few_body i = few_of i i.txn.body

either : {A : Type 0} (P : A → Type 0) (o p : Option A) → IfSome o P → IfSome p P → IfSome (option_or o p) P
either P None p h g = g
either P (Some x) p h g = h

plain_other : (o : Option ℕ) → IfSome o (λ n. n ≤ 40) → IsOther (option_map plain_rule o)
plain_other None h = tt
plain_other (Some n) h = other_plain n h

mapped_other : (o : Option ℕ) (f : ℕ → Rule) → ((n : ℕ) → IsOtherRule (f n)) → IsOther (option_map f o)
mapped_other None f h = tt
mapped_other (Some n) f h = h n

if_other : (b : Bool) (r : Rule) (o : Option Rule) → IsOtherRule r → IsOther o → IsOther (if b then Some r else o)
if_other true r o h g = h
if_other false r o h g = g

pub item_other : (round : ℕ) (past : List Entry) (i : Item) → IsOther (item_fault round past i)
unfolding item_fault
item_other round past i =
    either IsOtherRule _ _ (if_other (nat_lt round i.txn.first) _ _ (other_plain 32 (few 32 8 refl)) (if_other (nat_lt i.txn.last round) _ None (other_plain 33 (few 33 7 refl)) tt))
    (either IsOtherRule _ _ (if_other (has_id round (entry_of i.txn).id past) _ None (other_plain 30 (few 30 10 refl)) tt)
    (mapped_other (held_until round past (entry_of i.txn)) _ (λ n. other_plain 31 (few 31 9 refl))))

-- the same of a rule with its place
abbrev pub IsOtherAt : Option (ℕ × Rule) → Type 0
IsOtherAt o = IfSome o (λ f. IsOtherRule f.1)

first_other : (place : ℕ) (o : Option Rule) (rest : Option (ℕ × Rule)) → IsOther o → IsOtherAt rest → IsOtherAt (first_at place o rest)
first_other place None rest h g = g
first_other place (Some r) rest h g = h

form_other : (c : Chain) (i : Item) → IsOther (form_rule i c)
form_other c i = plain_other (form_fault i c) (either (λ n. n ≤ 40) _ _ (few_common i.txn c) (few_body i))

forms_other : (c : Chain) (place : ℕ) (is : List Item) → IsOtherAt (forms_fault c place is)
forms_other c place [] = tt
forms_other c place (i ∷ is) = first_other place (form_rule i c) (forms_fault c (place + 1) is) (form_other c i) (forms_other c (place + 1) is)

if_other_last : (b : Bool) (o : Option Rule) (r : Rule) → IsOther o → IsOtherRule r → IsOther (if b then o else Some r)
if_other_last true o r h g = h
if_other_last false o r h g = g

when_other : (b : Bool) (o p : Option Rule) → IsOther o → IsOther p → IsOther (if b then o else p)
when_other true o p h g = h
when_other false o p h g = g

id_other : (is : List Item) → IsOther (group_id_fault is)
id_other [] = tt
id_other (i ∷ is) = when_other (same_bytes i.txn.group (replicate 32 0)) None _ tt (if_other_last (same_bytes i.txn.group (group_id_of (i ∷ is))) None _ tt (other_plain 35 (few 35 5 refl)))

group_other : (c : Chain) (place : ℕ) (is : List Item) → IsOtherAt (group_fault c place is)
unfolding group_fault
group_other c place is =
    first_other place (size_fault is) _ (if_other (nat_lt most_members (length is)) _ None (other_plain 34 (few 34 6 refl)) tt)
    (either (λ (f : ℕ × Rule). IsOtherRule f.1) (forms_fault c place is) _ (forms_other c place is)
    (first_other place (group_id_fault is) _ (id_other is)
    (first_other place (pool_fault is) None (if_other (nat_lt (pooled is) (needed is)) _ None (other_plain 36 (few 36 4 refl)) tt) tt)))

pub entered_other : (c : Chain) (place left : ℕ) (is : List Item) → IsOtherAt (entered c place left is)
entered_other c place zero is = group_other c place (take (group_size is) is)
entered_other c place (suc left) is = tt
