-- What the transactions of a block make depends on the live entries of those before alone.
use Rattle.std.proofs.Common.{◌≡◌, ◌+◌, ℕ, refl, ap, ap₂, Bool, if◌then◌else◌, List, [], ◌∷◌, ◌++◌, Option, Some, None}
use Rattle.std.specs.Option.{option_or, option_map}
use Rattle.al_rows.specs.Rows.{RowMap}
use Rattle.al_txn.specs.declared.chain.Chain.{Chain}
use Rattle.al_txn.specs.declared.txn.Item.{Item}
use Rattle.al_overlay.specs.declared.rule.Rule.{Rule}
use Rattle.al_overlay.specs.Rules.{then_do, plain_rule, unless_refused, held_until as rule_until}
use Rattle.al_tail.specs.declared.tail.Entry.{Entry}
use Rattle.al_tail.specs.Past.{entry_of, live, is_no_lease}
use Rattle.al_tail.proofs.Lives.{ids_agree, leases_agree, live_more}
use Rattle.al_eval.specs.Groups.{opened, size_of}
use Rattle.al_eval.specs.Body.{Context}
use Rattle.al_eval.specs.Items.{window_fault, item_fault, applied, transacted, at_place, all_items}

faults_agree : (round : ℕ) (p q : List Entry) (alive : live round p ≡ live round q) (i : Item) → item_fault round p i ≡ item_fault round q i
unfolding item_fault
faults_agree round p q alive i =
    let e = entry_of i.txn in
    ap₂ (λ (b : Bool) (o : Option ℕ). option_or (window_fault round i.txn) (option_or (if b then Some (plain_rule 30) else None) (option_map (rule_until 31) (if is_no_lease e.lease then None else o))))
    (ids_agree round p q alive e.id) (leases_agree round p q alive e.sender e.lease)

transacted_live : (c : Chain) (p q : List Entry) (x : Context) (m : RowMap) → live x.round p ≡ live x.round q → transacted c p x m ≡ transacted c q x m
unfolding transacted
transacted_live c p q x m alive = ap (λ (o : Option Rule). then_do (unless_refused o m) (λ n. applied c x n)) (faults_agree x.round p q alive x.item)

pub items_live : (c : Chain) (level round place : ℕ) (p q : List Entry) (counter left : ℕ) (is : List Item) (m : RowMap) → live round p ≡ live round q → all_items c level round place p counter left is m ≡ all_items c level round place q counter left is m
items_live c level round place p q counter left [] m alive = refl
items_live c level round place p q counter left (i ∷ is) m alive =
    let x : Context = record { level = level; round = round; next = counter + 1; item = i } in
    λ j. then_do (opened c place left (i ∷ is))
    (λ left. then_do (at_place place (transacted_live c p q x m alive j))
    (λ n. items_live c level round (place + 1) (p ++ entry_of i.txn ∷ []) (q ++ entry_of i.txn ∷ []) (counter + size_of i) left is n (live_more round p q alive (entry_of i.txn)) j))
