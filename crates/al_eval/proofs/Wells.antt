-- The transactions of a group that was entered are well formed.
use Rattle.std.proofs.Common.{◌≡◌, refl, sym, ◌∙◌, subst, ℕ, ◌+◌, ◌-◌, List, [], ◌∷◌, Option, Some, None, IfSome, Bool, true, false, if◌then◌else◌, ◌||◌, ap, option_map, arith, take, replicate, zero, suc, not, ◌&&◌}
use Rattle.std.specs.Prelude.{⊤}
use Rattle.std.specs.Option.{option_or}
use Rattle.std.specs.List.{AllByRecursion}
use Rattle.al_block.specs.Hashes.{group_size, run}
use Rattle.al_rows.specs.Rows.{no_address}
use Rattle.al_base.specs.declared.account.Special.{Special}
use Rattle.al_bodies.specs.declared.body.Body.{Body}
use Rattle.al_bodies.specs.declared.body.Pay.{Pay}
use Rattle.al_bodies.specs.declared.effect.Effect.{Effect}
use Rattle.al_txn.specs.declared.chain.Chain.{Chain}
use Rattle.al_txn.specs.declared.txn.Item.{Item}
use Rattle.al_txn.specs.Form.{first_broken, common_tests, call_tests, tests_of, body_tests, form_fault, bytes_eq, address_eq, is_barred, is_misplaced}
use Rattle.al_overlay.specs.declared.rule.Rule.{Rule}
use Rattle.al_overlay.specs.Rules.{plain_rule}
use Rattle.al_overlay.specs.Accounts.{same_address}
use Rattle.al_resources.specs.Kept.{MayPay}
use Rattle.al_eval.specs.Groups.{first_at, size_fault, form_rule, forms_fault, group_fault, entered, left_after}
use Rattle.std.specs.Cmp.Lexicographic.{nat_list_eq_equiv}
use Rattle.al_base.specs.declared.address.Address.{Address}
use Rattle.al_bodies.specs.declared.body.Body.TheVariants as body

-- the body closes the sender's account
abbrev pub closes : Body → Bool
closes (body.Pay p) = not (same_address p.close no_address)
closes b = false

-- an effect of a call that creates stands where it may
abbrev pub IsPlaced : List Effect → Body → Type 0
IsPlaced effects (body.Pay p) = ⊤
IsPlaced effects (body.KeyReg k) = ⊤
IsPlaced effects (body.Config c) = ⊤
IsPlaced effects (body.Move t) = ⊤
IsPlaced effects (body.Freeze f) = ⊤
IsPlaced effects (body.App a) = is_misplaced a.app effects ≡ false

-- the pool sends none, where the sink sends one it does not close, and its effects stand where they may
pub record IsWell (c : Chain) (who : Address) (effects : List Effect) (b : Body) : Type 0 where
  pub pool : same_address who c.special.pool ≡ false
  pub sink : closes b ≡ true → same_address who c.special.sink ≡ false
  pub placed : IsPlaced effects b

-- where sink and pool are watched, they are those of the chain
abbrev pub IsWatched : Chain → Option Special → Type 0
IsWatched c watched = IfSome watched (λ s. s ≡ c.special)

-- what holds of the chain's holds of those that are watched
pub watched_has : (P : Special → Type 0) (c : Chain) (watched : Option Special) → IsWatched c watched → P c.special → IfSome watched P
watched_has P c None is h = tt
watched_has P c (Some s) is h = subst P (sym is) h

-- the sender of a payment is not the pool, and where it closes not the sink
pub may_pay : (c : Chain) (watched : Option Special) → IsWatched c watched → (who : Address) (effects : List Effect) (p : Pay) → IsWell c who effects (body.Pay p) → MayPay watched who p
may_pay c watched is who effects p well =
    watched_has (λ s. (same_address who s.pool ≡ false) × (same_address p.close no_address ≡ false → same_address who s.sink ≡ false)) c watched is (well.pool, λ e. well.sink (ap not e))

none_first : {A : Type 0} (o p : Option A) → option_or o p ≡ None → (o ≡ None) × (p ≡ None)
none_first None p e = (refl, e)
none_first {A} (Some x) p e = absurd (let y : ◌≡◌ {A = Option A} (Some x) None = e in cc)

none_broken : (ts : List (ℕ × Bool)) → first_broken ts ≡ None → AllByRecursion (λ t. t.1 ≡ false) ts
none_broken [] h = tt
none_broken (t ∷ ts) h = by_test t.1 refl h (none_broken ts)
  where
    by_test : (b : Bool) → t.1 ≡ b → (if b then Some t.0 else first_broken ts) ≡ None → (first_broken ts ≡ None → AllByRecursion (λ t. t.1 ≡ false) ts) → (t.1 ≡ false) × AllByRecursion (λ t. t.1 ≡ false) ts
    by_test true e k rest = absurd (let x : ◌≡◌ {A = Option ℕ} (Some t.0) None = k in cc)
    by_test false e k rest = (e, rest k)

barred : (pool : Address) (b : Body) → closes b ≡ true → is_barred pool b ≡ true
barred pool (body.Pay p) h = or_second (not (address_eq p.receiver pool)) _ h
  where
    or_second : (a b : Bool) → b ≡ true → (a || b) ≡ true
    or_second true b e = refl
    or_second false b e = e
barred pool (body.KeyReg k) h = refl
barred pool (body.Config c) h = h
barred pool (body.Move a) h = h
barred pool (body.Freeze f) h = h
barred pool (body.App a) h = h

not_first : (a b : Bool) → (a && b) ≡ false → b ≡ true → a ≡ false
not_first true b h e = absurd (let x : true ≡ false = sym e ∙ h in cc)
not_first false b h e = refl

well_placed : (i : Item) (b : Body) → first_broken (tests_of i b) ≡ None → IsPlaced i.effects b
unfolding call_tests
well_placed i (body.Pay p) h = tt
well_placed i (body.KeyReg k) h = tt
well_placed i (body.Config c) h = tt
well_placed i (body.Move t) h = tt
well_placed i (body.Freeze f) h = tt
well_placed i (body.App a) h = (none_broken (call_tests a.app i.effects) h).0

form_well : (i : Item) (c : Chain) → form_fault i c ≡ None → IsWell c i.txn.sender i.effects i.txn.body
unfolding common_tests body_tests
form_well i c h =
    let none = none_first (first_broken (common_tests i.txn c)) (first_broken (body_tests i)) h in
    let each = none_broken (common_tests i.txn c) none.0 in
    record { pool = each.1.0; sink = λ e. not_first _ _ each.1.1.1.1.1.1.1.0 (barred c.special.pool i.txn.body e); placed = well_placed i i.txn.body none.1 }

abbrev pub AllWell : Chain → List Item → Type 0
AllWell c is = AllByRecursion (λ i. IsWell c i.txn.sender i.effects i.txn.body) is

none_at : (place : ℕ) (o : Option Rule) (rest : Option (ℕ × Rule)) → first_at place o rest ≡ None → (o ≡ None) × (rest ≡ None)
none_at place None rest e = (refl, e)
none_at place (Some r) rest e = absurd (let x : ◌≡◌ {A = Option (ℕ × Rule)} (Some (place, r)) None = e in cc)

none_mapped : (o : Option ℕ) → option_map plain_rule o ≡ None → o ≡ None
none_mapped None e = refl
none_mapped (Some n) e = absurd (let x : ◌≡◌ {A = Option Rule} (Some (plain_rule n)) None = e in cc)

forms_well : (c : Chain) (place : ℕ) (is : List Item) → forms_fault c place is ≡ None → AllWell c is
forms_well c place [] h = tt
forms_well c place (i ∷ is) h =
    let n = none_at place (form_rule i c) (forms_fault c (place + 1) is) h in
    (form_well i c (none_mapped (form_fault i c) n.0), forms_well c (place + 1) is n.1)

group_well : (c : Chain) (place : ℕ) (is : List Item) → group_fault c place is ≡ None → AllWell c is
unfolding group_fault
group_well c place is h = forms_well c place is (none_first (forms_fault c place is) _ (none_at place (size_fault is) _ h).1).0

-- a group at the front has a first member
size_first : (i : Item) (is : List Item) → group_size (i ∷ is) ≡ suc (group_size (i ∷ is) - 1)
size_first i is = by_test (bytes_eq i.txn.group (replicate 32 0)) (bytes_eq i.txn.group i.txn.group) (nat_list_eq_equiv.refl i.txn.group)
  where
    by_test : (a b : Bool) → b ≡ true → (if a then 1 else if b then suc (run i.txn.group is) else 0) ≡ suc ((if a then 1 else if b then suc (run i.txn.group is) else 0) - 1)
    by_test true b e = refl
    by_test false true e = omega arith
    by_test false false e = absurd (let x : false ≡ true = e in cc)

-- once a group is entered, the first transaction and those left behind it are well formed
pub well_entered : (c : Chain) (place left : ℕ) (i : Item) (is : List Item) → AllWell c (take left (i ∷ is)) → entered c place left (i ∷ is) ≡ None → IsWell c i.txn.sender i.effects i.txn.body × AllWell c (take (left_after left (i ∷ is)) is)
well_entered c place zero i is h e =
    subst (λ n. AllWell c (take n (i ∷ is))) (size_first i is) (group_well c place (take (group_size (i ∷ is)) (i ∷ is)) e)
well_entered c place (suc left) i is h e = h
