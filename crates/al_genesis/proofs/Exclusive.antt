-- The conditions on a genesis record exclude each other.
use Rattle.std.proofs.Common.{◌≡◌, ◌||◌, ℕ, zero, suc, ◌<◌, ◌≤◌, Bool, true, false, List, [], ◌∷◌, take, refl, sym, ap, ◌∙◌, arith, inl, inr}
use Rattle.std.specs.List.{list_any}
use Rattle.std.proofs.lemmas.Bool.{and_parts, and_from, cases_order}
use Rattle.al_base.specs.declared.address.Address.{Address}
use Rattle.al_msgpack.specs.Rising.{rises}
use Rattle.al_genesis.specs.declared.genesis_fields.FirstAccount.{FirstAccount}
use Rattle.al_genesis.specs.declared.genesis.GenesisFault.{GenesisFault}
use Rattle.al_genesis.specs.declared.genesis.GenesisFault.TheVariants as faults
use Rattle.al_genesis.specs.Genesis.{addresses_of, is_poor, IsUnordered, IsFirstPoor, IsOrdered, IsSound, Breaks}

clash : (b : Bool) → b ≡ true → b ≡ false → ⊥
clash b t f = let e : true ≡ false = sym t ∙ f in absurd cc

front_rises : (m : ℕ) (xs : List FirstAccount) → rises (addresses_of xs) ≡ true → rises (addresses_of (take m xs)) ≡ true
front_rises zero xs r = refl
front_rises (suc m) [] r = refl
front_rises (suc zero) (x ∷ xs) r = refl
front_rises (suc (suc m)) (x ∷ []) r = refl
front_rises (suc (suc m)) (x ∷ y ∷ xs) r =
    let p = and_parts _ _ r in
    and_from _ _ p.0 (front_rises (suc m) (y ∷ xs) p.1)

or_parts : (a b : Bool) → (a || b) ≡ false → (a ≡ false) × (b ≡ false)
or_parts true b h = absurd cc
or_parts false b h = (refl, h)

front_any : {A : Type 0} (test : A → Bool) (m : ℕ) (xs : List A) → list_any test xs ≡ false → list_any test (take m xs) ≡ false
front_any test zero xs n = refl
front_any test (suc m) [] n = refl
front_any test (suc m) (x ∷ xs) n =
    let p = or_parts (test x) (list_any test xs) n in
    rw p.0 (front_any test m xs p.1)

take_front : {A : Type 0} (m n : ℕ) (xs : List A) → m ≤ n → take m (take n xs) ≡ take m xs
take_front zero n xs le = refl
take_front (suc m) zero xs le = let f : ⊥ = omega (arith, le) in absurd f
take_front (suc m) (suc n) [] le = refl
take_front (suc m) (suc n) (x ∷ xs) le = ap (λ ys. x ∷ ys) (take_front m n xs (omega (arith, le)))

unordered : (xs : List FirstAccount) (p : ℕ) → IsOrdered xs → IsUnordered xs p → ⊥
unordered xs p r u = clash _ (front_rises (suc p) xs r) u.there

unordered_before : (xs : List FirstAccount) (p q : ℕ) → IsUnordered xs p → IsUnordered xs q → p < q → ⊥
unordered_before xs p q u w lt =
    let r = front_rises (suc p) (take q xs) w.before in
    clash _ (ap (λ ys. rises (addresses_of ys)) (sym (take_front (suc p) q xs (omega (arith, lt)))) ∙ r) u.there

order_once : (xs : List FirstAccount) (p q : ℕ) → IsUnordered xs p → IsUnordered xs q → p ≡ q
order_once xs p q u w = elim (cases_order p q) [
  | inl e ↦ e
  | inr (inl lt) ↦ absurd (unordered_before xs p q u w lt)
  | inr (inr lt) ↦ absurd (unordered_before xs q p w u lt)
]

poor : (sink pool : Address) (xs : List FirstAccount) (p : ℕ) → list_any (is_poor sink pool) xs ≡ false → IsFirstPoor sink pool xs p → ⊥
poor sink pool xs p n w = clash _ w.there (front_any (is_poor sink pool) (suc p) xs n)

poor_before : (sink pool : Address) (xs : List FirstAccount) (p q : ℕ) → IsFirstPoor sink pool xs p → IsFirstPoor sink pool xs q → p < q → ⊥
poor_before sink pool xs p q u w lt =
    let r = front_any (is_poor sink pool) (suc p) (take q xs) w.before in
    clash _ u.there (ap (λ ys. list_any (is_poor sink pool) ys) (sym (take_front (suc p) q xs (omega (arith, lt)))) ∙ r)

poor_once : (sink pool : Address) (xs : List FirstAccount) (p q : ℕ) → IsFirstPoor sink pool xs p → IsFirstPoor sink pool xs q → p ≡ q
poor_once sink pool xs p q u w = elim (cases_order p q) [
  | inl e ↦ e
  | inr (inl lt) ↦ absurd (poor_before sink pool xs p q u w lt)
  | inr (inr lt) ↦ absurd (poor_before sink pool xs q p w u lt)
]

-- where all conditions hold none is the first that does not
pub sound_breaks : (sink pool : Address) (xs : List FirstAccount) (f : GenesisFault) → IsSound sink pool xs → Breaks sink pool xs f → ⊥
sound_breaks sink pool xs (faults.Order p) s b = unordered xs p s.0.0.0.0 b
sound_breaks sink pool xs faults.Special s b = clash _ s.0.0.0.1 b.1
sound_breaks sink pool xs (faults.PoolLow n) s b = omega (arith, s.0.0.1, b.1, b.2)
sound_breaks sink pool xs (faults.Minimum p) s b = poor sink pool xs p s.0.1 b.1
sound_breaks sink pool xs faults.TotalLarge s b = omega (arith, s.1, b.1)
sound_breaks sink pool xs f s b = absurd b

-- the first condition that does not hold is one
pub breaks_once : (sink pool : Address) (xs : List FirstAccount) (f g : GenesisFault) → Breaks sink pool xs f → Breaks sink pool xs g → f ≡ g
breaks_once sink pool xs (faults.Order p) (faults.Order q) b c = ap (λ n. faults.Order n) (order_once xs p q b c)
breaks_once sink pool xs (faults.Order p) faults.Special b c = absurd (unordered xs p c.0 b)
breaks_once sink pool xs (faults.Order p) (faults.PoolLow n) b c = absurd (unordered xs p c.0.0 b)
breaks_once sink pool xs (faults.Order p) (faults.Minimum q) b c = absurd (unordered xs p c.0.0.0 b)
breaks_once sink pool xs (faults.Order p) faults.TotalLarge b c = absurd (unordered xs p c.0.0.0.0 b)
breaks_once sink pool xs faults.Special (faults.Order q) b c = absurd (unordered xs q b.0 c)
breaks_once sink pool xs faults.Special faults.Special b c = refl
breaks_once sink pool xs faults.Special (faults.PoolLow n) b c = absurd (clash _ c.0.1 b.1)
breaks_once sink pool xs faults.Special (faults.Minimum q) b c = absurd (clash _ c.0.0.1 b.1)
breaks_once sink pool xs faults.Special faults.TotalLarge b c = absurd (clash _ c.0.0.0.1 b.1)
breaks_once sink pool xs (faults.PoolLow m) (faults.Order q) b c = absurd (unordered xs q b.0.0 c)
breaks_once sink pool xs (faults.PoolLow m) faults.Special b c = absurd (clash _ b.0.1 c.1)
breaks_once sink pool xs (faults.PoolLow m) (faults.PoolLow n) b c = ap (λ k. faults.PoolLow k) (b.1 ∙ sym c.1)
breaks_once sink pool xs (faults.PoolLow m) (faults.Minimum q) b c = let f : ⊥ = omega (arith, b.1, b.2, c.0.1) in absurd f
breaks_once sink pool xs (faults.PoolLow m) faults.TotalLarge b c = let f : ⊥ = omega (arith, b.1, b.2, c.0.0.1) in absurd f
breaks_once sink pool xs (faults.Minimum p) (faults.Order q) b c = absurd (unordered xs q b.0.0.0 c)
breaks_once sink pool xs (faults.Minimum p) faults.Special b c = absurd (clash _ b.0.0.1 c.1)
breaks_once sink pool xs (faults.Minimum p) (faults.PoolLow n) b c = let f : ⊥ = omega (arith, c.1, c.2, b.0.1) in absurd f
breaks_once sink pool xs (faults.Minimum p) (faults.Minimum q) b c = ap (λ n. faults.Minimum n) (poor_once sink pool xs p q b.1 c.1)
breaks_once sink pool xs (faults.Minimum p) faults.TotalLarge b c = absurd (poor sink pool xs p c.0.1 b.1)
breaks_once sink pool xs faults.TotalLarge (faults.Order q) b c = absurd (unordered xs q b.0.0.0.0 c)
breaks_once sink pool xs faults.TotalLarge faults.Special b c = absurd (clash _ b.0.0.0.1 c.1)
breaks_once sink pool xs faults.TotalLarge (faults.PoolLow n) b c = let f : ⊥ = omega (arith, c.1, c.2, b.0.0.1) in absurd f
breaks_once sink pool xs faults.TotalLarge (faults.Minimum q) b c = absurd (poor sink pool xs q b.0.1 c.1)
breaks_once sink pool xs faults.TotalLarge faults.TotalLarge b c = refl
breaks_once sink pool xs (faults.Decode d) g b c = absurd b
breaks_once sink pool xs (faults.Field k) g b c = absurd b
breaks_once sink pool xs (faults.Range k) g b c = absurd b
breaks_once sink pool xs faults.Memory g b c = absurd b
breaks_once sink pool xs f (faults.Decode d) b c = absurd c
breaks_once sink pool xs f (faults.Field k) b c = absurd c
breaks_once sink pool xs f (faults.Range k) b c = absurd c
breaks_once sink pool xs f faults.Memory b c = absurd c
