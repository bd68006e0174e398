-- Places in a list of accounts.
use Rattle.std.proofs.Common.{◌≡◌, ◌&&◌, ◌||◌, ℕ, zero, suc, ◌-◌, ◌<◌, ◌≤◌, Bool, true, false, List, [], ◌∷◌, length, get_or, take, refl, sym, ap, ◌∙◌, subst, arith}
use Rattle.std.specs.List.{list_any}
use Rattle.std.specs.Ordering.{is_lt, nat_cmp}
use Rattle.std.specs.Cmp.Lexicographic.{slice_cmp}
use Rattle.al_msgpack.specs.Rising.{rises}
use Rattle.al_genesis.specs.declared.genesis_fields.FirstAccount.{FirstAccount}
use Rattle.al_genesis.specs.Genesis.{addresses_of}

or_true : (b : Bool) → (b || true) ≡ true
or_true true = refl
or_true false = refl

and_true : (b : Bool) → (b && true) ≡ b
and_true true = refl
and_true false = refl

and_assoc : (a b c : Bool) → (a && (b && c)) ≡ ((a && b) && c)
and_assoc true b c = refl
and_assoc false b c = refl

-- some member up to the place passes a test, where the one at it does
pub any_there : {A : Type 0} (test : A → Bool) (d : A) (xs : List A) (i : ℕ) → i < length xs → test (get_or xs i d) ≡ true → list_any test (take (suc i) xs) ≡ true
any_there test d [] i lt t = let f : ⊥ = omega (arith, lt) in absurd f
any_there test d (x ∷ xs) zero lt t = rw t refl
any_there test d (x ∷ xs) (suc i) lt t = ap (λ (z : Bool). test x || z) (any_there test d xs i (omega (arith, lt)) t) ∙ or_true (test x)

abbrev less : FirstAccount → List FirstAccount → ℕ → ℕ → Bool
less d xs i j = is_lt (slice_cmp nat_cmp (get_or xs i d).address.0 (get_or xs j d).address.0)

rises_more : (d : FirstAccount) (xs : List FirstAccount) (i : ℕ) → suc i < length xs → rises (addresses_of (take (suc (suc i)) xs)) ≡ (rises (addresses_of (take (suc i) xs)) && less d xs i (suc i))
rises_more d [] i lt = let f : ⊥ = omega (arith, lt) in absurd f
rises_more d (x ∷ []) i lt = let f : ⊥ = omega (arith, lt) in absurd f
rises_more d (x ∷ y ∷ xs) zero lt = and_true (less d (x ∷ y ∷ xs) 0 1)
rises_more d (x ∷ y ∷ xs) (suc i) lt =
    ap (λ (z : Bool). less d (x ∷ y ∷ xs) 0 1 && z) (rises_more d (y ∷ xs) i (omega (arith, lt)))
    ∙ and_assoc (less d (x ∷ y ∷ xs) 0 1) (rises (addresses_of (take (suc i) (y ∷ xs)))) (less d (y ∷ xs) i (suc i))

-- the addresses up to the place rise exactly where the one at it stands behind the one before
pub rises_with : (d : FirstAccount) (xs : List FirstAccount) (place : ℕ) → 1 ≤ place → place < length xs → rises (addresses_of (take place xs)) ≡ true → (b : Bool) → b ≡ less d xs (place - 1) place → rises (addresses_of (take (suc place) xs)) ≡ b
rises_with d xs zero le lt r b e = let f : ⊥ = omega (arith, le) in absurd f
rises_with d xs (suc i) le lt r b e =
    let k : suc i - 1 ≡ i = omega arith in
    rises_more d xs i lt ∙ ap (λ (z : Bool). z && less d xs i (suc i)) r ∙ sym (subst (λ (j : ℕ). b ≡ less d xs j (suc i)) k e)

-- what stands past a list's end, where code reads a place
abbrev pub nobody : FirstAccount
nobody = record { address = record { 0 = [] }; row = record { status = 0; balance = 0; vote = []; selection = []; sprf = []; first = 0; last = 0; dilution = 0 } }
