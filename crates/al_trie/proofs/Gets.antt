-- Reading a list after a write, and after one element more.
use Rattle.std.proofs.Common.{◌≡◌, ℕ, zero, suc, ◌<◌, List, [], ◌∷◌, ◌++◌, length, set, slice_get, Some, refl, ap, arith}

pub get-set_same : {A : Type 0} (xs : List A) (i : ℕ) (y : A) → i < length xs → slice_get (set xs i y) i ≡ Some y
get-set_same [] i y l = absurd (omega arith)
get-set_same (x ∷ xs) zero y l = refl
get-set_same (x ∷ xs) (suc i) y l = get-set_same xs i y (omega arith)

pub get-set_other : {A : Type 0} (xs : List A) (i j : ℕ) (y : A) → (j ≡ i → ⊥) → slice_get (set xs i y) j ≡ slice_get xs j
get-set_other [] i j y h = refl
get-set_other (x ∷ xs) zero zero y h = absurd (h refl)
get-set_other (x ∷ xs) zero (suc j) y h = refl
get-set_other (x ∷ xs) (suc i) zero y h = refl
get-set_other (x ∷ xs) (suc i) (suc j) y h = get-set_other xs i j y (λ e. h (ap suc e))

pub get-push_old : {A : Type 0} (xs : List A) (i : ℕ) (x y : A) → slice_get xs i ≡ Some x → slice_get (xs ++ y ∷ []) i ≡ Some x
get-push_old [] i x y h = cc
get-push_old (z ∷ xs) zero x y h = h
get-push_old (z ∷ xs) (suc i) x y h = get-push_old xs i x y h

pub get-push_new : {A : Type 0} (xs : List A) (y : A) → slice_get (xs ++ y ∷ []) (length xs) ≡ Some y
get-push_new [] y = refl
get-push_new (x ∷ xs) y = get-push_new xs y

pub get-push_back : {A : Type 0} (xs : List A) (i : ℕ) (x y : A) → slice_get (xs ++ y ∷ []) i ≡ Some x → (i ≡ length xs → ⊥) → slice_get xs i ≡ Some x
get-push_back [] zero x y h other = absurd (other refl)
get-push_back [] (suc i) x y h other = cc
get-push_back (z ∷ xs) zero x y h other = h
get-push_back (z ∷ xs) (suc i) x y h other = get-push_back xs i x y h (λ e. other (ap suc e))
