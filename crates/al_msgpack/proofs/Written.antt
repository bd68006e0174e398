-- Numbers as the code writes them.
use Rattle.std.proofs.Common.{◌≡◌, ℕ, ◌^◌, ◌<◌, List, ◌∷◌, refl, ap₂, arith}
use Rattle.std.specs.Int.{w16, w32, w64, to_be_bytes}
use Rattle.al_msgpack.specs.Grammar.{digits}

both : (x y : ℕ) (a b : List ℕ) → x ≡ y → a ≡ b → x ∷ a ≡ y ∷ b
both x y a b p q = ap₂ (λ s t. s ∷ t) p q

pub be_2 : (n : ℕ) → n < 2 ^ 16 → to_be_bytes w16 n ≡ digits 2 n
be_2 n lt = both _ _ _ _ (omega arith) (both _ _ _ _ (omega arith) refl)

pub be_4 : (n : ℕ) → n < 2 ^ 32 → to_be_bytes w32 n ≡ digits 4 n
be_4 n lt = both _ _ _ _ (omega arith) (both _ _ _ _ (omega arith) (both _ _ _ _ (omega arith) (both _ _ _ _ (omega arith) refl)))

pub be_8 : (n : ℕ) → n < 2 ^ 64 → to_be_bytes w64 n ≡ digits 8 n
be_8 n lt = both _ _ _ _ (omega arith) (both _ _ _ _ (omega arith) (both _ _ _ _ (omega arith) (both _ _ _ _ (omega arith) (both _ _ _ _ (omega arith) (both _ _ _ _ (omega arith) (both _ _ _ _ (omega arith) (both _ _ _ _ (omega arith) refl)))))))
