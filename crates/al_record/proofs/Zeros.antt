-- An array is left out where it is an array of zeros.
use Rattle.std.proofs.Common.{◌≡◌, ℕ, List, [], ◌∷◌, Bool, true, false, ◌&&◌, ◌==◌, length, replicate, refl, sym, ◌∙◌, ap, subst}
use Rattle.std.proofs.Math.Dec.{eqb_refl, T}
use Rattle.std.specs.Prelude.{is_none}
use Rattle.std.specs.List.{list_all}
use Rattle.std.specs.Cmp.Lexicographic.{pointwise}
use Rattle.al_msgpack.specs.declared.val.Val.TheVariants as values
use Rattle.al_record.specs.Columns.{array_put, is_zero_array, unless}

zeros : (b : List ℕ) → pointwise ◌==◌ b (replicate (length b) 0) ≡ list_all (λ (x : ℕ). x == 0) b
zeros [] = refl
zeros (x ∷ b) = ap (λ (t : Bool). (x == 0) && t) (zeros b)

true_of : (b : Bool) → T b → b ≡ true
true_of true t = refl
true_of false t = absurd t

same_length : (n : ℕ) → (n == n) ≡ true
same_length n = true_of (n == n) (eqb_refl n)

left_out : (z : Bool) (b : List ℕ) → z ≡ is_none (unless z (values.Bin b))
left_out true b = refl
left_out false b = refl

pub array_left_out : (n : ℕ) (b : List ℕ) → length b ≡ n → pointwise ◌==◌ b (replicate n 0) ≡ is_none (array_put n b)
array_left_out n b e =
    subst (λ (m : ℕ). pointwise ◌==◌ b (replicate m 0) ≡ is_none (array_put m b)) e
    ((zeros b ∙ ap (λ (t : Bool). t && list_all (λ (x : ℕ). x == 0) b) (sym (same_length (length b)))) ∙ left_out (is_zero_array (length b) b) b)
