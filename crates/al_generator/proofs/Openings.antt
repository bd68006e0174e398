-- One user more.
use Rattle.std.proofs.Common.{◌≡◌, ◌+◌, ℕ, List, [], ◌∷◌, ◌++◌, map, sym, ap, ◌∙◌, arith}
use Rattle.std.specs.List.{range_with_len}
use Rattle.std.proofs.lemmas.List.FromFn.{map-range_with_len_more}
use Rattle.al_generator.specs.declared.genesis.Opening.{Opening}

pub one_more : (f : ℕ → Opening) (a b : Opening) (i : ℕ) (all next : List Opening) → all ≡ a ∷ b ∷ map f (range_with_len 0 i) → next ≡ all ++ f i ∷ [] → next ≡ a ∷ b ∷ map f (range_with_len 0 (i + 1))
one_more f a b i all next is e =
    e ∙ ap (λ (xs : List Opening). xs ++ f i ∷ []) is ∙ ap (λ (xs : List Opening). a ∷ b ∷ xs) (sym (map-range_with_len_more f 0 i i (omega arith)))
