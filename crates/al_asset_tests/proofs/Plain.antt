-- Transactions without effects.
use Rattle.std.proofs.Common.{◌≡◌, ◌+◌, All, List, [], ◌∷◌, length, sum_by, ap, arith, refl}
use Rattle.std.proofs.lemmas.List.Elements.{All-head, All-tail}
use Rattle.std.proofs.lemmas.List.Sums.{sum_by-cons}
use Rattle.al_bodies.specs.declared.effect.Effect.{Effect}
use Rattle.al_bodies.specs.Effect.{inner_in}
use Rattle.al_txn.specs.declared.txn.Item.{Item}
use Rattle.al_eval.specs.Groups.{size_of}

-- each is one
pub plain_counted : (is : List Item) → All (λ i. i.effects ≡ []) is → sum_by size_of is ≡ length is
plain_counted [] plain = refl
plain_counted (i ∷ is) plain =
    let one : size_of i ≡ 1 = ap (λ (es : List Effect). 1 + sum_by inner_in es) (All-head (λ (j : Item). j.effects ≡ []) i is plain) in
    omega (arith, sum_by-cons size_of i is, one, plain_counted is (All-tail (λ (j : Item). j.effects ≡ []) i is plain))
