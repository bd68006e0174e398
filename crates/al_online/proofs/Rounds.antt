-- Rounds one after another.
use Rattle.std.proofs.Common.{◌≡◌, ◌∙◌, ℕ, zero, suc, ◌+◌, ◌-◌, ◌<◌, refl, sym, ap, subst, List, [], ◌∷◌, ◌++◌, length, length-append, take, slice_get, Option, Some, None, arith}
use Rattle.al_base.specs.declared.online.OnlineChange.{OnlineChange}
use Rattle.al_online.specs.Memory.{Memory, and_round, followed, top, without_last}
use Rattle.al_online.specs.Stakes.{Snap}

-- a list that is not empty has a last member
last_there : {A : Type 0} (x : A) (xs : List A) → (y : A) × (slice_get (x ∷ xs) (length xs) ≡ Some y)
last_there x [] = (x, refl)
last_there x (y ∷ ys) = last_there y ys

front_taken : {A : Type 0} (xs ys : List A) → take (length xs) (xs ++ ys) ≡ xs
front_taken [] ys = refl
front_taken (x ∷ xs) ys = ap (λ zs. x ∷ zs) (front_taken xs ys)

one_less : {A : Type 0} (xs : List A) (y : A) → take (length (xs ++ y ∷ []) - 1) (xs ++ y ∷ []) ≡ xs
one_less xs y =
    let n : length (xs ++ y ∷ []) - 1 ≡ length xs = omega (arith, length-append xs (y ∷ [])) in
    ap (λ j. take j (xs ++ y ∷ [])) n ∙ front_taken xs (y ∷ [])

-- the last round taken back from one more
without_more : (level : ℕ) (cs : List OnlineChange) (base : ℕ) (snaps : List Snap) → base < top (and_round level cs (record { base = base; snaps = snaps })) → without_last (and_round level cs (record { base = base; snaps = snaps })) ≡ record { base = base; snaps = snaps }
without_more level cs base [] h = absurd (omega arith)
without_more level cs base (s ∷ ss) h =
    let there = last_there s ss in
    let n : length (s ∷ ss) - 1 ≡ length ss = omega arith in
    let one : followed level cs (slice_get (s ∷ ss) (length (s ∷ ss) - 1)) ≡ followed level cs (Some there.0) = ap (λ j. followed level cs (slice_get (s ∷ ss) j)) n ∙ ap (followed level cs) there.1 in
    ap (λ (ts : List Snap). record { base = base; snaps = take (length ((s ∷ ss) ++ ts) - 1) ((s ∷ ss) ++ ts) }) one
    ∙ ap (λ (ts : List Snap). record { base = base; snaps = ts }) (one_less (s ∷ ss) _)

pub back_is : (x m : Memory) (level : ℕ) (cs : List OnlineChange) → x ≡ and_round level cs m → x.base < top x → without_last x ≡ m
back_is x m level cs e h = ap without_last e ∙ without_more level cs m.base m.snaps (subst (λ (y : Memory). y.base < top y) e h)
