-- Versions whose rounds never fall, up to a round and above it.
use Rattle.std.proofs.Common.{◌≡◌, ◌∙◌, ℕ, ◌+◌, ◌<◌, ◌≤◌, refl, sym, ap, ap₂, List, [], ◌∷◌, ◌++◌, take, drop, Bool, true, false, cond, not, filter, arith, one-add}
use Rattle.std.proofs.lemmas.Bool.{leb-false, leb-true, le-leb}
use Rattle.std.proofs.Math.Dec.{leb}
use Rattle.std.specs.List.{prefix_len}
use Rattle.al_base.specs.declared.online.Version.{Version}
use Rattle.al_history.specs.History.{RisesFrom, up_to}
use Rattle.al_history.specs.Reading.{above, is_up_to}

pub rises_less : (m n : ℕ) (vs : List Version) → m ≤ n → RisesFrom n vs → RisesFrom m vs
rises_less m n [] l h = tt
rises_less m n (v ∷ vs) l h =
    let first : n ≤ v.round = h.0 in
    let less : m ≤ v.round = omega arith in
    (less, h.1)

-- ---- a list without some of its members rises as well

kept_here : (p : Version → Bool) (n : ℕ) (v : Version) (vs : List Version) (b : Bool) → n ≤ v.round → RisesFrom v.round (filter p vs) → RisesFrom n (cond b (v ∷ filter p vs) (filter p vs))
kept_here p n v vs true l h = (l, h)
kept_here p n v vs false l h = rises_less n v.round (filter p vs) l h

pub rises_kept : (p : Version → Bool) (n : ℕ) (vs : List Version) → RisesFrom n vs → RisesFrom n (filter p vs)
rises_kept p n [] h = tt
rises_kept p n (v ∷ vs) h = kept_here p n v vs (p v) h.0 (rises_kept p v.round vs h.1)

-- ---- where the first is above a round, all are

late : (r : ℕ) (v : Version) → r < v.round → is_up_to r v ≡ false
late r v l = test (leb v.round r) refl
  where
    test : (b : Bool) → leb v.round r ≡ b → b ≡ false
    test true e = absurd (let h : v.round ≤ r = leb-true v.round r e in omega arith)
    test false e = refl

pub none_up_to : (r n : ℕ) (vs : List Version) → r < n → RisesFrom n vs → up_to r vs ≡ []
none_up_to r n [] l h = refl
none_up_to r n (v ∷ vs) l h =
    let first : n ≤ v.round = h.0 in
    let more : r < v.round = omega arith in
    ap (λ b. cond b (v ∷ up_to r vs) (up_to r vs)) (late r v more) ∙ none_up_to r v.round vs more h.1

pub all_above : (r n : ℕ) (vs : List Version) → r < n → RisesFrom n vs → above r vs ≡ vs
all_above r n [] l h = refl
all_above r n (v ∷ vs) l h =
    let first : n ≤ v.round = h.0 in
    let more : r < v.round = omega arith in
    ap (λ b. cond (not b) (v ∷ above r vs) (above r vs)) (late r v more) ∙ ap (λ ws. v ∷ ws) (all_above r v.round vs more h.1)

-- ---- those up to a round are the front

front_here : (r : ℕ) (v : Version) (vs : List Version) → RisesFrom v.round vs → take (prefix_len (is_up_to r) vs) vs ≡ up_to r vs → (b : Bool) → is_up_to r v ≡ b → take (cond b (1 + prefix_len (is_up_to r) vs) 0) (v ∷ vs) ≡ cond b (v ∷ up_to r vs) (up_to r vs)
front_here r v vs h front true e = ap (λ k. take k (v ∷ vs)) (one-add (prefix_len (is_up_to r) vs)) ∙ ap (λ ws. v ∷ ws) front
front_here r v vs h front false e = sym (none_up_to r v.round vs (leb-false v.round r e) h)

pub front_is : (r n : ℕ) (vs : List Version) → RisesFrom n vs → take (prefix_len (is_up_to r) vs) vs ≡ up_to r vs
front_is r n [] h = refl
front_is r n (v ∷ vs) h = front_here r v vs h.1 (front_is r v.round vs h.1) (is_up_to r v) refl

rest_here : (r : ℕ) (v : Version) (vs : List Version) → RisesFrom v.round vs → drop (prefix_len (is_up_to r) vs) vs ≡ above r vs → (b : Bool) → is_up_to r v ≡ b → drop (cond b (1 + prefix_len (is_up_to r) vs) 0) (v ∷ vs) ≡ cond (not b) (v ∷ above r vs) (above r vs)
rest_here r v vs h rest true e = ap (λ k. drop k (v ∷ vs)) (one-add (prefix_len (is_up_to r) vs)) ∙ rest
rest_here r v vs h rest false e = ap (λ ws. v ∷ ws) (sym (all_above r v.round vs (leb-false v.round r e) h))

pub rest_is : (r n : ℕ) (vs : List Version) → RisesFrom n vs → drop (prefix_len (is_up_to r) vs) vs ≡ above r vs
rest_is r n [] h = refl
rest_is r n (v ∷ vs) h = rest_here r v vs h.1 (rest_is r v.round vs h.1) (is_up_to r v) refl

-- ---- one round after another

early : (r s : ℕ) (v : Version) → r ≤ s → is_up_to r v ≡ true → is_up_to s v ≡ true
early r s v l e =
    let h : v.round ≤ r = leb-true v.round r e in
    le-leb v.round s (omega arith)

pub above_above : (r s : ℕ) (vs : List Version) → r ≤ s → above s (above r vs) ≡ above s vs
above_above r s [] l = refl
above_above r s (v ∷ vs) l = by_test (above_above r s vs l) (is_up_to r v) refl
  where
    by_test : above s (above r vs) ≡ above s vs → (b : Bool) → is_up_to r v ≡ b → above s (cond (not b) (v ∷ above r vs) (above r vs)) ≡ cond (not (is_up_to s v)) (v ∷ above s vs) (above s vs)
    by_test h true e = h ∙ sym (ap (λ b. cond (not b) (v ∷ above s vs) (above s vs)) (early r s v l e))
    by_test h false e = ap (λ ws. cond (not (is_up_to s v)) (v ∷ ws) ws) h

pub up_to_joins : (r s n : ℕ) (vs : List Version) → r ≤ s → RisesFrom n vs → up_to s vs ≡ up_to r vs ++ up_to s (above r vs)
up_to_joins r s n [] l h = refl
up_to_joins r s n (v ∷ vs) l h = by_test (up_to_joins r s v.round vs l h.1) (is_up_to r v) refl
  where
    by_test : up_to s vs ≡ up_to r vs ++ up_to s (above r vs) → (b : Bool) → is_up_to r v ≡ b → up_to s (v ∷ vs) ≡ cond b (v ∷ up_to r vs) (up_to r vs) ++ up_to s (cond (not b) (v ∷ above r vs) (above r vs))
    by_test j true e = ap (λ b. cond b (v ∷ up_to s vs) (up_to s vs)) (early r s v l e) ∙ ap (λ ws. v ∷ ws) j
    by_test j false e =
        let more : r < v.round = leb-false v.round r e in
        sym (ap₂ (λ (us ws : List Version). us ++ up_to s (v ∷ ws)) (none_up_to r v.round vs more h.1) (all_above r v.round vs more h.1))
