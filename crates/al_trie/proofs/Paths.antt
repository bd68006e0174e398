-- What an element begins with.
use Rattle.std.proofs.Common.{◌≡◌, ℕ, zero, suc, ◌<◌, ◌≤◌, true, false, ◌==◌, List, [], ◌∷◌, ◌++◌, length, get_or, take, refl, sym, ◌∙◌, arith, true≢false}
use Rattle.std.proofs.lemmas.Bool.{and_parts, and_from, eqb-true, eq-eqb}
use Rattle.al_trie.specs.Root.{starts}

no : {A : Type 0} → false ≡ true → A
no h = absurd (true≢false (sym h))

pub starts_itself : (x : List ℕ) → starts x x ≡ true
starts_itself [] = refl
starts_itself (b ∷ x) = and_from (b == b) (starts x x) (eq-eqb b b refl) (starts_itself x)

pub starts_next : (p x : List ℕ) → starts p x ≡ true → length p < length x → starts (p ++ get_or x (length p) 0 ∷ []) x ≡ true
starts_next [] [] h l = absurd (omega arith)
starts_next [] (c ∷ x) h l = and_from (c == c) true (eq-eqb c c refl) refl
starts_next (b ∷ p) [] h l = no h
starts_next (b ∷ p) (c ∷ x) h l =
    let s = and_parts (b == c) (starts p x) h in
    and_from (b == c) (starts (p ++ get_or x (length p) 0 ∷ []) x) s.0 (starts_next p x s.1 (omega arith))

pub starts_shorter : (p : List ℕ) (b : ℕ) (x : List ℕ) → starts (p ++ b ∷ []) x ≡ true → starts p x ≡ true
starts_shorter [] b x h = refl
starts_shorter (a ∷ p) b [] h = h
starts_shorter (a ∷ p) b (c ∷ x) h =
    let s = and_parts (a == c) (starts (p ++ b ∷ []) x) h in
    and_from (a == c) (starts p x) s.0 (starts_shorter p b x s.1)

pub starts_byte : (p : List ℕ) (b : ℕ) (x : List ℕ) → starts (p ++ b ∷ []) x ≡ true → get_or x (length p) 0 ≡ b
starts_byte [] b [] h = no h
starts_byte [] b (c ∷ x) h = sym (eqb-true b c (and_parts (b == c) true h).0)
starts_byte (a ∷ p) b [] h = no h
starts_byte (a ∷ p) b (c ∷ x) h = starts_byte p b x (and_parts (a == c) (starts (p ++ b ∷ []) x) h).1

pub starts_long : (p x : List ℕ) → starts p x ≡ true → length p ≤ length x
starts_long [] x h = omega arith
starts_long (b ∷ p) [] h = no h
starts_long (b ∷ p) (c ∷ x) h = let l : length p ≤ length x = starts_long p x (and_parts (b == c) (starts p x) h).1 in omega arith

pub starts_whole : (p x : List ℕ) → starts p x ≡ true → length p ≡ length x → p ≡ x
starts_whole [] [] h l = refl
starts_whole [] (c ∷ x) h l = absurd (omega arith)
starts_whole (b ∷ p) [] h l = no h
starts_whole (b ∷ p) (c ∷ x) h l =
    let s = and_parts (b == c) (starts p x) h in
    let e = eqb-true b c s.0 in
    let r = starts_whole p x s.1 (omega arith) in
    λ i. e i ∷ r i

pub starts-take : (k : ℕ) (x : List ℕ) → starts (take k x) x ≡ true
starts-take zero x = refl
starts-take (suc k) [] = refl
starts-take (suc k) (c ∷ x) = and_from (c == c) (starts (take k x) x) (eq-eqb c c refl) (starts-take k x)

pub starts_is_take : (p x : List ℕ) → starts p x ≡ true → p ≡ take (length p) x
starts_is_take [] x h = refl
starts_is_take (b ∷ p) [] h = no h
starts_is_take (b ∷ p) (c ∷ x) h =
    let s = and_parts (b == c) (starts p x) h in
    let e = eqb-true b c s.0 in
    let r = starts_is_take p x s.1 in
    λ i. e i ∷ r i

pub starts_trans : (p q x : List ℕ) → starts p q ≡ true → starts q x ≡ true → starts p x ≡ true
starts_trans [] q x h g = refl
starts_trans (a ∷ p) [] x h g = no h
starts_trans (a ∷ p) (b ∷ q) [] h g = no g
starts_trans (a ∷ p) (b ∷ q) (c ∷ x) h g =
    let s = and_parts (a == b) (starts p q) h in
    let t = and_parts (b == c) (starts q x) g in
    and_from (a == c) (starts p x) (eq-eqb a c (eqb-true a b s.0 ∙ eqb-true b c t.0)) (starts_trans p q x s.1 t.1)

-- of two paths of one element the shorter begins the longer
pub starts_of : (p q x : List ℕ) → starts p x ≡ true → starts q x ≡ true → length p ≤ length q → starts p q ≡ true
starts_of [] q x h g l = refl
starts_of (a ∷ p) [] x h g l = absurd (omega arith)
starts_of (a ∷ p) (b ∷ q) [] h g l = no h
starts_of (a ∷ p) (b ∷ q) (c ∷ x) h g l =
    let s = and_parts (a == c) (starts p x) h in
    let t = and_parts (b == c) (starts q x) g in
    and_from (a == b) (starts p q) (eq-eqb a b (eqb-true a c s.0 ∙ sym (eqb-true b c t.0))) (starts_of p q x s.1 t.1 (omega arith))

pub starts_front : (p r : List ℕ) → starts p (p ++ r) ≡ true
starts_front [] r = refl
starts_front (b ∷ p) r = and_from (b == b) (starts p (p ++ r)) (eq-eqb b b refl) (starts_front p r)

-- a path that begins a longer one by one byte begins it or is it
pub starts_before : (q p : List ℕ) (b : ℕ) → starts q (p ++ b ∷ []) ≡ true → length q ≤ length p → starts q p ≡ true
starts_before q p b h l = starts_of q p (p ++ b ∷ []) h (starts_front p (b ∷ [])) l
