-- What goes through a path is what goes through its children, and what is digested of them is spelled child by child.
use Rattle.std.proofs.Common.{◌≡◌, ℕ, zero, suc, ◌+◌, ◌<◌, ◌≤◌, ⊎_elim, Bool, true, false, cond, ◌||◌, ◌==◌, List, [], ◌∷◌, ◌++◌, length, get_or, flat_map, Option, Some, None, refl, sym, ap, ap₂, ◌∙◌, subst, arith}
use Rattle.std.proofs.lemmas.Bool.{false_from_ne_true, both_ways, or_cases, or_left, or_right, eqb-true, eqb-false, ne_eqb}
use Rattle.al_trie.specs.declared.kids.Kid.{Kid}
use Rattle.al_trie.specs.declared.kids.Link.{Link}
use Rattle.al_trie.specs.Root.{Through, Empty, starts, passing, through, each_byte}
use Rattle.al_trie.specs.Kids.{find_kid, Rising}
use Rattle.al_trie.specs.Slots.{Among, AreElements}
use Rattle.al_trie.proofs.Paths.{starts_next, starts_shorter, starts_byte}
use Rattle.al_trie.proofs.Passing.{joined, passing-or, passing_same, passing_empty, none_passes}
use Rattle.al_trie.proofs.KidLemmas.{find_low}

abbrev pub joined_kids : (ℕ → Through) → List Kid → Through
joined_kids t [] = Empty
joined_kids t (k ∷ ks) = joined (t k.byte) (joined_kids t ks)

abbrev any_kid : List ℕ → List Kid → List ℕ → Bool
any_kid p [] x = false
any_kid p (k ∷ ks) x = starts (p ++ k.byte ∷ []) x || any_kid p ks x

any_low : (p : List ℕ) (low : ℕ) (ks : List Kid) (x : List ℕ) → Rising low ks → any_kid p ks x ≡ true → low ≤ get_or x (length p) 0
any_low p low [] x r h = cc
any_low p low (k ∷ ks) x r h =
    let above : low ≤ k.byte = r.0 in
    ⊎_elim
    (λ s. let e : get_or x (length p) 0 ≡ k.byte = starts_byte p k.byte x s in omega arith)
    (λ a. let l : suc k.byte ≤ get_or x (length p) 0 = any_low p (suc k.byte) ks x r.2 a in omega arith)
    (or_cases (starts (p ++ k.byte ∷ []) x) (any_kid p ks x) h)

any_starts : (p : List ℕ) (ks : List Kid) (x : List ℕ) → any_kid p ks x ≡ true → starts p x ≡ true
any_starts p [] x h = cc
any_starts p (k ∷ ks) x h = ⊎_elim (λ s. starts_shorter p k.byte x s) (λ a. any_starts p ks x a) (or_cases (starts (p ++ k.byte ∷ []) x) (any_kid p ks x) h)

any_found : (p : List ℕ) (b : ℕ) (ks : List Kid) (l : Link) (x : List ℕ) → find_kid b ks ≡ Some l → starts (p ++ b ∷ []) x ≡ true → any_kid p ks x ≡ true
any_found p b [] l x f s = cc
any_found p b (k ∷ ks) l x f s =
    elim (k.byte == b) as (λ t. (k.byte == b) ≡ t → cond t (Some k.to) (find_kid b ks) ≡ Some l → (starts (p ++ k.byte ∷ []) x || any_kid p ks x) ≡ true) [
      | true ↦ λ is h. or_left (starts (p ++ k.byte ∷ []) x) (any_kid p ks x) (ap (λ c. starts (p ++ c ∷ []) x) (eqb-true k.byte b is) ∙ s)
      | false ↦ λ is h. or_right (starts (p ++ k.byte ∷ []) x) (any_kid p ks x) (any_found p b ks l x h s)
    ] refl f

any-joined : (p : List ℕ) (xs : List (List ℕ)) (low : ℕ) (ks : List Kid) → Rising low ks → passing (any_kid p ks) xs ≡ joined_kids (λ b. through xs (p ++ b ∷ [])) ks
any-joined p xs low [] r = passing_empty (any_kid p []) xs (λ x m. refl)
any-joined p xs low (k ∷ ks) r =
    passing-or (starts (p ++ k.byte ∷ [])) (any_kid p ks) xs (λ x s. false_from_ne_true (any_kid p ks x) (λ a.
    let l : suc k.byte ≤ get_or x (length p) 0 = any_low p (suc k.byte) ks x r.2 a in
    let e : get_or x (length p) 0 ≡ k.byte = starts_byte p k.byte x s in
    omega arith))
    ∙ ap (λ t. joined (through xs (p ++ k.byte ∷ [])) t) (any-joined p xs (suc k.byte) ks r.2)

pub through_kids : (xs : List (List ℕ)) (p : List ℕ) (low : ℕ) (ks : List Kid) → AreElements xs → length p < 36 → Rising low ks
    → ((b : ℕ) → find_kid b ks ≡ None → through xs (p ++ b ∷ []) ≡ Empty) → through xs p ≡ joined_kids (λ b. through xs (p ++ b ∷ [])) ks
through_kids xs p low ks sized short r none =
    passing_same (starts p) (any_kid p ks) xs (λ x m. alike x m) ∙ any-joined p xs low ks r
  where
    found : (x : List ℕ) → Among x xs → starts p x ≡ true → (o : Option Link) → find_kid (get_or x (length p) 0) ks ≡ o → any_kid p ks x ≡ true
    found x m s None f =
        let next : starts (p ++ get_or x (length p) 0 ∷ []) x ≡ true = starts_next p x s (let l = sized x m in omega arith) in
        absurd (both_ways (starts (p ++ get_or x (length p) 0 ∷ []) x) (none_passes (starts (p ++ get_or x (length p) 0 ∷ [])) xs x (none (get_or x (length p) 0) f) m) next)
    found x m s (Some l) f = any_found p (get_or x (length p) 0) ks l x f (starts_next p x s (let l = sized x m in omega arith))

    alike : (x : List ℕ) → Among x xs → starts p x ≡ any_kid p ks x
    alike x m =
        elim (starts p x) as (λ b. starts p x ≡ b → b ≡ any_kid p ks x) [
          | true ↦ λ is. sym (found x m is (find_kid (get_or x (length p) 0) ks) refl)
          | false ↦ λ is. sym (false_from_ne_true (any_kid p ks x) (λ a. both_ways (starts p x) is (any_starts p ks x a)))
        ] refl

-- ---- what is digested, child by child

pub each-kids : (n s : ℕ) (f : ℕ → List ℕ) (ks : List Kid) → s + n ≡ 256 → Rising s ks → ((b : ℕ) → s ≤ b → find_kid b ks ≡ None → f b ≡ []) → each_byte n s f ≡ flat_map (λ k. f k.byte) ks
unfolding each_byte
each-kids zero s f [] e r none = refl
each-kids zero s f (k ∷ ks) e r none = let low : s ≤ k.byte = r.0 in let high : k.byte < 256 = r.1 in absurd (omega arith)
each-kids (suc n) s f [] e r none = ap₂ (λ xs ys. xs ++ ys) (none s (omega arith) refl) (each-kids n (suc s) f [] (omega arith) tt (λ b l h. none b (omega arith) h))
each-kids (suc n) s f (k ∷ ks) e r none =
    elim (k.byte == s) as (λ t. (k.byte == s) ≡ t → f s ++ each_byte n (suc s) f ≡ f k.byte ++ flat_map (λ k. f k.byte) ks) [
      | true ↦ λ is.
          let same : k.byte ≡ s = eqb-true k.byte s is in
          ap₂ (λ xs ys. xs ++ ys) (ap f (sym same))
          (each-kids n (suc s) f ks (omega arith) (subst (λ m. Rising (suc m) ks) same r.2)
          (λ b l h. none b (omega arith) (ap (λ t. cond t (Some k.to) (find_kid b ks)) (ne_eqb k.byte b (λ e. omega arith)) ∙ h)))
      | false ↦ λ is.
          let low : s ≤ k.byte = r.0 in
          let other = eqb-false k.byte s is in
          let rising : Rising (suc s) (k ∷ ks) = (omega (arith, other), r.1, r.2) in
          ap₂ (λ xs ys. xs ++ ys) (none s (omega arith) (find_low s (suc s) (k ∷ ks) rising (omega arith)))
          (each-kids n (suc s) f (k ∷ ks) (omega arith) rising (λ b l h. none b (omega arith) h))
    ] refl
