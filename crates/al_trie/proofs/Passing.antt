-- What goes through a path, as a list changes.
use Rattle.std.proofs.Common.{◌≡◌, ℕ, ◌<◌, inl, inr, ⊎_elim, Bool, true, false, cond, ◌||◌, List, [], ◌∷◌, ◌++◌, length, get_or, refl, sym, ap, ap₂, ◌∙◌, arith, true≢false}
use Rattle.std.proofs.lemmas.Bool.{false_from_ne_true, both_ways}
use Rattle.al_trie.specs.Root.{Through, Empty, Sole, Several, starts, with_one, passing, through}
use Rattle.al_trie.specs.Slots.{Inserted, Among, AreElements}
use Rattle.al_trie.proofs.Paths.{starts_next, starts_shorter, starts_byte}

-- ---- one element more

swap_ones : (x y : List ℕ) (t : Through) → with_one x (with_one y t) ≡ with_one y (with_one x t)
swap_ones x y Empty = refl
swap_ones x y (Sole z) = refl
swap_ones x y Several = refl

pub swap_conds : (s t : Bool) (x e : List ℕ) (p : Through) → cond s (with_one x (cond t (with_one e p) p)) (cond t (with_one e p) p) ≡ cond t (with_one e (cond s (with_one x p) p)) (cond s (with_one x p) p)
swap_conds true true x e p = swap_ones x e p
swap_conds true false x e p = refl
swap_conds false true x e p = refl
swap_conds false false x e p = refl

passing-inserted : (test : List ℕ → Bool) (e : List ℕ) (a b : List (List ℕ)) → passing test (a ++ e ∷ b) ≡ cond (test e) (with_one e (passing test (a ++ b))) (passing test (a ++ b))
passing-inserted test e [] b = refl
passing-inserted test e (x ∷ a) b =
    ap (λ t. cond (test x) (with_one x t) t) (passing-inserted test e a b)
    ∙ swap_conds (test x) (test e) x e (passing test (a ++ b))

-- what goes through a path with one element more
abbrev pub more : List ℕ → List ℕ → Through → Through
more e path t = cond (starts path e) (with_one e t) t

pub through-inserted : (e : List ℕ) (xs ys : List (List ℕ)) → Inserted e xs ys → (path : List ℕ) → through ys path ≡ more e path (through xs path)
through-inserted e xs ys (a, b, old, new) path =
    ap (λ zs. through zs path) new
    ∙ passing-inserted (starts path) e a b
    ∙ ap (λ zs. more e path (through zs path)) (sym old)

-- ---- two tests

abbrev pub joined : Through → Through → Through
joined Empty t = t
joined (Sole x) Empty = Sole x
joined (Sole x) (Sole y) = Several
joined (Sole x) Several = Several
joined Several t = Several

pub joined-assoc : (a b c : Through) → joined (joined a b) c ≡ joined a (joined b c)
joined-assoc Empty b c = refl
joined-assoc (Sole x) Empty c = refl
joined-assoc (Sole x) (Sole y) Empty = refl
joined-assoc (Sole x) (Sole y) (Sole z) = refl
joined-assoc (Sole x) (Sole y) Several = refl
joined-assoc (Sole x) Several c = refl
joined-assoc Several b c = refl

pub joined-empty : (a : Through) → joined a Empty ≡ a
joined-empty Empty = refl
joined-empty (Sole x) = refl
joined-empty Several = refl

left_one : (x : List ℕ) (p q : Through) → with_one x (joined p q) ≡ joined (with_one x p) q
left_one x Empty Empty = refl
left_one x Empty (Sole y) = refl
left_one x Empty Several = refl
left_one x (Sole y) Empty = refl
left_one x (Sole y) (Sole z) = refl
left_one x (Sole y) Several = refl
left_one x Several q = refl

right_one : (x : List ℕ) (p q : Through) → with_one x (joined p q) ≡ joined p (with_one x q)
right_one x Empty q = refl
right_one x (Sole y) Empty = refl
right_one x (Sole y) (Sole z) = refl
right_one x (Sole y) Several = refl
right_one x Several q = refl

or_one : (s t : Bool) (x : List ℕ) (p q : Through) → (s ≡ true → t ≡ false) → cond (s || t) (with_one x (joined p q)) (joined p q) ≡ joined (cond s (with_one x p) p) (cond t (with_one x q) q)
or_one true true x p q h = absurd (true≢false (h refl))
or_one true false x p q h = left_one x p q
or_one false true x p q h = right_one x p q
or_one false false x p q h = refl

pub passing-or : (P Q : List ℕ → Bool) (xs : List (List ℕ)) → ((x : List ℕ) → P x ≡ true → Q x ≡ false) → passing (λ x. P x || Q x) xs ≡ joined (passing P xs) (passing Q xs)
passing-or P Q [] apart = refl
passing-or P Q (x ∷ xs) apart =
    ap (λ t. cond (P x || Q x) (with_one x t) t) (passing-or P Q xs apart)
    ∙ or_one (P x) (Q x) x (passing P xs) (passing Q xs) (apart x)

-- ---- who passes

pub passing_same : (P Q : List ℕ → Bool) (xs : List (List ℕ)) → ((x : List ℕ) → Among x xs → P x ≡ Q x) → passing P xs ≡ passing Q xs
passing_same P Q [] h = refl
passing_same P Q (x ∷ xs) h = ap₂ (λ b t. cond b (with_one x t) t) (h x (inl refl)) (passing_same P Q xs (λ y m. h y (inr m)))

pub passing_empty : (P : List ℕ → Bool) (xs : List (List ℕ)) → ((x : List ℕ) → Among x xs → P x ≡ false) → passing P xs ≡ Empty
passing_empty P [] h = refl
passing_empty P (x ∷ xs) h = ap₂ (λ b t. cond b (with_one x t) t) (h x (inl refl)) (passing_empty P xs (λ y m. h y (inr m)))

not_empty : {A : Type 0} (x : List ℕ) (t : Through) → with_one x t ≡ Empty → A
not_empty x Empty h = cc
not_empty x (Sole y) h = cc
not_empty x Several h = cc

pub sole_parts : (x y : List ℕ) (t : Through) → with_one x t ≡ Sole y → (t ≡ Empty) × (x ≡ y)
sole_parts x y Empty h = (refl, cc)
sole_parts x y (Sole z) h = cc
sole_parts x y Several h = cc

pub none_passes : (P : List ℕ → Bool) (xs : List (List ℕ)) (x : List ℕ) → passing P xs ≡ Empty → Among x xs → P x ≡ false
none_passes P [] x e m = absurd m
none_passes P (y ∷ ys) x e m =
    elim (P y) as (λ b. P y ≡ b → cond b (with_one y (passing P ys)) (passing P ys) ≡ Empty → P x ≡ false) [
      | true ↦ λ is h. not_empty y (passing P ys) h
      | false ↦ λ is h. ⊎_elim (λ same. ap P same ∙ is) (λ l. none_passes P ys x h l) m
    ] refl e

pub one_passes : (P : List ℕ → Bool) (xs : List (List ℕ)) (x y : List ℕ) → passing P xs ≡ Sole y → Among x xs → P x ≡ true → x ≡ y
one_passes P [] x y e m p = absurd m
one_passes P (z ∷ zs) x y e m p =
    elim (P z) as (λ b. P z ≡ b → cond b (with_one z (passing P zs)) (passing P zs) ≡ Sole y → x ≡ y) [
      | true ↦ λ is h. let s = sole_parts z y (passing P zs) h in ⊎_elim (λ same. same ∙ s.1) (λ l. absurd (both_ways (P x) (none_passes P zs x s.0 l) p)) m
      | false ↦ λ is h. ⊎_elim (λ same. absurd (both_ways (P x) (ap P same ∙ is) p)) (λ l. one_passes P zs x y h l p) m
    ] refl e

pub the_one : (P : List ℕ → Bool) (xs : List (List ℕ)) (y : List ℕ) → passing P xs ≡ Sole y → (P y ≡ true) × Among y xs
the_one P [] y e = cc
the_one P (z ∷ zs) y e =
    elim (P z) as (λ b. P z ≡ b → cond b (with_one z (passing P zs)) (passing P zs) ≡ Sole y → (P y ≡ true) × Among y (z ∷ zs)) [
      | true ↦ λ is h. let s = sole_parts z y (passing P zs) h in (ap P (sym s.1) ∙ is, inl (sym s.1))
      | false ↦ λ is h. let r = the_one P zs y h in (r.0, inr r.1)
    ] refl e

-- ---- through a longer path

module _ (xs : List (List ℕ)) (sized : AreElements xs) where
  pub through_empty_next : (p : List ℕ) (b : ℕ) → through xs p ≡ Empty → through xs (p ++ b ∷ []) ≡ Empty
  through_empty_next p b e =
      passing_empty (starts (p ++ b ∷ [])) xs (λ x m. false_from_ne_true (starts (p ++ b ∷ []) x) (λ h. both_ways (starts p x) (none_passes (starts p) xs x e m) (starts_shorter p b x h)))

  pub through_sole_next : (p y : List ℕ) → through xs p ≡ Sole y → length p < 36 → through xs (p ++ get_or y (length p) 0 ∷ []) ≡ Sole y
  through_sole_next p y e short = sym (passing_same (starts p) (starts (p ++ get_or y (length p) 0 ∷ [])) xs (λ x m. alike x m)) ∙ e
    where
      q : List ℕ
      q = p ++ get_or y (length p) 0 ∷ []

      alike : (x : List ℕ) → Among x xs → starts p x ≡ starts (p ++ get_or y (length p) 0 ∷ []) x
      alike x m =
          elim (starts p x) as (λ b. starts p x ≡ b → b ≡ starts (p ++ get_or y (length p) 0 ∷ []) x) [
            | true ↦ λ is. sym (
                let same : x ≡ y = one_passes (starts p) xs x y e m is in
                let next : starts (p ++ get_or x (length p) 0 ∷ []) x ≡ true = starts_next p x is (let l = sized x m in omega arith) in
                ap (λ z. starts (p ++ get_or z (length p) 0 ∷ []) x) (sym same) ∙ next)
            | false ↦ λ is. sym (false_from_ne_true (starts (p ++ get_or y (length p) 0 ∷ []) x) (λ h. both_ways (starts p x) is (starts_shorter p (get_or y (length p) 0) x h)))
          ] refl

  pub through_sole_other : (p y : List ℕ) (b : ℕ) → through xs p ≡ Sole y → (get_or y (length p) 0 ≡ b → ⊥) → through xs (p ++ b ∷ []) ≡ Empty
  through_sole_other p y b e other =
      passing_empty (starts (p ++ b ∷ [])) xs (λ x m. false_from_ne_true (starts (p ++ b ∷ []) x) (λ h.
      let same : x ≡ y = one_passes (starts p) xs x y e m (starts_shorter p b x h) in
      other (ap (λ z. get_or z (length p) 0) (sym same) ∙ starts_byte p b x h)))
