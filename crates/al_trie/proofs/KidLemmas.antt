-- A list of children in rising order: what is found in it, and what an edit leaves.
use Rattle.std.proofs.Common.{◌≡◌, ℕ, zero, suc, ◌+◌, ◌<◌, ◌≤◌, Bool, true, false, cond, ltb, ◌==◌, List, [], ◌∷◌, length, drop, get_or, set, insert, remove, slice_get, Option, Some, None, refl, sym, ap, ◌∙◌, subst, arith}
use Rattle.std.proofs.lemmas.Bool.{eqb-true, eqb-false, ne_eqb, ltb-true, ltb-false, lt-ltb, le-ltb}
use Rattle.std.proofs.lemmas.List.{drop_more, drop_all}
use Rattle.al_trie.specs.declared.kids.Kid.{Kid}
use Rattle.al_trie.specs.declared.kids.Link.{Link}
use Rattle.al_trie.specs.Kids.{find_kid, Rising, before}

pub find_low : (b low : ℕ) (ks : List Kid) → Rising low ks → b < low → find_kid b ks ≡ None
find_low b low [] r l = refl
find_low b low (k ∷ ks) r l =
    let above : low ≤ k.byte = r.0 in
    ap (λ t. cond t (Some k.to) (find_kid b ks)) (ne_eqb k.byte b (λ e. omega arith))
    ∙ find_low b (suc k.byte) ks r.2 (omega arith)

pub lower : (low high : ℕ) (ks : List Kid) → low ≤ high → Rising high ks → Rising low ks
lower low high [] l r = tt
lower low high (k ∷ ks) l r = let above : high ≤ k.byte = r.0 in (omega arith, r.1, r.2)

abbrev pub at_kid : ℕ → Option Kid → Option Link
at_kid b None = None
at_kid b (Some k) = cond (k.byte == b) (Some k.to) None

not_same : (a b : ℕ) → ltb a b ≡ true → (a == b) ≡ false
not_same a b is = let l : a < b = ltb-true a b is in ne_eqb a b (λ e. omega arith)

pub find_before : (b low : ℕ) (ks : List Kid) → Rising low ks → find_kid b ks ≡ at_kid b (slice_get ks (before b ks))
find_before b low [] r = refl
find_before b low (k ∷ ks) r =
    elim (ltb k.byte b) as (λ t. ltb k.byte b ≡ t → cond (k.byte == b) (Some k.to) (find_kid b ks) ≡ at_kid b (slice_get (k ∷ ks) (cond t (suc (before b ks)) zero))) [
      | true ↦ λ is. ap (λ t. cond t (Some k.to) (find_kid b ks)) (not_same k.byte b is) ∙ find_before b (suc k.byte) ks r.2
      | false ↦ λ is. let l : b ≤ k.byte = ltb-false k.byte b is in ap (λ o. cond (k.byte == b) (Some k.to) o) (find_low b (suc k.byte) ks r.2 (omega arith))
    ] refl

pub before_within : (b low : ℕ) (ks : List Kid) (l : Link) → Rising low ks → find_kid b ks ≡ Some l → before b ks < length ks
before_within b low [] l r h = cc
before_within b low (k ∷ ks) l r h =
    elim (ltb k.byte b) as (λ t. ltb k.byte b ≡ t → cond t (suc (before b ks)) zero < suc (length ks)) [
      | true ↦ λ is. let w : before b ks < length ks = before_within b (suc k.byte) ks l r.2 (ap (λ t. cond t (Some k.to) (find_kid b ks)) (sym (not_same k.byte b is)) ∙ h) in omega arith
      | false ↦ λ is. omega arith
    ] refl

pub before-le : (b : ℕ) (ks : List Kid) → before b ks ≤ length ks
before-le b [] = omega arith
before-le b (k ∷ ks) =
    let l : before b ks ≤ length ks = before-le b ks in
    elim (ltb k.byte b) as (λ t. cond t (suc (before b ks)) zero ≤ suc (length ks)) [ true ↦ omega arith | false ↦ omega arith ]

swap_conds : {A : Type 0} (s t : Bool) (x y z : A) → (s ≡ true → t ≡ true → ⊥) → cond s x (cond t y z) ≡ cond t y (cond s x z)
swap_conds true true x y z h = absurd (h refl refl)
swap_conds true false x y z h = refl
swap_conds false t x y z h = refl

apart : (a b c : ℕ) → a < b → (a == c) ≡ true → (b == c) ≡ true → ⊥
apart a b c l s t = let e = eqb-true a c s in let f = eqb-true b c t in omega arith

abbrev pub kid : ℕ → Link → Kid
kid b to = record { byte = b; to = to }

-- ---- a child more

pub find-put : (b low : ℕ) (to : Link) (ks : List Kid) (c : ℕ) → Rising low ks → find_kid b ks ≡ None → find_kid c (insert ks (before b ks) (kid b to)) ≡ cond (b == c) (Some to) (find_kid c ks)
find-put b low to [] c r h = refl
find-put b low to (k ∷ ks) c r h =
    elim (ltb k.byte b) as (λ t. ltb k.byte b ≡ t → find_kid c (insert (k ∷ ks) (cond t (suc (before b ks)) zero) (kid b to)) ≡ cond (b == c) (Some to) (cond (k.byte == c) (Some k.to) (find_kid c ks))) [
      | true ↦ λ is.
          ap (λ o. cond (k.byte == c) (Some k.to) o) (find-put b (suc k.byte) to ks c r.2 (ap (λ t. cond t (Some k.to) (find_kid b ks)) (sym (not_same k.byte b is)) ∙ h))
          ∙ swap_conds (k.byte == c) (b == c) (Some k.to) (Some to) (find_kid c ks) (apart k.byte b c (ltb-true k.byte b is))
      | false ↦ λ is. refl
    ] refl

absent : (t : Bool) (l : Link) (o : Option Link) → cond t (Some l) o ≡ None → t ≡ false
absent true l o h = cc
absent false l o h = refl

pub Rising-put : (b low : ℕ) (to : Link) (ks : List Kid) → Rising low ks → find_kid b ks ≡ None → low ≤ b → b < 256 → Rising low (insert ks (before b ks) (kid b to))
Rising-put b low to [] r h l w = (l, w, tt)
Rising-put b low to (k ∷ ks) r h l w =
    elim (ltb k.byte b) as (λ t. ltb k.byte b ≡ t → Rising low (insert (k ∷ ks) (cond t (suc (before b ks)) zero) (kid b to))) [
      | true ↦ λ is.
          let less : k.byte < b = ltb-true k.byte b is in
          (r.0, r.1, Rising-put b (suc k.byte) to ks r.2 (ap (λ t. cond t (Some k.to) (find_kid b ks)) (sym (not_same k.byte b is)) ∙ h) (omega arith) w)
      | false ↦ λ is.
          let least : b ≤ k.byte = ltb-false k.byte b is in
          let other = eqb-false k.byte b (absent (k.byte == b) k.to (find_kid b ks) h) in
          (l, w, (omega (arith, other), r.1, r.2))
    ] refl

-- ---- a child that leads elsewhere

there : (t : Bool) (l m : Link) (o : Option Link) → o ≡ None → cond t (Some m) o ≡ Some l → t ≡ true
there true l m o none h = refl
there false l m o none h = cc

pub find-turn : (b low : ℕ) (to old : Link) (ks : List Kid) (c : ℕ) → Rising low ks → find_kid b ks ≡ Some old → find_kid c (set ks (before b ks) (kid b to)) ≡ cond (b == c) (Some to) (find_kid c ks)
find-turn b low to old [] c r h = cc
find-turn b low to old (k ∷ ks) c r h =
    elim (ltb k.byte b) as (λ t. ltb k.byte b ≡ t → find_kid c (set (k ∷ ks) (cond t (suc (before b ks)) zero) (kid b to)) ≡ cond (b == c) (Some to) (cond (k.byte == c) (Some k.to) (find_kid c ks))) [
      | true ↦ λ is.
          ap (λ o. cond (k.byte == c) (Some k.to) o) (find-turn b (suc k.byte) to old ks c r.2 (ap (λ t. cond t (Some k.to) (find_kid b ks)) (sym (not_same k.byte b is)) ∙ h))
          ∙ swap_conds (k.byte == c) (b == c) (Some k.to) (Some to) (find_kid c ks) (apart k.byte b c (ltb-true k.byte b is))
      | false ↦ λ is.
          let least : b ≤ k.byte = ltb-false k.byte b is in
          let same : k.byte ≡ b = eqb-true k.byte b (there (k.byte == b) old k.to (find_kid b ks) (find_low b (suc k.byte) ks r.2 (omega arith)) h) in
          twice (b == c) (k.byte == c) (Some to) (Some k.to) (find_kid c ks) (ap (λ n. n == c) same)
    ] refl
  where
    twice : {A : Type 0} (s t : Bool) (x y z : A) → t ≡ s → cond s x z ≡ cond s x (cond t y z)
    twice true t x y z e = refl
    twice false t x y z e = ap (λ u. cond u y z) (sym e)

pub Rising-turn : (b low : ℕ) (to old : Link) (ks : List Kid) → Rising low ks → find_kid b ks ≡ Some old → Rising low (set ks (before b ks) (kid b to))
Rising-turn b low to old [] r h = tt
Rising-turn b low to old (k ∷ ks) r h =
    elim (ltb k.byte b) as (λ t. ltb k.byte b ≡ t → Rising low (set (k ∷ ks) (cond t (suc (before b ks)) zero) (kid b to))) [
      | true ↦ λ is. (r.0, r.1, Rising-turn b (suc k.byte) to old ks r.2 (ap (λ t. cond t (Some k.to) (find_kid b ks)) (sym (not_same k.byte b is)) ∙ h))
      | false ↦ λ is.
          let least : b ≤ k.byte = ltb-false k.byte b is in
          let same : k.byte ≡ b = eqb-true k.byte b (there (k.byte == b) old k.to (find_kid b ks) (find_low b (suc k.byte) ks r.2 (omega arith)) h) in
          subst (λ n. (low ≤ n) × (n < 256) × Rising (suc n) ks) same r
    ] refl

-- ---- a child less

pub find-drop : (b low : ℕ) (old : Link) (ks : List Kid) (c : ℕ) → Rising low ks → find_kid b ks ≡ Some old → find_kid c (remove ks (before b ks)) ≡ cond (b == c) None (find_kid c ks)
find-drop b low old [] c r h = cc
find-drop b low old (k ∷ ks) c r h =
    elim (ltb k.byte b) as (λ t. ltb k.byte b ≡ t → find_kid c (remove (k ∷ ks) (cond t (suc (before b ks)) zero)) ≡ cond (b == c) None (cond (k.byte == c) (Some k.to) (find_kid c ks))) [
      | true ↦ λ is.
          ap (λ o. cond (k.byte == c) (Some k.to) o) (find-drop b (suc k.byte) old ks c r.2 (ap (λ t. cond t (Some k.to) (find_kid b ks)) (sym (not_same k.byte b is)) ∙ h))
          ∙ swap_conds (k.byte == c) (b == c) (Some k.to) None (find_kid c ks) (apart k.byte b c (ltb-true k.byte b is))
      | false ↦ λ is.
          let least : b ≤ k.byte = ltb-false k.byte b is in
          let same : k.byte ≡ b = eqb-true k.byte b (there (k.byte == b) old k.to (find_kid b ks) (find_low b (suc k.byte) ks r.2 (omega arith)) h) in
          gone (b == c) (k.byte == c) (Some k.to) (find_kid c ks) (ap (λ n. n == c) same) (λ s. let e = eqb-true b c s in find_low c (suc k.byte) ks r.2 (omega arith))
    ] refl
  where
    gone : (s t : Bool) (y z : Option Link) → t ≡ s → (s ≡ true → z ≡ None) → z ≡ cond s None (cond t y z)
    gone true t y z e h = h refl
    gone false t y z e h = ap (λ u. cond u y z) (sym e)

pub Rising-drop : (b low : ℕ) (ks : List Kid) → Rising low ks → Rising low (remove ks (before b ks))
Rising-drop b low [] r = tt
Rising-drop b low (k ∷ ks) r =
    elim (ltb k.byte b) as (λ t. Rising low (remove (k ∷ ks) (cond t (suc (before b ks)) zero))) [
      | true ↦ (r.0, r.1, Rising-drop b (suc k.byte) ks r.2)
      | false ↦ let above : low ≤ k.byte = r.0 in lower low (suc k.byte) ks (omega arith) r.2
    ]

-- ---- the place of a byte

pub before_more : (b : ℕ) (kids : List Kid) (k : ℕ) (kid : Kid) → k < length kids → kid ≡ get_or kids k kid → kid.byte < b → before b kids ≡ k + before b (drop k kids) → before b kids ≡ (k + 1) + before b (drop (k + 1) kids)
before_more b kids k kid l it less was =
    let step : before b (drop k kids) ≡ suc (before b (drop (k + 1) kids)) =
    ap (before b) (drop_more kids k kid l ∙ ap (λ z. z ∷ drop (k + 1) kids) (sym it))
    ∙ ap (λ t. cond t (suc (before b (drop (k + 1) kids))) zero) (lt-ltb kid.byte b less) in
    omega arith

pub before_stop : (b : ℕ) (kids : List Kid) (k : ℕ) (kid : Kid) → k < length kids → kid ≡ get_or kids k kid → b ≤ kid.byte → before b kids ≡ k + before b (drop k kids) → before b kids ≡ k
before_stop b kids k kid l it more was =
    let step : before b (drop k kids) ≡ 0 =
    ap (before b) (drop_more kids k kid l ∙ ap (λ z. z ∷ drop (k + 1) kids) (sym it))
    ∙ ap (λ t. cond t (suc (before b (drop (k + 1) kids))) zero) (le-ltb kid.byte b more) in
    omega arith

pub before_all : (b : ℕ) (kids : List Kid) (k : ℕ) → length kids ≤ k → before b kids ≡ k + before b (drop k kids) → before b kids ≡ k
before_all b kids k l was =
    let step : before b (drop k kids) ≡ 0 = ap (before b) (drop_all k kids l) in
    omega arith
