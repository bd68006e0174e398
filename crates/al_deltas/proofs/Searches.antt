-- A key among changes that rise by their keys.
use Rattle.std.proofs.Common.{◌≡◌, ◌∙◌, ℕ, zero, suc, refl, sym, ap, subst, List, [], ◌∷◌, ◌++◌, map, take, drop, Option, Some, None, true, false, cond, is_eq, is_lt, Ordering, Less, Greater, Equal}
use Rattle.std.specs.Ordering.{ordering_reverse}
use Rattle.std.specs.Cmp.{IsTotalOrder}
use Rattle.std.specs.List.{AllByRecursion}
use Rattle.std.specs.List.Sorted.{IsStrictlySortedBy}
use Rattle.std.specs.BTreeMap.{is_at}
use Rattle.std.specs.Map.{lookup}
use Rattle.al_base.specs.Keys.{key_cmp}
use Rattle.al_rows.specs.declared.change.Change.{Change}

pub equal : (r : Ordering) → is_eq r ≡ true → r ≡ Equal
equal Less p = cc
equal Equal p = refl
equal Greater p = cc

less : (r : Ordering) → is_lt r ≡ true → r ≡ Less
less Less p = refl
less Equal p = cc
less Greater p = cc

greater : (r : Ordering) → is_eq r ≡ false → is_lt r ≡ false → r ≡ Greater
greater Less p q = cc
greater Equal p q = cc
greater Greater p q = refl

-- the keys of changes of rows rise
abbrev pub Rise : List Change → Type 0
Rise cs = IsStrictlySortedBy key_cmp (map (λ c. c.key) cs)

-- ---- a list with its middle

parts : {A : Type 0} (n : ℕ) (xs : List A) → take n xs ++ drop n xs ≡ xs
parts zero xs = refl
parts (suc n) [] = refl
parts (suc n) (x ∷ xs) = ap (λ ys. x ∷ ys) (parts n xs)

halves : {A : Type 0} (n : ℕ) (xs back : List A) (m : A) (above : List A) → back ≡ drop n xs → back ≡ m ∷ above → take n xs ++ m ∷ above ≡ xs
halves n xs back m above is split = ap (λ ys. take n xs ++ ys) (sym split ∙ is) ∙ parts n xs

-- ---- changes, each of a value under a key

module _ {C K X : Type 0} {cmp : K → K → Ordering} (total : IsTotalOrder cmp) (key : C → K) (value : C → X) where
  abbrev pub AreRising : List C → Type 0
  AreRising cs = IsStrictlySortedBy cmp (map key cs)

  -- the value of the first change of a key
  abbrev pub found : K → List C → Option X
  found q cs = lookup (is_at (cmp q)) (map (λ c. (key c, value c)) cs)

  -- all of them are above a key
  abbrev AreAbove : K → List C → Type 0
  AreAbove k cs = AllByRecursion (λ y. cmp k y ≡ Less) (map key cs)

  middle_above : (k : K) (lower : List C) (m : C) (upper : List C) → AreAbove k (lower ++ m ∷ upper) → cmp k (key m) ≡ Less
  middle_above k [] m upper h = h.0
  middle_above k (x ∷ lower) m upper h = middle_above k lower m upper h.1

  front_above : (k : K) (lower more : List C) → AreAbove k (lower ++ more) → AreAbove k lower
  front_above k [] more h = tt
  front_above k (x ∷ lower) more h = (h.0, front_above k lower more h.1)

  front_rises : (lower more : List C) → AreRising (lower ++ more) → AreRising lower
  unfolding IsStrictlySortedBy
  front_rises [] more h = tt
  front_rises (x ∷ lower) more h = (front_above (key x) lower more h.0, front_rises lower more h.1)

  back_rises : (lower : List C) (m : C) (upper : List C) → AreRising (lower ++ m ∷ upper) → AreRising upper
  unfolding IsStrictlySortedBy
  back_rises [] m upper h = h.1
  back_rises (x ∷ lower) m upper h = back_rises lower m upper h.1

  above_all : (q k : K) (cs : List C) → cmp q k ≡ Less → AreAbove k cs → found q cs ≡ None
  above_all q k [] l h = refl
  above_all q k (c ∷ cs) l h = ap (λ r. cond (is_eq r) (Some (value c)) (found q cs)) (total.trans q k (key c) l h.0) ∙ above_all q k cs l h.1

  -- below the middle one it can only be among the lower ones
  in_lower : (q : K) (lower : List C) (m : C) (upper : List C) → cmp q (key m) ≡ Less → AreRising (lower ++ m ∷ upper) → found q (lower ++ m ∷ upper) ≡ found q lower
  unfolding IsStrictlySortedBy
  in_lower q [] m upper l h = ap (λ r. cond (is_eq r) (Some (value m)) (found q upper)) l ∙ above_all q (key m) upper l h.0
  in_lower q (x ∷ lower) m upper l h = ap (cond (is_at (cmp q) (key x)) (Some (value x))) (in_lower q lower m upper l h.1)

  -- else none of the lower ones is it
  skip_lower : (q : K) (lower : List C) (m : C) (upper : List C) → ((k : K) → cmp k (key m) ≡ Less → is_at (cmp q) k ≡ false) → AreRising (lower ++ m ∷ upper) → found q (lower ++ m ∷ upper) ≡ found q (m ∷ upper)
  unfolding IsStrictlySortedBy
  skip_lower q [] m upper off h = refl
  skip_lower q (x ∷ lower) m upper off h = ap (λ b. cond b (Some (value x)) (found q (lower ++ m ∷ upper))) (off (key x) (middle_above (key x) lower m upper h.0)) ∙ skip_lower q lower m upper off h.1

  at_middle : (q : K) (lower : List C) (m : C) (upper : List C) → cmp q (key m) ≡ Equal → AreRising (lower ++ m ∷ upper) → found q (lower ++ m ∷ upper) ≡ Some (value m)
  at_middle q lower m upper e h =
      skip_lower q lower m upper (λ k l. ap is_eq (total.congr q (key m) k e ∙ total.antisymm (key m) k ∙ ap ordering_reverse l)) h
      ∙ ap (λ r. cond (is_eq r) (Some (value m)) (found q upper)) e

  in_upper : (q : K) (lower : List C) (m : C) (upper : List C) → cmp q (key m) ≡ Greater → AreRising (lower ++ m ∷ upper) → found q (lower ++ m ∷ upper) ≡ found q upper
  in_upper q lower m upper g h =
      skip_lower q lower m upper (λ k l. ap is_eq (total.antisymm q k ∙ ap ordering_reverse (total.trans k (key m) q l (total.antisymm (key m) q ∙ ap ordering_reverse g)))) h
      ∙ ap (λ r. cond (is_eq r) (Some (value m)) (found q upper)) g

  module _ (q : K) (n : ℕ) (left back : List C) (m : C) (above : List C) (is : back ≡ drop n left) (split : back ≡ m ∷ above) (rise : AreRising left) where
    whole : take n left ++ m ∷ above ≡ left
    whole = halves n left back m above is split

    pub search_here : is_eq (cmp q (key m)) ≡ true → Some (value m) ≡ found q left
    search_here e = sym (at_middle q (take n left) m above (equal (cmp q (key m)) e) (subst AreRising (sym whole) rise)) ∙ ap (found q) whole

    pub search_lower : is_lt (cmp q (key m)) ≡ true → AreRising (take n left) × (found q (take n left) ≡ found q left)
    search_lower e = (front_rises (take n left) (m ∷ above) (subst AreRising (sym whole) rise), sym (in_lower q (take n left) m above (less (cmp q (key m)) e) (subst AreRising (sym whole) rise)) ∙ ap (found q) whole)

    pub search_upper : is_eq (cmp q (key m)) ≡ false → is_lt (cmp q (key m)) ≡ false → AreRising above × (found q above ≡ found q left)
    search_upper e l = (back_rises (take n left) m above (subst AreRising (sym whole) rise), sym (in_upper q (take n left) m above (greater (cmp q (key m)) e l) (subst AreRising (sym whole) rise)) ∙ ap (found q) whole)
