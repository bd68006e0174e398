-- What is looked up of entries depends on the live ones alone, and of two lists together on both.
use Rattle.std.proofs.Common.{◌≡◌, ◌≤◌, ◌<◌, ◌+◌, ℕ, refl, sym, ap, ◌∙◌, arith, Bool, true, false, ◌&&◌, ◌||◌, if◌then◌else◌, nat_le, max, List, [], ◌∷◌, ◌++◌, Option, Some, None, leb-true, leb-false}
use Rattle.std.proofs.lemmas.Bool.{le-leb, lt-leb}
use Rattle.al_base.specs.declared.address.Address.{Address}
use Rattle.al_rows.specs.Rows.{same_bytes}
use Rattle.al_tail.specs.declared.tail.Entry.{Entry}
use Rattle.al_tail.specs.Past.{live, has_id, later, later_of, greatest_last, holds_lease, from_round, lease_until}

-- ---- the live ones alone

id_live : (round : ℕ) (id : List ℕ) (es : List Entry) → has_id round id (live round es) ≡ has_id round id es
id_live round id [] = refl
id_live round id (e ∷ es) = by_test (nat_le round e.last) refl (id_live round id es)
  where
    by_test : (b : Bool) → nat_le round e.last ≡ b → has_id round id (live round es) ≡ has_id round id es → has_id round id (if b then e ∷ live round es else live round es) ≡ (b && same_bytes e.id id || has_id round id es)
    by_test true t h = ap (λ (c : Bool). c && same_bytes e.id id || has_id round id (live round es)) t ∙ ap (λ (c : Bool). same_bytes e.id id || c) h
    by_test false t h = h

-- what is not live counts for nothing beside what is
later_live : (round n : ℕ) (o : Option ℕ) → round ≤ n → later n o ≡ later n (from_round round o)
later_live round n None l = refl
later_live round n (Some k) l = by_test (nat_le round k) refl
  where
    by_test : (b : Bool) → nat_le round k ≡ b → max n k ≡ later n (if b then Some k else None)
    by_test true t = refl
    by_test false t = let lt : k < round = leb-false round k t in omega arith

none_reached : (round n : ℕ) → n < round → from_round round (Some n) ≡ None
none_reached round n lt = ap (λ (b : Bool). if b then Some n else None) (lt-leb round n lt)

dead_last : (round n : ℕ) (o : Option ℕ) → n < round → from_round round (Some (later n o)) ≡ from_round round o
dead_last round n None lt = none_reached round n lt
dead_last round n (Some k) lt = by_test (nat_le n k) refl
  where
    by_test : (b : Bool) → nat_le n k ≡ b → from_round round (Some (max n k)) ≡ from_round round (Some k)
    by_test true t = let le : n ≤ k = leb-true n k t in let e : max n k ≡ k = omega arith in ap (λ (j : ℕ). from_round round (Some j)) e
    by_test false t =
        let less : k < n = leb-false n k t in
        let most : max n k < round = omega arith in
        let last : k < round = omega arith in
        none_reached round (max n k) most ∙ sym (none_reached round k last)

abbrev raise_if : Bool → ℕ → Option ℕ → Option ℕ
raise_if c n o = if c then Some (later n o) else o

greatest_live : (round : ℕ) (test : Entry → Bool) (es : List Entry) → from_round round (greatest_last test (live round es)) ≡ from_round round (greatest_last test es)
greatest_live round test [] = refl
greatest_live round test (e ∷ es) = by_test (nat_le round e.last) refl (test e) refl (greatest_live round test es)
  where
    by_test : (b : Bool) → nat_le round e.last ≡ b → (c : Bool) → test e ≡ c → from_round round (greatest_last test (live round es)) ≡ from_round round (greatest_last test es)
        → from_round round (greatest_last test (if b then e ∷ live round es else live round es)) ≡ from_round round (raise_if c e.last (greatest_last test es))
    by_test true t true u h =
        let le : round ≤ e.last = leb-true round e.last t in
        ap (λ (d : Bool). from_round round (raise_if d e.last (greatest_last test (live round es)))) u
        ∙ ap (λ (n : ℕ). from_round round (Some n)) (later_live round e.last (greatest_last test (live round es)) le ∙ ap (later e.last) h ∙ sym (later_live round e.last (greatest_last test es) le))
    by_test true t false u h = ap (λ (d : Bool). from_round round (raise_if d e.last (greatest_last test (live round es)))) u ∙ h
    by_test false t true u h = h ∙ sym (dead_last round e.last (greatest_last test es) (leb-false round e.last t))
    by_test false t false u h = h

live_append : (round : ℕ) (xs ys : List Entry) → live round (xs ++ ys) ≡ live round xs ++ live round ys
live_append round [] ys = refl
live_append round (e ∷ es) ys = by_test (nat_le round e.last) (live_append round es ys)
  where
    by_test : (b : Bool) → live round (es ++ ys) ≡ live round es ++ live round ys → (if b then e ∷ live round (es ++ ys) else live round (es ++ ys)) ≡ (if b then e ∷ live round es else live round es) ++ live round ys
    by_test true h = ap (λ (xs : List Entry). e ∷ xs) h
    by_test false h = h

-- ---- lists with the same live ones

module _ (round : ℕ) (p q : List Entry) (alive : live round p ≡ live round q) where
  pub ids_agree : (id : List ℕ) → has_id round id p ≡ has_id round id q
  ids_agree id = sym (id_live round id p) ∙ ap (has_id round id) alive ∙ id_live round id q

  pub leases_agree : (sender : Address) (lease : List ℕ) → lease_until round sender lease p ≡ lease_until round sender lease q
  leases_agree sender lease =
      let test = holds_lease sender lease in
      sym (greatest_live round test p) ∙ ap (λ (es : List Entry). from_round round (greatest_last test es)) alive ∙ greatest_live round test q

  pub live_more : (e : Entry) → live round (p ++ e ∷ []) ≡ live round (q ++ e ∷ [])
  live_more e = live_append round p (e ∷ []) ∙ ap (λ (es : List Entry). es ++ live round (e ∷ [])) alive ∙ sym (live_append round q (e ∷ []))

-- ---- two lists together

or_assoc : (a b c : Bool) → (a || (b || c)) ≡ ((a || b) || c)
or_assoc true b c = refl
or_assoc false b c = refl

pub id_both : (round : ℕ) (id : List ℕ) (xs ys : List Entry) → has_id round id (xs ++ ys) ≡ (has_id round id xs || has_id round id ys)
id_both round id [] ys = refl
id_both round id (e ∷ es) ys = ap (λ (b : Bool). nat_le round e.last && same_bytes e.id id || b) (id_both round id es ys) ∙ or_assoc (nat_le round e.last && same_bytes e.id id) (has_id round id es) (has_id round id ys)

later_both : (n : ℕ) (o p : Option ℕ) → later n (later_of o p) ≡ later (later n o) p
later_both n None p = refl
later_both n (Some k) None = refl
later_both n (Some k) (Some j) = omega arith

greatest_both : (test : Entry → Bool) (xs ys : List Entry) → greatest_last test (xs ++ ys) ≡ later_of (greatest_last test xs) (greatest_last test ys)
greatest_both test [] ys = refl
greatest_both test (e ∷ es) ys = by_test (test e) (greatest_both test es ys)
  where
    by_test : (b : Bool) → greatest_last test (es ++ ys) ≡ later_of (greatest_last test es) (greatest_last test ys)
        → (if b then Some (later e.last (greatest_last test (es ++ ys))) else greatest_last test (es ++ ys)) ≡ later_of (if b then Some (later e.last (greatest_last test es)) else greatest_last test es) (greatest_last test ys)
    by_test true h = ap (λ (o : Option ℕ). Some (later e.last o)) h ∙ ap (λ (n : ℕ). Some n) (later_both e.last (greatest_last test es) (greatest_last test ys))
    by_test false h = h

reached_both : (round : ℕ) (o p : Option ℕ) → from_round round (later_of o p) ≡ later_of (from_round round o) (from_round round p)
reached_both round None p = refl
reached_both round (Some k) None = by_test (nat_le round k)
  where
    by_test : (b : Bool) → (if b then Some k else None) ≡ later_of (if b then Some k else None) None
    by_test true = refl
    by_test false = refl
reached_both round (Some k) (Some j) = by_test (nat_le round k) refl (nat_le round j) refl
  where
    some_reached : (n : ℕ) → round ≤ n → from_round round (Some n) ≡ Some n
    some_reached n le = ap (λ (b : Bool). if b then Some n else None) (le-leb round n le)

    by_test : (b : Bool) → nat_le round k ≡ b → (c : Bool) → nat_le round j ≡ c → from_round round (Some (max k j)) ≡ later_of (if b then Some k else None) (if c then Some j else None)
    by_test true t true u =
        let le : round ≤ k = leb-true round k t in
        let more : round ≤ max k j = omega arith in
        some_reached (max k j) more
    by_test true t false u =
        let le : round ≤ k = leb-true round k t in
        let lt : j < round = leb-false round j u in
        let e : max k j ≡ k = omega arith in
        ap (λ (n : ℕ). from_round round (Some n)) e ∙ some_reached k le
    by_test false t true u =
        let lt : k < round = leb-false round k t in
        let le : round ≤ j = leb-true round j u in
        let e : max k j ≡ j = omega arith in
        ap (λ (n : ℕ). from_round round (Some n)) e ∙ some_reached j le
    by_test false t false u =
        let one : k < round = leb-false round k t in
        let two : j < round = leb-false round j u in
        let most : max k j < round = omega arith in
        none_reached round (max k j) most

pub lease_both : (round : ℕ) (sender : Address) (lease : List ℕ) (xs ys : List Entry) → lease_until round sender lease (xs ++ ys) ≡ later_of (lease_until round sender lease xs) (lease_until round sender lease ys)
lease_both round sender lease xs ys = ap (from_round round) (greatest_both (holds_lease sender lease) xs ys) ∙ reached_both round (greatest_last (holds_lease sender lease) xs) (greatest_last (holds_lease sender lease) ys)
