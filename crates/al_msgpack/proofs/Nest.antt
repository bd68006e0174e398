-- Values in a row, and entries whose keys rise.
use Rattle.std.proofs.Common.{◌≡◌, ℕ, zero, suc, ◌+◌, ◌-◌, ◌*◌, ◌/◌, ◌%◌, ◌^◌, ◌<◌, ◌≤◌, List, [], ◌∷◌, ◌++◌, length, Option, Some, None, refl, sym, ap, subst, ◌∙◌, arith, length-append, inl, inr, div-lt_iff_lt-mul, div-add-mod', mod-lt, mul-le-mul_right, suc-mul}
use Rattle.std.proofs.lemmas.Bool.{cases_lt, cases_order}
use Rattle.al_msgpack.specs.declared.val.Val.{Val}
use Rattle.al_msgpack.specs.declared.val.Entry.{Entry}
use Rattle.al_msgpack.specs.Reading.{Read, then_at, mapped, all_by, entries_by, entry, lead, floor_of, key_at}
use Rattle.al_msgpack.specs.Grammar.{Spelling, AreBytes, Above, digits}
use Rattle.al_msgpack.specs.Spelling as spell
use Rattle.al_msgpack.specs.Spelling.{Near, Far, Counted, StringHead, Rises, AllSpelled, EntriesSpelled}
use Rattle.al_msgpack.proofs.Exact.{Takes, Exact, Then, then_takes, then_exact, takes_from, exact_as, PureOf, pure_at, pure_takes, pure_exact, Mapped, mapped_takes, mapped_exact}
use Rattle.al_msgpack.proofs.Numbers.{Any, pow256_pos, pow-suc256}
use Rattle.al_msgpack.proofs.Keys.{AreBytes-append, Low, lead-le, next_is}
use Rattle.al_msgpack.proofs.Heads.{Str_headed}
use Rattle.al_msgpack.proofs.Sizes.{KeyOf, key_takes, key_exact, limit, AreBytesOf}

-- ---- values in a row

abbrev pub AllOf : Spelling Val → ℕ → Spelling (List Val)
AllOf S n vs b = (length vs ≡ n) × AllSpelled S vs b

abbrev MoreOf : Spelling Val → ℕ → Spelling (List Val)
MoreOf S n = Then S (λ v. Mapped (λ vs. v ∷ vs) (AllOf S n))

all_split : (S : Spelling Val) (n : ℕ) (vs : List Val) (b : List ℕ) → AllOf S (suc n) vs b → MoreOf S n vs b
all_split S n [] b (len, p) = absurd (omega arith)
all_split S n (v ∷ vs) b (len, (a, c, e, p, rest)) = (v, a, c, e, p, (vs, refl, (omega arith, rest)))

all_join : (S : Spelling Val) (n : ℕ) (vs : List Val) (b : List ℕ) → MoreOf S n vs b → AllOf S (suc n) vs b
all_join S n vs b (v, a, c, e, p, (ws, is, (len, rest))) = subst (λ z. AllOf S (suc n) z b) (sym is) (ap suc len, (a, c, e, p, rest))

none_split : (S : Spelling Val) (vs : List Val) (b : List ℕ) → AllOf S 0 vs b → PureOf [] vs b
none_split S [] b (len, p) = (refl, p)
none_split S (v ∷ vs) b (len, p) = absurd (omega arith)

none_join : (S : Spelling Val) (vs : List Val) (b : List ℕ) → PureOf [] vs b → AllOf S 0 vs b
none_join S vs b (is, p) = subst (λ z. AllOf S 0 z b) (sym is) (refl, p)

-- a reader of one value, and that there is one
pub record Inner (S : Spelling Val) (one : List ℕ → Read Val) : Type 0 where
  pub exact : (n : ℕ) → n ≤ limit → Exact n S Any one
  pub some : Val
  pub some_bytes : List ℕ
  pub some_is : S some some_bytes

module _ (S : Spelling Val) (one : List ℕ → Read Val) (takes : Takes S one) where
  pub all_takes : (n : ℕ) → Takes (AllOf S n) (all_by one n)
  all_takes zero = takes_from (PureOf []) (AllOf S 0) (pure_at []) (all_by one 0) (none_split S) (λ bytes. refl) (pure_takes [])
  all_takes (suc n) =
      takes_from (MoreOf S n) (AllOf S (suc n)) (then_at one (λ v rest. mapped (λ vs. v ∷ vs) (all_by one n rest))) (all_by one (suc n)) (all_split S n) (λ bytes. refl)
      (then_takes S (λ v. Mapped (λ vs. v ∷ vs) (AllOf S n)) one (λ v rest. mapped (λ vs. v ∷ vs) (all_by one n rest)) takes
      (λ v a p. mapped_takes (λ vs. v ∷ vs) (AllOf S n) (all_by one n) (all_takes n)))

  module _ (inner : Inner S one) where
    pub all_live : (n : ℕ) → (vs : List Val) × (b : List ℕ) × AllOf S n vs b
    all_live zero = ([], [], (refl, refl))
    all_live (suc n) = let r = all_live n in (inner.some ∷ r.0, inner.some_bytes ++ r.1, (ap suc r.2.0, (inner.some_bytes, r.1, refl, inner.some_is, r.2.1)))

    pub all_exact : (count n : ℕ) → n ≤ limit → Exact n (AllOf S count) Any (all_by one count)
    all_exact zero n le = exact_as (PureOf []) (AllOf S 0) (none_join S) (none_split S) (pure_at []) (all_by one 0) (λ bytes. refl) n Any Any (λ v q. tt) (pure_exact n [] Any tt)
    all_exact (suc count) n le =
        exact_as (MoreOf S count) (AllOf S (suc count)) (all_join S count) (all_split S count) (then_at one (λ v rest. mapped (λ vs. v ∷ vs) (all_by one count rest))) (all_by one (suc count)) (λ bytes. refl) n Any Any (λ v q. tt)
        (then_exact S (λ v. Mapped (λ vs. v ∷ vs) (AllOf S count)) one (λ v rest. mapped (λ vs. v ∷ vs) (all_by one count rest)) n Any Any takes (inner.exact n le)
        (λ v a p h. mapped_exact (λ vs. v ∷ vs) (AllOf S count) (all_by one count) (n - length a) Any Any (λ w q. tt) (all_exact count (n - length a) (omega arith)))
        (λ v a p q. let r = all_live count in (v ∷ r.0, r.1, (r.0, refl, r.2), tt)))

-- ---- keys that rise

digits_length : (k n : ℕ) → length (digits k n) ≡ k
digits_length zero n = refl
digits_length (suc k) n = ap suc (digits_length k (n % 256 ^ k))

digits_bytes : (k n : ℕ) → n < 256 ^ k → AreBytes (digits k n)
digits_bytes zero n lt = tt
digits_bytes (suc k) n lt = ((div-lt_iff_lt-mul (pow256_pos k)).1 (omega (arith, pow-suc256 k)), digits_bytes k (n % 256 ^ k) (mod-lt n (pow256_pos k)))

digits_up : (k i j : ℕ) → i < j → j < 256 ^ k → Above (digits k i) (digits k j)
digits_up zero i j lt fits = absurd (omega arith)
digits_up (suc k) i j lt fits =
    let p = 256 ^ k in
    let pos = pow256_pos k in
    let ei = div-add-mod' i p in
    let ej = div-add-mod' j p in
    let ri : i % p < p = mod-lt i pos in
    let rj : j % p < p = mod-lt j pos in
    elim (cases_order (i / p) (j / p)) [
      | inl e ↦
          let q : i / p * p ≡ j / p * p = ap (λ z. z * p) e in
          inr (e, digits_up k (i % p) (j % p) (omega arith) rj)
      | inr (inl h) ↦ inl h
      | inr (inr h) ↦
          let q : suc (j / p) * p ≤ i / p * p = mul-le-mul_right p h in
          absurd (omega (arith, suc-mul (j / p) p))
    ]

above_more : (before s t : List ℕ) → Above before s → Above before (s ++ t)
above_more before [] t h = absurd h
above_more [] (y ∷ s) t h = tt
above_more (x ∷ before) (y ∷ s) t (inl lt) = inl lt
above_more (x ∷ before) (y ∷ s) t (inr p) = inr (p.0, above_more before s t p.1)

above_under : (q a b : List ℕ) → Above a b → Above (q ++ a) (q ++ b)
above_under [] a b h = h
above_under (x ∷ q) a b h = inr (refl, above_under q a b h)

head_some : (n : ℕ) → n < 2 ^ 32 → (h : List ℕ) × StringHead n h
head_some n lt = elim (cases_lt n 32) [
  | inl a ↦ ((0xa0 + n) ∷ [], spell.str_0 (record { below = a; is = refl }))
  | inr a ↦ elim (cases_lt n 0x100) [
    | inl b ↦ (0xd9 ∷ digits 1 n, spell.str_1 (record { shortest = a; fits = b; is = refl }))
    | inr b ↦ elim (cases_lt n 0x10000) [
      | inl c ↦ (0xda ∷ digits 2 n, spell.str_2 (record { shortest = b; fits = c; is = refl }))
      | inr c ↦ (0xdb ∷ digits 4 n, spell.str_4 (record { shortest = c; fits = lt; is = refl }))
    ]
  ]
]

-- ---- entries

abbrev pub EntriesOf : Spelling Val → Option (List ℕ) → ℕ → Spelling (List Entry)
EntriesOf S before n es b = (length es ≡ n) × EntriesSpelled S before es b

abbrev RestOf : Spelling Val → ℕ → List ℕ → Spelling (List Entry)
RestOf S n key = Then S (λ v. Mapped (λ es. entry key v ∷ es) (EntriesOf S (Some key) n))

abbrev rest_by : (List ℕ → Read Val) → ℕ → List ℕ → List ℕ → Read (List Entry)
rest_by one n key = then_at one (λ v rest. mapped (λ es. entry key v ∷ es) (entries_by one (Some key) n rest))

abbrev NextOf : Spelling Val → Option (List ℕ) → ℕ → Spelling (List Entry)
NextOf S before n = Then (KeyOf before) (RestOf S n)

entries_split : (S : Spelling Val) (before : Option (List ℕ)) (n : ℕ) (es : List Entry) (b : List ℕ) → EntriesOf S before (suc n) es b → NextOf S before n es b
entries_split S before n [] b (len, p) = absurd (omega arith)
entries_split S before n (e ∷ es) b (len, (k, a, c, is, up, key, val, rest)) =
    (e.key, k, a ++ c, is, (key, up), (e.val, a, c, refl, val, (es, refl, (omega arith, rest))))

entries_join : (S : Spelling Val) (before : Option (List ℕ)) (n : ℕ) (es : List Entry) (b : List ℕ) → NextOf S before n es b → EntriesOf S before (suc n) es b
entries_join S before n es b (key, k, x, is, (counted, up), (v, a, c, x-is, val, (fs, e, (len, rest)))) =
    subst (λ z. EntriesOf S before (suc n) z b) (sym e) (ap suc len, (k, a, c, is ∙ ap (λ z. k ++ z) x-is, up, counted, val, rest))

no_split : (S : Spelling Val) (before : Option (List ℕ)) (es : List Entry) (b : List ℕ) → EntriesOf S before 0 es b → PureOf [] es b
no_split S before [] b (len, p) = (refl, p)
no_split S before (e ∷ es) b (len, p) = absurd (omega arith)

no_join : (S : Spelling Val) (before : Option (List ℕ)) (es : List Entry) (b : List ℕ) → PureOf [] es b → EntriesOf S before 0 es b
no_join S before es b (is, p) = subst (λ z. EntriesOf S before 0 z b) (sym is) (refl, p)

key_short : (before : Option (List ℕ)) (k b : List ℕ) → KeyOf before k b → suc (lead k) ≤ length b
key_short before k b (p, up) =
    let h = Str_headed (length k) p.head p.counts in
    omega (arith, lead-le k, ap length p.is, length-append p.head k, ap length h.is)

module _ (S : Spelling Val) (one : List ℕ → Read Val) (takes : Takes S one) where
  pub entries_take : (n : ℕ) (before : Option (List ℕ)) → Takes (EntriesOf S before n) (entries_by one before n)
  entries_take zero before = takes_from (PureOf []) (EntriesOf S before 0) (pure_at []) (entries_by one before 0) (no_split S before) (λ bytes. refl) (pure_takes [])
  entries_take (suc n) before =
      takes_from (NextOf S before n) (EntriesOf S before (suc n)) (then_at (key_at before) (rest_by one n)) (entries_by one before (suc n)) (entries_split S before n) (λ bytes. refl)
      (then_takes (KeyOf before) (RestOf S n) (key_at before) (rest_by one n) (key_takes before)
      (λ key a p. then_takes S (λ v. Mapped (λ es. entry key v ∷ es) (EntriesOf S (Some key) n)) one (λ v rest. mapped (λ es. entry key v ∷ es) (entries_by one (Some key) n rest)) takes
      (λ v x q. mapped_takes (λ es. entry key v ∷ es) (EntriesOf S (Some key) n) (entries_by one (Some key) n) (entries_take n (Some key)))))

  module _ (inner : Inner S one) where
    -- keys with one front and rising ends
    chain : (q : List ℕ) → AreBytes q → length q + 4 < 2 ^ 32 → (count i : ℕ) → i + count < 2 ^ 32 → (before : Option (List ℕ)) → Rises before (q ++ digits 4 i) → (es : List Entry) × (b : List ℕ) × EntriesOf S before count es b
    chain q fits short zero i room before up = ([], [], (refl, refl))
    chain q fits short (suc count) i room before up =
        let key = q ++ digits 4 i in
        let low : i < 256 ^ 4 = omega arith in
        let head = head_some (length key) (omega (arith, length-append q (digits 4 i), digits_length 4 i)) in
        let spelled : Counted StringHead key (head.0 ++ key) = record { bytes = AreBytes-append q (digits 4 i) fits (digits_bytes 4 i low); head = head.0; counts = head.1; is = refl } in
        let rest = chain q fits short count (suc i) (omega arith) (Some key) (above_under q (digits 4 i) (digits 4 (suc i)) (digits_up 4 i (suc i) (omega arith) (omega arith))) in
        (entry key inner.some ∷ rest.0, (head.0 ++ key) ++ (inner.some_bytes ++ rest.1), (ap suc rest.2.0, (head.0 ++ key, inner.some_bytes, rest.1, refl, up, spelled, inner.some_is, rest.2.1)))

    pub entries_live : (before : Option (List ℕ)) → AreBytesOf before → (low : floor_of before ≤ suc limit) → (count : ℕ) → count < 2 ^ 32 → (es : List Entry) × (b : List ℕ) × EntriesOf S before count es b
    entries_live None fits low count lt = chain [] tt (omega arith) count 0 (omega arith) None tt
    entries_live (Some before) fits low count lt =
        let s = next_is before (suc (lead before)) fits (omega arith) in
        chain s.0 s.1.2 (omega (arith, s.1.1)) count 0 (omega arith) (Some before) (above_more before s.0 (digits 4 0) s.1.3)

    pub entries_exact : (count : ℕ) → count < 2 ^ 32 → (before : Option (List ℕ)) → AreBytesOf before → floor_of before ≤ limit → (n : ℕ) → n ≤ limit → Exact n (EntriesOf S before count) Any (entries_by one before count)
    entries_exact zero room before fits low n le = exact_as (PureOf []) (EntriesOf S before 0) (no_join S before) (no_split S before) (pure_at []) (entries_by one before 0) (λ bytes. refl) n Any Any (λ v q. tt) (pure_exact n [] Any tt)
    entries_exact (suc count) room before fits low n le =
        exact_as (NextOf S before count) (EntriesOf S before (suc count)) (entries_join S before count) (entries_split S before count) (then_at (key_at before) (rest_by one count)) (entries_by one before (suc count)) (λ bytes. refl) n Any Any (λ v q. tt)
        (then_exact (KeyOf before) (RestOf S count) (key_at before) (rest_by one count) n (Low limit) Any (key_takes before) (key_exact before fits low n le)
        (λ key a p h.
        then_exact S (λ v. Mapped (λ es. entry key v ∷ es) (EntriesOf S (Some key) count)) one (λ v rest. mapped (λ es. entry key v ∷ es) (entries_by one (Some key) count rest)) (n - length a) Any Any takes (inner.exact (n - length a) (omega arith))
        (λ v x q g. mapped_exact (λ es. entry key v ∷ es) (EntriesOf S (Some key) count) (entries_by one (Some key) count) (n - length a - length x) Any Any (λ w r. tt)
        (entries_exact count (omega arith) (Some key) p.0.bytes (omega (arith, key_short before key a p)) (n - length a - length x) (omega arith)))
        (λ v x q g. let r = entries_live (Some key) p.0.bytes (omega (arith, key_short before key a p)) count (omega arith) in (entry key v ∷ r.0, r.1, (r.0, refl, r.2), tt)))
        (λ key a p q.
        let r = entries_live (Some key) p.0.bytes (omega arith) count (omega arith) in
        (entry key inner.some ∷ r.0, inner.some_bytes ++ r.1, (inner.some, inner.some_bytes, r.1, refl, inner.some_is, (r.0, refl, r.2)), tt)))
