-- Any bytes, and bytes that stand above a text.
use Rattle.std.proofs.Common.{◌≡◌, ℕ, zero, suc, ◌+◌, ◌-◌, ◌<◌, ◌≤◌, Bool, true, false, cond, ltb, eqb, ◌&&◌, ◌||◌, List, [], ◌∷◌, ◌++◌, length, take, drop, replicate, Ok, Err, refl, sym, ap, subst, ◌∙◌, arith, length-append, inl, inr, take-append-drop, length-take, true≢false}
use Rattle.std.proofs.lemmas.Bool.{ltb-true, ltb-false, lt-ltb, eqb-true, eqb-false, eq-eqb, ne_eqb, or_cases, and_parts, or_left, or_right, and_from}
use Rattle.std.proofs.lemmas.List.{length-replicate}
use Rattle.al_msgpack.specs.declared.fault.Fault.TheVariants.{Short, Bad}
use Rattle.al_msgpack.specs.Reading.{Read, then_at, mapped, byte_at, raw_at, lead, rising_at}
use Rattle.al_msgpack.specs.Grammar.{Spelling, AreBytes, Above}
use Rattle.al_msgpack.proofs.Exact.{Takes, Exact, Then, then_takes, then_exact, takes_from, exact_as, Mapped, mapped_takes, mapped_exact, ByteOf, byte_takes, byte_exact, pair_is}
use Rattle.al_msgpack.proofs.Numbers.{RawOf, raw_takes, Any}

pub AreBytes-append : (a b : List ℕ) → AreBytes a → AreBytes b → AreBytes (a ++ b)
AreBytes-append [] b p q = q
AreBytes-append (x ∷ a) b p q = (p.0, AreBytes-append a b p.1 q)

pub AreBytes-front : (a b : List ℕ) → AreBytes (a ++ b) → AreBytes a
AreBytes-front [] b h = tt
AreBytes-front (x ∷ a) b h = (h.0, AreBytes-front a b h.1)

pub zeros_are : (m : ℕ) → AreBytes (replicate m 0)
zeros_are zero = tt
zeros_are (suc m) = (omega arith, zeros_are m)

pub lead_is : (t : Bool) (n : ℕ) → cond t (suc n) 0 ≤ suc n
lead_is true n = omega arith
lead_is false n = omega arith

pub lead-le : (bytes : List ℕ) → lead bytes ≤ length bytes
lead-le [] = omega arith
lead-le (b ∷ bytes) = omega (arith, lead_is (eqb b 255) (lead bytes), lead-le bytes)

cond_le : (t : Bool) (a b : ℕ) → a ≤ b → cond t (suc a) 0 ≤ suc b
cond_le true a b h = omega arith
cond_le false a b h = omega arith

lead_stops : (a c : List ℕ) → lead (a ++ 0 ∷ c) ≤ length a
lead_stops [] c = omega arith
lead_stops (x ∷ a) c = cond_le (eqb x 255) (lead (a ++ 0 ∷ c)) (length a) (lead_stops a c)

abbrev raw_by : Bool → ℕ → List ℕ → Read (List ℕ)
raw_by t m bytes = cond t (Err Short) (Ok (take m bytes, drop m bytes))

raw_ok : (t : Bool) (m : ℕ) (bytes v rest : List ℕ) → raw_by t m bytes ≡ Ok (v, rest) → (t ≡ false) × (take m bytes ≡ v) × (drop m bytes ≡ rest)
raw_ok true m bytes v rest e = absurd cc
raw_ok false m bytes v rest e = let p = pair_is (take m bytes) v (drop m bytes) rest e in (refl, p.0, p.1)

raw_short : (t : Bool) (m : ℕ) (bytes : List ℕ) → raw_by t m bytes ≡ Err Short → t ≡ true
raw_short true m bytes e = refl
raw_short false m bytes e = absurd cc

raw_bad : (t : Bool) (m : ℕ) (bytes : List ℕ) (left : ℕ) → raw_by t m bytes ≡ Err (Bad left) → ⊥
raw_bad true m bytes left e = cc
raw_bad false m bytes left e = cc

zeros_after : (m k : ℕ) (bytes : List ℕ) → length bytes < m → m ≡ length bytes + suc k → lead (bytes ++ replicate (suc k) 0) ≤ length bytes
zeros_after m k bytes h e = lead_stops bytes (replicate k 0)

pub raw_exact : (n m : ℕ) → Exact n (RawOf m) (λ s. lead s ≤ n) (raw_at m)
unfolding raw_at
raw_exact n m = record {
  found = λ bytes v rest f e.
      let p = raw_ok (ltb (length bytes) m) m bytes v rest e in
      let long : m ≤ length bytes = ltb-false _ _ p.0 in
      let parts : bytes ≡ take m bytes ++ drop m bytes = sym (take-append-drop m bytes) in
      let len : length (take m bytes) ≡ m = omega (arith, length-take m bytes) in
      (take m bytes, parts ∙ ap (λ x. take m bytes ++ x) p.2, (p.1, len, AreBytes-front (take m bytes) (drop m bytes) (subst (λ x. AreBytes x) parts f.bytes)));
  short = λ bytes f e.
      let less : length bytes < m = ltb-true _ _ (raw_short (ltb (length bytes) m) m bytes e) in
      let k = m - length bytes - 1 in
      let whole : m ≡ length bytes + suc k = omega arith in
      let zeros = replicate (suc k) 0 in
      let len : length (bytes ++ zeros) ≡ m = omega (arith, length-append bytes zeros, length-replicate {A = ℕ} (suc k) 0) in
      (bytes ++ zeros, zeros, (refl, len, AreBytes-append bytes zeros f.bytes (zeros_are (suc k))), omega (arith, zeros_after m k bytes less whole, f.short));
  bad = λ bytes left f e. absurd (raw_bad (ltb (length bytes) m) m bytes left e);
}

-- ---- bytes above a text

abbrev pub RisingOf : List ℕ → ℕ → Spelling (List ℕ)
RisingOf before m s b = (b ≡ s) × (length b ≡ m) × AreBytes b × Above before b

pub above_lead : (before s : List ℕ) → AreBytes s → Above before s → lead before < length s
above_lead [] [] fits h = absurd h
above_lead [] (y ∷ s) fits h = omega arith
above_lead (x ∷ before) [] fits h = absurd h
above_lead (x ∷ before) (y ∷ s) fits (inl lt) =
    let low : eqb x 255 ≡ false = ne_eqb x 255 (λ e. omega (arith, fits.0)) in
    rw low (omega arith)
above_lead (x ∷ before) (y ∷ s) fits (inr p) = omega (arith, lead_is (eqb x 255) (lead before), above_lead before s fits.1 p.1)

pub lead_zeros : (m : ℕ) → lead (replicate m 0) ≡ 0
lead_zeros zero = refl
lead_zeros (suc m) = refl

-- a text of m bytes above another, that has not many more 255 in front
pub next_is : (before : List ℕ) (m : ℕ) → AreBytes before → lead before < m → (s : List ℕ) × RisingOf before m s s × (lead s ≤ suc (lead before))
next_is [] zero fits h = absurd (omega arith)
next_is [] (suc m) fits h = (replicate (suc m) 0, (refl, length-replicate {A = ℕ} (suc m) 0, (omega arith, zeros_are m), tt), omega arith)
next_is (x ∷ before) zero fits h = absurd (omega arith)
next_is (x ∷ before) (suc m) fits h = by (eqb x 255) refl h (next_is before m fits.1)
  where
    by : (t : Bool) → eqb x 255 ≡ t → cond t (suc (lead before)) 0 < suc m → (lead before < m → (s : List ℕ) × RisingOf before m s s × (lead s ≤ suc (lead before))) → (s : List ℕ) × RisingOf (x ∷ before) (suc m) s s × (lead s ≤ suc (cond t (suc (lead before)) 0))
    by true e h rec =
        let p = rec (omega arith) in
        (x ∷ p.0, (refl, ap suc p.1.1, (fits.0, p.1.2), inr (refl, p.1.3)), omega (arith, lead_is (eqb x 255) (lead p.0), p.2))
    by false e h rec =
        let low : suc x < 256 = (let ne : x ≡ 255 → ⊥ = eqb-false x 255 e in omega (arith, fits.0)) in
        let one : lead (suc x ∷ replicate m 0) ≤ 1 = omega (arith, lead_is (eqb (suc x) 255) (lead (replicate m 0)), lead_zeros m) in
        (suc x ∷ replicate m 0, (refl, ap suc (length-replicate {A = ℕ} m 0), (low, zeros_are m), inl (omega arith)), one)

abbrev pub TailOf : Bool → List ℕ → ℕ → Spelling (List ℕ)
TailOf true before m s b = RisingOf before m s b
TailOf false before m s b = RawOf m s b

abbrev pub tail_at : Bool → List ℕ → ℕ → List ℕ → Read (List ℕ)
tail_at t before m bytes = cond t (rising_at before m bytes) (raw_at m bytes)

abbrev pub goes_up : ℕ → List ℕ → ℕ → ℕ → Bool
goes_up x before m b = ltb x b || (eqb b x && ltb (lead before) (m - 1))

abbrev pub PartsOf : ℕ → List ℕ → ℕ → Spelling (List ℕ)
PartsOf x before m = Then (ByteOf (goes_up x before m)) (λ y. Mapped (λ s. y ∷ s) (TailOf (eqb y x) before (m - 1)))

abbrev pub parts_at : ℕ → List ℕ → ℕ → List ℕ → Read (List ℕ)
parts_at x before m = then_at (byte_at (goes_up x before m)) (λ y rest. mapped (λ s. y ∷ s) (tail_at (eqb y x) before (m - 1) rest))

rising_split : (x : ℕ) (before : List ℕ) (m : ℕ) (s b : List ℕ) → RisingOf (x ∷ before) m s b → PartsOf x before m s b
rising_split x before m s [] (e, len, fits, up) = absurd up
rising_split x before m s (y ∷ b) (e, len, fits, inl lt) =
    let ne : eqb y x ≡ false = ne_eqb y x (λ q. omega arith) in
    let tail : TailOf (eqb y x) before (m - 1) b b = subst (λ t. TailOf t before (m - 1) b b) (sym ne) (refl, omega arith, fits.1) in
    (y, y ∷ [], b, refl, (refl, fits.0, or_left (ltb x y) _ (lt-ltb x y lt)), (b, sym e, tail))
rising_split x before m s (y ∷ b) (e, len, fits, inr (same, up)) =
    let eq : eqb y x ≡ true = eq-eqb y x (sym same) in
    let long : length b ≡ m - 1 = omega arith in
    let reach : lead before < m - 1 = omega (arith, above_lead before b fits.1 up) in
    let tail : TailOf (eqb y x) before (m - 1) b b = subst (λ t. TailOf t before (m - 1) b b) (sym eq) (refl, long, fits.1, up) in
    (y, y ∷ [], b, refl, (refl, fits.0, or_right (ltb x y) _ (and_from (eqb y x) _ eq (lt-ltb (lead before) (m - 1) reach))), (b, sym e, tail))

up_or : (x : ℕ) (before : List ℕ) (m y : ℕ) → goes_up x before m y ≡ true → eqb y x ≡ false → x < y
up_or x before m y ok ne = elim (or_cases (ltb x y) (eqb y x && ltb (lead before) (m - 1)) ok) [
  | inl p ↦ ltb-true x y p
  | inr p ↦ absurd (true≢false (sym (and_parts (eqb y x) (ltb (lead before) (m - 1)) p).0 ∙ ne))
]

up_and : (x : ℕ) (before : List ℕ) (m y : ℕ) → goes_up x before m y ≡ true → eqb y x ≡ true → lead before < m - 1
up_and x before m y ok eq = elim (or_cases (ltb x y) (eqb y x && ltb (lead before) (m - 1)) ok) [
  | inl p ↦ absurd (omega (arith, ltb-true x y p, eqb-true y x eq))
  | inr p ↦ ltb-true _ _ (and_parts (eqb y x) (ltb (lead before) (m - 1)) p).1
]

rising_join : (x : ℕ) (before : List ℕ) (m : ℕ) → 0 < m → (s b : List ℕ) → PartsOf x before m s b → RisingOf (x ∷ before) m s b
rising_join x before m pos s b (y, a, c, e, (one, small, ok), (t, s-is, p)) = by (eqb y x) refl p
  where
    whole : b ≡ y ∷ c
    whole = e ∙ ap (λ z. z ++ c) one

    by : (q : Bool) → eqb y x ≡ q → TailOf q before (m - 1) t c → RisingOf (x ∷ before) m s b
    by true eq (c-is, len, fits, up) =
        let same : x ≡ y = sym (eqb-true y x eq) in
        (whole ∙ ap (λ z. y ∷ z) c-is ∙ sym s-is, ap length whole ∙ omega arith, subst (λ z. AreBytes z) (sym whole) (small, fits), subst (λ z. Above (x ∷ before) z) (sym whole) (inr (same, up)))
    by false ne (c-is, len, fits) =
        (whole ∙ ap (λ z. y ∷ z) c-is ∙ sym s-is, ap length whole ∙ omega arith, subst (λ z. AreBytes z) (sym whole) (small, fits), subst (λ z. Above (x ∷ before) z) (sym whole) (inl (up_or x before m y ok ne)))

tail_takes : (t : Bool) (before : List ℕ) (m : ℕ) → Takes (RisingOf before m) (rising_at before m) → Takes (TailOf t before m) (tail_at t before m)
tail_takes true before m h = h
tail_takes false before m h = raw_takes m

pub rising_takes : (before : List ℕ) (m : ℕ) → Takes (RisingOf before m) (rising_at before m)
unfolding rising_at
rising_takes [] m = takes_from (RawOf m) (RisingOf [] m) (raw_at m) (rising_at [] m) (λ s b p. (p.0, p.1, p.2)) (λ bytes. refl) (raw_takes m)
rising_takes (x ∷ before) m =
    takes_from (PartsOf x before m) (RisingOf (x ∷ before) m) (parts_at x before m) (rising_at (x ∷ before) m) (rising_split x before m) (λ bytes. refl)
    (then_takes (ByteOf (goes_up x before m)) (λ y. Mapped (λ s. y ∷ s) (TailOf (eqb y x) before (m - 1))) (byte_at (goes_up x before m)) (λ y rest. mapped (λ s. y ∷ s) (tail_at (eqb y x) before (m - 1) rest))
    (byte_takes (goes_up x before m))
    (λ y a p. mapped_takes (λ s. y ∷ s) (TailOf (eqb y x) before (m - 1)) (tail_at (eqb y x) before (m - 1)) (tail_takes (eqb y x) before (m - 1) (rising_takes before (m - 1)))))

-- a text that has not too many 255 in front
abbrev pub Low : ℕ → List ℕ → Type 0
Low room s = lead s ≤ room

abbrev pub RisingExact : List ℕ → Type 0
RisingExact before = (n len room : ℕ) → lead before < len → n ≤ room → suc (lead before) ≤ room → Exact n (RisingOf before len) (Low room) (rising_at before len)

module _ (x : ℕ) (before : List ℕ) (rec : RisingExact before) (n len room : ℕ) (fits : AreBytes (x ∷ before)) (reach : lead (x ∷ before) < len) (short : n ≤ room) (low : suc (lead (x ∷ before)) ≤ room) where
  some_byte : (v : ℕ) × (v < 256) × (goes_up x before len v ≡ true)
  some_byte = by (eqb x 255) refl reach
    where
      by : (t : Bool) → eqb x 255 ≡ t → cond t (suc (lead before)) 0 < len → (v : ℕ) × (v < 256) × (goes_up x before len v ≡ true)
      by true e h = (x, fits.0, or_right (ltb x x) _ (and_from (eqb x x) _ (eq-eqb x x refl) (lt-ltb _ _ (omega arith))))
      by false e h = (suc x, (let ne : x ≡ 255 → ⊥ = eqb-false x 255 e in omega (arith, fits.0)), or_left (ltb x (suc x)) _ (lt-ltb _ _ (omega arith)))

  same_byte : (y n' : ℕ) → suc n' ≤ n → eqb y x ≡ true → lead before < len - 1 → Exact n' (Mapped (λ s. y ∷ s) (RisingOf before (len - 1))) (Low room) (λ rest. mapped (λ s. y ∷ s) (rising_at before (len - 1) rest))
  same_byte y n' le eq h = by (eqb y 255) refl
    where
      x-is : (t : Bool) → eqb y 255 ≡ t → eqb x 255 ≡ t
      x-is t e = ap (λ z. eqb z 255) (sym (eqb-true y x eq)) ∙ e

      by : (t : Bool) → eqb y 255 ≡ t → Exact n' (Mapped (λ s. y ∷ s) (RisingOf before (len - 1))) (Low room) (λ rest. mapped (λ s. y ∷ s) (rising_at before (len - 1) rest))
      by true e =
          let lead-is : lead (x ∷ before) ≡ suc (lead before) = ap (λ t. cond t (suc (lead before)) 0) (x-is true e) in
          mapped_exact (λ s. y ∷ s) (RisingOf before (len - 1)) (rising_at before (len - 1)) n' (Low (room - 1)) (Low room) (λ s q. omega (arith, lead_is (eqb y 255) (lead s), q)) (rec n' (len - 1) (room - 1) h (omega arith) (omega arith))
      by false e =
          mapped_exact (λ s. y ∷ s) (RisingOf before (len - 1)) (rising_at before (len - 1)) n' (Low (n + suc (lead before))) (Low room) (λ s q. let z : lead (y ∷ s) ≡ 0 = ap (λ t. cond t (suc (lead s)) 0) e in omega arith) (rec n' (len - 1) (n + suc (lead before)) h (omega arith) (omega arith))

  behind : (y : ℕ) (a : List ℕ) → ByteOf (goes_up x before len) y a → length a ≤ n → Exact (n - length a) (Mapped (λ s. y ∷ s) (TailOf (eqb y x) before (len - 1))) (Low room) (λ rest. mapped (λ s. y ∷ s) (tail_at (eqb y x) before (len - 1) rest))
  behind y a (one, small, ok) le = by (eqb y x) refl
    where
      count : length a ≡ 1
      count = ap length one

      by : (t : Bool) → eqb y x ≡ t → Exact (n - length a) (Mapped (λ s. y ∷ s) (TailOf t before (len - 1))) (Low room) (λ rest. mapped (λ s. y ∷ s) (tail_at t before (len - 1) rest))
      by true e = same_byte y (n - length a) (omega (arith, count)) e (up_and x before len y ok e)
      by false e = mapped_exact (λ s. y ∷ s) (RawOf (len - 1)) (raw_at (len - 1)) (n - length a) (Low (n - length a)) (Low room) (λ s q. omega (arith, lead_is (eqb y 255) (lead s), q, count)) (raw_exact (n - length a) (len - 1))

  goes_on : (y : ℕ) (a : List ℕ) → ByteOf (goes_up x before len) y a → Any y → (w : List ℕ) × (c : List ℕ) × Mapped (λ s. y ∷ s) (TailOf (eqb y x) before (len - 1)) w c × Low room w
  goes_on y a (one, small, ok) any = by (eqb y x) refl
    where
      by : (t : Bool) → eqb y x ≡ t → (w : List ℕ) × (c : List ℕ) × Mapped (λ s. y ∷ s) (TailOf t before (len - 1)) w c × Low room w
      by true e =
          let p = next_is before (len - 1) fits.1 (up_and x before len y ok e) in
          let z : lead (y ∷ p.0) ≤ suc (lead (x ∷ before)) = (let y-is : y ≡ x = eqb-true y x e in subst (λ k. lead (k ∷ p.0) ≤ suc (lead (x ∷ before))) (sym y-is) (up (eqb x 255) (lead p.0) (lead before) p.2)) in
          (y ∷ p.0, p.0, (p.0, refl, p.1), omega (arith, z))
        where
          up : (t : Bool) (j k : ℕ) → j ≤ suc k → cond t (suc j) 0 ≤ suc (cond t (suc k) 0)
          up true j k h = omega arith
          up false j k h = omega arith
      by false e =
          let zeros = replicate (len - 1) 0 in
          (y ∷ zeros, zeros, (zeros, refl, (refl, length-replicate {A = ℕ} (len - 1) 0, zeros_are (len - 1))), omega (arith, lead_is (eqb y 255) (lead zeros), lead_zeros (len - 1)))

  rising_step : Exact n (RisingOf (x ∷ before) len) (Low room) (rising_at (x ∷ before) len)
  unfolding rising_at
  rising_step =
      exact_as (PartsOf x before len) (RisingOf (x ∷ before) len) (rising_join x before len (omega arith)) (rising_split x before len) (parts_at x before len) (rising_at (x ∷ before) len) (λ bytes. refl) n (Low room) (Low room) (λ v q. q)
      (then_exact (ByteOf (goes_up x before len)) (λ y. Mapped (λ s. y ∷ s) (TailOf (eqb y x) before (len - 1))) (byte_at (goes_up x before len)) (λ y rest. mapped (λ s. y ∷ s) (tail_at (eqb y x) before (len - 1) rest)) n Any (Low room)
      (byte_takes (goes_up x before len))
      (byte_exact (goes_up x before len) n Any some_byte.0 some_byte.1 some_byte.2 tt)
      behind goes_on)

raw_rises : (m : ℕ) → 0 < m → (s b : List ℕ) → RawOf m s b → RisingOf [] m s b
raw_rises m pos s [] (e, len, fits) = absurd (omega arith)
raw_rises m pos s (y ∷ b) (e, len, fits) = (e, len, fits, tt)

pub rising_exact : (before : List ℕ) → AreBytes before → RisingExact before
unfolding rising_at
rising_exact [] fits n len room reach short low =
    exact_as (RawOf len) (RisingOf [] len) (raw_rises len (omega arith)) (λ s b p. (p.0, p.1, p.2)) (raw_at len) (rising_at [] len) (λ bytes. refl) n (Low n) (Low room) (λ s q. omega arith) (raw_exact n len)
rising_exact (x ∷ before) fits n len room reach short low = rising_step x before (rising_exact before fits.1) n len room fits reach short low
