-- Numbers of so many bytes, and any bytes.
use Rattle.std.proofs.Common.{◌≡◌, ℕ, zero, suc, ◌+◌, ◌-◌, ◌*◌, ◌/◌, ◌%◌, ◌^◌, ◌<◌, ◌≤◌, Bool, false, leb, ltb, List, [], ◌∷◌, ◌++◌, length, refl, sym, ap, ap₂, ◌∙◌, arith, length-append, pow-suc, suc-mul, div-lt_iff_lt-mul, div-add-mod', mod-lt, add-mul, mul_assoc, mul_comm, take_at, drop_at, div-one}
use Rattle.std.proofs.lemmas.Bool.{leb-true, le-leb, le-ltb}
use Rattle.std.proofs.lemmas.Nat.{div-mul-add, mod-mul-add, mul-add-lt}
use Rattle.al_msgpack.specs.Reading.{then_at, byte_at, digits_at, raw_at}
use Rattle.al_msgpack.specs.Grammar.{Spelling, AreBytes, digits}
use Rattle.al_msgpack.proofs.Exact.{Takes, Exact, Then, then_takes, then_exact, takes_as, exact_as, ByteOf, byte_takes, byte_exact, pair_is}

pub pow256_pos : (k : ℕ) → 0 < 256 ^ k
pow256_pos zero = omega arith
pow256_pos (suc k) = omega (arith, pow256_pos k, pow-suc 256 k)

mul-lt-row : (h p x : ℕ) → h < 256 → x < p → h * p + x < 256 * p
mul-lt-row h p x small lt = grind (arith, mul-add-lt)

pub pow-suc256 : (k : ℕ) → 256 ^ suc k ≡ 256 * 256 ^ k
pow-suc256 k = pow-suc 256 k ∙ mul_comm (256 ^ k) 256

-- n is what acc becomes by k bytes more, and not below the least
abbrev pub DigitsOf : ℕ → ℕ → ℕ → Spelling ℕ
DigitsOf k acc least n b = (x : ℕ) × (x < 256 ^ k) × (n ≡ acc * 256 ^ k + x) × (b ≡ digits k x) × (least ≤ n)

abbrev pub high_enough : ℕ → ℕ → ℕ → ℕ → Bool
high_enough k acc least b = leb (least / 256 ^ k) (acc * 256 + b)

module _ (k acc : ℕ) where
  -- one more byte
  more : (n b r : ℕ) → n ≡ (acc * 256 + b) * 256 ^ k + r → n ≡ acc * 256 ^ suc k + (b * 256 ^ k + r)
  more n b r e = e ∙ omega (arith, add-mul (acc * 256) b (256 ^ k), mul_assoc acc 256 (256 ^ k), pow-suc256 k, ap (λ p. acc * p) (pow-suc256 k))

  less : (n b r : ℕ) → n ≡ acc * 256 ^ suc k + (b * 256 ^ k + r) → n ≡ (acc * 256 + b) * 256 ^ k + r
  less n b r e = e ∙ omega (arith, add-mul (acc * 256) b (256 ^ k), mul_assoc acc 256 (256 ^ k), pow-suc256 k, ap (λ p. acc * p) (pow-suc256 k))

  reach : (least n b r : ℕ) → r < 256 ^ k → n ≡ (acc * 256 + b) * 256 ^ k + r → least ≤ n → least / 256 ^ k ≤ acc * 256 + b
  reach least n b r lt e le =
      let below : least < suc (acc * 256 + b) * 256 ^ k = omega (arith, suc-mul (acc * 256 + b) (256 ^ k)) in
      let q : least / 256 ^ k < suc (acc * 256 + b) = (div-lt_iff_lt-mul (pow256_pos k)).1 below in
      omega (arith, q)

pub digits_split : (k acc least n : ℕ) (b : List ℕ) → DigitsOf (suc k) acc least n b → Then (ByteOf (high_enough k acc least)) (λ h. DigitsOf k (acc * 256 + h) least) n b
digits_split k acc least n b (x, lt, e, is, le) =
    let pos = pow256_pos k in
    let h = x / 256 ^ k in
    let r = x % 256 ^ k in
    let parts : x ≡ h * 256 ^ k + r = sym (div-add-mod' x (256 ^ k)) in
    let low : r < 256 ^ k = mod-lt x pos in
    let small : h < 256 = (div-lt_iff_lt-mul pos).1 (omega (arith, pow-suc256 k)) in
    let n-is : n ≡ (acc * 256 + h) * 256 ^ k + r = less k acc n h r (e ∙ ap (λ y. acc * 256 ^ suc k + y) parts) in
    (h, h ∷ [], digits k r, is, (refl, small, le-leb _ _ (reach k acc least n h r low n-is le)), (r, low, n-is, refl, le))

pub digits_join : (k acc least n : ℕ) (b : List ℕ) → Then (ByteOf (high_enough k acc least)) (λ h. DigitsOf k (acc * 256 + h) least) n b → DigitsOf (suc k) acc least n b
digits_join k acc least n b (h, a, c, e, (one, small, ok), (x, lt, n-is, c-is, le)) =
    let pos = pow256_pos k in
    let y = h * 256 ^ k + x in
    let room : y < 256 ^ suc k = omega (arith, pow-suc256 k, mul-lt-row h (256 ^ k) x small lt) in
    let whole : b ≡ digits (suc k) y = e ∙ ap₂ (λ s t. s ++ t) one c-is ∙ ap₂ (λ s t. s ∷ digits k t) (sym (div-mul-add h (256 ^ k) x lt)) (sym (mod-mul-add h (256 ^ k) x lt)) in
    (y, room, more k acc n h x n-is, whole, le)

digits_take_none : (acc least : ℕ) → Takes (DigitsOf zero acc least) (digits_at zero acc least)
unfolding digits_at
digits_take_none acc least n b rest (x, lt, e, is, le) =
    let n-is : n ≡ acc = omega arith in
    rw (is, n-is) refl

pub digits_take : (k acc least : ℕ) → Takes (DigitsOf k acc least) (digits_at k acc least)
unfolding digits_at
digits_take zero acc least = digits_take_none acc least
digits_take (suc k) acc least =
    takes_as (Then (ByteOf (high_enough k acc least)) (λ h. DigitsOf k (acc * 256 + h) least)) (DigitsOf (suc k) acc least) (digits_join k acc least) (digits_split k acc least)
    (then_at (byte_at (high_enough k acc least)) (λ h. digits_at k (acc * 256 + h) least)) (digits_at (suc k) acc least) (λ bytes. refl)
    (then_takes (ByteOf (high_enough k acc least)) (λ h. DigitsOf k (acc * 256 + h) least) (byte_at (high_enough k acc least)) (λ h. digits_at k (acc * 256 + h) least)
    (byte_takes (high_enough k acc least)) (λ h a p. digits_take k (acc * 256 + h) least))

abbrev pub Any : {A : Type 0} → A → Type 0
Any x = Unit {0}

-- the greatest number that begins so
pub digits_live : (k acc least : ℕ) → least / 256 ^ k ≤ acc → (n : ℕ) × (b : List ℕ) × DigitsOf k acc least n b
digits_live k acc least h =
    let pos = pow256_pos k in
    let x = 256 ^ k - 1 in
    let below : least < suc acc * 256 ^ k = (div-lt_iff_lt-mul pos).0 (omega arith) in
    let le : least ≤ acc * 256 ^ k + x = omega (arith, suc-mul acc (256 ^ k)) in
    (acc * 256 ^ k + x, digits k x, (x, omega arith, refl, refl, le))

pub digits_exact : (k acc least n : ℕ) → least / 256 ^ k ≤ acc → Exact n (DigitsOf k acc least) Any (digits_at k acc least)
unfolding digits_at
digits_exact zero acc least n h = record {
  found = λ bytes v rest f e. let p = pair_is acc v bytes rest e in ([], p.1, (0, omega arith, omega (arith, p.0), refl, omega (arith, p.0, div-one least)));
  short = λ bytes f e. absurd cc;
  bad = λ bytes left f e. absurd cc;
}
digits_exact (suc k) acc least n h =
    let ok = high_enough k acc least in
    let pos = pow256_pos k in
    let below : least < suc acc * 256 ^ suc k = (div-lt_iff_lt-mul (pow256_pos (suc k))).0 (omega arith) in
    let most : least / 256 ^ k < acc * 256 + 256 = (div-lt_iff_lt-mul pos).1 (omega (arith, suc-mul acc (256 ^ suc k), pow-suc256 k, add-mul (acc * 256) 256 (256 ^ k), mul_assoc acc 256 (256 ^ k), ap (λ p. acc * p) (pow-suc256 k))) in
    exact_as (Then (ByteOf ok) (λ b. DigitsOf k (acc * 256 + b) least)) (DigitsOf (suc k) acc least) (digits_join k acc least) (digits_split k acc least)
    (then_at (byte_at ok) (λ b. digits_at k (acc * 256 + b) least)) (digits_at (suc k) acc least) (λ bytes. refl) n Any Any (λ v q. tt)
    (then_exact (ByteOf ok) (λ b. DigitsOf k (acc * 256 + b) least) (byte_at ok) (λ b. digits_at k (acc * 256 + b) least) n Any Any
    (byte_takes ok)
    (byte_exact ok n Any 255 (omega arith) (le-leb _ _ (omega arith)) tt)
    (λ b a p le. digits_exact k (acc * 256 + b) least (n - length a) (leb-true _ _ p.2))
    (λ b a p q. let l = digits_live k (acc * 256 + b) least (leb-true _ _ p.2) in (l.0, l.1, l.2, tt)))

-- ---- any bytes

abbrev pub RawOf : ℕ → Spelling (List ℕ)
RawOf m s b = (b ≡ s) × (length b ≡ m) × AreBytes b

pub raw_takes : (m : ℕ) → Takes (RawOf m) (raw_at m)
unfolding raw_at
raw_takes m s b rest (e, len, fits) =
    let long : ltb (length (b ++ rest)) m ≡ false = le-ltb _ _ (omega (arith, length-append b rest)) in
    rw (long, take_at b rest m len, drop_at b rest m len, e) refl
