-- Lengths, strings and keys.
use Rattle.std.proofs.Common.{◌≡◌, ℕ, ◌-◌, ◌/◌, ◌^◌, ◌<◌, ◌≤◌, Bool, true, false, List, [], ◌∷◌, ◌++◌, length, replicate, Option, Some, None, is_some, refl, sym, ap, subst, ◌∙◌, arith, div-lt_iff_lt-mul, one-mul, zero-mul}
use Rattle.std.proofs.lemmas.Bool.{leb-true, le-leb, ltb-true, lt-ltb}
use Rattle.std.proofs.lemmas.List.{length-replicate}
use Rattle.al_msgpack.specs.declared.head.Size.{Size}
use Rattle.al_msgpack.specs.declared.head.Size.TheVariants.{Fixed, Wide}
use Rattle.al_msgpack.specs.declared.head.Head.{Head}
use Rattle.al_msgpack.specs.declared.head.Head.TheVariants.{Num, Flag, Str, Bin, List as Row, Map}
use Rattle.al_msgpack.specs.Heads.{head_at, count, reaches, raised, raised_if, key_size}
use Rattle.al_msgpack.specs.Reading.{Read, then_at, byte_at, size_at, raw_at, above_at, floor_of, some_size_at, key_at, string_at}
use Rattle.al_msgpack.specs.Grammar.{Spelling, AreBytes, Above}
use Rattle.al_msgpack.specs.Spelling.{Counted, StringHead, Rises}
use Rattle.al_msgpack.proofs.Exact.{Takes, Exact, Then, then_takes, then_exact, takes_from, exact_as, weaken, pure_takes, pure_exact, ByteOf, byte_takes, byte_exact}
use Rattle.al_msgpack.proofs.Numbers.{RawOf, raw_takes, Any, digits_take, digits_exact, digits_live, pow256_pos}
use Rattle.al_msgpack.proofs.Keys.{raw_exact, RisingOf, rising_takes, rising_exact, Low, next_is, above_lead, zeros_are, lead_zeros}
use Rattle.al_msgpack.proofs.Heads.{SizeOf, Headed, IsSize, Str_headed, Str_is, Str_fits, at_str_4}

pub size_takes : (size : Size) → Takes (SizeOf size) (size_at size)
unfolding size_at
size_takes (Fixed m) = pure_takes m
size_takes (Wide w least) = digits_take (count w) 0 least

wide_start : (k least : ℕ) → least < 256 ^ k → least / 256 ^ k ≤ 0
wide_start k least lt =
    let q : least / 256 ^ k < 1 = (div-lt_iff_lt-mul (pow256_pos k)).1 (omega (arith, one-mul (256 ^ k))) in
    omega arith

pub size_exact : (n : ℕ) (size : Size) → IsSize size → Exact n (SizeOf size) Any (size_at size)
unfolding size_at
size_exact n (Fixed m) is = pure_exact n m Any tt
size_exact n (Wide w least) is = digits_exact (count w) 0 least n (wide_start (count w) least is)

pub size_live : (size : Size) → IsSize size → (n : ℕ) × (b : List ℕ) × SizeOf size n b
size_live (Fixed m) is = (m, [], (refl, refl))
size_live (Wide w least) is = let d = digits_live (count w) 0 least (wide_start (count w) least is) in (d.0, d.1, d.2)

-- ---- strings

abbrev pub StringBody : Size → Spelling (List ℕ)
StringBody size = Then (SizeOf size) (λ m. RawOf m)

pub string_takes : (size : Size) → Takes (StringBody size) (string_at size)
unfolding string_at
string_takes size = then_takes (SizeOf size) (λ m. RawOf m) (size_at size) (λ m. raw_at m) (size_takes size) (λ m a p. raw_takes m)

zeros_raw : (m : ℕ) → RawOf m (replicate m 0) (replicate m 0)
zeros_raw m = (refl, length-replicate {A = ℕ} m 0, zeros_are m)

pub string_exact : (n : ℕ) (size : Size) → IsSize size → Exact n (StringBody size) Any (string_at size)
unfolding string_at
string_exact n size is =
    then_exact (SizeOf size) (λ m. RawOf m) (size_at size) (λ m. raw_at m) n Any Any (size_takes size) (size_exact n size is)
    (λ m a p le. weaken (n - length a) (RawOf m) (Low (n - length a)) Any (raw_at m) (λ v q. tt) (raw_exact (n - length a) m))
    (λ m a p q. (replicate m 0, replicate m 0, zeros_raw m, tt))

pub string_live : (size : Size) → IsSize size → (s : List ℕ) × (c : List ℕ) × StringBody size s c
string_live size is = let m = size_live size is in (replicate m.0 0, m.1 ++ replicate m.0 0, (m.0, m.1, replicate m.0 0, refl, m.2, zeros_raw m.0))

-- a string is a head of its kind and what stands behind
module _ (K : Size → Head) (H : ℕ → List ℕ → Type 0) (headed : (n : ℕ) (b : List ℕ) → H n b → Headed K n b) (is_by : (n h : ℕ) (size : Size) (b c : List ℕ) → head_at h ≡ Some (K size) → b ≡ h ∷ c → SizeOf size n c → H n b) where
  pub counted_split : (s b : List ℕ) → Counted H s b → (h : ℕ) × (c : List ℕ) × (size : Size) × (h < 256) × (b ≡ h ∷ c) × (head_at h ≡ Some (K size)) × StringBody size s c
  counted_split s b p =
      let h = headed (length s) p.head p.counts in
      (h.first, h.behind ++ s, h.size, h.small, p.is ∙ ap (λ z. z ++ s) h.is, h.kind, (length s, h.behind, s, refl, h.sized, (refl, refl, p.bytes)))

  pub counted_join : (s b : List ℕ) (h : ℕ) (c : List ℕ) (size : Size) → head_at h ≡ Some (K size) → b ≡ h ∷ c → StringBody size s c → Counted H s b
  counted_join s b h c size at e (m, a, x, c-is, sized, (x-is, len, fits)) =
      let one : H m (h ∷ a) = is_by m h size (h ∷ a) a at refl sized in
      let m-is : m ≡ length s = sym len ∙ ap length x-is in
      record { bytes = subst (λ z. AreBytes z) x-is fits; head = h ∷ a; counts = subst (λ z. H z (h ∷ a)) m-is one; is = e ∙ ap (λ z. h ∷ z) (c-is ∙ ap (λ z. a ++ z) x-is) }

-- ---- keys

abbrev pub KeyOf : Option (List ℕ) → Spelling (List ℕ)
KeyOf before k b = Counted StringHead k b × Rises before k

abbrev SomeSizeOf : Option Size → Spelling ℕ
SomeSizeOf None n b = ⊥
SomeSizeOf (Some size) n b = SizeOf size n b

abbrev AboveOf : Option (List ℕ) → ℕ → Spelling (List ℕ)
AboveOf None m s b = RawOf m s b
AboveOf (Some before) m s b = RisingOf before m s b

abbrev key_ok : Option (List ℕ) → ℕ → Bool
key_ok before h = is_some (key_size (floor_of before) (head_at h))

abbrev KeyBody : Option (List ℕ) → ℕ → Spelling (List ℕ)
KeyBody before h = Then (SomeSizeOf (key_size (floor_of before) (head_at h))) (AboveOf before)

abbrev key_body : Option (List ℕ) → ℕ → List ℕ → Read (List ℕ)
key_body before h = then_at (some_size_at (key_size (floor_of before) (head_at h))) (above_at before)

abbrev KeyParts : Option (List ℕ) → Spelling (List ℕ)
KeyParts before = Then (ByteOf (key_ok before)) (KeyBody before)

reach_is : (floor : ℕ) (size : Size) (n : ℕ) (c : List ℕ) → SizeOf size n c → floor ≤ n → reaches floor size ≡ true
reach_is floor (Fixed m) n c p le = le-leb floor m (omega (arith, p.0))
reach_is floor (Wide w least) n c p le = lt-ltb floor (256 ^ count w) (omega (arith, p.1, p.2, zero-mul (256 ^ count w)))

raise : (floor : ℕ) (size : Size) (n : ℕ) (c : List ℕ) → SizeOf size n c → floor ≤ n → SizeOf (raised floor size) n c
raise floor (Fixed m) n c p le = p
raise floor (Wide w least) n c p le = (p.0, p.1, p.2, p.3, omega (arith, p.4))

lower : (floor : ℕ) (size : Size) (n : ℕ) (c : List ℕ) → SizeOf (raised floor size) n c → SizeOf size n c
lower floor (Fixed m) n c p = p
lower floor (Wide w least) n c p = (p.0, p.1, p.2, p.3, omega (arith, p.4))

at_least : (floor : ℕ) (size : Size) (n : ℕ) (c : List ℕ) → reaches floor size ≡ true → SizeOf (raised floor size) n c → floor ≤ n
at_least floor (Fixed m) n c ok p = omega (arith, leb-true floor m ok, p.0)
at_least floor (Wide w least) n c ok p = omega (arith, p.4)

raised_fits : (floor : ℕ) (size : Size) → IsSize size → reaches floor size ≡ true → IsSize (raised floor size)
raised_fits floor (Fixed m) is ok = tt
raised_fits floor (Wide w least) is ok = omega (arith, ltb-true _ _ ok)

-- a head that a key may have
pub record KeySize (floor : ℕ) (o : Option Head) (size : Size) : Type 0 where
  pub plain : Size
  pub kind : o ≡ Some (Str plain)
  pub raised_is : size ≡ raised floor plain
  pub reached : reaches floor plain ≡ true

pub key_size_is : (floor : ℕ) (o : Option Head) (size : Size) → key_size floor o ≡ Some size → KeySize floor o size
key_size_is floor None size e = absurd cc
key_size_is floor (Some (Num s)) size e = absurd cc
key_size_is floor (Some (Flag s)) size e = absurd cc
key_size_is floor (Some (Bin s)) size e = absurd cc
key_size_is floor (Some (Row s)) size e = absurd cc
key_size_is floor (Some (Map s)) size e = absurd cc
key_size_is floor (Some (Str s)) size e = by (reaches floor s) refl e
  where
    by : (t : Bool) → reaches floor s ≡ t → raised_if t floor s ≡ Some size → KeySize floor (Some (Str s)) size
    by true r e = record { plain = s; kind = refl; raised_is = (let q : raised floor s ≡ size = cc in sym q); reached = r }
    by false r e = absurd cc

key_size_from : (floor : ℕ) (o : Option Head) (s : Size) → o ≡ Some (Str s) → reaches floor s ≡ true → key_size floor o ≡ Some (raised floor s)
key_size_from floor o s e r = ap (key_size floor) e ∙ ap (λ t. raised_if t floor s) r

floor_le : (before : Option (List ℕ)) (k : List ℕ) → AreBytes k → Rises before k → floor_of before ≤ length k
floor_le None k fits up = omega arith
floor_le (Some before) k fits up = above_lead before k fits up

above_from : (before : Option (List ℕ)) (k : List ℕ) → AreBytes k → Rises before k → AboveOf before (length k) k k
above_from None k fits up = (refl, refl, fits)
above_from (Some before) k fits up = (refl, refl, fits, up)

key_split : (before : Option (List ℕ)) (k b : List ℕ) → KeyOf before k b → KeyParts before k b
key_split before k b (p, up) =
    let h = Str_headed (length k) p.head p.counts in
    let low = floor_le before k p.bytes up in
    let at = key_size_from (floor_of before) (head_at h.first) h.size h.kind (reach_is (floor_of before) h.size (length k) h.behind h.sized low) in
    let sized : SomeSizeOf (key_size (floor_of before) (head_at h.first)) (length k) h.behind = subst (λ z. SomeSizeOf z (length k) h.behind) (sym at) (raise (floor_of before) h.size (length k) h.behind h.sized low) in
    (h.first, h.first ∷ [], h.behind ++ k, p.is ∙ ap (λ z. z ++ k) h.is, (refl, h.small, ap is_some at), (length k, h.behind, k, refl, sized, above_from before k p.bytes up))

above_raw : (before : Option (List ℕ)) (m : ℕ) (k c : List ℕ) → AboveOf before m k c → RawOf m k c × Rises before k
above_raw None m k c p = (p, tt)
above_raw (Some before) m k c p = ((p.0, p.1, p.2), subst (λ z. Above before z) p.0 p.3)

some_of : (o : Option Size) → is_some o ≡ true → (size : Size) × (o ≡ Some size)
some_of None e = absurd cc
some_of (Some size) e = (size, refl)

key_join : (before : Option (List ℕ)) (k b : List ℕ) → KeyParts before k b → KeyOf before k b
key_join before k b (h, a, c, e, (one, small, ok), (m, x, y, c-is, sized, above)) =
    let floor = floor_of before in
    let o = some_of (key_size floor (head_at h)) ok in
    let s = key_size_is floor (head_at h) o.0 o.1 in
    let sized' : SizeOf (raised floor s.plain) m x = subst (λ z. SizeOf z m x) s.raised_is (subst (λ z. SomeSizeOf z m x) o.1 sized) in
    let q = above_raw before m k y above in
    (counted_join Str StringHead Str_headed Str_is k b h c s.plain s.kind (e ∙ ap (λ z. z ++ c) one) (m, x, y, c-is, lower floor s.plain m x sized', q.0), q.1)

above_takes : (before : Option (List ℕ)) (m : ℕ) → Takes (AboveOf before m) (above_at before m)
above_takes None m = raw_takes m
above_takes (Some before) m = rising_takes before m

some_size_takes : (o : Option Size) → Takes (SomeSizeOf o) (some_size_at o)
some_size_takes None n b rest p = absurd p
some_size_takes (Some size) n b rest p = size_takes size n b rest p

pub key_takes : (before : Option (List ℕ)) → Takes (KeyOf before) (key_at before)
unfolding key_at
key_takes before =
    takes_from (KeyParts before) (KeyOf before) (then_at (byte_at (key_ok before)) (key_body before)) (key_at before) (key_split before) (λ bytes. refl)
    (then_takes (ByteOf (key_ok before)) (KeyBody before) (byte_at (key_ok before)) (key_body before) (byte_takes (key_ok before))
    (λ h a p. then_takes (SomeSizeOf (key_size (floor_of before) (head_at h))) (AboveOf before) (some_size_at (key_size (floor_of before) (head_at h))) (above_at before) (some_size_takes (key_size (floor_of before) (head_at h))) (λ m x q. above_takes before m)))

abbrev pub limit : ℕ
limit = 2 ^ 32 - 6

abbrev pub AreBytesOf : Option (List ℕ) → Type 0
AreBytesOf None = Unit {0}
AreBytesOf (Some before) = AreBytes before

above_exact : (before : Option (List ℕ)) → AreBytesOf before → floor_of before ≤ limit → (n m : ℕ) → n ≤ limit → floor_of before ≤ m → Exact n (AboveOf before m) (Low limit) (above_at before m)
above_exact None fits low n m le reach = weaken n (RawOf m) (Low n) (Low limit) (raw_at m) (λ s q. omega arith) (raw_exact n m)
above_exact (Some before) fits low n m le reach = rising_exact before fits n m limit reach le low

above_live : (before : Option (List ℕ)) → AreBytesOf before → floor_of before ≤ limit → (m : ℕ) → floor_of before ≤ m → (w : List ℕ) × (c : List ℕ) × AboveOf before m w c × Low limit w
above_live None fits low m reach = (replicate m 0, replicate m 0, zeros_raw m, omega (arith, lead_zeros m))
above_live (Some before) fits low m reach = let p = next_is before m fits reach in (p.0, p.0, p.1, omega (arith, p.2))

module _ (before : Option (List ℕ)) (fits : AreBytesOf before) (low : floor_of before ≤ limit) where
  body_exact : (n : ℕ) (o : Option Head) (size : Size) → n ≤ limit → KeySize (floor_of before) o size → IsSize size → Exact n (Then (SizeOf size) (AboveOf before)) (Low limit) (then_at (size_at size) (above_at before))
  body_exact n o size le k is =
      then_exact (SizeOf size) (AboveOf before) (size_at size) (above_at before) n Any (Low limit) (size_takes size) (size_exact n size is)
      (λ m a p q. above_exact before fits low (n - length a) m (omega arith) (reach m a p))
      (λ m a p q. above_live before fits low m (reach m a p))
    where
      reach : (m : ℕ) (a : List ℕ) → SizeOf size m a → floor_of before ≤ m
      reach m a p = at_least (floor_of before) k.plain m a k.reached (subst (λ z. SizeOf z m a) k.raised_is p)

  body_live : (o : Option Head) (size : Size) → KeySize (floor_of before) o size → IsSize size → (w : List ℕ) × (c : List ℕ) × Then (SizeOf size) (AboveOf before) w c × Low limit w
  body_live o size k is =
      let s = size_live size is in
      let a = above_live before fits low s.0 (at_least (floor_of before) k.plain s.0 s.1 k.reached (subst (λ z. SizeOf z s.0 s.1) k.raised_is s.2)) in
      (a.0, s.1 ++ a.1, (s.0, s.1, a.1, refl, s.2, a.2), a.3)

  head_size : (h : ℕ) → key_ok before h ≡ true → (size : Size) × (key_size (floor_of before) (head_at h) ≡ Some size) × KeySize (floor_of before) (head_at h) size × IsSize size
  head_size h ok =
      let o = some_of (key_size (floor_of before) (head_at h)) ok in
      let k = key_size_is (floor_of before) (head_at h) o.0 o.1 in
      (o.0, o.1, k, subst (λ z. IsSize z) (sym k.raised_is) (raised_fits (floor_of before) k.plain (Str_fits h k.plain k.kind) k.reached))

  some_head : key_ok before 0xdb ≡ true
  some_head = ap is_some (key_size_from (floor_of before) (head_at 0xdb) _ at_str_4 (lt-ltb (floor_of before) (256 ^ 4) (omega arith)))

  pub key_exact : (n : ℕ) → n ≤ limit → Exact n (KeyOf before) (Low limit) (key_at before)
  unfolding key_at
  key_exact n le =
      exact_as (KeyParts before) (KeyOf before) (key_join before) (key_split before) (then_at (byte_at (key_ok before)) (key_body before)) (key_at before) (λ bytes. refl) n (Low limit) (Low limit) (λ v q. q)
      (then_exact (ByteOf (key_ok before)) (KeyBody before) (byte_at (key_ok before)) (key_body before) n Any (Low limit)
      (byte_takes (key_ok before))
      (byte_exact (key_ok before) n Any 0xdb (omega arith) some_head tt)
      (λ h a p q. let s = head_size h p.2 in
      subst (λ (z : Option Size). Exact (n - length a) (Then (SomeSizeOf z) (AboveOf before)) (Low limit) (then_at (some_size_at z) (above_at before))) (sym s.1) (body_exact (n - length a) (head_at h) s.0 (omega arith) s.2 s.3))
      (λ h a p q. let s = head_size h p.2 in
      let l = body_live (head_at h) s.0 s.2 s.3 in
      (l.0, l.1, subst (λ (z : Option Size). Then (SomeSizeOf z) (AboveOf before) l.0 l.1) (sym s.1) l.2, l.3)))
