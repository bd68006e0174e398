-- What the code's steps are in the functions on lists.
use Rattle.std.proofs.Common.{◌≡◌, ℕ, zero, suc, ◌+◌, ◌-◌, ◌*◌, ◌/◌, ◌^◌, ◌<◌, ◌≤◌, max, Bool, true, false, cond, leb, ltb, List, [], ◌∷◌, ◌++◌, length, Ok, Err, Option, Some, None, refl, sym, ap, subst, ◌∙◌, append_assoc, arith, inl, inr, div-one}
use Rattle.std.proofs.Math.Nat.{pow-le-pow_right}
use Rattle.std.proofs.lemmas.Bool.{leb-true, lt-leb, le-leb, ltb-true, lt-ltb, le-ltb, eq-eqb, ne_eqb, cases_order, cases_lt}
use Rattle.std.proofs.lemmas.Nat.{pow-add}
use Rattle.al_msgpack.specs.declared.val.Val.{Val}
use Rattle.al_msgpack.specs.declared.val.Entry.{Entry}
use Rattle.al_msgpack.specs.declared.fault.Fault.TheVariants.{Bad}
use Rattle.al_msgpack.specs.declared.head.Size.{Size}
use Rattle.al_msgpack.specs.declared.head.Size.TheVariants.{Fixed, Wide}
use Rattle.al_msgpack.specs.declared.head.Width.TheVariants.{One, Two, Four, Eight}
use Rattle.al_msgpack.specs.declared.head.Head.{Head}
use Rattle.al_msgpack.specs.Heads.{key_size, raised, reaches}
use Rattle.al_msgpack.specs.Reading.{Read, ◌>>=◌, mapped, digits_at, size_at, raw_at, rising_at, refused_at, lead, key_at, all_by, entries_by, entry, in_front}
use Rattle.al_msgpack.proofs.Exact.{pair_is}
use Rattle.al_msgpack.proofs.Numbers.{pow-suc256}
use Rattle.al_msgpack.proofs.Sizes.{key_size_is}

-- ---- numbers

pow8 : (k : ℕ) → 2 ^ (8 * k) ≡ 256 ^ k
pow8 zero = refl
pow8 (suc k) =
    let e : 8 * suc k ≡ 8 + 8 * k = omega arith in
    ap (λ z. 2 ^ z) e ∙ pow-add 2 8 (8 * k) ∙ ap (λ z. 256 * z) (pow8 k) ∙ sym (pow-suc256 k)

pub room : (i n b : ℕ) → i < 8 → n < 256 ^ i → b < 256 → n * 256 + b < 2 ^ 64
room i n b h lt small =
    let top : 256 ^ i ≤ 256 ^ 7 = pow-le-pow_right {n = 256} (omega arith) {i = i} {j = 7} (omega arith) in
    omega arith

pub grown : (i n b : ℕ) → n < 256 ^ i → b < 256 → n * 256 + b < 256 ^ (i + 1)
grown i n b lt small =
    let e : i + 1 ≡ suc i = omega arith in
    rw e (omega (arith, pow-suc256 i))

pub digits_stop : (m i n least b : ℕ) (rest : List ℕ) → i < m → n * 256 + b < least / 2 ^ (8 * (m - 1 - i)) → digits_at (m - i) n least (b ∷ rest) ≡ Err (Bad (length (b ∷ rest)))
unfolding digits_at
digits_stop m i n least b rest h lt =
    let e : m - i ≡ suc (m - 1 - i) = omega arith in
    let test : leb (least / 256 ^ (m - 1 - i)) (n * 256 + b) ≡ false = lt-leb _ _ (subst (λ z. n * 256 + b < least / z) (pow8 (m - 1 - i)) lt) in
    rw (e, test) refl

pub digits_go : (m i n least b : ℕ) (rest : List ℕ) → i < m → least / 2 ^ (8 * (m - 1 - i)) ≤ n * 256 + b → digits_at (m - i) n least (b ∷ rest) ≡ digits_at (m - (i + 1)) (n * 256 + b) least rest
unfolding digits_at
digits_go m i n least b rest h le =
    let e : m - i ≡ suc (m - 1 - i) = omega arith in
    let d : m - (i + 1) ≡ m - 1 - i = omega arith in
    let test : leb (least / 256 ^ (m - 1 - i)) (n * 256 + b) ≡ true = le-leb _ _ (subst (λ z. least / z ≤ n * 256 + b) (pow8 (m - 1 - i)) le) in
    rw (e, d, test) refl

abbrev byte_by : Bool → ℕ → List ℕ → Read ℕ
byte_by t b rest = cond t (Ok (b, rest)) (Err (Bad (length (b ∷ rest))))

abbrev digit_by : Bool → ℕ → ℕ → ℕ → ℕ → List ℕ → Read ℕ
digit_by t k acc least b rest = byte_by t b rest >>= λ x. digits_at k (acc * 256 + x.0) least x.1

digits_met : (k acc least : ℕ) (bytes : List ℕ) (n : ℕ) (rest : List ℕ) → least / 256 ^ k ≤ acc → digits_at k acc least bytes ≡ Ok (n, rest) → least ≤ n
unfolding digits_at
digits_met zero acc least bytes n rest h e = omega (arith, (pair_is acc n bytes rest e).0, div-one least)
digits_met (suc k) acc least [] n rest h e = absurd cc
digits_met (suc k) acc least (b ∷ bytes) n rest h e = by (leb (least / 256 ^ k) (acc * 256 + b)) refl e (digits_met k (acc * 256 + b) least bytes n rest)
  where
    by : (t : Bool) → leb (least / 256 ^ k) (acc * 256 + b) ≡ t → digit_by t k acc least b bytes ≡ Ok (n, rest) → (least / 256 ^ k ≤ acc * 256 + b → digits_at k (acc * 256 + b) least bytes ≡ Ok (n, rest) → least ≤ n) → least ≤ n
    by true t e rec = rec (leb-true _ _ t) e
    by false t e rec = absurd cc

digits_reach : (k acc least : ℕ) (bytes : List ℕ) (n : ℕ) (rest : List ℕ) → digits_at (suc k) acc least bytes ≡ Ok (n, rest) → least ≤ n
unfolding digits_at
digits_reach k acc least [] n rest e = absurd cc
digits_reach k acc least (b ∷ bytes) n rest e = by (leb (least / 256 ^ k) (acc * 256 + b)) refl e
  where
    by : (t : Bool) → leb (least / 256 ^ k) (acc * 256 + b) ≡ t → digit_by t k acc least b bytes ≡ Ok (n, rest) → least ≤ n
    by true t e = digits_met k (acc * 256 + b) least bytes n rest (leb-true _ _ t) e
    by false t e = absurd cc

size_reach : (floor : ℕ) (size : Size) (bytes : List ℕ) (n : ℕ) (rest : List ℕ) → reaches floor size ≡ true → size_at (raised floor size) bytes ≡ Ok (n, rest) → floor ≤ n
unfolding size_at
size_reach floor (Fixed m) bytes n rest ok e = omega (arith, leb-true floor m ok, (pair_is m n bytes rest e).0)
size_reach floor (Wide One least) bytes n rest ok e = omega (arith, digits_reach 0 0 (max floor least) bytes n rest e)
size_reach floor (Wide Two least) bytes n rest ok e = omega (arith, digits_reach 1 0 (max floor least) bytes n rest e)
size_reach floor (Wide Four least) bytes n rest ok e = omega (arith, digits_reach 3 0 (max floor least) bytes n rest e)
size_reach floor (Wide Eight least) bytes n rest ok e = omega (arith, digits_reach 7 0 (max floor least) bytes n rest e)

-- the length that is read of a key is not below the floor
pub key_reach : (floor : ℕ) (o : Option Head) (size : Size) (bytes : List ℕ) (n : ℕ) (rest : List ℕ) → key_size floor o ≡ Some size → size_at size bytes ≡ Ok (n, rest) → floor ≤ n
key_reach floor o size bytes n rest at e =
    let k = key_size_is floor o size at in
    size_reach floor k.plain bytes n rest k.reached (subst (λ z. size_at z bytes ≡ Ok (n, rest)) k.raised_is e)

-- ---- bytes above a text, by a look ahead

abbrev pub looked : Option ℕ → ℕ → List ℕ → Read (List ℕ)
looked None n bytes = raw_at n bytes
looked (Some left) n bytes = Err (Bad left)

raw_cons : (b n : ℕ) (rest : List ℕ) → 0 < n → mapped (λ s. b ∷ s) (raw_at (n - 1) rest) ≡ raw_at n (b ∷ rest)
unfolding raw_at
raw_cons b zero rest h = absurd (omega arith)
raw_cons b (suc n) rest h =
    let e : suc n - 1 ≡ n = omega arith in
    rw e (elim (cases_lt (length rest) n) [
      | inl lt ↦ rw (lt-ltb (length rest) n lt, lt-ltb (suc (length rest)) (suc n) (omega arith)) refl
      | inr le ↦ rw (le-ltb (length rest) n le, le-ltb (suc (length rest)) (suc n) (omega arith)) refl
    ])

looked_cons : (o : Option ℕ) (b n : ℕ) (rest : List ℕ) → 0 < n → mapped (λ s. b ∷ s) (looked o (n - 1) rest) ≡ looked o n (b ∷ rest)
looked_cons None b n rest h = raw_cons b n rest h
looked_cons (Some left) b n rest h = refl

pub rising_looked : (before : List ℕ) (n : ℕ) (bytes : List ℕ) → lead before < n → rising_at before n bytes ≡ looked (refused_at before n bytes) n bytes
unfolding rising_at raw_at
rising_looked [] n bytes h = refl
rising_looked (x ∷ before) n [] h = rw (lt-ltb 0 n (omega arith)) refl
rising_looked (x ∷ before) n (b ∷ rest) h =
    elim (cases_order b x) [
      | inl e ↦ same (ltb (lead before) (n - 1)) refl e (rising_looked before (n - 1) rest)
      | inr (inl lt) ↦ rw (lt-ltb b x lt, le-ltb x b (omega arith), ne_eqb b x (λ e. omega arith)) refl
      | inr (inr lt) ↦ rw (le-ltb b x (omega arith), lt-ltb x b lt, ne_eqb b x (λ e. omega arith)) (raw_cons b n rest (omega arith))
    ]
  where
    same : (t : Bool) → ltb (lead before) (n - 1) ≡ t → b ≡ x → (lead before < n - 1 → rising_at before (n - 1) rest ≡ looked (refused_at before (n - 1) rest) (n - 1) rest) → rising_at (x ∷ before) n (b ∷ rest) ≡ looked (refused_at (x ∷ before) n (b ∷ rest)) n (b ∷ rest)
    same true t e rec = rw (le-ltb b x (omega arith), le-ltb x b (omega arith), eq-eqb b x e, t) (rw (eq-eqb b x e) (ap (mapped (λ s. b ∷ s)) (rec (ltb-true _ _ t)) ∙ looked_cons (refused_at before (n - 1) rest) b n rest (omega arith)))
    same false t e rec = rw (le-ltb b x (omega arith), le-ltb x b (omega arith), eq-eqb b x e, t) refl

-- ---- rows

joins : {A : Type 0} (front : List A) (x : A) (read : Read (List A)) → in_front (front ++ x ∷ []) read ≡ in_front front (mapped (λ xs. x ∷ xs) read)
joins front x (Ok r) = ap (λ z. Ok (z, r.1)) (append_assoc front (x ∷ []) r.0)
joins front x (Err e) = refl

pub next_value : (one : List ℕ → Read Val) (front : List Val) (v : Val) (n : ℕ) (bytes rest : List ℕ) → 0 < n → one bytes ≡ Ok (v, rest) → in_front (front ++ v ∷ []) (all_by one (n - 1) rest) ≡ in_front front (all_by one n bytes)
next_value one front v zero bytes rest h e = absurd (omega arith)
next_value one front v (suc n) bytes rest h e =
    let d : suc n - 1 ≡ n = omega arith in
    rw (d, e) (joins front v (all_by one n rest))

pub next_entry : (one : List ℕ → Read Val) (front : List Entry) (before : Option (List ℕ)) (k : List ℕ) (v : Val) (n : ℕ) (bytes mid rest : List ℕ) → 0 < n → key_at before bytes ≡ Ok (k, mid) → one mid ≡ Ok (v, rest) → in_front (front ++ entry k v ∷ []) (entries_by one (Some k) (n - 1) rest) ≡ in_front front (entries_by one before n bytes)
next_entry one front before k v zero bytes mid rest h e f = absurd (omega arith)
next_entry one front before k v (suc n) bytes mid rest h e f =
    let d : suc n - 1 ≡ n = omega arith in
    rw (d, e, f) (joins front (entry k v) (entries_by one (Some k) n rest))
