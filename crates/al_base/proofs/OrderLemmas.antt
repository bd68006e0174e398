-- The order of keys is the order of their bytes.
use Rattle.std.proofs.Common.{◌≡◌, ℕ, zero, suc, ◌+◌, ◌-◌, ◌*◌, ◌/◌, ◌%◌, ◌<◌, ◌≤◌, ◌^◌, List, [], ◌∷◌, ◌++◌, length, replicate, refl, sym, ◌∙◌, ap, ap₂, subst, arith}
use Rattle.std.specs.Int.{bytes_high_first, byte_at}
use Rattle.std.specs.declared.cmp.Ordering.{Ordering}
use Rattle.std.specs.declared.cmp.Ordering.TheVariants.{Less, Equal, Greater}
use Rattle.std.specs.Ordering.{nat_cmp, ordering_then, MatchOrdering}
use Rattle.std.specs.Cmp.{nat_cmp_is}
use Rattle.std.specs.Cmp.Lexicographic.{slice_cmp}
use Rattle.std.proofs.lemmas.Cmp.{ranked, tied_itself, nat_list_cmp_total}
use Rattle.std.proofs.lemmas.Nat.{mod-mul-add, mul-add-lt, mod_below}
use Rattle.std.proofs.lemmas.List.{length-append, length-replicate}
use Rattle.std.proofs.Math.Nat.{mod-one, div-one, div-add-mod, pow-suc, mul-le-mul_right}
use Rattle.al_base.specs.Keys.{key_bytes, key_cmp, number_bytes, IsKey}
use Rattle.al_base.specs.Name.{name_of}
use Rattle.al_base.specs.declared.name.BoxName.{BoxName}
use Rattle.al_base.specs.declared.key.Key.{Key}
use Rattle.al_base.specs.declared.key.Key.TheVariants.{Account, Resource, Box}
use Rattle.al_base.proofs.KeyLemmas.{length-number_bytes}
use Rattle.al_base.proofs.NameLemmas.{name_len, name_bytes}

then_assoc : (o p q : Ordering) → ordering_then o (ordering_then p q) ≡ ordering_then (ordering_then o p) q
then_assoc Less p q = refl
then_assoc Equal p q = refl
then_assoc Greater p q = refl

-- lists that begin with parts of one length are ordered by these first
cmp-append : (a b x y : List ℕ) → length a ≡ length b → slice_cmp nat_cmp (a ++ x) (b ++ y) ≡ ordering_then (slice_cmp nat_cmp a b) (slice_cmp nat_cmp x y)
cmp-append [] [] x y e = refl
cmp-append [] (q ∷ b) x y e = absurd (omega arith)
cmp-append (p ∷ a) [] x y e = absurd (omega arith)
cmp-append (p ∷ a) (q ∷ b) x y e =
    ap (ordering_then (nat_cmp p q)) (cmp-append a b x y (omega arith)) ∙ then_assoc (nat_cmp p q) (slice_cmp nat_cmp a b) (slice_cmp nat_cmp x y)

-- numbers of two digits are ordered by the higher one first
two_digits : (a b r s base : ℕ) → r < base → s < base → (o p : Ordering) → MatchOrdering o (a < b) (a ≡ b) (b < a) → MatchOrdering p (r < s) (r ≡ s) (s < r) →
    MatchOrdering (ordering_then o p) (a * base + r < b * base + s) (a * base + r ≡ b * base + s) (b * base + s < a * base + r)
two_digits a b r s base hr hs Less p h g = let m : (a + 1) * base ≤ b * base = mul-le-mul_right base (omega arith) in omega arith
two_digits a b r s base hr hs Equal Less h g = let e = ap (λ x. x * base) h in omega arith
two_digits a b r s base hr hs Equal Equal h g = let e = ap (λ x. x * base) h in omega arith
two_digits a b r s base hr hs Equal Greater h g = let e = ap (λ x. x * base) h in omega arith
two_digits a b r s base hr hs Greater p h g = let m : (b + 1) * base ≤ a * base = mul-le-mul_right base (omega arith) in omega arith

cmp-digits : (a b r s base : ℕ) → r < base → s < base → nat_cmp (a * base + r) (b * base + s) ≡ ordering_then (nat_cmp a b) (nat_cmp r s)
cmp-digits a b r s base hr hs =
    sym (nat_cmp_is _ _ _ (two_digits a b r s base hr hs (nat_cmp a b) (nat_cmp r s) (ranked a b _ refl) (ranked r s _ refl)))

byte_at_is : (k n : ℕ) → byte_at k n ≡ n / 256 ^ k % 256
byte_at_is zero n = ap (λ m. m % 256) (sym (div-one n))
byte_at_is (suc k) n = refl

pow_pos : (k : ℕ) → 0 < 256 ^ k
pow_pos zero = omega arith
pow_pos (suc k) = omega (arith, pow-suc 256 k, pow_pos k)

-- the lowest k + 1 bytes are the highest of them, and the k below it
low_bytes : (k n : ℕ) → n % 256 ^ suc k ≡ byte_at k n * 256 ^ k + n % 256 ^ k
low_bytes k n =
    let base = 256 ^ k in
    let high = n / base in
    let whole : base * high + n % base ≡ n = div-add-mod n base in
    let digits : base * high ≡ base * (256 * (high / 256) + high % 256) = ap (λ m. base * m) (sym (div-add-mod high 256)) in
    let split : n ≡ (high / 256) * (base * 256) + ((high % 256) * base + n % base) = omega arith in
    let below : (high % 256) * base + n % base < base * 256 = mul-add-lt (high % 256) base (n % base) 256 (mod_below high 256 (omega arith)) (mod_below n base (pow_pos k)) in
    let low : n % (base * 256) ≡ (high % 256) * base + n % base = ap (λ m. m % (base * 256)) split ∙ mod-mul-add (high / 256) (base * 256) _ below in
    ap (λ m. n % m) (pow-suc 256 k) ∙ low ∙ ap (λ d. d * base + n % base) (sym (byte_at_is k n))

cmp-high_bytes : (k m n : ℕ) → slice_cmp nat_cmp (bytes_high_first k m) (bytes_high_first k n) ≡ nat_cmp (m % 256 ^ k) (n % 256 ^ k)
cmp-high_bytes zero m n = nat_cmp_is _ _ Equal (mod-one m ∙ sym (mod-one n))
cmp-high_bytes (suc k) m n =
    ap (ordering_then (nat_cmp (byte_at k m) (byte_at k n))) (cmp-high_bytes k m n)
    ∙ sym (cmp-digits (byte_at k m) (byte_at k n) (m % 256 ^ k) (n % 256 ^ k) (256 ^ k) (mod_below m _ (pow_pos k)) (mod_below n _ (pow_pos k)))
    ∙ ap₂ nat_cmp (sym (low_bytes k m)) (sym (low_bytes k n))

-- numbers below 2 ^ 64 are ordered as their bytes
cmp-number : (m n : ℕ) → m < 2 ^ 64 → n < 2 ^ 64 → slice_cmp nat_cmp (number_bytes m) (number_bytes n) ≡ nat_cmp m n
unfolding number_bytes
cmp-number m n hm hn =
    let low : m % 256 ^ 8 ≡ m = omega arith in
    let low' : n % 256 ^ 8 ≡ n = omega arith in
    cmp-high_bytes 8 m n ∙ ap₂ nat_cmp low low'

-- zeros are at most any bytes
zeros_below : (ys : List ℕ) → ordering_then (slice_cmp nat_cmp (replicate (length ys) 0) ys) Less ≡ Less
zeros_below [] = refl
zeros_below (zero ∷ ys) = zeros_below ys
zeros_below (suc y ∷ ys) =
    ap (λ o. ordering_then (ordering_then o (slice_cmp nat_cmp (replicate (length ys) 0) ys)) Less) (sym (nat_cmp_is 0 (suc y) Less (omega arith)))

zeros_above : (ys : List ℕ) → ordering_then (slice_cmp nat_cmp ys (replicate (length ys) 0)) Greater ≡ Greater
zeros_above [] = refl
zeros_above (zero ∷ ys) = zeros_above ys
zeros_above (suc y ∷ ys) =
    ap (λ o. ordering_then (ordering_then o (slice_cmp nat_cmp ys (replicate (length ys) 0))) Greater) (sym (nat_cmp_is (suc y) 0 Greater (omega arith)))

length-padded : (ys : List ℕ) (q : ℕ) → length (ys ++ replicate q 0) ≡ length ys + q
length-padded ys q = simp (length-append, length-replicate)

raised : (a b : ℕ) (o : Ordering) → MatchOrdering o (a < b) (a ≡ b) (b < a) → MatchOrdering o (suc a < suc b) (suc a ≡ suc b) (suc b < suc a)
raised a b Less h = omega arith
raised a b Equal h = omega arith
raised a b Greater h = omega arith

cmp-suc : (a b : ℕ) → nat_cmp (suc a) (suc b) ≡ nat_cmp a b
cmp-suc a b = sym (nat_cmp_is (suc a) (suc b) (nat_cmp a b) (raised a b (nat_cmp a b) (ranked a b _ refl)))

-- lists with zeros behind, and then their lengths, are ordered as the lists
cmp-padded : (xs ys : List ℕ) (p q : ℕ) → length xs + p ≡ length ys + q →
    ordering_then (slice_cmp nat_cmp (xs ++ replicate p 0) (ys ++ replicate q 0)) (nat_cmp (length xs) (length ys)) ≡ slice_cmp nat_cmp xs ys
cmp-padded [] [] p q e =
    let P : ℕ → Type 0 = λ k. ordering_then (slice_cmp nat_cmp (replicate p 0) (replicate k 0)) Equal ≡ Equal in
    let same : p ≡ q = omega arith in
    subst P same (ap (λ o. ordering_then o Equal) (tied_itself nat_list_cmp_total (replicate p 0)))
cmp-padded [] (y ∷ ys) p q e =
    let P : ℕ → Type 0 = λ k. ordering_then (slice_cmp nat_cmp (replicate k 0) (y ∷ ys ++ replicate q 0)) Less ≡ Less in
    let len : length (y ∷ ys ++ replicate q 0) ≡ p = length-padded (y ∷ ys) q ∙ omega arith in
    ap (ordering_then _) (sym (nat_cmp_is 0 (length (y ∷ ys)) Less (omega arith))) ∙ subst P len (zeros_below (y ∷ ys ++ replicate q 0))
cmp-padded (x ∷ xs) [] p q e =
    let P : ℕ → Type 0 = λ k. ordering_then (slice_cmp nat_cmp (x ∷ xs ++ replicate p 0) (replicate k 0)) Greater ≡ Greater in
    let len : length (x ∷ xs ++ replicate p 0) ≡ q = length-padded (x ∷ xs) p ∙ omega arith in
    ap (ordering_then _) (sym (nat_cmp_is (length (x ∷ xs)) 0 Greater (omega arith))) ∙ subst P len (zeros_above (x ∷ xs ++ replicate p 0))
cmp-padded (x ∷ xs) (y ∷ ys) p q e =
    let lengths : nat_cmp (length (x ∷ xs)) (length (y ∷ ys)) ≡ nat_cmp (length xs) (length ys) = cmp-suc (length xs) (length ys) in
    ap (ordering_then _) lengths
    ∙ sym (then_assoc (nat_cmp x y) (slice_cmp nat_cmp (xs ++ replicate p 0) (ys ++ replicate q 0)) (nat_cmp (length xs) (length ys)))
    ∙ ap (ordering_then (nat_cmp x y)) (cmp-padded xs ys p q (omega arith))

-- names are ordered as their bytes
cmp-name : (m n : BoxName) → length m.bytes ≡ 64 → length n.bytes ≡ 64 →
    ordering_then (slice_cmp nat_cmp m.bytes n.bytes) (nat_cmp m.len n.len) ≡ slice_cmp nat_cmp (name_of m) (name_of n)
cmp-name m n lm ln =
    let len = name_len m (name_of m) lm refl in
    let len' = name_len n (name_of n) ln refl in
    let h = m.short in
    let h' = n.short in
    ap₂ ordering_then (ap₂ (slice_cmp nat_cmp) (name_bytes m (name_of m) lm refl) (name_bytes n (name_of n) ln refl)) (ap₂ nat_cmp len len')
    ∙ cmp-padded (name_of m) (name_of n) (64 - length (name_of m)) (64 - length (name_of n)) (omega arith)

-- keys are ordered as their bytes
pub key_order : (a b : Key) → IsKey a → IsKey b → key_cmp a b ≡ slice_cmp nat_cmp (key_bytes a) (key_bytes b)
key_order (Account a) (Account b) h g = refl
key_order (Account a) (Resource b j) h g = refl
key_order (Account a) (Box j n) h g = refl
key_order (Resource a i) (Account b) h g = refl
key_order (Resource a i) (Resource b j) h g =
    ap (ordering_then _) (sym (cmp-number i j h.1 g.1)) ∙ sym (cmp-append a.0 b.0 (number_bytes i) (number_bytes j) (h.0 ∙ sym g.0))
key_order (Resource a i) (Box j n) h g = refl
key_order (Box i m) (Account b) h g = refl
key_order (Box i m) (Resource b j) h g = refl
key_order (Box i m) (Box j n) h g =
    ap₂ ordering_then (sym (cmp-number i j h.0 g.0)) (cmp-name m n h.1 g.1)
    ∙ sym (cmp-append (number_bytes i) (number_bytes j) (name_of m) (name_of n) (length-number_bytes i ∙ sym (length-number_bytes j)))
