-- A text has one reading.
use Rattle.std.proofs.Common.{◌≡◌, ℕ, zero, suc, ◌+◌, ◌-◌, ◌*◌, ◌/◌, ◌%◌, ◌^◌, ◌<◌, List, ◌++◌, length, take, drop, sym, ap, ◌∙◌, arith, subst, length-append, All, Result, Ok, Err}
use Rattle.std.proofs.lemmas.List.{take_at, drop_at, length-drop}
use Rattle.std.proofs.lemmas.List.Elements.{All-nil, All-cons, All-append, All-take, All-drop, All-get_or}
use Rattle.std.proofs.lemmas.Nat.{mod_below}
use Rattle.std.specs.Int.{bytes_high_first, byte_at}
use Rattle.std.specs.Result.{IfOk}
use Rattle.sha2.specs.Sha512.{sha512_256, digest_bytes}
use Rattle.sha2.proofs.Facts512.{length-sha512_256}
use Rattle.al_base.specs.declared.address.Address.{Address}
use Rattle.al_digest.specs.declared.texts.TextFault.{TextFault}
use Rattle.al_digest.specs.declared.texts.TextFault.TheVariants.{Length, Letter, SpareBits, Check}
use Rattle.al_digest.specs.Base32.{base32, IsLetter, last_digit}
use Rattle.al_digest.specs.Texts.{hash_text_of, check_of, address_text_of, HasTextFault, AreBytes, ReadsHash, ReadsAddress}
use Rattle.al_digest.proofs.Letters.{base32_letters, length-base32, base32_spare, base32_same}

one_byte : (k n : ℕ) → byte_at k n < 256
one_byte zero n = mod_below n 256 (omega arith)
one_byte (suc k) n = mod_below (n / 256 ^ suc k) 256 (omega arith)

high_first : (k n : ℕ) → All (λ b. b < 256) (bytes_high_first k n)
high_first zero n = All-nil (λ b. b < 256)
high_first (suc k) n = All-cons (λ b. b < 256) (byte_at k n) (bytes_high_first k n) (one_byte k n) (high_first k n)

words : (h : List ℕ) (n : ℕ) → All (λ b. b < 256) (digest_bytes h n)
unfolding digest_bytes
words h zero = All-nil (λ b. b < 256)
words h (suc n) = All-append (λ b. b < 256) (digest_bytes h n) _ (words h n) (high_first 8 _)

below : (m : List ℕ) → All (λ b. b < 256) (sha512_256 m)
unfolding sha512_256
below m = All-take (λ b. b < 256) 32 _ (words _ 8)

-- a digest is 32 bytes
pub digest_are_bytes : (m : List ℕ) → AreBytes 32 (sha512_256 m)
digest_are_bytes m = (length-sha512_256 m, below m)

pub checked_are_bytes : (a : List ℕ) → AreBytes 32 a → AreBytes 36 (a ++ check_of a)
checked_are_bytes a h =
    let d = digest_are_bytes a in
    (omega (arith, h.0, d.0, length-append a (check_of a), length-drop 28 (sha512_256 a)), All-append (λ b. b < 256) a (check_of a) h.1 (All-drop (λ b. b < 256) 28 (sha512_256 a) d.1))

-- the text of so many bytes has no fault
no_fault : (n : ℕ) (bytes text : List ℕ) (fault : TextFault) → 0 < n → AreBytes n bytes → text ≡ base32 bytes → HasTextFault ((8 * n + 4) / 5) (5 * ((8 * n + 4) / 5) - 8 * n) text fault → ⊥
no_fault n bytes text (Length found) some h is x = x.1 (x.0 ∙ ap length is ∙ length-base32 bytes ∙ ap (λ k. (8 * k + 4) / 5) h.0)
no_fault n bytes text (Letter at) some h is (long, (within, other, front)) =
    other (All-get_or IsLetter text at 0 within (subst (All IsLetter) (sym is) (base32_letters bytes)))
no_fault n bytes text SpareBits some h is (long, all, bits) =
    bits (ap (λ zs. last_digit zs % 2 ^ (5 * ((8 * n + 4) / 5) - 8 * n)) is ∙ ap (λ k. last_digit (base32 bytes) % 2 ^ (5 * ((8 * k + 4) / 5) - 8 * k)) (sym h.0) ∙ base32_spare bytes (omega (arith, h.0)))
no_fault n bytes text Check some h is x = x

same_bytes : (n : ℕ) (xs ys : List ℕ) → AreBytes n xs → AreBytes n ys → base32 xs ≡ base32 ys → xs ≡ ys
same_bytes n xs ys p q is = base32_same xs ys (p.0 ∙ sym q.0) p.1 q.1 is

pub hash_read : (text : List ℕ) (r : Result (List ℕ) TextFault) → ReadsHash text r → IfOk r (AreBytes 32) → (hash : List ℕ) → AreBytes 32 hash → text ≡ hash_text_of hash → r ≡ Ok hash
hash_read text (Ok other) reads own hash h is = ap Ok (same_bytes 32 other hash own h (sym reads ∙ is))
hash_read text (Err fault) reads own hash h is = absurd (no_fault 32 hash text fault (omega arith) h is reads)

pub address_read : (text : List ℕ) (r : Result Address TextFault) → ReadsAddress text r → IfOk r (λ a. AreBytes 32 a.0) → (address : Address) → AreBytes 32 address.0 → text ≡ address_text_of address → r ≡ Ok address
address_read text (Ok other) reads own a h is =
    let both : other.0 ++ check_of other.0 ≡ a.0 ++ check_of a.0 = same_bytes 36 (other.0 ++ check_of other.0) (a.0 ++ check_of a.0) (checked_are_bytes other.0 own) (checked_are_bytes a.0 h) (sym reads ∙ is) in
    let same : other.0 ≡ a.0 = sym (take_at other.0 (check_of other.0) 32 own.0) ∙ ap (take 32) both ∙ take_at a.0 (check_of a.0) 32 h.0 in
    (λ i. Ok (record { 0 = same i }))
address_read text (Err Check) (bytes, own, spells, wrong) x a h is =
    let both : bytes ≡ a.0 ++ check_of a.0 = same_bytes 36 bytes (a.0 ++ check_of a.0) own (checked_are_bytes a.0 h) (sym spells ∙ is) in
    absurd (wrong (ap (drop 32) both ∙ drop_at a.0 (check_of a.0) 32 h.0 ∙ sym (ap check_of (ap (take 32) both ∙ take_at a.0 (check_of a.0) 32 h.0))))
address_read text (Err (Length found)) reads x a h is = absurd (no_fault 36 (a.0 ++ check_of a.0) text (Length found) (omega arith) (checked_are_bytes a.0 h) is reads)
address_read text (Err (Letter at)) reads x a h is = absurd (no_fault 36 (a.0 ++ check_of a.0) text (Letter at) (omega arith) (checked_are_bytes a.0 h) is reads)
address_read text (Err SpareBits) reads x a h is = absurd (no_fault 36 (a.0 ++ check_of a.0) text SpareBits (omega arith) (checked_are_bytes a.0 h) is reads)
