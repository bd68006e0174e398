use Rattle.std.proofs.Common.{◌≡◌, ◌+◌, ◌*◌, ◌^◌, ◌<◌, length, map, take, set, All, sym, ap, ◌∙◌, arith, subst}
use Rattle.std.proofs.lemmas.List.{take_all}
use Rattle.std.specs.Int.Digits.{number_from_digits}
use Rattle.al_digest.specs.declared.base32.Bits.{Bits}
use Rattle.al_digest.specs.Base32.{digit_of, IsLetter}
use Rattle.al_digest.proofs.Groups.{front_number, written, filled, letter_goes, letters-more}
use Rattle.al_digest.proofs.base32.encode.Goals as goal
use Rattle.al_digest.proofs.base32.encode.Goals.{then-bits-lt5, else-bits-lt5}

pub loop-place-preserved : goal.loop-place-preserved
loop-place-preserved c =
    let text = c.loop-place.text in
    let bytes = c.args.bytes.now in
    let i = c.loop-place.place-index in
    let t = number_from_digits 32 (map digit_of (take i text)) in
    let now = c.if-bits-lt5 in
    let high = c.split-digit.result.0 in
    let rest = c.split-digit.result.1 in
    let more : (t * 2 ^ now.bits.count + now.bits.value ≡ front_number bytes now.next) × (5 * i + now.bits.count ≡ 8 * now.next) × (now.bits.count < 13) = elim now.branch [
      | then-bits-lt5 w ↦ (
          let count : now.bits.count ≡ c.loop-place.bits.count + 8 = ap (λ (b : Bits). b.count) w.bits-is ∙ w.with-bits.ensures.count in
          let value : now.bits.value ≡ c.loop-place.bits.value * 256 + w.from.result = ap (λ (b : Bits). b.value) w.bits-is ∙ w.with-bits.ensures.value in
          (filled bytes t c.loop-place.bits.value c.loop-place.bits.count now.bits.value now.bits.count c.loop-place.next now.next w.from.result c.loop-place.invariant.value (omega arith) count value w.next-is (w.from.ensures ∙ w.byte_at.ensures), omega arith, omega arith))
      | else-bits-lt5 w ↦ (
          let count : now.bits.count ≡ c.loop-place.bits.count = ap (λ (b : Bits). b.count) w.bits-is in
          let value : now.bits.value ≡ c.loop-place.bits.value = ap (λ (b : Bits). b.value) w.bits-is in
          (ap (λ k. t * 2 ^ k + now.bits.value) count ∙ ap (λ k. t * 2 ^ c.loop-place.bits.count + k) value ∙ c.loop-place.invariant.value ∙ ap (front_number bytes) (sym w.next-is), omega arith, omega arith))
    ] in
    let l : i < length text = omega arith in
    let put = c.letter.ensures in
    record {
      letters = subst (λ k. All IsLetter (take (i + 1) (set text i k))) (sym put) (letters-more text i high l c.split-digit.ensures.high c.loop-place.invariant.letters);
      places = omega (arith, more.1, c.split-digit.ensures.count);
      few = omega (arith, more.2, c.split-digit.ensures.count);
      value = subst (λ k. number_from_digits 32 (map digit_of (take (i + 1) (set text i k))) * 2 ^ rest.count + rest.value ≡ front_number bytes now.next) (sym put)
          (letter_goes text i high now.bits.value now.bits.count rest.value rest.count (front_number bytes now.next) l c.split-digit.ensures.high more.0 c.split-digit.ensures.count c.split-digit.ensures.value);
    }

pub returns : goal.returns
returns c =
    let text = c.loop-place.text in
    let i = c.loop-place.place-index in
    let b = c.loop-place.bits in
    let whole : take i text ≡ text = take_all i text (omega arith) in
    written c.args.bytes.now text c.loop-place.next b.count b.value (omega arith) (subst (All IsLetter) whole c.loop-place.invariant.letters) (omega arith) c.loop-place.invariant.few b.fits
    (ap (λ zs. number_from_digits 32 (map digit_of zs) * 2 ^ b.count + b.value) (sym whole) ∙ c.loop-place.invariant.value)
