use Rattle.std.proofs.Common.{◌≡◌, ◌+◌, ◌*◌, ◌^◌, ◌<◌, length, get_or, map, take, set, All, sym, ap, ap₂, ◌∙◌, arith, subst}
use Rattle.std.proofs.lemmas.List.{take_all}
use Rattle.std.proofs.lemmas.List.Elements.{All-more}
use Rattle.std.specs.Int.Digits.{number_from_digits}
use Rattle.al_digest.specs.declared.base32.Bits.{Bits}
use Rattle.al_digest.specs.Base32.{digit_of, IsLetter}
use Rattle.al_digest.proofs.Groups.{read_all, bytes_below, read_text, read_spare, letter_comes, byte_goes}
use Rattle.al_digest.proofs.base32.decode.Goals as goal
use Rattle.al_digest.proofs.base32.decode.Goals.{then-bits-ge8, else-bits-ge8}

pub loop-at-preserved : goal.loop-at-preserved
loop-at-preserved c =
    let text = c.args.text.now in
    let i = c.loop-at.at in
    let was = c.loop-at.bits in
    let bits = c.with-bits.result in
    let now = c.if-bits-ge8 in
    let bytes = c.loop-at.bytes in
    let next = c.loop-at.next in
    let t = number_from_digits 256 (take next bytes) in
    let digit : c.from.result ≡ digit_of (get_or text i 0) = c.from.ensures ∙ c.in-Some.ensures.1 in
    let letter : IsLetter (get_or text i 0) = c.in-Some.ensures.0 in
    let l : i < length text = omega arith in
    let come : t * 2 ^ bits.count + bits.value ≡ number_from_digits 32 (map digit_of (take (i + 1) text)) =
    letter_comes text t was.value was.count bits.value bits.count i c.from.result l c.loop-at.invariant.value c.with-bits.ensures.count c.with-bits.ensures.value digit in
    let more : (number_from_digits 256 (take now.next now.bytes) * 2 ^ now.bits.count + now.bits.value ≡ number_from_digits 32 (map digit_of (take (i + 1) text))) × (5 * (i + 1) ≡ 8 * now.next + now.bits.count) × (now.bits.count < 8) = elim now.branch [
      | then-bits-ge8 w ↦ (
          let high = w.split-byte.result.0 in
          let rest = w.split-byte.result.1 in
          let room : next < length bytes = omega arith in
          let count : now.bits.count ≡ rest.count = ap (λ (b : Bits). b.count) w.bits-is in
          let value : now.bits.value ≡ rest.value = ap (λ (b : Bits). b.value) w.bits-is in (
            ap₂ (λ k zs. number_from_digits 256 (take k zs) * 2 ^ now.bits.count + now.bits.value) w.next-is w.bytes-is
                ∙ ap₂ (λ k v. number_from_digits 256 (take (next + 1) (set bytes next high)) * 2 ^ k + v) count value
                ∙ byte_goes bytes next high bits.value bits.count rest.value rest.count _ room come w.split-byte.ensures.count w.split-byte.ensures.value,
            omega arith,
            omega arith,
          ))
      | else-bits-ge8 w ↦ (
          let count : now.bits.count ≡ bits.count = ap (λ (b : Bits). b.count) w.bits-is in
          let value : now.bits.value ≡ bits.value = ap (λ (b : Bits). b.value) w.bits-is in (
            ap₂ (λ k zs. number_from_digits 256 (take k zs) * 2 ^ now.bits.count + now.bits.value) w.next-is w.bytes-is
                ∙ ap₂ (λ k v. t * 2 ^ k + v) count value
                ∙ come,
            omega arith,
            omega arith,
          ))
    ] in
    let below : All (λ b. b < 256) (take now.next now.bytes) = elim now.branch [
      | then-bits-ge8 w ↦ subst (All (λ b. b < 256)) (ap₂ take (sym w.next-is) (sym w.bytes-is)) (bytes_below bytes next w.split-byte.result.0 (omega arith) c.loop-at.invariant.below w.split-byte.ensures.high)
      | else-bits-ge8 w ↦ subst (All (λ b. b < 256)) (ap₂ take (sym w.next-is) (sym w.bytes-is)) c.loop-at.invariant.below
    ] in
    record {
      below = below;
      letters = All-more IsLetter text i 0 l c.loop-at.invariant.letters letter;
      places = more.1;
      few = more.2;
      value = more.0;
    }

pub returns-then-bits-eq0-clause-reads : goal.returns-then-bits-eq0-clause-reads
returns-then-bits-eq0-clause-reads c =
    let text = c.args.text.now in
    let i = c.loop-at.at in
    let b = c.loop-at.bits in
    let bytes = c.loop-at.bytes in
    let whole : take i text ≡ text = take_all i text (omega arith) in
    read_text text bytes c.loop-at.next b.count b.value (omega arith) (omega arith) (omega arith) c.loop-at.invariant.few (subst (All IsLetter) whole c.loop-at.invariant.letters)
    (c.loop-at.invariant.value ∙ ap (λ zs. number_from_digits 32 (map digit_of zs)) whole) c.if-bits-eq0.true

pub returns-else-bits-eq0-clause-reads : goal.returns-else-bits-eq0-clause-reads
returns-else-bits-eq0-clause-reads c =
    let text = c.args.text.now in
    let i = c.loop-at.at in
    let b = c.loop-at.bits in
    let bytes = c.loop-at.bytes in
    let whole : take i text ≡ text = take_all i text (omega arith) in (
      subst (All IsLetter) whole c.loop-at.invariant.letters,
      read_spare text bytes c.loop-at.next b.count b.value (omega arith) (omega arith) (omega arith) c.loop-at.invariant.few b.fits
          (c.loop-at.invariant.value ∙ ap (λ zs. number_from_digits 32 (map digit_of zs)) whole) c.if-bits-eq0.false,
    )

pub returns-then-bits-eq0-clause-bytes : goal.returns-then-bits-eq0-clause-bytes
returns-then-bits-eq0-clause-bytes c =
    let at = read_all c.args.text.now c.loop-at.bytes c.loop-at.next c.loop-at.bits.count c.loop-at.bits.value (omega arith) (omega arith) (omega arith) c.loop-at.invariant.few in
    subst (All (λ b. b < 256)) (take_all c.loop-at.next c.loop-at.bytes (omega arith)) c.loop-at.invariant.below
