use Rattle.std.proofs.Common.{◌≡◌, ◌+◌, ◌*◌, ◌^◌, ◌<◌, take, map, All}
use Rattle.std.specs.Int.Digits.{number_from_digits}
use Rattle.al_digest.specs.Base32.{digit_of, IsLetter}
use Rattle.al_digest.proofs.base32.decode.Given as goal

abbrev pub invariant-loop-at : goal.invariant-loop-at
invariant-loop-at l = record {
  below : All (λ b. b < 256) (take l.next l.bytes);
  letters : All IsLetter (take l.at l.text);
  places : 5 * l.at ≡ 8 * l.next + l.bits.count;
  few : l.bits.count < 8;
  value : number_from_digits 256 (take l.next l.bytes) * 2 ^ l.bits.count + l.bits.value ≡ number_from_digits 32 (map digit_of (take l.at l.text));
}
