use Rattle.std.proofs.Common.{◌≡◌, ◌+◌, ◌*◌, ◌^◌, ◌<◌, take, map, All}
use Rattle.std.specs.Int.Digits.{number_from_digits}
use Rattle.al_digest.specs.Base32.{digit_of, IsLetter}
use Rattle.al_digest.proofs.Groups.{front_number}
use Rattle.al_digest.proofs.base32.encode.Given as goal

abbrev pub invariant-loop-place : goal.invariant-loop-place
invariant-loop-place l = record {
  letters : All IsLetter (take l.place-index l.text);
  places : 5 * l.place-index + l.bits.count ≡ 8 * l.next;
  few : l.bits.count < 8;
  value : number_from_digits 32 (map digit_of (take l.place-index l.text)) * 2 ^ l.bits.count + l.bits.value ≡ front_number l.bytes l.next;
}
