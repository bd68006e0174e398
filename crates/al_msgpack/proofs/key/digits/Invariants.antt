use Rattle.std.proofs.Common.{◌≡◌, ◌<◌, ◌-◌, ◌^◌}
use Rattle.al_msgpack.specs.Reading.{digits_at}
use Rattle.al_msgpack.proofs.key.digits.Given as goal

abbrev pub invariant-loop-i : goal.invariant-loop-i
invariant-loop-i l = record {
  same : digits_at (l.width - l.i) l.n l.least l.rest ≡ digits_at l.width 0 l.least l.bytes;
  small : l.n < 256 ^ l.i;
}
