use Rattle.std.proofs.Common.{◌≡◌, ◌+◌, drop}
use Rattle.al_msgpack.specs.Reading.{lead}
use Rattle.al_msgpack.proofs.key.lead_of.Given as goal

abbrev pub invariant-loop-b : goal.invariant-loop-b
invariant-loop-b l = record {
  same : lead (drop l.b-index l.bytes) + l.n ≡ lead l.bytes;
  count : l.n ≡ l.b-index;
}
