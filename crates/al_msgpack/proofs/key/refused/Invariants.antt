use Rattle.std.proofs.Common.{◌≡◌, ◌+◌, ◌<◌, length}
use Rattle.al_msgpack.specs.Reading.{lead, refused_at}
use Rattle.al_msgpack.proofs.key.refused.Given as goal

abbrev pub invariant-loop : goal.invariant-loop
invariant-loop l = record {
  same : refused_at l.before l.len l.rest ≡ refused_at l.fn.before l.fn.len l.fn.bytes;
  reach : lead l.before < l.len;
  long : length l.before + l.counter ≡ length l.fn.before;
}
