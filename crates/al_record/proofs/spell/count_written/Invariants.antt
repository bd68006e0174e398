use Rattle.std.proofs.Common.{◌≡◌, ◌+◌, ◌≤◌, map, drop}
use Rattle.al_record.specs.Code.{count_some, put_of}
use Rattle.al_record.proofs.spell.count_written.Given as goal

abbrev pub invariant-loop-content : goal.invariant-loop-content
invariant-loop-content l = record {
  counted : l.n + count_some (map put_of (drop l.content-index l.contents)) ≡ count_some (map put_of l.contents);
  within : l.n ≤ l.content-index;
}
