use Rattle.std.proofs.Common.{◌≡◌, ◌+◌, ◌*◌, ◌-◌, None}
use Rattle.std.specs.Option.{option_copied}
use Rattle.al_msgpack.specs.Reading.{all_of, entries_of, in_front}
use Rattle.al_msgpack.proofs.reading.+value.Given as goal

abbrev pub decreases-value : goal.decreases-value
decreases-value l = 2 * l.depth

abbrev pub decreases-values : goal.decreases-values
decreases-values l = 2 * l.depth + 1

abbrev pub decreases-entries : goal.decreases-entries
decreases-entries l = 2 * l.depth + 1

abbrev pub invariant-values-loop : goal.invariant-values-loop
invariant-values-loop l = in_front l.items (all_of l.depth (l.count - l.counter) l.rest) ≡ all_of l.depth l.count l.bytes

abbrev pub invariant-entries-loop : goal.invariant-entries-loop
invariant-entries-loop l = in_front l.items (entries_of l.depth (option_copied l.before) (l.count - l.counter) l.rest) ≡ entries_of l.depth None l.count l.bytes
