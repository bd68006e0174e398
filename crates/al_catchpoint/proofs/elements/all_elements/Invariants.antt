use Rattle.std.proofs.Common.{length}
use Rattle.al_deltas.specs.Queue.{rows_after}
use Rattle.al_rows.specs.Above.{entries_above}
use Rattle.al_catchpoint.proofs.Rest.{Gathered}
use Rattle.al_catchpoint.proofs.elements.all_elements.Given as goal

abbrev pub invariant-pieces : goal.invariant-pieces
invariant-pieces l = Gathered (rows_after l.states.deltas.deltas l.states.base) l.after l.trie.elements

abbrev pub decreases-pieces : goal.decreases-pieces
decreases-pieces l = length (entries_above l.after (rows_after l.states.deltas.deltas l.states.base))
