use Rattle.std.proofs.Common.{◌≡◌, drop}
use Rattle.al_catchpoint.specs.Gathering.{with_rows}
use Rattle.al_catchpoint.proofs.elements.add_rows.Given as goal

abbrev pub invariant-loop-row : goal.invariant-loop-row
invariant-loop-row l = with_rows l.trie.elements (drop l.row-index l.rows) ≡ with_rows l.initial.trie.elements l.rows
