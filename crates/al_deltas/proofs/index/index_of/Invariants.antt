use Rattle.al_deltas.proofs.Indexes.{ArePassed}
use Rattle.al_deltas.proofs.index.index_of.Given as goal

abbrev pub invariant-loop-key : goal.invariant-loop-key
invariant-loop-key l = ArePassed l.key-iterator l.rows.entries l.creators
