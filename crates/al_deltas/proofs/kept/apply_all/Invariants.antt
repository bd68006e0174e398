use Rattle.std.proofs.Common.{◌≡◌, map, drop, IfSome}
use Rattle.al_base.specs.declared.key.Key.{Key}
use Rattle.al_rows.specs.declared.stored.Stored.{Stored}
use Rattle.al_rows.specs.Finite.{or_below}
use Rattle.al_rows.specs.Rows.{IsKept}
use Rattle.al_deltas.specs.Index.{IsIndex}
use Rattle.al_deltas.specs.Queue.{left_of}
use Rattle.al_deltas.proofs.Applied.{at}
use Rattle.al_deltas.proofs.Searches.{Rise}
use Rattle.al_deltas.proofs.kept.apply_all.Given as goal

abbrev pub invariant-loop-change : goal.invariant-loop-change
invariant-loop-change l = record {
  rise : Rise (drop l.change-index l.changes);
  rest : (q : Key) → or_below (at (map (left_of l.round) (drop l.change-index l.changes)) q) (at l.rows.entries q) ≡ or_below (at (map (left_of l.round) l.changes) q) (at l.fn.rows.entries q);
  again : (q : Key) → or_below (at (map (left_of l.round) l.changes) q) (at l.rows.entries q) ≡ or_below (at (map (left_of l.round) l.changes) q) (at l.fn.rows.entries q);
  kept : (q : Key) → IfSome (at l.rows.entries q) (λ (s : Stored). IsKept q s.row);
  index : IfSome l.creators (IsIndex l.rows);
}
