-- The users so far, behind sink and pool.
use Rattle.std.proofs.Common.{◌≡◌, ◌∷◌, map}
use Rattle.std.specs.List.{range_with_len}
use Rattle.al_generator.specs.Genesis.{pool_opening, sink_opening, user_opening}
use Rattle.al_generator.proofs.genesis.openings.Given as goal

abbrev pub invariant-loop-i : goal.invariant-loop-i
invariant-loop-i l = l.all.items ≡ sink_opening ∷ pool_opening ∷ map user_opening (range_with_len 0 l.i)
