-- The rows of the accounts so far.
use Rattle.std.proofs.Common.{◌≡◌, map, take}
use Rattle.al_genesis.specs.Genesis.{first_row}
use Rattle.al_generator.specs.Genesis.{first_account}
use Rattle.al_generator.proofs.genesis.rows_of.Given as goal

abbrev pub invariant-loop-opening : goal.invariant-loop-opening
invariant-loop-opening l = l.rows ≡ map first_row (map first_account (take l.opening-index l.all))
