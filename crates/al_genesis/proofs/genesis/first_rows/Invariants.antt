use Rattle.std.proofs.Common.{◌≡◌, map, take}
use Rattle.al_genesis.specs.Genesis.{first_row}
use Rattle.al_genesis.proofs.genesis.first_rows.Given as goal

abbrev pub invariant-loop-account : goal.invariant-loop-account
invariant-loop-account l = l.rows ≡ map first_row (take l.account-index l.accounts)
