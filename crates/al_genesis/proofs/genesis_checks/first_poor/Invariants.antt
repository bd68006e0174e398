use Rattle.std.proofs.Common.{◌≡◌, take, false}
use Rattle.std.specs.List.{list_any}
use Rattle.al_genesis.specs.Genesis.{is_poor}
use Rattle.al_genesis.proofs.genesis_checks.first_poor.Given as goal

abbrev pub invariant-loop-place : goal.invariant-loop-place
invariant-loop-place l = list_any (is_poor l.sink l.pool) (take l.place l.accounts) ≡ false
