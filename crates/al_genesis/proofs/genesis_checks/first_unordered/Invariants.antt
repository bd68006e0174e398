use Rattle.std.proofs.Common.{◌≡◌, take, true}
use Rattle.al_msgpack.specs.Rising.{rises}
use Rattle.al_genesis.specs.Genesis.{addresses_of}
use Rattle.al_genesis.proofs.genesis_checks.first_unordered.Given as goal

abbrev pub invariant-loop-place : goal.invariant-loop-place
invariant-loop-place l = rises (addresses_of (take l.place l.accounts)) ≡ true
