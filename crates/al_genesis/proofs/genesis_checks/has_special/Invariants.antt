use Rattle.std.proofs.Common.{◌≡◌, drop}
use Rattle.al_genesis.specs.Genesis.{has_special}
use Rattle.al_genesis.proofs.genesis_checks.has_special.Given as goal

abbrev pub invariant-loop-account : goal.invariant-loop-account
invariant-loop-account l = has_special l.who (drop l.account-index l.accounts) ≡ has_special l.who l.accounts
