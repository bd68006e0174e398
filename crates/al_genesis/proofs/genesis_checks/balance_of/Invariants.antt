use Rattle.std.proofs.Common.{◌≡◌, drop}
use Rattle.al_genesis.specs.Genesis.{balance_of}
use Rattle.al_genesis.proofs.genesis_checks.balance_of.Given as goal

abbrev pub invariant-loop-account : goal.invariant-loop-account
invariant-loop-account l = balance_of l.who (drop l.account-index l.accounts) ≡ balance_of l.who l.accounts
