use Rattle.std.proofs.Common.{◌≡◌, ◌+◌, ◌-◌, ◌^◌, min, drop}
use Rattle.al_genesis.specs.Genesis.{money_of}
use Rattle.al_genesis.proofs.genesis_checks.has_too_much.Given as goal

abbrev pub invariant-loop-account : goal.invariant-loop-account
invariant-loop-account l = min (l.money + money_of (drop l.account-index l.accounts)) (2 ^ 64 - 1) ≡ min (money_of l.accounts) (2 ^ 64 - 1)
