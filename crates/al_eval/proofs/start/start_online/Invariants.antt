use Rattle.std.proofs.Common.{◌≡◌, take}
use Rattle.al_eval.specs.Start.{start_online}
use Rattle.al_eval.proofs.start.start_online.Given as goal

abbrev pub invariant-loop-account : goal.invariant-loop-account
invariant-loop-account l = l.changes ≡ start_online (take l.account-index l.accounts)
