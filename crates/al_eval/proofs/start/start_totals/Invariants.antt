use Rattle.std.proofs.Common.{◌≡◌, drop}
use Rattle.al_rewards.specs.Totals.{AreTotals}
use Rattle.al_eval.specs.Start.{and_accounts, start_totals}
use Rattle.al_eval.proofs.start.start_totals.Given as goal

abbrev pub invariant-loop-account : goal.invariant-loop-account
invariant-loop-account l = AreTotals (start_totals l.accounts) → and_accounts l.totals (drop l.account-index l.accounts) ≡ start_totals l.accounts
