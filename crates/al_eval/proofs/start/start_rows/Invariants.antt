use Rattle.std.proofs.Common.{◌≡◌, drop, IfSome}
use Rattle.std.specs.FinMap.{from_entries}
use Rattle.al_base.specs.declared.key.Key.{Key}
use Rattle.al_overlay.specs.Held.{at}
use Rattle.al_rows.specs.declared.stored.Stored.{Stored}
use Rattle.al_rows.specs.Rows.{IsKept}
use Rattle.al_eval.specs.Start.{with_accounts, start_rows}
use Rattle.al_eval.proofs.start.start_rows.Given as goal

abbrev pub invariant-loop-account : goal.invariant-loop-account
invariant-loop-account l = record {
  map : with_accounts (from_entries l.rows.entries) (drop l.account-index l.accounts) ≡ start_rows l.accounts;
  kept : (q : Key) → IfSome (at l.rows.entries q) (λ (s : Stored). IsKept q s.row);
}
