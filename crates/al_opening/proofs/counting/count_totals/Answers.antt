use Rattle.std.proofs.Common.{◌≤◌, subst}
use Rattle.al_rows.specs.Limits.{max_balance}
use Rattle.al_opening.proofs.CountLemmas.{counted_exactly}
use Rattle.al_opening.proofs.counting.count_totals.Goals as goal

pub returns-clause-counts : goal.returns-clause-counts
returns-clause-counts g c t = counted_exactly c.args.level _ c.in-Ok.totals (c.in-Ok.ensures.value t) (subst (λ n. n ≤ max_balance) c.all_money-counted.ensures c.if-counted.false)
