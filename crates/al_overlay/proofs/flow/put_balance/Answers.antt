use Rattle.al_overlay.proofs.Flows.{zero_balance}
use Rattle.al_overlay.proofs.flow.put_balance.Goals as goal

pub returns-else-balance-eq0-clause-zero : goal.returns-else-balance-eq0-clause-zero
returns-else-balance-eq0-clause-zero c = zero_balance (record c.args.r.now { balance = c.args.balance; base = c.args.base }) c.if-balance-eq0.false
