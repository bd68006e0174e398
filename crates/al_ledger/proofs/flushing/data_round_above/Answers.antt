use Rattle.std.proofs.Common.{◌<◌, arith}
use Rattle.al_ledger.proofs.DataRounds.{next_data_round}
use Rattle.al_ledger.proofs.flushing.data_round_above.Goals as goal

pub returns : goal.returns
returns c = next_data_round c.args.interval c.args.floor (let other = c.if-interval-eq0.false in let some : 0 < c.args.interval = omega (arith, other) in some)
