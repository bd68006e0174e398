use Rattle.std.proofs.Common.{sym}
use Rattle.al_txn.proofs.Straight.{txn_some}
use Rattle.al_txn.proofs.record.TxnInnerRecord.is_empty.Goals as goal

pub returns : goal.returns
returns c = sym (txn_some c.args.self.now)
