use Rattle.std.proofs.Common.{◌++◌, ap, ◌∙◌}
use Rattle.std.proofs.lemmas.Result.{on_ok_weaker}
use Rattle.al_msgpack.specs.declared.val.Val.TheVariants as values
use Rattle.al_msgpack.specs.Spelled.{spelled}
use Rattle.al_txn.proofs.Straight.{own_group}
use Rattle.al_txn.proofs.record.TxnRecord.write.Goals as goal

pub returns-clause-bytes : goal.returns-clause-bytes
returns-clause-bytes c =
    on_ok_weaker c.write_in_group.result (λ h. h ∙ ap (λ es. c.args.out.now.items ++ spelled (values.Map es)) (own_group c.args.self.now c.args.self.now.body)) c.write_in_group.ensures.bytes
