use Rattle.std.proofs.Common.{ap, ◌++◌, ◌∙◌}
use Rattle.std.proofs.lemmas.Result.{on_ok_weaker, on_err_weaker}
use Rattle.al_record.proofs.Appended.{front_behind}
use Rattle.al_txn.specs.Item.{item_front}
use Rattle.al_txn.proofs.Straight.{item_behind}
use Rattle.al_txn.proofs.item.ItemRecord.write.Goals as goal

pub returns-clause-bytes : goal.returns-clause-bytes
returns-clause-bytes c =
    let headed = c.in_ok-write_front.ensures.bytes ∙ ap (λ xs. c.args.out.now.items ++ item_front xs) c.as_slice.ensures in
    on_ok_weaker c.write.result (item_behind c.args.out.now.items c.write_front.new.out.items c.write.new.out.items c.args.self.now headed) c.write.ensures.bytes

pub returns-clause-front : goal.returns-clause-front
returns-clause-front c =
    on_err_weaker c.write.result (front_behind c.args.out.now.items _ c.write_front.new.out.items c.write.new.out.items c.in_ok-write_front.ensures.bytes) c.write.ensures.front
