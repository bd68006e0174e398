use Rattle.std.proofs.Common.{◌≡◌, ◌++◌, ap, length, rules, ◌∙◌}
use Rattle.al_msgpack.specs.declared.val.Val.TheVariants as values
use Rattle.al_msgpack.specs.Spelled.{spelled}
use Rattle.al_digest.specs.Digests.{digest_of}
use Rattle.al_digest.specs.declared.hashing.Prefix.TheVariants as prefixes
use Rattle.al_record.proofs.Appended.{front_behind}
use Rattle.al_txn.specs.Item.{item_front}
use Rattle.al_txn.specs.Txn.{txn}
use Rattle.al_txn.proofs.Straight.{item_behind, last_part}
use Rattle.al_txn.proofs.item.write_with_id.Goals as goal

pub returns-clause-bytes : goal.returns-clause-bytes
returns-clause-bytes c =
    let headed = c.in_ok-write_front.ensures.bytes ∙ ap (λ xs. c.args.out.now.items ++ item_front xs) c.as_slice.ensures in
    item_behind c.args.out.now.items c.write_front.new.out.items c.write.new.out.items c.args.member.now headed c.in_ok-write.ensures.bytes

pub returns-clause-id : goal.returns-clause-id
returns-clause-id c =
    let at : c.len-start.result ≡ length c.write_front.new.out.items = search rules in
    c.digest.ensures.value ∙ ap (digest_of prefixes.Tx) (last_part c.write_front.new.out.items c.write.new.out.items c.deref.result.now (spelled (values.Map (txn.write c.args.member.now.txn))) c.len-start.result at c.deref.ensures.value c.in_ok-write.ensures.bytes)
