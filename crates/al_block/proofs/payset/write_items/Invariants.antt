use Rattle.std.proofs.Common.{◌≡◌, ◌++◌, map, take, drop}
use Rattle.al_msgpack.specs.declared.val.Val.TheVariants as values
use Rattle.al_msgpack.specs.Spelled.{all_spelled}
use Rattle.al_txn.specs.Ids.{txid_of}
use Rattle.al_txn.specs.Item.{item}
use Rattle.al_block.proofs.payset.write_items.Given as goal

abbrev pub invariant-loop-member : goal.invariant-loop-member
invariant-loop-member l = record {
  bytes : l.out.items ++ all_spelled (map (λ es. values.Map es) (map item.write (drop l.member-index l.items))) ≡ l.fn.out.items ++ all_spelled (map (λ es. values.Map es) (map item.write l.items));
  ids : l.ids.items ≡ map (λ i. txid_of i.txn) (take l.member-index l.items);
}
