-- The ids of transactions and groups.
use Rattle.std.specs.Prelude.{ℕ, codes, replicate, map, List, []}
use Rattle.al_digest.specs.Digests.{digest_of}
use Rattle.al_digest.specs.declared.hashing.Prefix.TheVariants as prefixes
use Rattle.al_msgpack.specs.declared.val.Val.{Val}
use Rattle.al_msgpack.specs.declared.val.Val.TheVariants as values
use Rattle.al_msgpack.specs.Spelled.{spelled}
use Rattle.al_record.specs.Columns.{with_entry, list_put}
use Rattle.al_txn.specs.declared.txn.Txn.{Txn}
use Rattle.al_txn.specs.declared.txn.Item.{Item}
use Rattle.al_txn.specs.Txn.{txn, with_group}

-- a transaction's id: the digest of its spelling
abbrev pub txid_of : Txn → List ℕ
txid_of t = digest_of prefixes.Tx (spelled (values.Map (txn.write t)))

-- the same in no group
abbrev pub ungrouped : Txn → Txn
ungrouped t = with_group (replicate 32 0) t

abbrev pub member_ids : List Item → List Val
member_ids items = map (λ i. values.Bin (txid_of (ungrouped i.txn))) items

-- a group's id: the digest of the map with the one field `txlist`, the members' ids outside of the group
abbrev pub group_id_of : List Item → List ℕ
group_id_of items = digest_of prefixes.Group (spelled (values.Map (with_entry (codes "txlist") (list_put (member_ids items)) [])))
