use Rattle.std.proofs.Common.{◌≡◌, take}
use Rattle.al_txn.specs.Ids.{member_ids}
use Rattle.al_txn.proofs.id.group_id.Given as goal

abbrev pub invariant-loop-item : goal.invariant-loop-item
invariant-loop-item l = l.ids ≡ member_ids (take l.item-index l.items)
