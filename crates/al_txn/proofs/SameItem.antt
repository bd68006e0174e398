-- The record of a payset's entry determines the entry.
use Rattle.std.proofs.Common.{◌≡◌, List, None, codes, refl, sym}
use Rattle.al_msgpack.specs.declared.val.Entry.{Entry}
use Rattle.al_record.specs.Columns.{IsRecord, table, map_of, list_of, value_at, members_fault}
use Rattle.al_record.proofs.Engine.{first_none}
use Rattle.al_record.proofs.Laws.{record_shows}
use Rattle.al_record.proofs.Same.{Determined}
use Rattle.al_bodies.specs.Effect.{effect}
use Rattle.al_bodies.proofs.SameEffect.{effect_determined}
use Rattle.al_txn.specs.declared.txn.Item.{Item}
use Rattle.al_txn.specs.Item.{item, item_fields, most_effects}
use Rattle.al_txn.specs.Txn.{txn}
use Rattle.al_txn.proofs.Members.{members_determined}
use Rattle.al_txn.proofs.Same.{txn_determined}

pub of_item : (i : Item) (es : List Entry) → IsRecord item i es → IsRecord (table (item_fields (most_effects es))) i es
of_item i es r = record { fields = r.fields; sound = r.sound }

abbrev item_whole : Item → Item
item_whole i = record { txn = i.txn; effects = i.effects }

item_same : (i j : Item) → i.txn ≡ j.txn → i.effects ≡ j.effects → i ≡ j
item_same i j t e = let same : item_whole i ≡ item_whole j = cc in same

pub item_determined : Determined item
item_determined i j es r s =
    let fs = item_fields (most_effects es) in
    let a = record_shows fs i es refl (of_item i es r) in
    let b = record_shows fs j es refl (of_item j es s) in
    let ranges = first_none _ _ (first_none _ _ r.sound).1 in
    let fx : members_fault effect.fault (list_of (value_at (codes "fx") es)) ≡ None = (first_none _ _ ranges.0).1 in
    let t : txn.fault (map_of (value_at (codes "txn") es)) ≡ None = (first_none _ _ ranges.1).0 in
    item_same i j
    (txn_determined i.txn j.txn (map_of (value_at (codes "txn") es)) (record { fields = sym a.1.0; sound = t }) (record { fields = sym b.1.0; sound = t }))
    (members_determined effect effect_determined i.effects j.effects (list_of (value_at (codes "fx") es)) a.0 b.0 fx)
