-- The ranges of transactions and of entries of a payset.
use Rattle.std.specs.Prelude.{◌≡◌, ◌<◌, ◌≤◌, ◌^◌, ◌++◌, ℕ, codes, length, All, List, [], Ok}
use Rattle.std.specs.List.{AllByRecursion}
use Rattle.al_digest.specs.Digests.{digest_of}
use Rattle.al_digest.specs.declared.hashing.Prefix.TheVariants as prefixes
use Rattle.al_msgpack.specs.declared.val.Val.{Val}
use Rattle.al_msgpack.specs.declared.val.Val.TheVariants as values
use Rattle.al_msgpack.specs.declared.val.Entry.{Entry}
use Rattle.al_msgpack.specs.Places.{IsSpelling}
use Rattle.al_msgpack.specs.Spelled.{spelled}
use Rattle.al_record.specs.Columns.{IsRecord, with_entry, list_put}
use Rattle.al_record.specs.Laws.{IsShort}
use Rattle.al_bodies.specs.declared.body.Body.{Body}
use Rattle.al_bodies.specs.declared.body.Body.TheVariants as bodies
use Rattle.al_bodies.specs.Ranges.{IsArray, BodyRanges, EffectRanges, EffectInRange}
use Rattle.al_txn.specs.declared.txn.Txn.{Txn}
use Rattle.al_txn.specs.declared.txn.Item.{Item}
use Rattle.al_txn.specs.Txn.{txn}
use Rattle.al_txn.specs.Item.{item, ReadsItem}
use Rattle.al_txn.specs.Ids.{txid_of, group_id_of, member_ids}

-- in a record whose values have containers at most so deep
pub record TxnRanges (depth : ℕ) (t : Txn) : Type 0 where
  pub sender : IsArray 32 t.sender.0
  pub fee : t.fee < 2 ^ 64
  pub first : t.first < 2 ^ 64
  pub last : t.last < 2 ^ 64
  pub genesis_id : IsShort t.genesis_id
  pub genesis_hash : IsArray 32 t.genesis_hash
  pub note : IsShort t.note
  pub lease : IsArray 32 t.lease
  pub rekey : IsArray 32 t.rekey.0
  pub group : IsArray 32 t.group
  pub body : BodyRanges depth t.body

-- effects stand only beside a call
abbrev pub most_beside : Body → ℕ
most_beside (bodies.App a) = 256
most_beside b = 0

-- in a record whose values have containers at most so deep, and a transaction one less
pub record ItemRanges (depth : ℕ) (i : Item) : Type 0 where
  pub inner : TxnRanges depth i.txn
  pub few : length i.effects ≤ most_beside i.txn.body
  pub each : AllByRecursion EffectRanges i.effects

-- a transaction's id is the digest of its spelling
abbrev pub NamesTxns : Type 0
NamesTxns = (t : Txn) (bytes : List ℕ) → IsSpelling (values.Map (txn.write t)) bytes → txid_of t ≡ digest_of prefixes.Tx bytes

-- a group's id is the digest of the spelling of its members' ids
abbrev pub NamesGroups : Type 0
NamesGroups = (items : List Item) (bytes : List ℕ) → IsSpelling (values.Map (with_entry (codes "txlist") (list_put (member_ids items)) [])) bytes → group_id_of items ≡ digest_of prefixes.Group bytes

-- that list has a spelling
abbrev pub SpellsGroups : Type 0
SpellsGroups = (items : List Item) → length items < 2 ^ 32 → IsSpelling (values.Map (with_entry (codes "txlist") (list_put (member_ids items)) [])) (spelled (values.Map (with_entry (codes "txlist") (list_put (member_ids items)) [])))

-- what the encoder spells is a transaction's one spelling
abbrev pub EncodesTxns : Type 0
EncodesTxns = (t : Txn) (bytes : List ℕ) → IsSpelling (values.Map (txn.write t)) bytes → spelled (values.Map (txn.write t)) ≡ bytes

-- the effects of an entry with a record are in their ranges
abbrev pub ItemsInRange : Type 0
ItemsInRange = (i : Item) (es : List Entry) → IsRecord item i es → All EffectInRange i.effects

-- so are those of an entry that is decoded
abbrev pub ReadInRange : Type 0
ReadInRange = (v : Val) (i : Item) → ReadsItem v (Ok i) → All EffectInRange i.effects
