-- The ranges of headers and blocks.
use Rattle.std.specs.Prelude.{◌≡◌, ◌<◌, ◌≤◌, ◌^◌, ℕ, true, length, map, List}
use Rattle.std.specs.List.{AllByRecursion}
use Rattle.al_digest.specs.Digests.{digest_of}
use Rattle.al_digest.specs.declared.hashing.Prefix.TheVariants as prefixes
use Rattle.al_msgpack.specs.declared.val.Val.TheVariants as values
use Rattle.al_msgpack.specs.Places.{IsSpelling}
use Rattle.al_record.specs.Columns.{no_doubles}
use Rattle.al_msgpack.specs.Spelled.{spelled}
use Rattle.al_bodies.specs.Ranges.{IsArray}
use Rattle.al_txn.specs.declared.txn.Item.{Item}
use Rattle.al_txn.specs.Item.{item}
use Rattle.al_txn.specs.Ranges.{ItemRanges}
use Rattle.al_block.specs.declared.block.Block.{Block}
use Rattle.al_block.specs.Block.{block}
use Rattle.al_block.specs.declared.header.Header.{Header}
use Rattle.al_block.specs.Header.{header}
use Rattle.al_block.specs.Hashes.{header_hash_of, payset_hash_of}

pub record HeaderRanges (h : Header) : Type 0 where
  pub round : h.round ≤ 2 ^ 62
  pub prev : IsArray 32 h.prev
  pub ts : h.ts < 2 ^ 64
  pub genesis_hash : IsArray 32 h.genesis_hash
  pub sink : IsArray 32 h.sink.0
  pub pool : IsArray 32 h.pool.0
  pub level : h.level < 2 ^ 64
  pub rate : h.rate < 2 ^ 64
  pub residue : h.residue < 2 ^ 64
  pub recalc : h.recalc < 2 ^ 64
  pub counter : h.counter ≤ 2 ^ 62
  pub payset : IsArray 32 h.payset
  pub few : length h.expired ≤ 32
  pub expired : AllByRecursion (λ a. IsArray 32 a.0) h.expired
  pub apart : no_doubles (map (λ a. a.0) h.expired) ≡ true

-- a block's hash is the digest of its header's spelling
abbrev pub HashesHeaders : Type 0
HashesHeaders = (h : Header) (bytes : List ℕ) → IsSpelling (values.Map (header.write h)) bytes → header_hash_of h ≡ digest_of prefixes.Header bytes

-- containers nest in a block at most 16 deep
pub record BlockRanges (b : Block) : Type 0 where
  pub front : HeaderRanges b.header
  pub items : AllByRecursion (ItemRanges 12) b.items
  pub count : length b.items < 2 ^ 32

-- the header's `payset` has to be the digest of the spelling of the list of the entries
abbrev pub HashesPaysets : Type 0
HashesPaysets = (items : List Item) (bytes : List ℕ) → IsSpelling (values.List (map (λ es. values.Map es) (map item.write items))) bytes → payset_hash_of items ≡ digest_of prefixes.Payset bytes

-- in a block's ranges there is one
abbrev pub SpellsPaysets : Type 0
SpellsPaysets = (b : Block) → BlockRanges b → IsSpelling (values.List (map (λ es. values.Map es) (map item.write b.items))) (spelled (values.List (map (λ es. values.Map es) (map item.write b.items))))

-- what the encoder spells is a block's one spelling
abbrev pub EncodesBlocks : Type 0
EncodesBlocks = (b : Block) (bytes : List ℕ) → IsSpelling (values.Map (block.write b)) bytes → spelled (values.Map (block.write b)) ≡ bytes
