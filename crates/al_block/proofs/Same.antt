-- The records of headers and blocks determine these.
use Rattle.std.proofs.Common.{◌≡◌, None, codes, refl, sym}
use Rattle.al_record.specs.Columns.{map_of, list_of, value_at, members_fault}
use Rattle.al_record.specs.Laws.{AllAgree}
use Rattle.al_record.proofs.Engine.{first_none}
use Rattle.al_record.proofs.Laws.{record_shows}
use Rattle.al_record.proofs.Same.{Determined, same_addresses}
use Rattle.al_txn.specs.Item.{item}
use Rattle.al_txn.proofs.Members.{members_determined}
use Rattle.al_bodies.proofs.Same.{fields_agree}
use Rattle.al_txn.proofs.SameItem.{item_determined}
use Rattle.al_block.specs.declared.header.Header.{Header}
use Rattle.al_block.specs.declared.block.Block.{Block}
use Rattle.al_block.specs.Header.{header, header_fields}
use Rattle.al_block.specs.Block.{block, block_fields}

-- a header by its parts
abbrev whole : Header → Header
whole h = record {
  round = h.round;
  prev = h.prev;
  ts = h.ts;
  genesis_hash = h.genesis_hash;
  sink = record { 0 = h.sink.0 };
  pool = record { 0 = h.pool.0 };
  level = h.level;
  rate = h.rate;
  residue = h.residue;
  recalc = h.recalc;
  counter = h.counter;
  payset = h.payset;
  expired = h.expired;
}

header_same : (x y : Header) → AllAgree header_fields x y → x ≡ y
header_same x y a =
    let expired : x.expired ≡ y.expired = same_addresses x.expired y.expired a.1.0 in
    let same : whole x ≡ whole y = cc in
    same

pub header_determined : Determined header
header_determined x y es r s = header_same x y (fields_agree header_fields x y es refl r s)

abbrev whole_block : Block → Block
whole_block b = record { header = b.header; items = b.items }

block_same : (a b : Block) → a.header ≡ b.header → a.items ≡ b.items → a ≡ b
block_same a b h i = let same : whole_block a ≡ whole_block b = cc in same

pub block_determined : Determined block
block_determined a b es r s =
    let p = record_shows block_fields a es refl r in
    let q = record_shows block_fields b es refl s in
    let ranges = first_none _ _ (first_none _ _ r.sound).1 in
    let h : header.fault (map_of (value_at (codes "b") es)) ≡ None = ranges.0 in
    let i : members_fault item.fault (list_of (value_at (codes "t") es)) ≡ None = (first_none _ _ ranges.1).0 in
    block_same a b
    (header_determined a.header b.header (map_of (value_at (codes "b") es)) (record { fields = sym p.0; sound = h }) (record { fields = sym q.0; sound = h }))
    (members_determined item item_determined a.items b.items (list_of (value_at (codes "t") es)) p.1.0 q.1.0 i)
