use Rattle.std.proofs.Common.{◌≡◌, refl, sym, codes, None, ◌∙◌}
use Rattle.al_record.specs.Columns.{first_fault, rules_of, map_of, list_of, value_at, members_fault}
use Rattle.al_record.proofs.Canonical.{inner_canonical, inners_canonical}
use Rattle.al_record.proofs.Engine.{is_record}
use Rattle.al_txn.specs.Item.{item}
use Rattle.al_block.specs.Block.{block_fields}
use Rattle.al_block.specs.Header.{header}
use Rattle.al_block.proofs.block_record.BlockRecord.read.Goals as goal

pub read_header-requires : goal.read_header-requires
read_header-requires c = rw c.map.ensures (inner_canonical (codes "b") c.args.entries.now c.requires)

pub read_all-requires : goal.read_all-requires
read_all-requires c = rw c.list.ensures (inners_canonical (codes "t") c.args.entries.now c.requires)

pub returns : goal.returns
returns c =
    let es = c.args.entries.now in
    let r = c.in_ok-header.ensures in
    let all = c.in_ok-items.ensures in
    let b : header.fault (map_of (value_at (codes "b") es)) ≡ None = rw (← c.map.ensures) r.sound in
    let t : members_fault item.fault (list_of (value_at (codes "t") es)) ≡ None = rw (← c.list.ensures) all.1 in
    let none : first_fault (rules_of block_fields) es ≡ None = rw (c.in_ok-check_fields.ensures, b, t) refl in
    is_record block_fields _ es refl c.requires none (sym r.fields ∙ c.map.ensures, (all.0 ∙ c.list.ensures, tt))
