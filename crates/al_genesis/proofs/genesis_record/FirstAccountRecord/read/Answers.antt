use Rattle.std.proofs.Common.{◌≡◌, refl, sym, codes, None, ◌∙◌}
use Rattle.al_record.specs.declared.shape.Shape.TheVariants as shapes
use Rattle.al_record.specs.Columns.{first_fault, rules_of, map_of, value_at, unless_range, in_range}
use Rattle.al_record.proofs.Canonical.{inner_canonical}
use Rattle.al_record.proofs.Engine.{is_record, first_none}
use Rattle.al_genesis.specs.Genesis.{row, account_fields}
use Rattle.al_genesis.proofs.genesis_record.FirstAccountRecord.read.Goals as goal

pub read_row-requires : goal.read_row-requires
read_row-requires c = rw c.map.ensures (inner_canonical (codes "row") c.args.entries.now c.requires)

pub returns : goal.returns
returns c =
    let es = c.args.entries.now in
    let r = c.in_ok-row.ensures in
    let a : unless_range (in_range (shapes.Array 32) (value_at (codes "addr") es)) (codes "addr") ≡ None = (first_none (unless_range (in_range (shapes.Array 32) (value_at (codes "addr") es)) (codes "addr")) None c.in_ok-check_ranges.ensures).0 in
    let s : row.fault (map_of (value_at (codes "row") es)) ≡ None = rw (← c.map.ensures) r.sound in
    let none : first_fault (rules_of account_fields) es ≡ None = rw (c.in_ok-check_fields.ensures, a, s) refl in
    is_record account_fields _ es refl c.requires none (c.array.ensures, (sym r.fields ∙ c.map.ensures, tt))
