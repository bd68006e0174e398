use Rattle.std.proofs.Common.{◌≡◌, refl, codes, None, ◌∙◌}
use Rattle.al_record.specs.Columns.{first_fault, rules_of, list_of, value_at, members_fault}
use Rattle.al_record.proofs.Canonical.{inners_canonical}
use Rattle.al_record.proofs.Engine.{is_record}
use Rattle.al_catch.specs.Records.{chunk_fields, row}
use Rattle.al_catch.proofs.chunk.ChunkRecord.read.Goals as goal

pub read_all-requires : goal.read_all-requires
read_all-requires c = rw c.list.ensures (inners_canonical (codes "rows") c.args.entries.now c.requires)

pub returns : goal.returns
returns c =
    let es = c.args.entries.now in
    let all = c.in_ok-rows.ensures in
    let t : members_fault row.fault (list_of (value_at (codes "rows") es)) ≡ None = rw (← c.list.ensures) all.1 in
    let none : first_fault (rules_of chunk_fields) es ≡ None = rw (c.in_ok-check_fields.ensures, t) refl in
    is_record chunk_fields _ es refl c.requires none (c.number.ensures, (all.0 ∙ c.list.ensures, tt))
