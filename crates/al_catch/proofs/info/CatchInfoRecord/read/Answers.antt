use Rattle.std.proofs.Common.{◌≡◌, refl, sym, codes, None, ◌∙◌}
use Rattle.al_record.specs.Columns.{first_fault, rules_of, map_of, value_at}
use Rattle.al_record.proofs.Canonical.{inner_canonical}
use Rattle.al_record.proofs.Engine.{is_record}
use Rattle.al_rewards.specs.Record.{totals}
use Rattle.al_catch.specs.Records.{info_fields}
use Rattle.al_catch.proofs.info.CatchInfoRecord.read.Goals as goal

pub read-requires : goal.read-requires
read-requires c = rw c.map.ensures (inner_canonical (codes "t") c.args.entries.now c.requires)

pub returns : goal.returns
returns c =
    let es = c.args.entries.now in
    let r = c.in_ok-totals.ensures in
    let s : totals.fault (map_of (value_at (codes "t") es)) ≡ None = rw (← c.map.ensures) r.sound in
    let none : first_fault (rules_of info_fields) es ≡ None = rw (c.in_ok-check_fields.ensures, s) refl in
    is_record info_fields _ es refl c.requires none (c.number.ensures, (c.number-2.ensures, (sym r.fields ∙ c.map.ensures, tt)))
