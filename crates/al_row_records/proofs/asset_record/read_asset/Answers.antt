use Rattle.std.proofs.Common.{codes, sym}
use Rattle.al_record.proofs.Engine.{is_record, passes_on}
use Rattle.al_record.proofs.OfKind.{number_shown}
use Rattle.al_bodies.specs.Bodies.{params_fields}
use Rattle.al_row_records.specs.Tables.{asset, asset_fields, holding_fields}
use Rattle.al_row_records.proofs.PartsShown.{asset_row, asset_back, asset_fault, asset_rises, asset_shown, part_there}
use Rattle.al_row_records.proofs.asset_record.read_asset.Goals as goal

pub returns-in_err-check_parts : goal.returns-in_err-check_parts
returns-in_err-check_parts c =
    let es = c.args.entries.now in
    passes_on asset es _ _ c.from_residual.result (asset_fault es c.flag-held.result c.flag-given.result c.requires.kind (sym c.flag-held.ensures) (sym c.flag-given.ensures)) c.in_err-check_parts.ensures c.from_residual.ensures.1

pub returns : goal.returns
returns c =
    let es = c.args.entries.now in
    let held = c.flag-held.result in
    let given = c.flag-given.result in
    let p = c.in_ok-params_of.field-0 in
    let h = c.holding_of.result in
    let x = number_shown (codes "x") es 1 c.requires.kind in
    let shown = asset_shown p h es held given c.flag-held.ensures c.flag-given.ensures x c.holding_of.ensures c.in_ok-params_of.ensures in
    asset_back p h es held given c.requires.kind (sym c.flag-held.ensures) (sym c.flag-given.ensures) (part_there holding_fields held h es c.holding_of.ensures) (part_there params_fields given p es c.in_ok-params_of.ensures)
    (is_record (asset_fields held given) (asset_row p h) es (asset_rises held given) c.requires.canonical c.in_ok-check_parts.ensures shown)
