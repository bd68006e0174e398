use Rattle.std.proofs.Common.{codes, sym}
use Rattle.al_record.proofs.Engine.{is_record}
use Rattle.al_record.proofs.OfKind.{number_shown}
use Rattle.al_row_records.specs.Tables.{app_fields, app_params_fields, local_fields}
use Rattle.al_row_records.proofs.PartsShown.{app_row, app_back, app_rises, app_shown, part_there}
use Rattle.al_row_records.proofs.app_record.read_app.Goals as goal

pub returns : goal.returns
returns c =
    let es = c.args.entries.now in
    let opted = c.flag-opted.result in
    let given = c.flag-given.result in
    let p = c.in_ok-params_of.field-0 in
    let l = c.in_ok-local_of.field-0 in
    let x = number_shown (codes "x") es 2 c.requires.kind in
    let shown = app_shown p l es opted given c.flag-opted.ensures c.flag-given.ensures x c.in_ok-local_of.ensures c.in_ok-params_of.ensures in
    app_back p l es opted given c.requires.kind (sym c.flag-opted.ensures) (sym c.flag-given.ensures) (part_there local_fields opted l es c.in_ok-local_of.ensures) (part_there app_params_fields given p es c.in_ok-params_of.ensures)
    (is_record (app_fields opted given) (app_row p l) es (app_rises opted given) c.requires.canonical c.in_ok-check_parts.ensures shown)
