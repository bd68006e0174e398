use Rattle.std.proofs.Common.{ap, ◌∙◌, ◌∷◌, []}
use Rattle.al_record.specs.Code.{count_some}
use Rattle.al_catch.specs.Records.{rows_put}
use Rattle.al_catch.proofs.Straight.{fields_of}
use Rattle.al_catch.proofs.chunk.count_fields.Goals as goal

pub returns : goal.returns
returns c = fields_of c.args.c.now c.count_number.result c.count_rows.result c.count_number.ensures.value (c.count_rows.ensures.value ∙ ap (λ xs. count_some (rows_put xs ∷ [])) c.as_slice.ensures)
