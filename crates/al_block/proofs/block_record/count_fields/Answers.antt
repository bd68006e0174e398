use Rattle.std.proofs.Common.{ap, ◌∙◌, ◌∷◌, []}
use Rattle.al_record.specs.Code.{count_some}
use Rattle.al_block.specs.Block.{items_put}
use Rattle.al_block.proofs.Straight.{fields_of}
use Rattle.al_block.proofs.block_record.count_fields.Goals as goal

pub returns : goal.returns
returns c = fields_of c.args.b.now c.count_header.result c.count_items.result c.count_header.ensures.value (c.count_items.ensures.value ∙ ap (λ xs. count_some (items_put xs ∷ [])) c.as_slice.ensures)
