use Rattle.std.proofs.Common.{◌∙◌, sym}
use Rattle.al_overlay.specs.Creators.{shows}
use Rattle.al_overlay.proofs.Creators.{noted_put, noted_row, other_holder}
use Rattle.al_overlay.proofs.creator.note_row.Goals as goal

pub returns : goal.returns
returns c = λ es h room others. noted_row es c.args.rows.now.entries c.args.who.now c.args.id others c.args.creators.now c.replace.new.creators c.in-Some.noted c.noted_now-now.result h (sym c.get.ensures.value ∙ sym c.in-Some.ensures) c.noted_now-now.ensures c.replace.ensures
