use Rattle.std.proofs.Common.{subst}
use Rattle.al_base.specs.declared.key.Key.{Key}
use Rattle.al_overlay.specs.Creators.{AreOthers, HasRoom}
use Rattle.al_overlay.proofs.Creators.{other_noted, resource_is}
use Rattle.al_overlay.proofs.creator.note.Goals as goal

pub returns-in-Some : goal.returns-in-Some
returns-in-Some c = λ es h room others.
    let is = resource_is c.args.key.now c.in-Some.resource c.in-Some.ensures in
    c.note_row.ensures es h (subst (λ k. HasRoom k c.args.creators.now) is room) (subst (λ (k : Key). AreOthers k es c.args.rows.now.entries) is others)

pub returns-in_default : goal.returns-in_default
returns-in_default c = λ es h room others. other_noted es c.args.rows.now.entries c.args.key.now c.args.creators.now c.in_default.ensures others h
