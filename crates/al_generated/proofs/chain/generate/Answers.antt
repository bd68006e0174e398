use Rattle.std.proofs.Common.{◌∙◌, ap, List}
use Rattle.al_catch.specs.declared.label.Label.{Label}
use Rattle.al_generated.specs.Catchpoints.{whole_summary}
use Rattle.al_generated.proofs.MadeLemmas.{summed}
use Rattle.al_generated.proofs.chain.generate.Goals as goal

pub returns-clause-generated : goal.returns-clause-generated
returns-clause-generated g c =
    let made = c.in_ok-states.ensures.made in
    let labels = c.in_ok-states.labels.items in
    let x = summed c.args.number c.args.blocks c.in_ok-states.states c.in_ok-whole_summary.field-0.items (λ t. whole_summary c.args.blocks t labels) made.0 made.1 c.requires (λ t at long. c.in_ok-whole_summary.ensures t at long ∙ ap (λ (ls : List Label). whole_summary c.args.blocks t ls) c.as_slice.ensures.value) in
    (x.0, x.1, (labels, c.in_ok-states.ensures.points, x.2))
