use Rattle.std.proofs.Common.{◌∙◌, ap, refl}
use Rattle.al_rows.specs.Rows.{bare}
use Rattle.al_tail.specs.Past.{live}
use Rattle.al_states.proofs.KeepLemmas.{evaluates}
use Rattle.al_states.proofs.keeping.evaluate.Goals as goal

pub returns : goal.returns
returns c = λ s is entries rows consistent.
    let e = c.eval_with_entries.ensures in
    evaluates s c.args.block.now c.eval_with_entries.result (e.sound refl s is (ap (live c.args.block.now.header.round) entries) (c.view-view.ensures ∙ ap bare rows) consistent) e.entries e.header e.ordered e.kept e.creators e.online e.ranged
