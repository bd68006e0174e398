use Rattle.std.proofs.Common.{◌∙◌, List, ap, map}
use Rattle.std.specs.Option.{option_or}
use Rattle.al_rows.specs.declared.change.Change.{Change}
use Rattle.al_deltas.specs.Queue.{left_of}
use Rattle.al_deltas.proofs.Applied.{at}
use Rattle.al_deltas.proofs.Nets.{net_less}
use Rattle.al_deltas.proofs.batch.net_rows.Goals as goal

pub loop-last-preserved : goal.loop-last-preserved
loop-last-preserved c = λ q.
    let d = c.in-Some.last.now in
    let old = c.loop-last.net.entries in
    net_less c.in-Some.before.now c.loop-last.left.now d (at old) (at c.put_changes.new.net.entries) c.in-Some.ensures.cases.0
    (λ p. c.in_ok-put_changes.ensures p ∙ ap (λ (cs : List Change). option_or (at old p) (at (map (left_of d.round) cs) p)) c.as_slice.ensures) q
    ∙ c.loop-last.invariant q
