use Rattle.std.proofs.Common.{◌∙◌, List, ap}
use Rattle.std.specs.BTreeMap as tree
use Rattle.std.specs.Option.{option_or}
use Rattle.std.specs.Ordering.{nat_cmp}
use Rattle.al_base.specs.declared.key.CreatorChange.{CreatorChange}
use Rattle.al_deltas.specs.Queue.{creator_in}
use Rattle.al_deltas.proofs.Nets.{creators_less}
use Rattle.al_deltas.proofs.batch.net_creators.Goals as goal

pub loop-last-preserved : goal.loop-last-preserved
loop-last-preserved c = λ id.
    let d = c.in-Some.last.now in
    let old = tree.get nat_cmp c.loop-last.net in
    creators_less c.in-Some.before.now c.loop-last.left.now d old (tree.get nat_cmp c.put_creators.new.net) c.in-Some.ensures.cases.0
    (λ p. c.in_ok-put_creators.ensures p ∙ ap (λ (cs : List CreatorChange). option_or (old p) (creator_in p cs)) c.as_slice.ensures) id
    ∙ c.loop-last.invariant id
