use Rattle.std.proofs.Common.{◌∙◌, ◌++◌, ◌∷◌, [], List, ap}
use Rattle.al_tail.specs.declared.tail.Kept.{Kept}
use Rattle.al_tail.proofs.Pasts.{indexed_more}
use Rattle.al_tail.proofs.tail.Tail.push.Goals as goal

pub invariant_of-self-2 : goal.invariant_of-self-2
invariant_of-self-2 c =
    indexed_more c.self.inside.latest.rounds.entries c.raise.new.self.rounds.entries c.self.inside.kept.items c.push.new.self.items c.in_ok-kept.kept c.args.entry c.self.invariant
    c.in_ok-kept.ensures.kept.1 c.in_ok-kept.ensures.kept.0 c.in_ok-kept.ensures.ok (c.in-Ok.ensures.items ∙ ap (λ (ks : List Kept). ks ++ c.in_ok-kept.kept ∷ []) c.reserve.ensures.items)
