use Rattle.std.proofs.Common.{◌++◌, ◌∙◌, ap}
use Rattle.al_states.proofs.keeping.keep.Goals as goal

pub take_back-requires : goal.take_back-requires
take_back-requires c = (c.args.kept.now.items, c.args.next, c.args.tail.now, c.in_ok-keep_block.ensures.ok.0, c.in_ok-keep_block.ensures.ok.1 ∙ ap (λ es. c.args.tail.now ++ es) (c.as_slice.ensures.value ∙ c.requires.entries))
