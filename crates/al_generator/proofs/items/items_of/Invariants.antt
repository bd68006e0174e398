-- The transactions so far.
use Rattle.std.proofs.Common.{◌≡◌, take}
use Rattle.al_generator.specs.Items.{items_of}
use Rattle.al_generator.proofs.items.items_of.Given as goal

abbrev pub invariant-loop-one : goal.invariant-loop-one
invariant-loop-one l = l.items ≡ items_of l.round l.genesis (take l.one-index l.made)
