use Rattle.std.proofs.Common.{◌≡◌, slice_get, [], Some, sym, ap, ◌∙◌}
use Rattle.std.proofs.lemmas.Option.{slice_get-get_or}
use Rattle.al_trie.specs.declared.slots.Slot.TheVariants.{Full, Free}
use Rattle.al_trie.proofs.Elements.{same_element}
use Rattle.al_trie.proofs.slots.element_at.Goals as goal

pub returns-in-Full-clause-holds : goal.returns-in-Full-clause-holds
returns-in-Full-clause-holds c = slice_get-get_or c.args.slots.now c.args.slot.0 (Full []) c.requires ∙ ap Some c.in-Full.is

pub returns-in-Full-clause-full : goal.returns-in-Full-clause-full
returns-in-Full-clause-full c = λ x h. ap Some (same_element c.in-Full.x x (sym (slice_get-get_or c.args.slots.now c.args.slot.0 (Full []) c.requires ∙ ap Some c.in-Full.is) ∙ h))

pub returns-in-Free-clause-full : goal.returns-in-Free-clause-full
returns-in-Free-clause-full c = λ x h.
    let there : slice_get c.args.slots.now c.args.slot.0 ≡ Some (Free c.in-Free.field-0) = slice_get-get_or c.args.slots.now c.args.slot.0 (Full []) c.requires ∙ ap Some c.in-Free.is in
    cc
