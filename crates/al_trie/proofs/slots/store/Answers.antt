use Rattle.std.proofs.Common.{◌≡◌, Some, subst, slice_get}
use Rattle.al_trie.specs.declared.slots.Slot.TheVariants.{Free}
use Rattle.al_trie.proofs.SlotLemmas.{undone_set}
use Rattle.al_trie.proofs.slots.store.Goals as goal

pub returns-in-Some-freed-clause-undone : goal.returns-in-Some-freed-clause-undone
returns-in-Some-freed-clause-undone c = λ next.
    undone_set c.args.slots.now.items c.in-Some.first.0 c.in-Some-freed.next c.args.element.now next
    (subst (λ ss. slice_get ss c.in-Some.first.0 ≡ Some (Free c.in-Some-freed.next)) c.as_slice.ensures.value c.in-Some-freed.ensures)
