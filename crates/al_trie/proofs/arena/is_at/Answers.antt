use Rattle.std.proofs.Common.{◌≡◌, slice_get, [], Some, sym, ap, ◌∙◌}
use Rattle.std.proofs.lemmas.Bool.Decides.{Decides-eqb}
use Rattle.std.proofs.lemmas.Slice.Eq.{slice_eq-Decides}
use Rattle.std.proofs.lemmas.Option.{slice_get-get_or}
use Rattle.al_trie.specs.declared.slots.Slot.TheVariants.{Full, Free}
use Rattle.al_trie.proofs.Elements.{same_element}
use Rattle.al_trie.proofs.arena.is_at.Goals as goal

pub returns-in-Full : goal.returns-in-Full
returns-in-Full c =
    let there : slice_get c.args.slots.now c.args.slot.0 ≡ Some (Full c.in-Full.x) = slice_get-get_or c.args.slots.now c.args.slot.0 (Full []) c.requires ∙ ap Some c.in-Full.is in
    let same = slice_eq-Decides Decides-eqb c.in-Full.x c.args.element.now c.eq.result c.eq.ensures in
    (λ t. there ∙ ap (λ y. Some (Full y)) (same.0 t), λ h. same.1 (same_element c.in-Full.x c.args.element.now (sym there ∙ h)))

pub returns-in-Free : goal.returns-in-Free
returns-in-Free c =
    let there : slice_get c.args.slots.now c.args.slot.0 ≡ Some (Free c.in-Free.field-0) = slice_get-get_or c.args.slots.now c.args.slot.0 (Full []) c.requires ∙ ap Some c.in-Free.is in
    (λ t. cc, λ h. cc)
