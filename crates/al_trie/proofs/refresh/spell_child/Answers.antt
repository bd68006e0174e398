use Rattle.std.proofs.Common.{◌≡◌, ℕ, ◌+◌, ◌-◌, length, drop, List, [], ◌∷◌, ◌++◌, Some, sym, ap, ◌∙◌, subst, arith}
use Rattle.std.proofs.lemmas.Option.{slice_get_within}
use Rattle.std.proofs.lemmas.List.{take_all, length-drop}
use Rattle.al_trie.specs.declared.arena.Summary.TheVariants.{One}
use Rattle.al_trie.specs.declared.slots.Slot.TheVariants.{Full}
use Rattle.al_trie.specs.Root.{Sole, through, child, node, starts}
use Rattle.al_trie.specs.Slots.{full}
use Rattle.al_trie.specs.Arena.{SummaryFits}
use Rattle.al_trie.proofs.Elements.{same_element}
use Rattle.al_trie.proofs.Passing.{the_one}
use Rattle.al_trie.proofs.Bytes.{spelled_sole}
use Rattle.al_trie.proofs.refresh.spell_child.Goals as goal

pub element_at-requires : goal.element_at-requires
element_at-requires c =
    let q : List ℕ = c.args.path.now ++ c.args.byte ∷ [] in
    let fits : SummaryFits (through (full c.args.slots.now)) c.args.slots.now q (Some (One c.in-One.slot)) = subst (λ u. SummaryFits (through (full c.args.slots.now)) c.args.slots.now q (Some u)) c.in-One.is c.requires.fits in
    slice_get_within c.args.slots.now c.in-One.slot.0 (Full fits.0) fits.1

pub returns-in_ok-extend_from_slice-in-One : goal.returns-in_ok-extend_from_slice-in-One
returns-in_ok-extend_from_slice-in-One c =
    let q : List ℕ = c.args.path.now ++ c.args.byte ∷ [] in
    let fits : SummaryFits (through (full c.args.slots.now)) c.args.slots.now q (Some (One c.in-One.slot)) = subst (λ u. SummaryFits (through (full c.args.slots.now)) c.args.slots.now q (Some u)) c.in-One.is c.requires.fits in
    let x : List ℕ = c.in-Some.x in
    let same : fits.0 ≡ x = same_element fits.0 x (sym fits.1 ∙ c.in-Some.ensures.holds) in
    let long : length x ≡ 36 = ap length (sym same) ∙ c.requires.elements fits.0 (the_one (starts q) (full c.args.slots.now) fits.0 fits.2).1 in
    let inner : List ℕ = node (through (full c.args.slots.now)) (35 - length c.args.path.now) q in
    c.in_ok-extend_from_slice-in-One.ensures.items
    ∙ ap (λ zs. c.push-in-Some-2.new.self.items ++ zs) (take_all (36 - (length c.args.path.now + 1)) (drop (length c.args.path.now + 1) x) (omega (arith, length-drop (length c.args.path.now + 1) x, long)))
    ∙ ap (λ zs. zs ++ drop (length c.args.path.now + 1) x) (c.in_ok-push-in-One-3.ensures.items ∙ ap (λ zs. zs ++ c.args.byte ∷ []) (c.in_ok-push-in-One-2.ensures.items ∙ ap (λ zs. zs ++ (35 - length c.args.path.now) ∷ []) c.in_ok-push-in-One.ensures.items))
    ∙ spelled_sole c.args.out.now.items c.args.path.now x inner c.args.byte long c.requires.short
    ∙ ap (λ t. c.args.out.now.items ++ child c.args.path.now c.args.byte t inner) (sym (fits.2 ∙ ap Sole same))

pub returns-in_default : goal.returns-in_default
returns-in_default c =
    let q : List ℕ = c.args.path.now ++ c.args.byte ∷ [] in
    let fits : SummaryFits (through (full c.args.slots.now)) c.args.slots.now q (Some (One c.in-One.slot)) = subst (λ u. SummaryFits (through (full c.args.slots.now)) c.args.slots.now q (Some u)) c.in-One.is c.requires.fits in
    let z = c.element_at.ensures.full fits.0 fits.1 in
    cc
