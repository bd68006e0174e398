use Rattle.std.proofs.Common.{◌≡◌, refl, sym, ap, ◌∙◌, subst, arith, rules}
use Rattle.std.proofs.lemmas.Grind.{common_steps}
use Rattle.al_trie.specs.Root.{through, Empty}
use Rattle.al_trie.specs.Slots.{full, HoldsAt}
use Rattle.al_trie.specs.Tries.{Tried, has, without}
use Rattle.al_trie.proofs.Sets.{absent, gone, set_removed, different_removed}
use Rattle.al_trie.proofs.Ending.{has_held, removed_count}
use Rattle.al_trie.proofs.trie.Trie.remove.Goals as goal

pub returns-in_default-clause-removes : goal.returns-in_default-clause-removes
returns-in_default-clause-removes c =
    let none : through (full c.self.inside.slots.items) c.args.element.now ≡ Empty = ap (λ ss. through (full ss) c.args.element.now) (sym c.deref-2.ensures.value) ∙ c.in_default.ensures in
    (ap (λ (t : Tried). has t.elements c.args.element.now) (sym c.self.view_is) ∙ absent (full c.self.inside.slots.items) c.args.element.now none, refl)

pub invariant_of-self : goal.invariant_of-self
invariant_of-self c =
    let held : HoldsAt c.self.inside.slots.items c.in-Some.slot.0 c.args.element.now = subst (λ ss. HoldsAt ss c.in-Some.slot.0 c.args.element.now) c.deref-2.ensures.value c.in-Some.ensures in
    let none = gone c.args.element.now (full c.take.new.slots.items) (full c.self.inside.slots.items) c.take.ensures.gone c.told-element c.self.invariant.different in
    record {
      arena = c.take.ensures.arena;
      different = different_removed c.args.element.now (full c.take.new.slots.items) (full c.self.inside.slots.items) c.take.ensures.gone c.self.invariant.different;
      counted = removed_count c.args.element.now (full c.take.new.slots.items) (full c.self.inside.slots.items) c.self.inside.len c.saturating_sub-self-inside.result c.take.ensures.gone none
          (has_held c.self.inside.slots.items c.in-Some.slot.0 c.args.element.now held) c.self.invariant.counted (first_of (search rules, grind (arith, common_steps)));
    }

pub returns-clause-removes : goal.returns-clause-removes
returns-clause-removes c =
    let held : HoldsAt c.self.inside.slots.items c.in-Some.slot.0 c.args.element.now = subst (λ ss. HoldsAt ss c.in-Some.slot.0 c.args.element.now) c.deref-2.ensures.value c.in-Some.ensures in
    let none = gone c.args.element.now (full c.take.new.slots.items) (full c.self.inside.slots.items) c.take.ensures.gone c.told-element c.self.invariant.different in (
      ap (λ (t : Tried). has t.elements c.args.element.now) (sym c.self.view_is) ∙ has_held c.self.inside.slots.items c.in-Some.slot.0 c.args.element.now held,
      set_removed c.args.element.now (full c.take.new.slots.items) (full c.self.inside.slots.items) c.take.ensures.gone none ∙ ap (λ (t : Tried). without t.elements c.args.element.now) c.self.view_is,
    )
