use Rattle.std.proofs.Common.{refl, sym, ap, ◌∙◌, arith, rules}
use Rattle.std.proofs.lemmas.Grind.{common_steps}
use Rattle.al_trie.specs.Slots.{full}
use Rattle.al_trie.specs.Tries.{Tried, has, set_of, with_element}
use Rattle.al_trie.proofs.Sets.{absent, set_inserted, different_inserted}
use Rattle.al_trie.proofs.Ending.{found_there, found_not, added_count}
use Rattle.al_trie.proofs.trie.Trie.add.Goals as goal

pub returns-then-is_some-clause-adds : goal.returns-then-is_some-clause-adds
returns-then-is_some-clause-adds c = (
  ap (λ (t : Tried). has t.elements c.args.element.now) (sym c.self.view_is)
      ∙ found_there c.slot_of.result c.deref-2.result.now c.self.inside.slots.items c.args.element.now c.deref-2.ensures.value c.slot_of.ensures (sym c.is_some.ensures ∙ c.if-is_some.true),
  refl,
)

pub returns-in_default-clause-adds : goal.returns-in_default-clause-adds
returns-in_default-clause-adds c =
    let none = found_not c.slot_of.result c.deref-2.result.now c.self.inside.slots.items c.args.element.now c.deref-2.ensures.value c.slot_of.ensures (sym c.is_some.ensures ∙ c.if-is_some.false) in
    (ap (λ (t : Tried). has t.elements c.args.element.now) (sym c.self.view_is) ∙ absent (full c.self.inside.slots.items) c.args.element.now none, refl)

pub invariant_of-self : goal.invariant_of-self
invariant_of-self c =
    let none = found_not c.slot_of.result c.deref-2.result.now c.self.inside.slots.items c.args.element.now c.deref-2.ensures.value c.slot_of.ensures (sym c.is_some.ensures ∙ c.if-is_some.false) in
    record {
      arena = c.in-Ok.ensures.arena;
      different = different_inserted c.args.element.now (full c.self.inside.slots.items) (full c.put-added.new.slots.items) c.in-Ok.ensures.ok c.told-element none c.self.invariant.different;
      counted = added_count c.args.element.now (full c.self.inside.slots.items) (full c.put-added.new.slots.items) c.self.inside.len c.in-Some.len c.in-Ok.ensures.ok none c.self.invariant.counted (first_of (search rules, grind (arith, common_steps)));
    }

pub returns-in-Ok-clause-adds : goal.returns-in-Ok-clause-adds
returns-in-Ok-clause-adds c =
    let none = found_not c.slot_of.result c.deref-2.result.now c.self.inside.slots.items c.args.element.now c.deref-2.ensures.value c.slot_of.ensures (sym c.is_some.ensures ∙ c.if-is_some.false) in (
      ap (λ (t : Tried). has t.elements c.args.element.now) (sym c.self.view_is) ∙ absent (full c.self.inside.slots.items) c.args.element.now none,
      set_inserted c.args.element.now (full c.self.inside.slots.items) (full c.put-added.new.slots.items) c.in-Ok.ensures.ok ∙ ap (λ (t : Tried). with_element t.elements c.args.element.now) c.self.view_is,
    )

pub returns-in-Err-clause-adds : goal.returns-in-Err-clause-adds
returns-in-Err-clause-adds c =
    let none = found_not c.slot_of.result c.deref-2.result.now c.self.inside.slots.items c.args.element.now c.deref-2.ensures.value c.slot_of.ensures (sym c.is_some.ensures ∙ c.if-is_some.false) in (
      ap (λ (t : Tried). has t.elements c.args.element.now) (sym c.self.view_is) ∙ absent (full c.self.inside.slots.items) c.args.element.now none,
      ap set_of c.in-Err.ensures.err ∙ ap (λ (t : Tried). t.elements) c.self.view_is,
    )
