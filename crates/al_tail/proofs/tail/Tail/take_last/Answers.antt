use Rattle.std.proofs.Common.{◌∙◌, List, sym, subst}
use Rattle.al_tail.specs.declared.tail.Kept.{Kept}
use Rattle.al_tail.specs.Latest.{IsIndexed}
use Rattle.al_tail.proofs.Pasts.{id_has, lease_has, indexed_back, indexed_id_back}
use Rattle.al_tail.proofs.tail.Tail.take_last.Goals as goal

pub put_back-requires : goal.put_back-requires
put_back-requires c =
    let rounds = c.self.inside.latest.rounds.entries in
    let whole = subst (λ (ks : List Kept). IsIndexed rounds ks) c.in-Some.ensures.items c.self.invariant in
    id_has rounds c.pop.new.self.items c.in-Some.kept c.id_mark.result whole c.id_mark.ensures

pub put_back-requires-then-not-has_no_lease : goal.put_back-requires-then-not-has_no_lease
put_back-requires-then-not-has_no_lease c =
    let rounds = c.self.inside.latest.rounds.entries in
    let whole = subst (λ (ks : List Kept). IsIndexed rounds ks) c.in-Some.ensures.items c.self.invariant in
    lease_has rounds c.put_back.new.self.rounds.entries c.pop.new.self.items c.in-Some.kept c.id_mark.result c.lease_mark.result (sym c.has_no_lease.ensures ∙ c.if-not-has_no_lease.true) whole c.id_mark.ensures c.lease_mark.ensures c.put_back.ensures

pub invariant_of-self : goal.invariant_of-self
invariant_of-self c =
    let rounds = c.self.inside.latest.rounds.entries in
    let whole = subst (λ (ks : List Kept). IsIndexed rounds ks) c.in-Some.ensures.items c.self.invariant in
    indexed_back rounds c.put_back.new.self.rounds.entries c.put_back-then-not-has_no_lease.new.self.rounds.entries c.pop.new.self.items c.in-Some.kept c.id_mark.result c.lease_mark.result (sym c.has_no_lease.ensures ∙ c.if-not-has_no_lease.true) whole
    c.id_mark.ensures c.lease_mark.ensures c.put_back.ensures c.put_back-then-not-has_no_lease.ensures

pub invariant_of-self-else-not-has_no_lease : goal.invariant_of-self-else-not-has_no_lease
invariant_of-self-else-not-has_no_lease c =
    let rounds = c.self.inside.latest.rounds.entries in
    let whole = subst (λ (ks : List Kept). IsIndexed rounds ks) c.in-Some.ensures.items c.self.invariant in
    indexed_id_back rounds c.put_back.new.self.rounds.entries c.pop.new.self.items c.in-Some.kept c.id_mark.result (sym c.has_no_lease.ensures ∙ c.if-not-has_no_lease.false) whole
    c.id_mark.ensures c.put_back.ensures
