use Rattle.std.proofs.Common.{◌≡◌, ◌∙◌, ◌/◌, List, length, map, true, false, is_eq, is_lt, sym, ap, subst}
use Rattle.std.proofs.lemmas.Cmp.{nat_cmp_total}
use Rattle.std.specs.List.Sorted.{IsStrictlySortedBy}
use Rattle.std.specs.Ordering.{nat_cmp}
use Rattle.al_base.specs.declared.key.CreatorChange.{CreatorChange}
use Rattle.al_deltas.specs.Queue.{creator_in}
use Rattle.al_deltas.proofs.Searches.{search_here, search_lower, search_upper}
use Rattle.al_deltas.proofs.queue.creator_change_in.Goals as goal

pub returns-then-is_eq : goal.returns-then-is_eq
returns-then-is_eq c =
    let on : is_eq (nat_cmp c.args.id c.in-Some.middle.now.id) ≡ true = ap is_eq (sym c.cmp-order.ensures) ∙ sym c.if-is_eq.ensures in
    search_here nat_cmp_total (λ (x : CreatorChange). x.id) (λ (x : CreatorChange). x.now) c.args.id (length c.loop-middle.left.now / 2) c.loop-middle.left.now c.split_at.result.1.now c.in-Some.middle.now c.in-Some.above.now c.split_at.ensures.back c.in-Some.ensures.cases.0 c.loop-middle.invariant.rise on
    ∙ c.loop-middle.invariant.same

pub loop-middle-preserved-then-is_lt : goal.loop-middle-preserved-then-is_lt
loop-middle-preserved-then-is_lt c =
    let below : is_lt (nat_cmp c.args.id c.in-Some.middle.now.id) ≡ true = ap is_lt (sym c.cmp-order.ensures) ∙ sym c.if-is_lt.ensures in
    let r =
    search_lower nat_cmp_total (λ (x : CreatorChange). x.id) (λ (x : CreatorChange). x.now) c.args.id (length c.loop-middle.left.now / 2) c.loop-middle.left.now c.split_at.result.1.now c.in-Some.middle.now c.in-Some.above.now c.split_at.ensures.back c.in-Some.ensures.cases.0 c.loop-middle.invariant.rise below in
    let front = c.split_at-then-is_lt.ensures.front in
    record {
      rise = subst (λ (cs : List CreatorChange). IsStrictlySortedBy nat_cmp (map (λ x. x.id) cs)) (sym front) r.0;
      same = ap (λ (cs : List CreatorChange). creator_in c.args.id cs) front ∙ r.1 ∙ c.loop-middle.invariant.same;
    }

pub loop-middle-preserved : goal.loop-middle-preserved
loop-middle-preserved c =
    let off : is_eq (nat_cmp c.args.id c.in-Some.middle.now.id) ≡ false = ap is_eq (sym c.cmp-order.ensures) ∙ sym c.if-is_eq.ensures in
    let above : is_lt (nat_cmp c.args.id c.in-Some.middle.now.id) ≡ false = ap is_lt (sym c.cmp-order.ensures) ∙ sym c.if-is_lt.ensures in
    let r =
    search_upper nat_cmp_total (λ (x : CreatorChange). x.id) (λ (x : CreatorChange). x.now) c.args.id (length c.loop-middle.left.now / 2) c.loop-middle.left.now c.split_at.result.1.now c.in-Some.middle.now c.in-Some.above.now c.split_at.ensures.back c.in-Some.ensures.cases.0 c.loop-middle.invariant.rise off above in
    record {
      rise = r.0;
      same = r.1 ∙ c.loop-middle.invariant.same;
    }
