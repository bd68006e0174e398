use Rattle.std.proofs.Common.{◌≡◌, ◌∙◌, ◌/◌, List, length, true, false, is_eq, is_lt, sym, ap, subst}
use Rattle.al_base.specs.Keys.{key_cmp}
use Rattle.al_rows.specs.declared.change.Change.{Change}
use Rattle.al_rows.proofs.Keys.{keys_total}
use Rattle.al_deltas.specs.Queue.{changed_in}
use Rattle.al_deltas.proofs.Searches.{Rise, search_here, search_lower, search_upper}
use Rattle.al_deltas.proofs.queue.change_in.Goals as goal

pub returns-then-is_eq : goal.returns-then-is_eq
returns-then-is_eq c =
    let on : is_eq (key_cmp c.args.key.now c.in-Some.middle.now.key) ≡ true = ap is_eq (sym c.compare-order.ensures.cases) ∙ sym c.if-is_eq.ensures in
    search_here keys_total (λ (x : Change). x.key) (λ (x : Change). x.row) c.args.key.now (length c.loop-middle.left.now / 2) c.loop-middle.left.now c.split_at.result.1.now c.in-Some.middle.now c.in-Some.above.now c.split_at.ensures.back c.in-Some.ensures.cases.0 c.loop-middle.invariant.rise on ∙ c.loop-middle.invariant.same

pub loop-middle-preserved-then-is_lt : goal.loop-middle-preserved-then-is_lt
loop-middle-preserved-then-is_lt c =
    let below : is_lt (key_cmp c.args.key.now c.in-Some.middle.now.key) ≡ true = ap is_lt (sym c.compare-order.ensures.cases) ∙ sym c.if-is_lt.ensures in
    let r = search_lower keys_total (λ (x : Change). x.key) (λ (x : Change). x.row) c.args.key.now (length c.loop-middle.left.now / 2) c.loop-middle.left.now c.split_at.result.1.now c.in-Some.middle.now c.in-Some.above.now c.split_at.ensures.back c.in-Some.ensures.cases.0 c.loop-middle.invariant.rise below in
    let front = c.split_at-then-is_lt.ensures.front in
    record {
      rise = subst Rise (sym front) r.0;
      same = ap (λ (cs : List Change). changed_in c.args.key.now cs) front ∙ r.1 ∙ c.loop-middle.invariant.same;
    }

pub loop-middle-preserved : goal.loop-middle-preserved
loop-middle-preserved c =
    let off : is_eq (key_cmp c.args.key.now c.in-Some.middle.now.key) ≡ false = ap is_eq (sym c.compare-order.ensures.cases) ∙ sym c.if-is_eq.ensures in
    let above : is_lt (key_cmp c.args.key.now c.in-Some.middle.now.key) ≡ false = ap is_lt (sym c.compare-order.ensures.cases) ∙ sym c.if-is_lt.ensures in
    let r = search_upper keys_total (λ (x : Change). x.key) (λ (x : Change). x.row) c.args.key.now (length c.loop-middle.left.now / 2) c.loop-middle.left.now c.split_at.result.1.now c.in-Some.middle.now c.in-Some.above.now c.split_at.ensures.back c.in-Some.ensures.cases.0 c.loop-middle.invariant.rise off above in
    record {
      rise = r.0;
      same = r.1 ∙ c.loop-middle.invariant.same;
    }
