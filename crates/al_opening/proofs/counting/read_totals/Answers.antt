use Rattle.std.proofs.Common.{refl, ◌∙◌, arith}
use Rattle.al_opening.proofs.Pages.{counted_none, page_last, page_more}
use Rattle.al_opening.proofs.counting.read_totals.Goals as goal

pub loop-page-init : goal.loop-page-init
loop-page-init g c = record {
  same = λ t. refl;
  counted = λ t. counted_none c.args.level _ _ c.new-totals.ensures;
  later = omega arith;
}

pub returns-in-Ok-None-clause-value : goal.returns-in-Ok-None-clause-value
returns-in-Ok-None-clause-value g c t =
    let l = c.loop-page in
    page_last c.args.level (g.K.TableKeeper.tables l.tables.inner) (g.K.TableKeeper.tables c.args.tables.now.inner) _ l.after _ l.totals c.add_page.new.totals (l.invariant.counted t) (l.invariant.same t) c.as_ref.ensures.value c.in-Ok-None.field-0-is (c.in-Ok-None.ensures.value t)

pub loop-page-preserved : goal.loop-page-preserved
loop-page-preserved g c =
    let l = c.loop-page in
    let next = c.in-Ok-Some.ensures in
    record {
      same = λ t. next.same t ∙ l.invariant.same t;
      counted = λ t. page_more c.args.level (g.K.TableKeeper.tables l.tables.inner) (g.K.TableKeeper.tables c.args.tables.now.inner) _ l.after _ c.in-Ok-Some.last l.totals c.add_page.new.totals (l.invariant.counted t) (l.invariant.same t) c.as_ref.ensures.value c.in-Ok-Some.field-0-is (next.value t);
      later = omega (arith, l.invariant.later, next.cause.later);
    }
