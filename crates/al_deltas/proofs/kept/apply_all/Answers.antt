use Rattle.std.proofs.Common.{◌≡◌, ◌∙◌, sym, ap, subst, List, ◌∷◌, ◌+◌, map, drop, IfSome}
use Rattle.al_rows.specs.Finite.{or_below}
use Rattle.al_rows.specs.Rows.{IsKept}
use Rattle.al_rows.specs.declared.change.Change.{Change}
use Rattle.al_deltas.specs.Queue.{left_of}
use Rattle.al_deltas.proofs.Applied.{at, drop_at, later_rise, put_again, put_first, put_kept}
use Rattle.al_deltas.proofs.Searches.{Rise}
use Rattle.al_deltas.proofs.kept.apply_all.Goals as goal

pub loop-change-preserved : goal.loop-change-preserved
loop-change-preserved c =
    let x = c.change-item.result in
    let i = c.loop-change.change-index in
    let cs = c.args.changes.now in
    let round = c.args.round in
    let old = c.loop-change.rows.entries in
    let rest = drop (i + 1) cs in
    let steps : drop i cs ≡ x ∷ rest = drop_at cs i x c.loop-change-test.true c.change-item.is in
    let rise : Rise (x ∷ rest) = subst Rise steps c.loop-change.invariant.rise in
    record {
      rise = later_rise x rest rise;
      rest = λ q.
          put_first round x rest (at old) (at c.apply_one.new.rows.entries) rise (λ p. c.in_ok-apply_one.ensures.ok p) q
          ∙ ap (λ (es : List Change). or_below (at (map (left_of round) es) q) (at old q)) (sym steps)
          ∙ c.loop-change.invariant.rest q;
      again = λ q. put_again round cs i x (at old) (at c.apply_one.new.rows.entries) c.loop-change-test.true c.change-item.is (λ p. c.in_ok-apply_one.ensures.ok p) q ∙ c.loop-change.invariant.again q;
      kept = put_kept round x (at old) (at c.apply_one.new.rows.entries) (subst (λ (d : Change). IfSome d.row (IsKept d.key)) (sym c.change-item.is) (c.requires.changed i x c.loop-change-test.true)) c.loop-change.invariant.kept (λ p. c.in_ok-apply_one.ensures.ok p);
      index = c.apply_one.ensures.index;
    }
