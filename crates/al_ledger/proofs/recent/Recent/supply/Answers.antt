use Rattle.std.proofs.Common.{◌∙◌, ◌<◌, ◌≤◌, ◌^◌, ap, refl, sym, subst, Some}
use Rattle.std.proofs.lemmas.Result.{err_from_is_err_and}
use Rattle.al_answers.specs.Answers.{sum_of}
use Rattle.al_ledger.specs.declared.looking.SupplyAnswer.{SupplyAnswer}
use Rattle.al_ledger.specs.Looking.{ShowsSupply}
use Rattle.al_ledger.proofs.Looks.{floor_is, front_is, refused_at, shown_at, totals_few, totals_is}
use Rattle.al_ledger.proofs.recent.Recent.supply.Goals as goal

pub returns : goal.returns
returns g c = λ w tables kept k.
    let r = c.args.self.now in
    let n = c.in_ok-round.round in
    let low = floor_is w tables kept r k in
    let front = front_is w tables kept r k in
    let from : w.floor ≤ n = subst (λ f. f ≤ n) low c.in_ok-round.ensures.1 in
    let a : SupplyAnswer = record { front = c.front.result; round = n; totals = c.totals.result } in
    shown_at (Unit {0}) w r.deltas.base _ c.args.round (ShowsSupply w) n a low front c.in_ok-round.ensures (record {
      front = c.front.ensures.front ∙ front;
      round_is = refl;
      totals = ap Some c.totals.ensures ∙ totals_is w tables kept r k n from;
      sum = subst (λ t. sum_of t < 2 ^ 64) (sym c.totals.ensures) (totals_few w tables kept r k n from);
    })

pub returns-in_err-round : goal.returns-in_err-round
returns-in_err-round g c = λ w tables kept k.
    let p = err_from_is_err_and c.from_residual.result c.from_residual.ensures.1 in
    rw (p.1, p.2) (refused_at w c.args.self.now.deltas.base _ c.args.round (ShowsSupply w) c.in_err-round.field-0.0 (floor_is w tables kept c.args.self.now k) (front_is w tables kept c.args.self.now k) c.in_err-round.ensures)
