use Rattle.std.proofs.Common.{◌∙◌, ◌<◌, ◌^◌, ap, refl, subst, sym, Some}
use Rattle.std.proofs.lemmas.Result.{err_from_is_err_and}
use Rattle.al_answers.specs.Answers.{sum_of}
use Rattle.al_states.specs.declared.looking.SupplyAnswer.{SupplyAnswer}
use Rattle.al_states.specs.Keeping.{held}
use Rattle.al_states.specs.Looking.{ShowsSupply}
use Rattle.al_states.proofs.LookLemmas.{begun, refused_at, shown_at, totals_few, totals_is, within}
use Rattle.al_states.proofs.states.States.supply.Goals as goal

pub totals-requires-clause-from : goal.totals-requires-clause-from
totals-requires-clause-from c = begun c.args.self.now c.in_ok-round.round c.requires

pub totals-requires-clause-top : goal.totals-requires-clause-top
totals-requires-clause-top c = within c.args.self.now c.in_ok-round.round c.requires c.in_ok-round.ensures.1

pub returns : goal.returns
returns c =
    let s = c.args.self.now in
    let n = c.in_ok-round.round in
    let a : SupplyAnswer = record { front = c.front.result; round = n; totals = c.totals.result } in
    shown_at (held s) c.args.round (ShowsSupply (held s)) n a c.in_ok-round.ensures (record {
      front = c.front.ensures.front;
      round_is = refl;
      totals = ap Some c.totals.ensures ∙ totals_is s n c.requires;
      sum = subst (λ t. sum_of t < 2 ^ 64) (sym c.totals.ensures) (totals_few s n c.requires);
    })

pub returns-in_err-round : goal.returns-in_err-round
returns-in_err-round c =
    let h = held c.args.self.now in
    let p = err_from_is_err_and c.from_residual.result c.from_residual.ensures.1 in
    rw (p.1, p.2) (refused_at h c.args.round (ShowsSupply h) c.in_err-round.field-0.0 c.in_err-round.ensures)
