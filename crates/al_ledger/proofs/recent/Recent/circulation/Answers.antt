use Rattle.std.proofs.Common.{◌∙◌, ◌≤◌, ◌+◌, ap, refl, subst, option_map}
use Rattle.std.proofs.lemmas.Result.{err_from_is_err_and}
use Rattle.al_online.specs.Stakes.{Snap, circulation_at}
use Rattle.al_rewards.specs.Totals.{capped}
use Rattle.al_ledger.specs.declared.looking.CirculationAnswer.{CirculationAnswer}
use Rattle.al_ledger.specs.Looking.{ShowsCirculation}
use Rattle.al_ledger.specs.Window.{front_of}
use Rattle.al_ledger.proofs.Looks.{front_is, refused_back, shown_back, snap_is}
use Rattle.al_ledger.proofs.recent.Recent.circulation.Goals as goal

pub returns : goal.returns
returns g c = λ w tables kept k.
    let r = c.args.self.now in
    let n = c.in_ok-round.round in
    let front = front_is w tables kept r k in
    let high : n ≤ front_of w = subst (λ f. n ≤ f) front c.in_ok-round.ensures.1 in
    let low : front_of w ≤ n + 320 = subst (λ f. f ≤ n + 320) front c.in_ok-round.ensures.2 in
    let vote = c.unwrap_or-vote.result in
    let a : CirculationAnswer = record { front = c.front-front.result; round = n; vote = vote; money = c.circulation.result } in
    shown_back (Unit {0}) w _ c.args.round (ShowsCirculation w c.args.vote) n a front c.in_ok-round.ensures (record {
      front = c.front-front.ensures.front ∙ front;
      round_is = refl;
      vote_is = c.unwrap_or-vote.ensures;
      money = c.circulation.ensures ∙ ap (option_map (λ (x : Snap). capped (circulation_at x vote))) (snap_is w tables kept r k n high low);
    })

pub returns-in_err-round : goal.returns-in_err-round
returns-in_err-round g c = λ w tables kept k.
    let p = err_from_is_err_and c.from_residual.result c.from_residual.ensures.1 in
    rw (p.1, p.2) (refused_back w _ c.args.round (ShowsCirculation w c.args.vote) c.in_err-round.field-0.0 (front_is w tables kept c.args.self.now k) c.in_err-round.ensures)
