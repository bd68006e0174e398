use Rattle.std.proofs.Common.{◌∙◌, ap, option_map, refl}
use Rattle.std.proofs.lemmas.Result.{err_from_is_err_and}
use Rattle.al_online.specs.Stakes.{Snap, circulation_at}
use Rattle.al_rewards.specs.Totals.{capped}
use Rattle.al_states.specs.declared.looking.CirculationAnswer.{CirculationAnswer}
use Rattle.al_states.specs.Keeping.{held}
use Rattle.al_states.specs.Looking.{ShowsCirculation}
use Rattle.al_states.proofs.LookLemmas.{refused_back, remembered_from, remembered_top, shown_back, snap_is}
use Rattle.al_states.proofs.states.States.circulation.Goals as goal

pub circulation-requires-clause-from : goal.circulation-requires-clause-from
circulation-requires-clause-from c = remembered_from c.args.self.now c.in_ok-round.round c.requires

pub circulation-requires-clause-top : goal.circulation-requires-clause-top
circulation-requires-clause-top c = remembered_top c.args.self.now c.in_ok-round.round c.requires c.in_ok-round.ensures.1

pub returns : goal.returns
returns c =
    let s = c.args.self.now in
    let h = held s in
    let n = c.in_ok-round.round in
    let vote = c.unwrap_or-vote.result in
    let a : CirculationAnswer = record { front = c.front-front.result; round = n; vote = vote; money = c.circulation.result } in
    shown_back h c.args.round (ShowsCirculation h c.args.vote) n a c.in_ok-round.ensures (record {
      front = c.front-front.ensures.front;
      round_is = refl;
      vote_is = c.unwrap_or-vote.ensures;
      money = c.circulation.ensures ∙ ap (option_map (λ (x : Snap). capped (circulation_at x vote))) (snap_is s n c.requires c.in_ok-round.ensures.1);
    })

pub returns-in_err-round : goal.returns-in_err-round
returns-in_err-round c =
    let h = held c.args.self.now in
    let p = err_from_is_err_and c.from_residual.result c.from_residual.ensures.1 in
    rw (p.1, p.2) (refused_back h c.args.round (ShowsCirculation h c.args.vote) c.in_err-round.field-0.0 c.in_err-round.ensures)
