use Rattle.std.proofs.Common.{◌≡◌, ◌∙◌, [], ap, arith, get_or, take}
use Rattle.al_base.specs.declared.address.Address.{Address}
use Rattle.al_base.specs.declared.online.OnlineData.{OnlineData}
use Rattle.al_online.specs.Search.{voting_stake}
use Rattle.al_online.proofs.Sums.{all_taken, live, live_is, live_more, sum_more}
use Rattle.al_online.proofs.stake.voting.Goals as goal
use Rattle.al_rewards.specs.Totals.{capped}

abbrev nobody : Address × OnlineData
nobody = (record { 0 = [] }, record { balance = 0; base = 0; first = 0; last = 0; dilution = 0; vote = []; selection = [] })

pub loop-known-preserved : goal.loop-known-preserved
loop-known-preserved c =
    sum_more c.loop-known.sum (live c.args.level c.args.vote (take c.loop-known.known-index c.args.online.now)) (voting_stake c.args.level c.args.vote (get_or c.args.online.now c.loop-known.known-index nobody).1) _ c.voting_stake.result c.saturating_add-sum.result
    c.loop-known.invariant c.voting_stake.ensures (live_more c.args.level c.args.vote c.args.online.now c.loop-known.known-index nobody c.loop-known-test.true) c.saturating_add-sum.ensures

pub returns : goal.returns
returns c =
    c.loop-known.invariant
    ∙ ap (λ es. capped (live c.args.level c.args.vote es)) (all_taken c.loop-known.known-index c.args.online.now (omega arith))
    ∙ ap capped (live_is c.args.level c.args.vote c.args.online.now)
