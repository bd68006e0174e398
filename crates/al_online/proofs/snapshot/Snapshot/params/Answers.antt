use Rattle.std.proofs.Common.{◌∙◌, ap}
use Rattle.al_online.specs.Search.{Accounts}
use Rattle.al_online.specs.Stakes.{voting_in}
use Rattle.al_online.proofs.Snaps.{params_is}
use Rattle.al_online.proofs.snapshot.Snapshot.params.Goals as goal
use Rattle.al_rewards.specs.Totals.{capped}

pub returns : goal.returns
returns c =
    params_is c.self.inside.level c.self.inside.online.items c.args.self.now c.self.view_is c.self.invariant c.voting.result
    (c.voting.ensures ∙ ap (λ (es : Accounts). capped (voting_in c.self.inside.level 0 es)) c.deref.ensures.value)
