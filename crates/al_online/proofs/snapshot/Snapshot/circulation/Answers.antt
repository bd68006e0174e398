use Rattle.std.proofs.Common.{◌∙◌, ap}
use Rattle.al_online.specs.Search.{Accounts}
use Rattle.al_online.specs.Stakes.{voting_in}
use Rattle.al_online.proofs.Snaps.{circulation_is}
use Rattle.al_online.proofs.snapshot.Snapshot.circulation.Goals as goal
use Rattle.al_rewards.specs.Totals.{capped}

pub returns : goal.returns
returns c =
    c.voting.ensures
    ∙ ap (λ (es : Accounts). capped (voting_in c.self.inside.level c.args.vote es)) c.deref.ensures.value
    ∙ ap capped (circulation_is c.self.inside.level c.self.inside.online.items c.args.self.now c.self.view_is c.self.invariant c.args.vote)
