use Rattle.std.proofs.Common.{◌≡◌, take}
use Rattle.al_online.proofs.Sums.{live}
use Rattle.al_online.proofs.stake.voting.Given as goal
use Rattle.al_rewards.specs.Totals.{capped}

abbrev pub invariant-loop-known : goal.invariant-loop-known
invariant-loop-known l = l.sum ≡ capped (live l.level l.vote (take l.known-index l.online))
