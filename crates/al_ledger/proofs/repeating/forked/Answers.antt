use Rattle.std.proofs.Common.{subst}
use Rattle.al_ledger.specs.Repeating.{IsReadAs}
use Rattle.al_ledger.proofs.Spelled.{other_forks}
use Rattle.al_ledger.proofs.repeating.forked.Goals as goal

pub returns-in-Ok-Some : goal.returns-in-Ok-Some
returns-in-Ok-Some g c = other_forks c.args.kept.now c.args.front c.args.round c.in-Ok-Some.block c.outside.result c.outside.ensures (subst (IsReadAs c.args.kept.now) c.in-Ok-Some.field-0-is c.in-Ok-Some.ensures) c.if-block-round.false
