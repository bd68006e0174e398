use Rattle.std.proofs.Common.{◌∙◌}
use Rattle.std.specs.Option.{option_copied}
use Rattle.al_states.proofs.MakeLemmas.{pool_is}
use Rattle.al_states.proofs.states.States.pool_balance.Goals as goal

pub returns : goal.returns
returns c t at = c.balance_in.ensures ∙ pool_is c.args.self.now c.requires c.front.result (option_copied c.row_after.result) t c.front.ensures.front c.row_after.ensures.row at
