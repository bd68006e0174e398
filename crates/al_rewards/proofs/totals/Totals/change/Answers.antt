use Rattle.std.proofs.Common.{ap, ◌∙◌}
use Rattle.std.specs.Option.{option_copied}
use Rattle.al_rewards.specs.declared.totals.Totals.{Totals}
use Rattle.al_rewards.specs.Totals.{and_share, capped_totals}
use Rattle.al_rewards.proofs.Exact.{changed}
use Rattle.al_rewards.proofs.totals.Totals.change.Goals as goal

pub returns-clause-exact : goal.returns-clause-exact
returns-clause-exact c = λ rest old new.
    let value = c.with.ensures ∙ ap (λ (t : Totals). capped_totals (and_share t (option_copied c.args.new))) c.without.ensures in
    changed c.args.self.now rest c.with.result (option_copied c.args.old) (option_copied c.args.new) value old new
