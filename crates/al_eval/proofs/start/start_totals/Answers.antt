use Rattle.std.proofs.Common.{◌≡◌, ◌∙◌, ap, refl, subst, sym, Some}
use Rattle.al_rewards.specs.Totals.{AreTotals, and_share}
use Rattle.al_eval.proofs.Starts.{next_totals}
use Rattle.al_eval.proofs.start.start_totals.Goals as goal

pub loop-account-preserved : goal.loop-account-preserved
loop-account-preserved c =
    let shared : c.share_of.result ≡ _ = c.share_of.ensures in
    next_totals c.loop-account.totals c.change.new.self c.args.accounts.now c.loop-account.account-index _ c.loop-account-test.true c.loop-account.invariant (λ fits.
    c.change.ensures.exact c.loop-account.totals refl (subst (λ s. AreTotals (and_share c.loop-account.totals (Some s))) (sym shared) fits) ∙ ap (λ s. and_share c.loop-account.totals (Some s)) shared)
