use Rattle.std.proofs.Common.{◌∙◌, ap}
use Rattle.al_rows.specs.declared.account.AccountRow.{AccountRow}
use Rattle.al_rows.specs.Rows.{account_eq, is_zero_account}
use Rattle.al_rows.proofs.Sames.{account_tests}
use Rattle.al_rows.proofs.account.AccountRow.is_zero.Goals as goal

pub returns : goal.returns
unfolding is_zero_account
returns c = c.eq.ensures ∙ account_tests c.args.self.now _ ∙ ap (λ (r : AccountRow). account_eq c.args.self.now (record r { base = c.args.self.now.base })) c.none.ensures
