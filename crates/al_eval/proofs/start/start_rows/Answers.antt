use Rattle.std.proofs.Common.{◌∙◌, subst, Ordering}
use Rattle.std.specs.BTreeMap.{IsOrdered}
use Rattle.al_base.specs.declared.key.Key.{Key}
use Rattle.al_base.specs.Keys.{key_cmp}
use Rattle.al_rows.proofs.Keys.{derived_order}
use Rattle.al_eval.proofs.Starts.{next_account, put_kept, all_kept}
use Rattle.al_eval.proofs.start.start_rows.Goals as goal

pub loop-account-preserved : goal.loop-account-preserved
loop-account-preserved c = record {
  map = next_account c.loop-account.rows c.put_account.new.rows c.args.accounts.now c.loop-account.account-index _ c.loop-account-test.true c.in_ok-put_account.ensures ∙ c.loop-account.invariant.map;
  kept = put_kept _ c.loop-account.rows.entries c.put_account.new.rows.entries (c.requires c.loop-account.account-index _ c.loop-account-test.true) c.in_ok-put_account.ensures c.loop-account.invariant.kept;
}

pub returns-clause-kept : goal.returns-clause-kept
returns-clause-kept c =
    let ordered : IsOrdered key_cmp c.loop-account.rows = subst (λ (R : Key → Key → Ordering). IsOrdered R c.loop-account.rows) derived_order c.len-count.ensures.ordered in
    all_kept c.loop-account.rows ordered c.loop-account.invariant.kept
