use Rattle.std.proofs.Common.{◌∙◌, sym, subst, [], None, get_or}
use Rattle.al_base.specs.declared.online.OnlineChange.{OnlineChange}
use Rattle.al_online.specs.Search.{AreInOrder, put_account}
use Rattle.al_online.proofs.Snaps.{puts_end, puts_more, stays_in_order}
use Rattle.al_online.proofs.search.put_accounts.Goals as goal

abbrev none : OnlineChange
none = record { address = record { 0 = [] }; now = None }

pub loop-change-preserved : goal.loop-change-preserved
loop-change-preserved c =
    let change : OnlineChange = get_or c.args.changes.now c.loop-change.change-index none in
    record {
      order = subst AreInOrder (sym c.in_ok-put_account.ensures) (stays_in_order change.address change.now c.loop-change.online.items c.loop-change.invariant.order);
      rest = puts_more c.args.changes.now c.loop-change.change-index none c.loop-change.online.items c.put_account.new.online.items c.loop-change-test.true c.in_ok-put_account.ensures ∙ c.loop-change.invariant.rest;
    }

pub returns-clause-ok : goal.returns-clause-ok
returns-clause-ok c = sym (puts_end c.args.changes.now c.loop-change.change-index c.loop-change.online.items c.loop-change-test.false) ∙ c.loop-change.invariant.rest
