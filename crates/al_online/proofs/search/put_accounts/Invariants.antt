use Rattle.std.proofs.Common.{◌≡◌, drop}
use Rattle.al_online.specs.Search.{AreInOrder, put_accounts}
use Rattle.al_online.proofs.search.put_accounts.Given as goal

abbrev pub invariant-loop-change : goal.invariant-loop-change
invariant-loop-change l = record {
  order : AreInOrder l.online.items;
  rest : put_accounts (drop l.change-index l.changes) l.online.items ≡ put_accounts l.changes l.fn.online.items;
}
