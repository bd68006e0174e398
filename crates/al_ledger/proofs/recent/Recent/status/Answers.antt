use Rattle.std.proofs.Common.{◌∙◌}
use Rattle.al_ledger.proofs.Looks.{floor_is, front_is, hash_is}
use Rattle.al_ledger.proofs.recent.Recent.status.Goals as goal

pub returns : goal.returns
returns c = λ w tables kept k. record {
  front = c.front.ensures.front ∙ front_is w tables kept c.args.self.now k;
  floor = c.floor.ensures ∙ floor_is w tables kept c.args.self.now k;
  hash = hash_is w tables kept c.args.self.now k;
}
