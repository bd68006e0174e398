use Rattle.std.proofs.Common.{◌≡◌, ◌∙◌, rules}
use Rattle.al_base.specs.Keys.{key_cmp}
use Rattle.al_base.proofs.OrderLemmas.{key_order}
use Rattle.al_base.proofs.key.Key.compare.Goals as goal

pub returns-clause-bytes : goal.returns-clause-bytes
returns-clause-bytes c =
    let cases : c.cmp.result ≡ key_cmp c.args.self.now c.args.other.now = search rules in
    cases ∙ key_order _ _ c.is_in_range.ensures c.is_in_range-2.ensures
