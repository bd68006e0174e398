use Rattle.std.proofs.Common.{◌≡◌, length, rules, ap, sym, ◌∙◌, Some}
use Rattle.al_base.proofs.NameLemmas.{name_is}
use Rattle.al_base.proofs.name.BoxName.new.Goals as goal

pub returns-clause-whole : goal.returns-clause-whole
returns-clause-whole c = λ name len same.
    let l : length c.padded-bytes.result ≡ 64 = search rules in
    ap Some (name_is _ name l len (c.padded-bytes.ensures.front ∙ sym same))
