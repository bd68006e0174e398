use Rattle.std.proofs.Common.{◌∙◌}
use Rattle.al_generator.proofs.Parts.{same_genesis}
use Rattle.al_generator.proofs.genesis.generated_genesis.Goals as goal

pub returns : goal.returns
returns c = same_genesis c.in_ok-hash.hash c.in_ok-id.id _ _ _ c.first_header.result c.as_slice-2.result.now c.in_ok-accounts.accounts c.in_ok-hash.ensures c.in_ok-id.ensures c.first_header.ensures (c.as_slice-2.ensures.value ∙ c.in_ok-all.ensures) c.in_ok-accounts.ensures
