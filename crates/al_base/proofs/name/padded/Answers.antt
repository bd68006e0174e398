use Rattle.std.proofs.Common.{rules, length, ◌∙◌}
use Rattle.std.proofs.lemmas.Slice.{drop-append-drop}
use Rattle.std.proofs.lemmas.List.{drop-replicate}
use Rattle.al_base.proofs.name.padded.Goals as goal

pub returns-clause-behind : goal.returns-clause-behind
returns-clause-behind c = drop-append-drop (length c.args.bytes.now) _ c.copy_from_slice.new.self (length c.args.bytes.now) (search rules) (search rules) ∙ drop-replicate (length c.args.bytes.now) 64 0
