use Rattle.std.proofs.Common.{◌∙◌}
use Rattle.al_record.proofs.spell.is_zero_array.Goals as goal
use Rattle.al_record.proofs.Zeros.{array_left_out}

-- src/spell.rt:54:1
pub returns : goal.returns
returns g c = c.eq.ensures ∙ array_left_out g.row.N c.args.b.now c.told-b
