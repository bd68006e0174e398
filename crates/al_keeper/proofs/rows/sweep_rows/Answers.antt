use Rattle.std.proofs.Common.{◌∙◌}
use Rattle.al_keeper.proofs.Slotted.{by_keys}
use Rattle.al_keeper.proofs.rows.sweep_rows.Goals as goal

pub loop-row-preserved : goal.loop-row-preserved
loop-row-preserved c = λ q. by_keys c.loop-row.slots.entries c.sweep.new.map.entries c.sweep.ensures q ∙ c.loop-row.invariant q
