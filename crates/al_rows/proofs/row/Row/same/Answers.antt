use Rattle.std.proofs.Common.{◌∙◌}
use Rattle.al_rows.proofs.Sames.{row_tests}
use Rattle.al_rows.proofs.row.Row.same.Goals as goal

pub returns : goal.returns
returns c = c.eq.ensures ∙ row_tests c.args.self.now c.args.other.now
