use Rattle.std.proofs.lemmas.Result.{IfOk-weaker}
use Rattle.al_answers.proofs.bodies.refused.Goals as goal

pub returns : goal.returns
returns c = IfOk-weaker c.table.result _ _ (λ m h. simp (c.text.ensures) at h) c.table.ensures
