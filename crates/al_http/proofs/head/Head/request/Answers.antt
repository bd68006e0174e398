use Rattle.std.proofs.Common.{◌∙◌}
use Rattle.al_http.proofs.AskLemmas.{head_asks, target_is_text}
use Rattle.al_http.proofs.head.Head.request.Goals as goal

pub returns-in-Ok : goal.returns-in-Ok
returns-in-Ok c = λ h valid is. head_asks h c.args.self.now c.as_str.result.now c.in-Ok.target.now c.request.result is c.as_str.ensures.value (c.in-Ok.ensures.cases.0 ∙ c.as_slice.ensures) c.request.ensures

pub returns-in-Err : goal.returns-in-Err
returns-in-Err c = λ h valid is. absurd (c.in-Err.ensures.cases.0 (target_is_text h c.args.self.now c.as_slice.result.now valid is c.as_slice.ensures))
