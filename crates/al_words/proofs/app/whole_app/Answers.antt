use Rattle.std.proofs.Common.{ap₂, ◌∙◌}
use Rattle.std.proofs.lemmas.Result.{IfOk-weaker}
use Rattle.al_words.specs.Apps.{with_line}
use Rattle.al_words.proofs.app.whole_app.Goals as goal

pub returns : goal.returns
returns c = IfOk-weaker c.with_line-6.result _ _ (λ m h. h ∙ ap₂ with_line (c.in_ok-command-5.ensures ∙ ap₂ with_line (c.in_ok-command-4.ensures ∙ ap₂ with_line (c.in_ok-command-3.ensures ∙ ap₂ with_line (c.in_ok-command-2.ensures ∙ ap₂ with_line (c.in_ok-command.ensures ∙ ap₂ with_line c.top-command.ensures c.in_ok-one_word.ensures.app) c.in_ok-two_words.ensures.app) c.in_ok-two_words-2.ensures.app) c.in_ok-three_words.ensures.app) c.in_ok-two_words-3.ensures.app) c.in_ok-one_word-2.ensures.app) c.with_line-6.ensures
