use Rattle.std.proofs.Common.{inl, subst, sym, ap, ◌∙◌, Err}
use Rattle.al_answers.specs.Answers.{IsSound}
use Rattle.al_answers.specs.declared.answer.Answer.{Answer}
use Rattle.al_states.specs.Keeping.{held}
use Rattle.al_states.proofs.ToldLemmas.{answered_same, form_sound}
use Rattle.al_states.proofs.states.States.faulted.Goals as goal

pub returns-clause-sound : goal.returns-clause-sound
returns-clause-sound c = subst (λ (a : Answer). IsSound a) (sym (ap (λ t. t.answer) c.told.ensures ∙ c.form_answer-answer.ensures)) (form_sound c.args.fault)

pub returns-clause-answered : goal.returns-clause-answered
returns-clause-answered c = λ body. answered_same (held c.args.self.now) (Err c.args.fault) body c.form_answer-answer.result c.told.result c.told.ensures (inl c.form_answer-answer.ensures)
