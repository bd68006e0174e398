use Rattle.std.proofs.Common.{◌≡◌, ◌∙◌, ap, length}
use Rattle.al_answers.specs.declared.answer.Answer.{Answer}
use Rattle.al_states.specs.declared.told.Told.{Told}
use Rattle.al_states.specs.Accepting.{accept_answer}
use Rattle.al_states.specs.Keeping.{held}
use Rattle.al_states.proofs.ToldLemmas.{accept_answered}
use Rattle.al_states.proofs.states.States.post.Goals as goal

pub returns-clause-answered : goal.returns-clause-answered
returns-clause-answered c =
    let before = held c.args.self.now in
    let after = held c.accept.new.self in
    let told : c.told.result ≡ record { front = length after.blocks; answer = accept_answer c.accept.result } = c.told.ensures ∙ ap (λ (a : Answer). let t : Told = record { front = length after.blocks; answer = a } in t) c.accept_answer-answer.ensures in
    accept_answered before after c.args.body.now c.accept.result c.told.result c.accept.ensures.accepts told
