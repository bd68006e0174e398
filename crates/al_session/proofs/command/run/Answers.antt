use Rattle.std.proofs.Common.{ℕ, List, map, subst, ap, ◌∙◌, inr}
use Rattle.al_words.specs.Lines.{Reads, Says}
use Rattle.al_session.proofs.command.run.Goals as goal

pub returns-in-Ok-read_command-clause-runs : goal.returns-in-Ok-read_command-clause-runs
returns-in-Ok-read_command-clause-runs g c = inr (
  c.in-Ok-read_command.line,
  subst (λ (words : List (List ℕ)). Reads (Says words) c.in-Ok-read_command.line) (ap (map (λ w. w.now)) c.deref.ensures.value ∙ c.in-Ok.ensures) c.in-Ok-read_command.ensures,
  c.run_line.ensures.runs,
)
