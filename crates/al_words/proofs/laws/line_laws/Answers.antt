use Rattle.al_words.proofs.Saying.{is_refused, lines_are_commands}
use Rattle.al_words.proofs.laws.line_laws.Goals as goal

pub returns : goal.returns
returns c = record { commands = lines_are_commands; refused = is_refused }
