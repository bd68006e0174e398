use Rattle.std.proofs.Common.{sym}
use Rattle.al_answers.proofs.Constants.{memory_is}
use Rattle.al_answers.proofs.texts.memory_text.Goals as goal

pub returns : goal.returns
returns c = sym memory_is
