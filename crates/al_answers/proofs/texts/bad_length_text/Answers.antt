use Rattle.std.proofs.Common.{sym}
use Rattle.al_answers.proofs.Constants.{bad_length_is}
use Rattle.al_answers.proofs.texts.bad_length_text.Goals as goal

pub returns : goal.returns
returns c = sym bad_length_is
