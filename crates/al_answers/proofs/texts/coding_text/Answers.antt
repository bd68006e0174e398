use Rattle.std.proofs.Common.{sym}
use Rattle.al_answers.proofs.Constants.{coding_is}
use Rattle.al_answers.proofs.texts.coding_text.Goals as goal

pub returns : goal.returns
returns c = sym coding_is
