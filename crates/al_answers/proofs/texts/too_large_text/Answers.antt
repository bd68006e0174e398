use Rattle.std.proofs.Common.{sym}
use Rattle.al_answers.proofs.Constants.{too_large_is}
use Rattle.al_answers.proofs.texts.too_large_text.Goals as goal

pub returns : goal.returns
returns c = sym too_large_is
