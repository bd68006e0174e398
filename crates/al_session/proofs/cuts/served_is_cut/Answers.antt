use Rattle.al_session.proofs.CutLemmas.{served_is_cut as law}
use Rattle.al_session.proofs.cuts.served_is_cut.Goals as goal

pub returns : goal.returns
returns c = λ before after left_now taken written end requests told rest behind p x. law before after left_now taken written end requests told rest behind p x
