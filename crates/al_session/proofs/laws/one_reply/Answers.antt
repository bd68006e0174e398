use Rattle.al_session.proofs.ReplyLemmas.{one_reply as law}
use Rattle.al_session.proofs.laws.one_reply.Goals as goal

pub returns : goal.returns
returns c = λ o blocks asked body a b bytes short p q. law o blocks asked body a b bytes short p q
