use Rattle.al_http.proofs.LawLemmas.{one_request as law}
use Rattle.al_http.proofs.laws.one_request.Goals as goal

pub returns : goal.returns
returns c = λ a b x y p q is. law a b x y p q is
