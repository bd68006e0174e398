use Rattle.al_http.proofs.LawLemmas.{nothing_left as law}
use Rattle.al_http.proofs.laws.nothing_left.Goals as goal

pub returns : goal.returns
returns c = λ rest more r f x is. law rest more r f x is
