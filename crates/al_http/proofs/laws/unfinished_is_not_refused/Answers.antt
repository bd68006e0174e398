use Rattle.al_http.proofs.LawLemmas.{unfinished_is_not_refused as law}
use Rattle.al_http.proofs.laws.unfinished_is_not_refused.Goals as goal

pub returns : goal.returns
returns c = λ rest fault part refused. law rest fault part refused
