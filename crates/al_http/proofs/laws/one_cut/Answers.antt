use Rattle.al_http.proofs.LawLemmas.{one_cut as law}
use Rattle.al_http.proofs.laws.one_cut.Goals as goal

pub returns : goal.returns
returns c = λ xs ys x y p q is. law xs ys x y p q is
