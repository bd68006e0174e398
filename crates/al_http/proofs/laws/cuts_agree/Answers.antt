use Rattle.al_http.proofs.LawLemmas.{cuts_agree as law}
use Rattle.al_http.proofs.laws.cuts_agree.Goals as goal

pub returns : goal.returns
returns c = λ xs ys x y p q is. law xs ys x y p q is
