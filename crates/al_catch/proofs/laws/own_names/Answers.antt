use Rattle.al_catch.proofs.FileLemmas.{own_files, own_names}
use Rattle.al_catch.proofs.laws.own_names.Goals as goal

pub returns-clause-files : goal.returns-clause-files
returns-clause-files c = λ round f g p q same. own_names round f g p q same

pub returns-clause-rounds : goal.returns-clause-rounds
returns-clause-rounds c = λ r s f g low least p q same. own_files r s f g low least p q same
