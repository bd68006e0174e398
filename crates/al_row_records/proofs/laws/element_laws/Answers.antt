use Rattle.al_row_records.proofs.Alike.{alike, length-element_of}
use Rattle.al_row_records.proofs.laws.element_laws.Goals as goal

pub returns-clause-size : goal.returns-clause-size
returns-clause-size c = λ k s. length-element_of k s

pub returns-clause-show : goal.returns-clause-show
returns-clause-show c = λ j k s t e. alike j k s t e
