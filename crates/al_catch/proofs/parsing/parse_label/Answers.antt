use Rattle.al_catch.proofs.LabelLemmas.{reads_fault, reads_label}
use Rattle.al_catch.proofs.parsing.parse_label.Goals as goal

pub returns-clause-label : goal.returns-clause-label
returns-clause-label c = λ l own is. reads_label c.args.text.now c.read_label.result c.read_label.ensures l own is

pub returns-clause-fault : goal.returns-clause-fault
returns-clause-fault c = λ f h. reads_fault c.args.text.now c.read_label.result c.read_label.ensures f h
