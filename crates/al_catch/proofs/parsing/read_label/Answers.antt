use Rattle.al_catch.proofs.LabelLemmas.{label_read}
use Rattle.al_catch.proofs.parsing.read_label.Goals as goal

pub returns-in-Ok : goal.returns-in-Ok
returns-in-Ok c = label_read c.args.text.now c.in-Some.front.now c.in-Some.behind.now (record { round = c.in-Some-round_in.round; digest = c.in-Ok.digest }) c.in-Some.ensures c.in-Some-round_in.ensures c.in-Ok.ensures.bytes c.in-Ok.ensures.reads
