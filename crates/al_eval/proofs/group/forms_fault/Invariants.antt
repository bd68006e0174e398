use Rattle.std.proofs.Common.{◌≡◌, ◌+◌, drop}
use Rattle.al_eval.specs.Groups.{forms_fault}
use Rattle.al_eval.proofs.group.forms_fault.Given as goal

abbrev pub invariant-loop-k : goal.invariant-loop-k
invariant-loop-k l = forms_fault l.chain (l.place + l.k) (drop l.k l.group) ≡ forms_fault l.chain l.place l.group
