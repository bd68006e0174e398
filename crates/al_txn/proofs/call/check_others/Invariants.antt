use Rattle.std.proofs.Common.{◌≡◌, drop}
use Rattle.al_record.specs.Columns.{field_fault, heads, rules_of}
use Rattle.al_bodies.specs.Kept.{others}
use Rattle.al_txn.specs.Txn.{appl_txn}
use Rattle.al_txn.proofs.call.check_others.Given as goal

abbrev pub invariant-loop-e : goal.invariant-loop-e
invariant-loop-e l = field_fault (heads (rules_of appl_txn)) (others (drop l.e-index l.entries)) ≡ field_fault (heads (rules_of appl_txn)) (others l.entries)
