-- Where a transaction of the code stands.
use Rattle.std.specs.Prelude.{ℕ}
use Rattle.al_eval.specs.declared.transact.Turn.{Turn}
use Rattle.al_eval.specs.Body.{Context}

abbrev pub context : ℕ → Turn → Context
context level t = record { level = level; round = t.round; next = t.next; item = t.item.now }
