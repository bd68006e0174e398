use Rattle.std.proofs.Common.{◌≡◌, ℕ, ◌+◌, ◌≤◌}
use Rattle.al_online.specs.Laws.{Snaps}
use Rattle.al_online.specs.Memory.{top}
use Rattle.al_history.specs.History.{IsHistory}
use Rattle.al_history.specs.Reading.{IsReadTo}
use Rattle.al_history.proofs.read.memory_of.Given as goal

abbrev pub invariant-loop-next : goal.invariant-loop-next
invariant-loop-next l = record {
  base : l.memory.base ≡ l.base;
  top : top l.memory + 1 ≡ l.next;
  read : (snaps : Snaps) (low : ℕ) → IsHistory l.history l.levels snaps low l.round → low ≤ l.base → IsReadTo l.history snaps l.rest l.memory;
}
