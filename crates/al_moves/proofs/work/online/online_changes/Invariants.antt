use Rattle.std.proofs.Common.{◌≡◌, ◌++◌, map}
use Rattle.al_moves.specs.Online.{changed_onlines, online_change_of}
use Rattle.al_moves.proofs.work.online.online_changes.Given as goal

abbrev pub invariant-loop-key : goal.invariant-loop-key
invariant-loop-key l = map online_change_of l.out ++ changed_onlines l.key-iterator ≡ changed_onlines l.rows.entries
