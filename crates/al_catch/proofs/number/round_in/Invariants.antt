use Rattle.std.proofs.Common.{◌≡◌, ◌≤◌, ◌<◌, ◌^◌, ℕ, take, get_or}
use Rattle.std.specs.Int.{IsInRange}
use Rattle.std.specs.Str.Parse.{digits_value}
use Rattle.al_catch.proofs.number.round_in.Given as goal

abbrev pub invariant-loop-c : goal.invariant-loop-c
invariant-loop-c l = record {
  below : (k : ℕ) → k < l.c-index → IsInRange 48 57 (get_or l.text k 0);
  most : l.n ≤ 2 ^ 62;
  value : l.n ≡ digits_value 10 (take l.c-index l.text);
}
