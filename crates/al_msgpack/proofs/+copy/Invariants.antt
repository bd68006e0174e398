use Rattle.std.proofs.Common.{◌≡◌, take}
use Rattle.al_msgpack.proofs.+copy.Given as goal

abbrev pub invariant-copy::copy_all-loop-v : goal.invariant-copy::copy_all-loop-v
invariant-copy::copy_all-loop-v l = l.out ≡ take l.v-index l.items

abbrev pub invariant-copy::copy_entries-loop-e : goal.invariant-copy::copy_entries-loop-e
invariant-copy::copy_entries-loop-e l = l.out ≡ take l.e-index l.entries
