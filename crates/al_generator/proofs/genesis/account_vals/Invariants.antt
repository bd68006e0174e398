-- The records of the accounts so far.
use Rattle.std.proofs.Common.{◌≡◌, map, take}
use Rattle.al_genesis.specs.Genesis.{account}
use Rattle.al_msgpack.specs.declared.val.Val.TheVariants as values
use Rattle.al_generator.specs.Genesis.{first_account}
use Rattle.al_generator.proofs.genesis.account_vals.Given as goal

abbrev pub invariant-loop-opening : goal.invariant-loop-opening
invariant-loop-opening l = l.vals ≡ map (λ es. values.Map es) (map account.write (map first_account (take l.opening-index l.all)))
