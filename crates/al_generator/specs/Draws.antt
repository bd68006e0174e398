-- What the generator draws.
use Rattle.std.specs.Prelude.{◌+◌, ◌*◌, ◌/◌, ◌%◌, ◌^◌, ℕ, replicate, None}
use Rattle.al_base.specs.declared.address.Address.{Address}
use Rattle.al_generator.specs.declared.progress.Progress.{Progress}
use Rattle.al_generator.specs.declared.progress.Hand.{Hand}

-- the generator of a number before its first block
abbrev pub begin : ℕ → Progress
begin number = record { x = number; count = 0; asset = None; app = None }

-- a linear congruence modulo 2 ^ 64
abbrev pub next : ℕ → ℕ
next x = (6364136223846793005 * x + 1442695040888963407) % 2 ^ 64

-- what a draw gives that leaves x
abbrev pub drawn : ℕ → ℕ
drawn x = x / 2 ^ 33

abbrev pub after_draw : Progress → Progress
after_draw g = record g { x = next g.x }

-- user i of 32, from 0
abbrev pub user : ℕ → Address
user i = record { 0 = replicate 32 (16 + i) }

-- four draws, all four always
abbrev pub hand : ℕ → Hand
hand x = record {
  kind = drawn (next x) % 8;
  sender = user (drawn (next (next x)) % 32);
  receiver = user (drawn (next (next (next x))) % 32);
  value = drawn (next (next (next (next x)))) % 1000;
}

abbrev pub after_hand : Progress → Progress
after_hand g = after_draw (after_draw (after_draw (after_draw g)))
