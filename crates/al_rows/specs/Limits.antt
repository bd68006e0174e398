-- The limits of the numbers of a row.
use Rattle.std.specs.Prelude.{ℕ, ◌^◌}

-- the most that a balance may be, and all balances together, in microAlgos
abbrev pub max_balance : ℕ
max_balance = 10000000000000000

-- the most that each count of an account may be
abbrev pub max_count : ℕ
max_count = 2 ^ 40
