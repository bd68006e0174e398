-- How many bytes of a connection wait at most.
use Rattle.std.specs.Prelude.{◌+◌, ℕ}
use Rattle.al_http.specs.Limits.{most_message}

-- the most bytes that one take gives
abbrev pub most_taken : ℕ
most_taken = 4096

-- the most bytes that wait: those of a request, and of one take
abbrev pub most_waiting : ℕ
most_waiting = most_message + most_taken
