-- The limits of the requests on a connection.
use Rattle.std.specs.Prelude.{◌+◌, ℕ}
use Rattle.al_block.specs.Block.{most_bytes}

-- the most bytes of a head
abbrev pub most_head : ℕ
most_head = 16384

-- the most fields of a head
abbrev pub most_fields : ℕ
most_fields = 64

-- the most bytes of a body, which are those of a block
abbrev pub most_body : ℕ
most_body = most_bytes

-- the most bytes of a head and its body
abbrev pub most_message : ℕ
most_message = most_head + most_body
