-- The names of header fields.
use Rattle.std.specs.Prelude.{List, ℕ, codes}
use Rattle.al_block.specs.declared.header.Field.{Field}
use Rattle.al_block.specs.declared.header.Field.TheVariants as header

-- a header field by its name in the header's record
abbrev pub field_text : Field → List ℕ
field_text header.Rnd = codes "rnd"
field_text header.Prev = codes "prev"
field_text header.Gh = codes "gh"
field_text header.Ts = codes "ts"
field_text header.Fees = codes "fees"
field_text header.Rwd = codes "rwd"
field_text header.Rate = codes "rate"
field_text header.Rwcalr = codes "rwcalr"
field_text header.Frac = codes "frac"
field_text header.Earn = codes "earn"
field_text header.Txn = codes "txn"
field_text header.Tc = codes "tc"
