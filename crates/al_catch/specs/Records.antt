-- The records in the files of a catchpoint.
use Rattle.std.specs.Prelude.{◌-◌, ◌^◌, map, codes, List, [], ◌∷◌, Option, None}
use Rattle.al_msgpack.specs.declared.val.Val.{Val}
use Rattle.al_msgpack.specs.declared.val.Val.TheVariants as values
use Rattle.al_record.specs.Columns.{FieldOf, Format, bytes, list_put, number, record_field, records_field, table}
use Rattle.al_rewards.specs.Record.{totals}
use Rattle.al_catch.specs.declared.chunk.Chunk.{Chunk}
use Rattle.al_catch.specs.declared.chunk.ChunkRow.{ChunkRow}
use Rattle.al_catch.specs.declared.info.CatchInfo.{CatchInfo}

-- a row: the bytes of its key, its spelling, and the round that changed it last
abbrev pub row_fields : List (FieldOf ChunkRow)
row_fields =
    bytes (codes "k") 0 (2 ^ 64 - 1) (λ r. r.key) ∷
    bytes (codes "r") 0 (2 ^ 64 - 1) (λ r. r.spelling) ∷
    number (codes "u") (λ r. r.changed) ∷
    []

abbrev pub row : Format ChunkRow
row = table row_fields

-- a chunk: its number and its rows
abbrev pub chunk_fields : List (FieldOf Chunk)
chunk_fields =
    number (codes "k") (λ c. c.number) ∷
    records_field (codes "rows") None row (λ c. c.rows) ∷
    []

abbrev pub chunk : Format Chunk
chunk = table chunk_fields

-- the list of the rows' records, unless there is none
abbrev pub rows_put : List ChunkRow → Option Val
rows_put rows = list_put (map (λ es. values.Map es) (map row.write rows))

-- what a catchpoint says of itself: how many chunks there are, the round of their rows, and the totals
abbrev pub info_fields : List (FieldOf CatchInfo)
info_fields =
    number (codes "c") (λ i. i.chunks) ∷
    number (codes "d") (λ i. i.round) ∷
    record_field (codes "t") totals (λ i. i.totals) ∷
    []

abbrev pub info : Format CatchInfo
info = table info_fields
