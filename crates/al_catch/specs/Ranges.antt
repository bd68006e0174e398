-- The ranges of what the records of files hold, and that each value in its ranges has a spelling.
use Rattle.std.specs.Prelude.{◌<◌, ◌^◌, length}
use Rattle.std.specs.List.{AllByRecursion}
use Rattle.al_msgpack.specs.declared.val.Val.TheVariants as values
use Rattle.al_msgpack.specs.Spelled.{spelled}
use Rattle.al_record.specs.Laws.{IsShort}
use Rattle.al_rewards.specs.Totals.{AreTotals}
use Rattle.al_catch.specs.declared.chunk.Chunk.{Chunk}
use Rattle.al_catch.specs.declared.chunk.ChunkRow.{ChunkRow}
use Rattle.al_catch.specs.declared.info.CatchInfo.{CatchInfo}
use Rattle.al_catch.specs.Decoding.{Holds}
use Rattle.al_catch.specs.Records.{chunk, info}

-- fewer than 2^32 bytes of a key and of a spelling, and a round of 64 bits
pub record RowRanges (r : ChunkRow) : Type 0 where
  pub key : IsShort r.key
  pub spelling : IsShort r.spelling
  pub changed : r.changed < 2 ^ 64

pub record ChunkRanges (c : Chunk) : Type 0 where
  pub number : c.number < 2 ^ 64
  pub count : length c.rows < 2 ^ 32
  pub rows : AllByRecursion RowRanges c.rows

pub record InfoRanges (i : CatchInfo) : Type 0 where
  pub chunks : i.chunks < 2 ^ 64
  pub round : i.round < 2 ^ 64
  pub level : i.totals.level < 2 ^ 64
  pub totals : AreTotals i.totals

-- what is written of a chunk in its ranges spells its record
abbrev pub SpellsChunks : Type 0
SpellsChunks = (c : Chunk) → ChunkRanges c → Holds chunk (spelled (values.Map (chunk.write c))) c

-- the same of what a catchpoint says of itself
abbrev pub SpellsInfos : Type 0
SpellsInfos = (i : CatchInfo) → InfoRanges i → Holds info (spelled (values.Map (info.write i))) i
