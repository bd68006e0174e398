use Rattle.std.proofs.Common.{refl}
use Rattle.al_record.proofs.Engine.{is_record}
use Rattle.al_catch.specs.Records.{row_fields}
use Rattle.al_catch.proofs.chunk.ChunkRowRecord.read.Goals as goal

pub returns : goal.returns
returns c = is_record row_fields _ c.args.entries.now refl c.requires c.in_ok-check.ensures (c.in_ok-bytes.ensures, (c.in_ok-bytes-2.ensures, (c.number.ensures, tt)))
