-- Records of files in their ranges.
use Rattle.std.proofs.Common.{◌<◌, ◌^◌, ℕ, refl, ap, ◌∙◌, arith}
use Rattle.al_msgpack.specs.declared.val.Val.TheVariants as values
use Rattle.al_msgpack.specs.declared.val.Val.TheViews as views
use Rattle.al_msgpack.specs.Canonical.{IsCanonical}
use Rattle.al_msgpack.specs.Spelled.{spelled}
use Rattle.al_msgpack.proofs.Canonical.{canonical_spells}
use Rattle.al_record.specs.Columns.{IsRecord, member_open}
use Rattle.al_rewards.specs.declared.totals.Totals.{Totals}
use Rattle.al_rewards.specs.Record.{totals_fields}
use Rattle.al_rewards.specs.Totals.{AreTotals}
use Rattle.al_bodies.proofs.Ranged.{AllRanged, ranged_record, ranged_canonical}
use Rattle.al_bodies.proofs.RangedBodies.{list_canonical, list_sound}
use Rattle.al_catch.specs.declared.chunk.Chunk.{Chunk}
use Rattle.al_catch.specs.declared.chunk.ChunkRow.{ChunkRow}
use Rattle.al_catch.specs.declared.info.CatchInfo.{CatchInfo}
use Rattle.al_catch.specs.Decoding.{Holds}
use Rattle.al_catch.specs.Ranges.{ChunkRanges, InfoRanges, RowRanges}
use Rattle.al_catch.specs.Records.{chunk, chunk_fields, info, info_fields, row, row_fields}

row_ranged : (depth : ℕ) (r : ChunkRow) → RowRanges r → AllRanged depth row_fields r
row_ranged depth r h = ((h.key, omega arith, omega (arith, h.key.1)), ((h.spelling, omega arith, omega (arith, h.spelling.1)), (h.changed, tt)))

row_record : (r : ChunkRow) → RowRanges r → IsRecord row r (row.write r)
row_record r h = ranged_record 0 row_fields r refl (row_ranged 0 r h)

row_canonical : (r : ChunkRow) → RowRanges r → IsCanonical 14 (values.Map (row.write r))
row_canonical r h = ranged_canonical 13 row_fields r refl refl refl (row_ranged 13 r h)

chunk_ranged : (c : Chunk) → ChunkRanges c → AllRanged 15 chunk_fields c
chunk_ranged c h = (
  h.number,
  ((refl, list_sound RowRanges row row_record c.rows h.rows, list_canonical RowRanges row 14 row_canonical c.rows h.count h.rows), tt),
)

pub chunk_holds : (c : Chunk) → ChunkRanges c → Holds chunk (spelled (values.Map (chunk.write c))) c
chunk_holds c h = record {
  spells = canonical_spells 16 _ (ranged_canonical 15 chunk_fields c refl refl refl (chunk_ranged c h));
  sound = ap (member_open chunk.fault) (views.outs-Map (chunk.write c)) ∙ (ranged_record 15 chunk_fields c refl (chunk_ranged c h)).sound;
}

totals_ranged : (depth : ℕ) (t : Totals) → t.level < 2 ^ 64 → AreTotals t → AllRanged depth totals_fields t
totals_ranged depth t l a = (a.1.0, (a.1.1, (l, (a.0.0, (a.0.1, (a.2.0, (a.2.1, tt)))))))

info_ranged : (i : CatchInfo) → InfoRanges i → AllRanged 15 info_fields i
info_ranged i h = (
  h.chunks,
  (
    h.round,
    (
      (
        (ranged_record 14 totals_fields i.totals refl (totals_ranged 14 i.totals h.level h.totals)).sound,
        ranged_canonical 14 totals_fields i.totals refl refl refl (totals_ranged 14 i.totals h.level h.totals),
      ),
      tt,
    ),
  ),
)

pub info_holds : (i : CatchInfo) → InfoRanges i → Holds info (spelled (values.Map (info.write i))) i
info_holds i h = record {
  spells = canonical_spells 16 _ (ranged_canonical 15 info_fields i refl refl refl (info_ranged i h));
  sound = ap (member_open info.fault) (views.outs-Map (info.write i)) ∙ (ranged_record 15 info_fields i refl (info_ranged i h)).sound;
}
