-- Rows in their ranges have records, which have spellings.
use Rattle.std.proofs.Common.{◌≡◌, ◌<◌, ◌≤◌, ◌^◌, ℕ, true, false, is_some, List, length, Option, Some, None, IfSome, refl, ap, ◌∙◌, arith}
use Rattle.al_base.specs.declared.account.Status.{Status}
use Rattle.al_base.specs.declared.account.Status.TheVariants.{Offline, Online, NotParticipating}
use Rattle.al_base.specs.declared.asset.AssetParams.{AssetParams}
use Rattle.al_base.specs.declared.key.Key.{Key}
use Rattle.al_base.specs.declared.key.Key.TheVariants as key
use Rattle.al_msgpack.specs.declared.val.Val.TheVariants as values
use Rattle.al_msgpack.specs.declared.val.Val.TheViews as views
use Rattle.al_msgpack.specs.Canonical.{IsCanonical}
use Rattle.al_msgpack.specs.Spelled.{spelled}
use Rattle.al_msgpack.proofs.Canonical.{canonical_spells}
use Rattle.al_record.specs.Columns.{IsRecord, member_open, table}
use Rattle.al_record.specs.Laws.{IsShort}
use Rattle.al_bodies.specs.Ranges.{IsBetween, ParamsRanges}
use Rattle.al_bodies.proofs.Ranged.{AllRanged, array_32, array_64, ranged_canonical, ranged_record}
use Rattle.al_rows.specs.Rows.{is_zero}
use Rattle.al_rows.specs.declared.account.AccountRow.{AccountRow}
use Rattle.al_rows.specs.declared.row.Holding.{Holding}
use Rattle.al_rows.specs.declared.row.AppParams.{AppParams}
use Rattle.al_rows.specs.declared.row.Local.{Local}
use Rattle.al_rows.specs.declared.row.BoxRow.{BoxRow}
use Rattle.al_rows.specs.declared.row.Row.{Row}
use Rattle.al_rows.specs.declared.row.Row.TheVariants as row
use Rattle.al_row_records.specs.Tables.{status_number, account, account_fields, asset, asset_fields, app, app_fields, box, box_fields, resource_fault}
use Rattle.al_row_records.specs.RowRecords.{is_of, row_written, row_fault, IsRow}
use Rattle.al_row_records.specs.Ranges.{AccountRanges, HoldingRanges, AppParamsRanges, LocalRanges, BoxRanges, RowRanges}
use Rattle.al_row_records.proofs.PartsShown.{asset_row, asset_fault, asset_named, asset_given, held_is, app_row, app_fault, app_named, app_given, opted_is}
use Rattle.al_row_records.proofs.Same.{no_row}

-- ---- numbers and bytes

number_few : (n : ℕ) → n ≤ 2 → n < 2 ^ 64
number_few n le = omega (arith, le)

status_ranged : (s : Status) → (status_number s ≤ 2) × (status_number s < 2 ^ 64)
status_ranged Offline = (omega arith, omega arith)
status_ranged Online = (omega arith, omega arith)
status_ranged NotParticipating = (omega arith, omega arith)

count_ranged : (n : ℕ) → n ≤ 2 ^ 40 → (n ≤ 2 ^ 40) × (n < 2 ^ 64)
count_ranged n le = (le, omega (arith, le))

low : (n : ℕ) → n ≤ 64 → (n ≤ 64) × (n < 2 ^ 64)
low n le = (le, omega (arith, le))

few : (n : ℕ) → n ≤ 3 → (n ≤ 3) × (n < 2 ^ 64)
few n le = (le, omega (arith, le))

state_ranged : (b : List ℕ) → IsBetween 0 8192 b → IsShort b × (0 ≤ length b) × (length b ≤ 8192)
state_ranged b p = ((p.0, omega (arith, p.2)), p.1, p.2)

value_ranged : (b : List ℕ) → IsBetween 0 32768 b → IsShort b × (0 ≤ length b) × (length b ≤ 32768)
value_ranged b p = ((p.0, omega (arith, p.2)), p.1, p.2)

-- ---- accounts and boxes

account_ranged : (depth : ℕ) (r : AccountRow) → AccountRanges r → AllRanged depth account_fields r
account_ranged depth r k = (status_ranged r.status, ((k.balance, omega (arith, k.balance)), (k.base, (array_32 r.auth.0 k.auth, (array_32 r.vote k.vote, (array_32 r.selection k.selection, (array_64 r.sprf k.sprf, (k.first, (k.last, (k.dilution, (count_ranged r.assets_held k.counts.assets_held, (count_ranged r.assets_created k.counts.assets_created, (count_ranged r.apps_created k.counts.apps_created, (count_ranged r.apps_opted k.counts.apps_opted, (count_ranged r.extra_pages k.counts.extra_pages, (count_ranged r.uints k.counts.uints, (count_ranged r.byte_slices k.counts.byte_slices, (count_ranged r.boxes k.counts.boxes, (count_ranged r.box_bytes k.counts.box_bytes, tt)))))))))))))))))))

account_canonical : (r : AccountRow) → AccountRanges r → IsCanonical 16 (values.Map (account.write r))
account_canonical r k = ranged_canonical 15 account_fields r refl refl refl (account_ranged 15 r k)

account_sound : (r : AccountRow) → AccountRanges r → account.fault (account.write r) ≡ None
account_sound r k = (ranged_record 0 account_fields r refl (account_ranged 0 r k)).sound

box_ranged : (depth : ℕ) (b : BoxRow) → BoxRanges b → AllRanged depth box_fields b
box_ranged depth b k = (value_ranged b.value k, tt)

box_canonical : (b : BoxRow) → BoxRanges b → IsCanonical 16 (values.Map (box.write b))
box_canonical b k = ranged_canonical 15 box_fields b refl refl refl (box_ranged 15 b k)

box_sound : (b : BoxRow) → BoxRanges b → box.fault (box.write b) ≡ None
box_sound b k = (ranged_record 0 box_fields b refl (box_ranged 0 b k)).sound

-- ---- assets

asset_ranged : (depth : ℕ) (p : Option AssetParams) (o : Option Holding) → IfSome o HoldingRanges → IfSome p ParamsRanges → AllRanged depth (asset_fields (is_some o) (is_some p)) (asset_row p o)
asset_ranged depth None None h k = (number_few 1 (omega arith), tt)
asset_ranged depth None (Some o) h k = (h, (tt, (number_few 1 (omega arith), (tt, tt))))
asset_ranged depth (Some p) None h k = (array_32 p.meta k.meta, (k.name, (k.url, (array_32 p.clawback.0 k.clawback, (k.decimals, (tt, (array_32 p.freeze.0 k.freeze, (array_32 p.manager.0 k.manager, (tt, (array_32 p.reserve.0 k.reserve, (k.total, (k.unit, (number_few 1 (omega arith), tt)))))))))))))
asset_ranged depth (Some p) (Some o) h k = (h, (array_32 p.meta k.meta, (k.name, (k.url, (array_32 p.clawback.0 k.clawback, (k.decimals, (tt, (array_32 p.freeze.0 k.freeze, (tt, (array_32 p.manager.0 k.manager, (tt, (array_32 p.reserve.0 k.reserve, (k.total, (k.unit, (number_few 1 (omega arith), (tt, tt))))))))))))))))

asset_canonical : (p : Option AssetParams) (o : Option Holding) → IfSome o HoldingRanges → IfSome p ParamsRanges → IsCanonical 16 (values.Map (asset.write (asset_row p o)))
asset_canonical None None h k = ranged_canonical 15 (asset_fields false false) (asset_row None None) refl refl refl (asset_ranged 15 None None h k)
asset_canonical None (Some o) h k = ranged_canonical 15 (asset_fields true false) (asset_row None (Some o)) refl refl refl (asset_ranged 15 None (Some o) h k)
asset_canonical (Some p) None h k = ranged_canonical 15 (asset_fields false true) (asset_row (Some p) None) refl refl refl (asset_ranged 15 (Some p) None h k)
asset_canonical (Some p) (Some o) h k = ranged_canonical 15 (asset_fields true true) (asset_row (Some p) (Some o)) refl refl refl (asset_ranged 15 (Some p) (Some o) h k)

asset_record : (p : Option AssetParams) (o : Option Holding) → IfSome o HoldingRanges → IfSome p ParamsRanges → IsRecord (table (asset_fields (is_some o) (is_some p))) (asset_row p o) (asset.write (asset_row p o))
asset_record None None h k = ranged_record 0 (asset_fields false false) (asset_row None None) refl (asset_ranged 0 None None h k)
asset_record None (Some o) h k = ranged_record 0 (asset_fields true false) (asset_row None (Some o)) refl (asset_ranged 0 None (Some o) h k)
asset_record (Some p) None h k = ranged_record 0 (asset_fields false true) (asset_row (Some p) None) refl (asset_ranged 0 (Some p) None h k)
asset_record (Some p) (Some o) h k = ranged_record 0 (asset_fields true true) (asset_row (Some p) (Some o)) refl (asset_ranged 0 (Some p) (Some o) h k)

asset_sound : (p : Option AssetParams) (o : Option Holding) → IfSome o HoldingRanges → IfSome p ParamsRanges → resource_fault (asset.write (asset_row p o)) ≡ None
asset_sound p o h k = asset_fault (asset.write (asset_row p o)) (is_some o) (is_some p) (asset_named p o) (held_is p o) (asset_given p o) ∙ (asset_record p o h k).sound

-- ---- applications

app_ranged : (depth : ℕ) (p : Option AppParams) (o : Option Local) → IfSome o LocalRanges → IfSome p AppParamsRanges → AllRanged depth (app_fields (is_some o) (is_some p)) (app_row p o)
app_ranged depth None None h k = (number_few 2 (omega arith), tt)
app_ranged depth None (Some o) h k = (tt, (low o.slices h.slices, (state_ranged o.state h.state, (low o.uints h.uints, (number_few 2 (omega arith), tt)))))
app_ranged depth (Some p) None h k = (few p.extra_pages k.extra_pages, (low p.global_slices k.global_slices, (low p.global_uints k.global_uints, (low p.local_slices k.local_slices, (low p.local_uints k.local_uints, (tt, (state_ranged p.state k.state, (number_few 2 (omega arith), tt))))))))
app_ranged depth (Some p) (Some o) h k = (few p.extra_pages k.extra_pages, (low p.global_slices k.global_slices, (low p.global_uints k.global_uints, (tt, (low p.local_slices k.local_slices, (low p.local_uints k.local_uints, (low o.slices h.slices, (state_ranged o.state h.state, (low o.uints h.uints, (tt, (state_ranged p.state k.state, (number_few 2 (omega arith), tt))))))))))))

app_canonical : (p : Option AppParams) (o : Option Local) → IfSome o LocalRanges → IfSome p AppParamsRanges → IsCanonical 16 (values.Map (app.write (app_row p o)))
app_canonical None None h k = ranged_canonical 15 (app_fields false false) (app_row None None) refl refl refl (app_ranged 15 None None h k)
app_canonical None (Some o) h k = ranged_canonical 15 (app_fields true false) (app_row None (Some o)) refl refl refl (app_ranged 15 None (Some o) h k)
app_canonical (Some p) None h k = ranged_canonical 15 (app_fields false true) (app_row (Some p) None) refl refl refl (app_ranged 15 (Some p) None h k)
app_canonical (Some p) (Some o) h k = ranged_canonical 15 (app_fields true true) (app_row (Some p) (Some o)) refl refl refl (app_ranged 15 (Some p) (Some o) h k)

app_record : (p : Option AppParams) (o : Option Local) → IfSome o LocalRanges → IfSome p AppParamsRanges → IsRecord (table (app_fields (is_some o) (is_some p))) (app_row p o) (app.write (app_row p o))
app_record None None h k = ranged_record 0 (app_fields false false) (app_row None None) refl (app_ranged 0 None None h k)
app_record None (Some o) h k = ranged_record 0 (app_fields true false) (app_row None (Some o)) refl (app_ranged 0 None (Some o) h k)
app_record (Some p) None h k = ranged_record 0 (app_fields false true) (app_row (Some p) None) refl (app_ranged 0 (Some p) None h k)
app_record (Some p) (Some o) h k = ranged_record 0 (app_fields true true) (app_row (Some p) (Some o)) refl (app_ranged 0 (Some p) (Some o) h k)

app_sound : (p : Option AppParams) (o : Option Local) → IfSome o LocalRanges → IfSome p AppParamsRanges → resource_fault (app.write (app_row p o)) ≡ None
app_sound p o h k = app_fault (app.write (app_row p o)) (is_some o) (is_some p) (app_named p o) (opted_is p o) (app_given p o) ∙ (app_record p o h k).sound

-- ---- rows

row_canonical : (r : Row) → RowRanges r → IsCanonical 16 (values.Map (row_written r))
row_canonical (row.Account r) k = account_canonical r k
row_canonical (row.Asset a) k = asset_canonical a.params a.holding k.0 k.1
row_canonical (row.App a) k = app_canonical a.params a.local k.0 k.1
row_canonical (row.Box b) k = box_canonical b k

row_sound : (k : Key) (r : Row) → is_of k r ≡ true → RowRanges r → row_fault k (row_written r) ≡ None
row_sound (key.Account who) (row.Account r) h k = account_sound r k
row_sound (key.Account who) (row.Asset a) h k = no_row h
row_sound (key.Account who) (row.App a) h k = no_row h
row_sound (key.Account who) (row.Box b) h k = no_row h
row_sound (key.Resource who id) (row.Asset a) h k = asset_sound a.params a.holding k.0 k.1
row_sound (key.Resource who id) (row.App a) h k = app_sound a.params a.local k.0 k.1
row_sound (key.Resource who id) (row.Account r) h k = no_row h
row_sound (key.Resource who id) (row.Box b) h k = no_row h
row_sound (key.Box number name) (row.Box b) h k = box_sound b k
row_sound (key.Box number name) (row.Account r) h k = no_row h
row_sound (key.Box number name) (row.Asset a) h k = no_row h
row_sound (key.Box number name) (row.App a) h k = no_row h

pub spells_row : (k : Key) (r : Row) → is_of k r ≡ true → RowRanges r → is_zero r ≡ false → IsRow k (spelled (values.Map (row_written r))) r
spells_row k r h ranges some = (
  record {
    kind = h;
    spells = canonical_spells 16 (values.Map (row_written r)) (row_canonical r ranges);
    sound = ap (member_open (row_fault k)) (views.outs-Map (row_written r)) ∙ row_sound k r h ranges;
  },
  some,
)
