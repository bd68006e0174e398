-- The record of a row determines the row.
use Rattle.std.proofs.Common.{◌≡◌, ℕ, Bool, true, false, List, Option, Some, None, Ok, is_some, codes, refl, sym, ap, ap₂, subst, ◌∙◌}
use Rattle.std.proofs.lemmas.Bool.{false≢true}
use Rattle.al_base.specs.declared.account.Status.{Status}
use Rattle.al_base.specs.declared.account.Status.TheVariants.{Offline, Online, NotParticipating}
use Rattle.al_base.specs.declared.asset.AssetParams.{AssetParams}
use Rattle.al_base.specs.declared.key.Key.{Key}
use Rattle.al_base.specs.declared.key.Key.TheVariants as key
use Rattle.al_msgpack.specs.declared.val.Entry.{Entry}
use Rattle.al_record.specs.Columns.{FieldOf, IsRecord}
use Rattle.al_record.specs.Kinds.{number_kind}
use Rattle.al_record.specs.Laws.{AllAgree}
use Rattle.al_record.proofs.Laws.{record_shows}
use Rattle.al_record.proofs.Same.{Determined}
use Rattle.al_record.proofs.Tables.{all_agree}
use Rattle.al_bodies.specs.Bodies.{params_fields}
use Rattle.al_bodies.proofs.Same.{fields_agree, whole_params}
use Rattle.al_bodies.proofs.Written.{numbers_apart}
use Rattle.al_rows.specs.declared.account.AccountRow.{AccountRow}
use Rattle.al_rows.specs.declared.row.Holding.{Holding}
use Rattle.al_rows.specs.declared.row.AssetRow.{AssetRow}
use Rattle.al_rows.specs.declared.row.AppParams.{AppParams}
use Rattle.al_rows.specs.declared.row.Local.{Local}
use Rattle.al_rows.specs.declared.row.AppRow.{AppRow}
use Rattle.al_rows.specs.declared.row.BoxRow.{BoxRow}
use Rattle.al_rows.specs.declared.row.Row.{Row}
use Rattle.al_rows.specs.declared.row.Row.TheVariants as row
use Rattle.al_row_records.specs.Parts.{ShowsPart}
use Rattle.al_row_records.specs.Tables.{status_number, account, account_fields, is_there, asset, asset_fields, holding_fields, app, app_fields, app_params_fields, local_fields, box, box_fields}
use Rattle.al_row_records.specs.RowRecords.{is_of, row_written, row_fault}
use Rattle.al_row_records.proofs.PartsShown.{asset_row, asset_table, asset_named, asset_given, asset_params_shown, asset_rises, held_is, held_shown, app_row, app_table, app_named, app_given, app_params_shown, app_rises, opted_is, opted_shown}

-- ---- accounts

status_back : (s t : Status) → status_number s ≡ status_number t → s ≡ t
status_back Offline Offline h = refl
status_back Online Online h = refl
status_back NotParticipating NotParticipating h = refl
status_back Offline Online h = absurd cc
status_back Offline NotParticipating h = absurd cc
status_back Online Offline h = absurd cc
status_back Online NotParticipating h = absurd cc
status_back NotParticipating Offline h = absurd cc
status_back NotParticipating Online h = absurd cc

-- each value by its parts

abbrev whole_account : AccountRow → AccountRow
whole_account r = record {
  status = r.status;
  balance = r.balance;
  base = r.base;
  auth = record { 0 = r.auth.0 };
  vote = r.vote;
  selection = r.selection;
  sprf = r.sprf;
  first = r.first;
  last = r.last;
  dilution = r.dilution;
  assets_held = r.assets_held;
  assets_created = r.assets_created;
  apps_created = r.apps_created;
  apps_opted = r.apps_opted;
  extra_pages = r.extra_pages;
  uints = r.uints;
  byte_slices = r.byte_slices;
  boxes = r.boxes;
  box_bytes = r.box_bytes;
}

account_same : (x y : AccountRow) → AllAgree account_fields x y → x ≡ y
account_same x y a =
    let status : x.status ≡ y.status = status_back x.status y.status a.0 in
    let same : whole_account x ≡ whole_account y = cc in
    same

account_determined : Determined account
account_determined x y es r s = account_same x y (fields_agree account_fields x y es refl r s)

-- ---- parts

abbrev OneFor : {X : Type 0} → List (FieldOf X) → Type 0
OneFor {X} fs = (x y : X) → AllAgree fs x y → x ≡ y

abbrev whole_holding : Holding → Holding
whole_holding h = record { amount = h.amount; frozen = h.frozen }

holding_same : OneFor holding_fields
holding_same x y a = let same : whole_holding x ≡ whole_holding y = cc in same

params_same : OneFor params_fields
params_same x y a = let same : whole_params x ≡ whole_params y = cc in same

abbrev whole_local : Local → Local
whole_local l = record { uints = l.uints; slices = l.slices; state = l.state }

local_same : OneFor local_fields
local_same x y a = let same : whole_local x ≡ whole_local y = cc in same

abbrev whole_app_params : AppParams → AppParams
whole_app_params p = record {
  global_uints = p.global_uints;
  global_slices = p.global_slices;
  local_uints = p.local_uints;
  local_slices = p.local_slices;
  extra_pages = p.extra_pages;
  state = p.state;
}

app_params_same : OneFor app_params_fields
app_params_same x y a = let same : whole_app_params x ≡ whole_app_params y = cc in same

part_same : {X : Type 0} (fs : List (FieldOf X)) → OneFor fs → (there : Bool) (o p : Option X) (es : List Entry) → ShowsPart fs there o es → ShowsPart fs there p es → o ≡ p
part_same fs one false None None es h k = refl
part_same fs one false None (Some y) es h k = absurd k
part_same fs one false (Some x) p es h k = absurd h
part_same fs one true None p es h k = absurd h
part_same fs one true (Some x) None es h k = absurd k
part_same {X} fs one true (Some x) (Some y) es h k = ap (λ (z : X). Some z) (one x y (all_agree fs x y es h k))

-- ---- assets

asset_parts : (p : Option AssetParams) (o : Option Holding) (es : List Entry) → IsRecord asset (asset_row p o) es → ShowsPart holding_fields (is_there (codes "h") es) o es × ShowsPart params_fields (is_there (codes "p") es) p es
asset_parts p o es r =
    let held : is_there (codes "h") es ≡ is_some o = ap (is_there (codes "h")) r.fields ∙ held_is p o in
    let given : is_there (codes "p") es ≡ is_some p = ap (is_there (codes "p")) r.fields ∙ asset_given p o in
    let shown = record_shows (asset_fields (is_some o) (is_some p)) (asset_row p o) es (asset_rises (is_some o) (is_some p)) (asset_table p o es r) in (
      subst (λ (b : Bool). ShowsPart holding_fields b o es) (sym held) (held_shown p o es shown),
      subst (λ (b : Bool). ShowsPart params_fields b p es) (sym given) (asset_params_shown p o es shown),
    )

asset_same : (p q : Option AssetParams) (o n : Option Holding) (es : List Entry) → IsRecord asset (asset_row p o) es → IsRecord asset (asset_row q n) es → asset_row p o ≡ asset_row q n
asset_same p q o n es r s =
    let a = asset_parts p o es r in
    let b = asset_parts q n es s in
    ap₂ asset_row (part_same params_fields params_same (is_there (codes "p") es) p q es a.1 b.1) (part_same holding_fields holding_same (is_there (codes "h") es) o n es a.0 b.0)

asset_determined : Determined asset
asset_determined x y es r s = asset_same x.params y.params x.holding y.holding es r s

-- ---- applications

app_parts : (p : Option AppParams) (o : Option Local) (es : List Entry) → IsRecord app (app_row p o) es → ShowsPart local_fields (is_there (codes "l") es) o es × ShowsPart app_params_fields (is_there (codes "p") es) p es
app_parts p o es r =
    let opted : is_there (codes "l") es ≡ is_some o = ap (is_there (codes "l")) r.fields ∙ opted_is p o in
    let given : is_there (codes "p") es ≡ is_some p = ap (is_there (codes "p")) r.fields ∙ app_given p o in
    let shown = record_shows (app_fields (is_some o) (is_some p)) (app_row p o) es (app_rises (is_some o) (is_some p)) (app_table p o es r) in (
      subst (λ (b : Bool). ShowsPart local_fields b o es) (sym opted) (opted_shown p o es shown),
      subst (λ (b : Bool). ShowsPart app_params_fields b p es) (sym given) (app_params_shown p o es shown),
    )

app_same : (p q : Option AppParams) (o n : Option Local) (es : List Entry) → IsRecord app (app_row p o) es → IsRecord app (app_row q n) es → app_row p o ≡ app_row q n
app_same p q o n es r s =
    let a = app_parts p o es r in
    let b = app_parts q n es s in
    ap₂ app_row (part_same app_params_fields app_params_same (is_there (codes "p") es) p q es a.1 b.1) (part_same local_fields local_same (is_there (codes "l") es) o n es a.0 b.0)

app_determined : Determined app
app_determined x y es r s = app_same x.params y.params x.local y.local es r s

-- an asset's record is no application's
kinds_apart : (a : AssetRow) (b : AppRow) (es : List Entry) → es ≡ asset.write a → es ≡ app.write b → ⊥
kinds_apart a b es r s =
    let one : number_kind (codes "x") es ≡ Ok 1 = ap (number_kind (codes "x")) r ∙ asset_named a.params a.holding in
    let two : number_kind (codes "x") es ≡ Ok 2 = ap (number_kind (codes "x")) s ∙ app_named b.params b.local in
    numbers_apart 1 2 refl (sym one ∙ two)

-- ---- boxes

box_determined : Determined box
box_determined x y es r s = ap (λ (v : List ℕ). record { value = v }) (fields_agree box_fields x y es refl r s).0

-- ---- rows

-- the entries are the record of the row under the key
pub record Under (k : Key) (r : Row) (es : List Entry) : Type 0 where
  pub kind : is_of k r ≡ true
  pub fields : es ≡ row_written r
  pub sound : row_fault k es ≡ None

pub no_row : {A : Type 0} → false ≡ true → A
no_row h = absurd (false≢true h)

pub row_determined : (k : Key) (x y : Row) (es : List Entry) → Under k x es → Under k y es → x ≡ y
row_determined (key.Account who) (row.Account x) (row.Account y) es r s = ap (λ (z : AccountRow). row.Account z) (account_determined x y es (record { fields = r.fields; sound = r.sound }) (record { fields = s.fields; sound = s.sound }))
row_determined (key.Account who) (row.Account x) (row.Asset y) es r s = no_row s.kind
row_determined (key.Account who) (row.Account x) (row.App y) es r s = no_row s.kind
row_determined (key.Account who) (row.Account x) (row.Box y) es r s = no_row s.kind
row_determined (key.Account who) (row.Asset x) y es r s = no_row r.kind
row_determined (key.Account who) (row.App x) y es r s = no_row r.kind
row_determined (key.Account who) (row.Box x) y es r s = no_row r.kind
row_determined (key.Resource who id) (row.Asset x) (row.Asset y) es r s = ap (λ (z : AssetRow). row.Asset z) (asset_determined x y es (record { fields = r.fields; sound = r.sound }) (record { fields = s.fields; sound = s.sound }))
row_determined (key.Resource who id) (row.Asset x) (row.App y) es r s = absurd (kinds_apart x y es r.fields s.fields)
row_determined (key.Resource who id) (row.App x) (row.Asset y) es r s = absurd (kinds_apart y x es s.fields r.fields)
row_determined (key.Resource who id) (row.App x) (row.App y) es r s = ap (λ (z : AppRow). row.App z) (app_determined x y es (record { fields = r.fields; sound = r.sound }) (record { fields = s.fields; sound = s.sound }))
row_determined (key.Resource who id) (row.Asset x) (row.Account y) es r s = no_row s.kind
row_determined (key.Resource who id) (row.Asset x) (row.Box y) es r s = no_row s.kind
row_determined (key.Resource who id) (row.App x) (row.Account y) es r s = no_row s.kind
row_determined (key.Resource who id) (row.App x) (row.Box y) es r s = no_row s.kind
row_determined (key.Resource who id) (row.Account x) y es r s = no_row r.kind
row_determined (key.Resource who id) (row.Box x) y es r s = no_row r.kind
row_determined (key.Box number name) (row.Box x) (row.Box y) es r s = ap (λ (z : BoxRow). row.Box z) (box_determined x y es (record { fields = r.fields; sound = r.sound }) (record { fields = s.fields; sound = s.sound }))
row_determined (key.Box number name) (row.Box x) (row.Account y) es r s = no_row s.kind
row_determined (key.Box number name) (row.Box x) (row.Asset y) es r s = no_row s.kind
row_determined (key.Box number name) (row.Box x) (row.App y) es r s = no_row s.kind
row_determined (key.Box number name) (row.Account x) y es r s = no_row r.kind
row_determined (key.Box number name) (row.Asset x) y es r s = no_row r.kind
row_determined (key.Box number name) (row.App x) y es r s = no_row r.kind
