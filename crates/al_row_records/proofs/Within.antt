-- A record shows that what it says is in its ranges.
use Rattle.std.proofs.Common.{◌≡◌, ◌≤◌, ◌&&◌, ℕ, Bool, true, false, nat_le, is_some, List, [], ◌∷◌, length, Option, Some, None, refl, sym, subst}
use Rattle.std.proofs.lemmas.Bool.{and_parts, leb-true}
use Rattle.al_base.specs.declared.key.Key.{Key}
use Rattle.al_base.specs.declared.key.Key.TheVariants as key
use Rattle.al_msgpack.specs.declared.val.Val.{Val}
use Rattle.al_msgpack.specs.declared.val.Entry.{Entry}
use Rattle.al_msgpack.specs.Rising.{rises}
use Rattle.al_record.specs.Columns.{FieldOf, number, up_to, flag, text, bytes, array, addresses, inner, inners, IsRecord, AllShown, Shows, bytes_of, heads, number_of, range_fault, rule, rules_of, table, unless_range, value_at}
use Rattle.al_record.proofs.Engine.{first_none, names}
use Rattle.al_record.proofs.Laws.{record_shows}
use Rattle.al_rows.specs.Rows.{AccountInRange, InRange, IsKept, LocalInRange, ParamsInRange}
use Rattle.al_rows.specs.declared.account.AccountRow.{AccountRow}
use Rattle.al_rows.specs.declared.row.AppParams.{AppParams}
use Rattle.al_rows.specs.declared.row.Local.{Local}
use Rattle.al_rows.specs.declared.row.Row.{Row}
use Rattle.al_rows.specs.declared.row.Row.TheVariants as row
use Rattle.al_row_records.specs.Tables.{account_fields, app, app_fields, box_fields}
use Rattle.al_row_records.specs.RowRecords.{FitsKey, FitsRow, IsRow, row_written}
use Rattle.al_row_records.proofs.PartsShown.{app_row, app_rises, app_table}
use Rattle.al_row_records.proofs.Same.{Under, no_row}
use Rattle.al_row_records.proofs.Meaning.{of_row}

-- a field's number or length is at most what its range says
abbrev IsWithin : {X : Type 0} → FieldOf X → X → Type 0
IsWithin (number name get) x = Unit {0}
IsWithin (up_to name most get) x = get x ≤ most
IsWithin (flag name get) x = Unit {0}
IsWithin (text name get) x = Unit {0}
IsWithin (bytes name least most get) x = length (get x) ≤ most
IsWithin (array name len get) x = Unit {0}
IsWithin (addresses name most get) x = Unit {0}
IsWithin (inner name fault get) x = Unit {0}
IsWithin (inners name limit fault get) x = Unit {0}

abbrev AllWithin : {X : Type 0} → List (FieldOf X) → X → Type 0
AllWithin [] x = Unit {0}
AllWithin (f ∷ fs) x = IsWithin f x × AllWithin fs x

passes : (ok : Bool) (name : List ℕ) → unless_range ok name ≡ None → ok ≡ true
passes true name h = refl
passes false name h = absurd cc

number_within : (n m most : ℕ) (name : List ℕ) → n ≡ m → unless_range (nat_le m most) name ≡ None → n ≤ most
number_within n m most name e h = subst (λ (k : ℕ). k ≤ most) (sym e) (leb-true m most (passes (nat_le m most) name h))

length_within : (b c : List ℕ) (least most : ℕ) (name : List ℕ) → b ≡ c → unless_range (nat_le least (length c) && nat_le (length c) most) name ≡ None → length b ≤ most
length_within b c least most name e h =
    let both = and_parts (nat_le least (length c)) (nat_le (length c) most) (passes (nat_le least (length c) && nat_le (length c) most) name h) in
    subst (λ (d : List ℕ). length d ≤ most) (sym e) (leb-true (length c) most both.1)

within : {X : Type 0} (f : FieldOf X) (x : X) (o : Option Val) → Shows f x o → (rule f).fault o ≡ None → IsWithin f x
within (number name get) x o s h = tt
within (up_to name most get) x o s h = number_within (get x) (number_of o) most name s h
within (flag name get) x o s h = tt
within (text name get) x o s h = tt
within (bytes name least most get) x o s h = length_within (get x) (bytes_of o) least most name s h
within (array name len get) x o s h = tt
within (addresses name most get) x o s h = tt
within (inner name fault get) x o s h = tt
within (inners name limit fault get) x o s h = tt

all_within : {X : Type 0} (fs : List (FieldOf X)) (x : X) (es : List Entry) → AllShown fs x es → range_fault (rules_of fs) es ≡ None → AllWithin fs x
all_within [] x es s h = tt
all_within (f ∷ fs) x es s h =
    let k = first_none ((rule f).fault (value_at (rule f).name es)) (range_fault (rules_of fs) es) h in
    (within f x (value_at (rule f).name es) s.0 k.0, all_within fs x es s.1 k.1)

of_record : {X : Type 0} (fs : List (FieldOf X)) (x : X) (es : List Entry) → rises (names (heads (rules_of fs))) ≡ true → IsRecord (table fs) x es → AllWithin fs x
of_record fs x es r h = all_within fs x es (record_shows fs x es r h) (first_none _ _ h.sound).1

-- ---- each kind

account_within : (r : AccountRow) → AllWithin account_fields r → AccountInRange r
account_within r w = (
  w.1.0,
  record {
    assets_held = w.1.1.1.1.1.1.1.1.1.1.0;
    assets_created = w.1.1.1.1.1.1.1.1.1.1.1.0;
    apps_created = w.1.1.1.1.1.1.1.1.1.1.1.1.0;
    apps_opted = w.1.1.1.1.1.1.1.1.1.1.1.1.1.0;
    extra_pages = w.1.1.1.1.1.1.1.1.1.1.1.1.1.1.0;
    uints = w.1.1.1.1.1.1.1.1.1.1.1.1.1.1.1.0;
    byte_slices = w.1.1.1.1.1.1.1.1.1.1.1.1.1.1.1.1.0;
    boxes = w.1.1.1.1.1.1.1.1.1.1.1.1.1.1.1.1.1.0;
    box_bytes = w.1.1.1.1.1.1.1.1.1.1.1.1.1.1.1.1.1.1.0;
  },
)

app_params_within : (p : Option AppParams) (o : Option Local) → AllWithin (app_fields (is_some o) (is_some p)) (app_row p o) → ParamsInRange p
app_params_within None None w = tt
app_params_within None (Some o) w = tt
app_params_within (Some p) None w = (w.1.1.0, w.1.0, w.1.1.1.1.0, w.1.1.1.0, w.0, w.1.1.1.1.1.1.0)
app_params_within (Some p) (Some o) w = (w.1.1.0, w.1.0, w.1.1.1.1.1.0, w.1.1.1.1.0, w.0, w.1.1.1.1.1.1.1.1.1.1.0)

local_within : (p : Option AppParams) (o : Option Local) → AllWithin (app_fields (is_some o) (is_some p)) (app_row p o) → LocalInRange o
local_within None None w = tt
local_within None (Some o) w = (w.1.1.1.0, w.1.0, w.1.1.0)
local_within (Some p) None w = tt
local_within (Some p) (Some o) w = (w.1.1.1.1.1.1.1.1.0, w.1.1.1.1.1.1.0, w.1.1.1.1.1.1.1.0)

app_within : (p : Option AppParams) (o : Option Local) (es : List Entry) → IsRecord app (app_row p o) es → ParamsInRange p × LocalInRange o
app_within p o es r =
    let w = of_record (app_fields (is_some o) (is_some p)) (app_row p o) es (app_rises (is_some o) (is_some p)) (app_table p o es r) in
    (app_params_within p o w, local_within p o w)

-- ---- rows

row_within : (k : Key) (r : Row) (es : List Entry) → Under k r es → FitsKey k → FitsRow r → InRange k r
row_within (key.Account who) (row.Account r) es u f g = account_within r (of_record account_fields r es refl (record { fields = u.fields; sound = u.sound }))
row_within (key.Account who) (row.Asset a) es u f g = no_row u.kind
row_within (key.Account who) (row.App a) es u f g = no_row u.kind
row_within (key.Account who) (row.Box b) es u f g = no_row u.kind
row_within (key.Resource who id) (row.Asset a) es u f g = (f, g.0, g.1)
row_within (key.Resource who id) (row.App a) es u f g =
    let w = app_within a.params a.local es (record { fields = u.fields; sound = u.sound }) in
    (f, w.0, w.1)
row_within (key.Resource who id) (row.Account r) es u f g = no_row u.kind
row_within (key.Resource who id) (row.Box b) es u f g = no_row u.kind
row_within (key.Box n name) (row.Box b) es u f g = (f, (of_record box_fields b es refl (record { fields = u.fields; sound = u.sound })).0)
row_within (key.Box n name) (row.Account r) es u f g = no_row u.kind
row_within (key.Box n name) (row.Asset a) es u f g = no_row u.kind
row_within (key.Box n name) (row.App a) es u f g = no_row u.kind

pub is_kept : (k : Key) (input : List ℕ) (r : Row) → IsRow k input r → FitsKey k → FitsRow r → IsKept k r
is_kept k input r m f g = (row_within k r (row_written r) (record { kind = m.0.kind; fields = refl; sound = of_row k input r m.0 }) f g, m.1)
