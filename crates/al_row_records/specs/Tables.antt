-- The records of rows: the fields of each kind.
use Rattle.std.specs.Prelude.{◌==◌, ◌++◌, ℕ, Bool, false, is_some, map, replicate, codes, List, [], ◌∷◌, Option, Some, None, if◌then◌else◌}
use Rattle.al_base.specs.declared.account.Status.{Status}
use Rattle.al_base.specs.declared.account.Status.TheVariants.{Offline, Online, NotParticipating}
use Rattle.al_base.specs.declared.asset.AssetParams.{AssetParams}
use Rattle.al_msgpack.specs.declared.val.Entry.{Entry}
use Rattle.al_record.specs.declared.fault.Fault.{Fault}
use Rattle.al_record.specs.Columns.{FieldOf, Format, Rule, number, up_to, flag, bytes, array, entries, flag_of, rules_of, table, value_at}
use Rattle.al_record.specs.Kinds.{by_name, kind_fault, number_kind, on}
use Rattle.al_bodies.specs.Bodies.{params_fields}
use Rattle.al_rows.specs.Limits.{max_balance, max_count}
use Rattle.al_rows.specs.Rows.{no_address}
use Rattle.al_rows.specs.declared.account.AccountRow.{AccountRow}
use Rattle.al_rows.specs.declared.row.Holding.{Holding}
use Rattle.al_rows.specs.declared.row.AssetRow.{AssetRow}
use Rattle.al_rows.specs.declared.row.AppParams.{AppParams}
use Rattle.al_rows.specs.declared.row.Local.{Local}
use Rattle.al_rows.specs.declared.row.AppRow.{AppRow}
use Rattle.al_rows.specs.declared.row.BoxRow.{BoxRow}

-- ---- accounts

-- the number that a status is written as
abbrev pub status_number : Status → ℕ
status_number Offline = 0
status_number Online = 1
status_number NotParticipating = 2

abbrev pub account_fields : List (FieldOf AccountRow)
account_fields =
    up_to (codes "a") 2 (λ r. status_number r.status) ∷
    up_to (codes "b") max_balance (λ r. r.balance) ∷
    number (codes "c") (λ r. r.base) ∷
    array (codes "d") 32 (λ r. r.auth.0) ∷
    array (codes "e") 32 (λ r. r.vote) ∷
    array (codes "f") 32 (λ r. r.selection) ∷
    array (codes "g") 64 (λ r. r.sprf) ∷
    number (codes "h") (λ r. r.first) ∷
    number (codes "i") (λ r. r.last) ∷
    number (codes "j") (λ r. r.dilution) ∷
    up_to (codes "k") max_count (λ r. r.assets_held) ∷
    up_to (codes "l") max_count (λ r. r.assets_created) ∷
    up_to (codes "m") max_count (λ r. r.apps_created) ∷
    up_to (codes "n") max_count (λ r. r.apps_opted) ∷
    up_to (codes "o") max_count (λ r. r.extra_pages) ∷
    up_to (codes "p") max_count (λ r. r.uints) ∷
    up_to (codes "q") max_count (λ r. r.byte_slices) ∷
    up_to (codes "r") max_count (λ r. r.boxes) ∷
    up_to (codes "s") max_count (λ r. r.box_bytes) ∷
    []

abbrev pub account : Format AccountRow
account = table account_fields

-- ---- parts that may be absent

-- the fields of a part, none of which stands where the part is absent
abbrev pub where_there : {X : Type 0} → Bool → List (FieldOf X) → List (FieldOf X)
where_there there fs = if there then fs else []

-- a part is there exactly where its flag is true
abbrev pub is_there : List ℕ → List Entry → Bool
is_there name es = flag_of (value_at name es)

-- ---- assets

abbrev pub no_holding : Holding
no_holding = record { amount = 0; frozen = false }

abbrev pub no_params : AssetParams
no_params = record {
  total = 0;
  decimals = 0;
  default_frozen = false;
  unit = [];
  name = [];
  url = [];
  meta = replicate 32 0;
  manager = no_address;
  reserve = no_address;
  freeze = no_address;
  clawback = no_address;
}

-- a part, or zero values where it is absent
abbrev pub holding_in : Option Holding → Holding
holding_in None = no_holding
holding_in (Some h) = h

abbrev pub params_in : Option AssetParams → AssetParams
params_in None = no_params
params_in (Some p) = p

abbrev pub holding_fields : List (FieldOf Holding)
holding_fields =
    number (codes "a") (λ h. h.amount) ∷
    flag (codes "z") (λ h. h.frozen) ∷
    []

-- An asset row with these parts: its kind, the flag of each part with the part's own fields, in byte order of their names.
abbrev pub asset_fields : Bool → Bool → List (FieldOf AssetRow)
asset_fields held given = by_name (
    number (codes "x") (λ _. 1) ∷
    (where_there held (flag (codes "h") (λ a. is_some a.holding) ∷ map (on (λ a. holding_in a.holding)) holding_fields) ++
    where_there given (flag (codes "p") (λ a. is_some a.params) ∷ map (on (λ a. params_in a.params)) params_fields)))

-- ---- applications

abbrev pub no_app_params : AppParams
no_app_params = record {
  global_uints = 0;
  global_slices = 0;
  local_uints = 0;
  local_slices = 0;
  extra_pages = 0;
  state = [];
}

abbrev pub no_local : Local
no_local = record { uints = 0; slices = 0; state = [] }

abbrev pub app_params_in : Option AppParams → AppParams
app_params_in None = no_app_params
app_params_in (Some p) = p

abbrev pub local_in : Option Local → Local
local_in None = no_local
local_in (Some l) = l

abbrev pub app_params_fields : List (FieldOf AppParams)
app_params_fields =
    up_to (codes "gu") 64 (λ p. p.global_uints) ∷
    up_to (codes "gs") 64 (λ p. p.global_slices) ∷
    up_to (codes "lu") 64 (λ p. p.local_uints) ∷
    up_to (codes "ls") 64 (λ p. p.local_slices) ∷
    up_to (codes "ep") 3 (λ p. p.extra_pages) ∷
    bytes (codes "st") 0 8192 (λ p. p.state) ∷
    []

abbrev pub local_fields : List (FieldOf Local)
local_fields =
    up_to (codes "ou") 64 (λ l. l.uints) ∷
    up_to (codes "os") 64 (λ l. l.slices) ∷
    bytes (codes "ot") 0 8192 (λ l. l.state) ∷
    []

-- An application row with these parts.
abbrev pub app_fields : Bool → Bool → List (FieldOf AppRow)
app_fields opted given = by_name (
    number (codes "x") (λ _. 2) ∷
    (where_there opted (flag (codes "l") (λ a. is_some a.local) ∷ map (on (λ a. local_in a.local)) local_fields) ++
    where_there given (flag (codes "p") (λ a. is_some a.params) ∷ map (on (λ a. app_params_in a.params)) app_params_fields)))

-- ---- assets and applications

abbrev pub asset_rules : List Entry → List Rule
asset_rules es = rules_of (asset_fields (is_there (codes "h") es) (is_there (codes "p") es))

abbrev pub app_rules : List Entry → List Rule
app_rules es = rules_of (app_fields (is_there (codes "l") es) (is_there (codes "p") es))

-- the rules of a kind, for the parts whose flags are true
abbrev pub resource_rules : List Entry → ℕ → Option (List Rule)
resource_rules es kind =
    if kind == 1 then Some (asset_rules es) else
    if kind == 2 then Some (app_rules es) else
    None

-- `x` names the kind
abbrev pub resource_fault : List Entry → Option Fault
resource_fault es = kind_fault (codes "x") (resource_rules es) es (number_kind (codes "x") es)

abbrev pub asset : Format AssetRow
asset = record {
  write = λ a. entries (asset_fields (is_some a.holding) (is_some a.params)) a;
  fault = resource_fault;
}

abbrev pub app : Format AppRow
app = record {
  write = λ a. entries (app_fields (is_some a.local) (is_some a.params)) a;
  fault = resource_fault;
}

-- ---- boxes

abbrev pub box_fields : List (FieldOf BoxRow)
box_fields = bytes (codes "v") 0 32768 (λ b. b.value) ∷ []

abbrev pub box : Format BoxRow
box = table box_fields
