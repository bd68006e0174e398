-- The rows of the ledger by the Algorand ledger specification: what stands under which key, what it is worth, and when it is none.
use Rattle.std.specs.Prelude.{◌≡◌, ℕ, ◌+◌, ◌*◌, ◌^◌, ◌<◌, ◌≤◌, Bool, true, false, if◌then◌else◌, ◌&&◌, nat_eq, ⊤, List, [], ◌∷◌, replicate, length, is_none, is_some}
use Rattle.std.specs.declared.option.Option.{Option}
use Rattle.std.specs.declared.option.Option.TheVariants.{None, Some}
use Rattle.std.specs.BTreeMap.{BTreeMap}
use Rattle.std.specs.BTreeMap as tree
use Rattle.std.specs.Cmp.Lexicographic.{pointwise}
use Rattle.std.specs.FinMap.{FinMap, get, entries}
use Rattle.std.specs.Ordering.{nat_cmp}
use Rattle.al_base.specs.declared.account.Status.{Status}
use Rattle.al_base.specs.declared.account.Status.TheVariants.{Offline, Online, NotParticipating}
use Rattle.al_base.specs.declared.address.Address.{Address}
use Rattle.al_base.specs.declared.asset.AssetParams.{AssetParams}
use Rattle.al_base.specs.declared.key.Key.{Key}
use Rattle.al_base.specs.declared.key.Key.TheVariants as key
use Rattle.al_base.specs.Keys.{key_cmp}
use Rattle.al_rows.specs.declared.account.AccountRow.{AccountRow}
use Rattle.al_rows.specs.declared.row.Holding.{Holding}
use Rattle.al_rows.specs.declared.row.AppParams.{AppParams}
use Rattle.al_rows.specs.declared.row.Local.{Local}
use Rattle.al_rows.specs.declared.row.Row.{Row}
use Rattle.al_rows.specs.declared.row.Row.TheVariants as row
use Rattle.al_rows.specs.declared.stored.Stored.{Stored}
use Rattle.al_rows.specs.Finite.{set_at, map_entries, first_some}
use Rattle.al_rows.specs.Limits.{max_balance, max_count}

-- the rows under their keys
abbrev pub RowMap : Type 0
RowMap = FinMap key_cmp Row

-- the rows without their rounds
abbrev pub bare : FinMap key_cmp Stored → RowMap
bare rows = map_entries (λ k s. s.row) rows

-- the ranges of the counts of an account row
pub record CountsInRange (r : AccountRow) : Type 0 where
  pub assets_held : r.assets_held ≤ max_count
  pub assets_created : r.assets_created ≤ max_count
  pub apps_created : r.apps_created ≤ max_count
  pub apps_opted : r.apps_opted ≤ max_count
  pub extra_pages : r.extra_pages ≤ max_count
  pub uints : r.uints ≤ max_count
  pub byte_slices : r.byte_slices ≤ max_count
  pub boxes : r.boxes ≤ max_count
  pub box_bytes : r.box_bytes ≤ max_count

-- the ranges of an account row
abbrev pub AccountInRange : AccountRow → Type 0
AccountInRange r = (r.balance ≤ max_balance) × CountsInRange r

abbrev pub ParamsInRange : Option AppParams → Type 0
ParamsInRange None = ⊤
ParamsInRange (Some p) = (p.global_uints ≤ 64) × (p.global_slices ≤ 64) × (p.local_uints ≤ 64) × (p.local_slices ≤ 64) × (p.extra_pages ≤ 3) × (length p.state ≤ 8192)

abbrev pub LocalInRange : Option Local → Type 0
LocalInRange None = ⊤
LocalInRange (Some l) = (l.uints ≤ 64) × (l.slices ≤ 64) × (length l.state ≤ 8192)

-- what numbers of 64 bits may be
abbrev pub AssetParamsInRange : Option AssetParams → Type 0
AssetParamsInRange None = ⊤
AssetParamsInRange (Some p) = (p.total < 2 ^ 64) × (p.decimals < 2 ^ 64)

abbrev pub HoldingInRange : Option Holding → Type 0
HoldingInRange None = ⊤
HoldingInRange (Some h) = h.amount < 2 ^ 64

-- a row is of its key's kind, and its fields and its key's number are in their ranges
abbrev pub InRange : Key → Row → Type 0
InRange (key.Account who) (row.Account r) = AccountInRange r
InRange (key.Resource who id) (row.Asset a) = (id < 2 ^ 64) × AssetParamsInRange a.params × HoldingInRange a.holding
InRange (key.Resource who id) (row.App a) = (id < 2 ^ 64) × ParamsInRange a.params × LocalInRange a.local
InRange (key.Box app name) (row.Box b) = (app < 2 ^ 64) × (length b.value ≤ 32768)
InRange k r = ⊥

abbrev pub same_status : Status → Status → Bool
same_status Offline Offline = true
same_status Online Online = true
same_status NotParticipating NotParticipating = true
same_status s t = false

abbrev pub same_bytes : List ℕ → List ℕ → Bool
same_bytes = pointwise nat_eq

-- whether all of these hold
abbrev pub all_true : List Bool → Bool
all_true [] = true
all_true (b ∷ []) = b
all_true (b ∷ c ∷ bs) = b && all_true (c ∷ bs)

-- whether two account rows agree in every field
abbrev pub account_eq : AccountRow → AccountRow → Bool
account_eq r s =
    all_true (same_status r.status s.status ∷ nat_eq r.balance s.balance ∷ nat_eq r.base s.base ∷ same_bytes r.auth.0 s.auth.0 ∷
    same_bytes r.vote s.vote ∷ same_bytes r.selection s.selection ∷ same_bytes r.sprf s.sprf ∷ nat_eq r.first s.first ∷
    nat_eq r.last s.last ∷ nat_eq r.dilution s.dilution ∷ nat_eq r.assets_held s.assets_held ∷ nat_eq r.assets_created s.assets_created ∷
    nat_eq r.apps_created s.apps_created ∷ nat_eq r.apps_opted s.apps_opted ∷ nat_eq r.extra_pages s.extra_pages ∷ nat_eq r.uints s.uints ∷
    nat_eq r.byte_slices s.byte_slices ∷ nat_eq r.boxes s.boxes ∷ nat_eq r.box_bytes s.box_bytes ∷ [])

abbrev pub same_bool : Bool → Bool → Bool
same_bool true b = b
same_bool false true = false
same_bool false false = true

-- whether both are there and agree, or both are missing
abbrev pub both_or_none : {A : Type 0} → (A → A → Bool) → Option A → Option A → Bool
both_or_none eq None None = true
both_or_none eq (Some a) (Some b) = eq a b
both_or_none eq a b = false

abbrev pub asset_params_eq : AssetParams → AssetParams → Bool
asset_params_eq p q =
    all_true (nat_eq p.total q.total ∷ nat_eq p.decimals q.decimals ∷ same_bool p.default_frozen q.default_frozen ∷ same_bytes p.unit q.unit ∷
    same_bytes p.name q.name ∷ same_bytes p.url q.url ∷ same_bytes p.meta q.meta ∷ same_bytes p.manager.0 q.manager.0 ∷
    same_bytes p.reserve.0 q.reserve.0 ∷ same_bytes p.freeze.0 q.freeze.0 ∷ same_bytes p.clawback.0 q.clawback.0 ∷ [])

abbrev pub holding_eq : Holding → Holding → Bool
holding_eq h i = nat_eq h.amount i.amount && same_bool h.frozen i.frozen

abbrev pub app_params_eq : AppParams → AppParams → Bool
app_params_eq p q =
    all_true (nat_eq p.global_uints q.global_uints ∷ nat_eq p.global_slices q.global_slices ∷ nat_eq p.local_uints q.local_uints ∷ nat_eq p.local_slices q.local_slices ∷
    nat_eq p.extra_pages q.extra_pages ∷ same_bytes p.state q.state ∷ [])

abbrev pub local_eq : Local → Local → Bool
local_eq l m =
    all_true (nat_eq l.uints m.uints ∷ nat_eq l.slices m.slices ∷ same_bytes l.state m.state ∷ [])

-- whether two rows are the same
unfoldable pub row_eq : Row → Row → Bool
row_eq (row.Account r) (row.Account s) = account_eq r s
row_eq (row.Asset a) (row.Asset b) = both_or_none asset_params_eq a.params b.params && both_or_none holding_eq a.holding b.holding
row_eq (row.App a) (row.App b) = both_or_none app_params_eq a.params b.params && both_or_none local_eq a.local b.local
row_eq (row.Box b) (row.Box c) = same_bytes b.value c.value
row_eq r s = false

abbrev pub same_row : Option Row → Option Row → Bool
same_row None None = true
same_row (Some r) (Some s) = row_eq r s
same_row r s = false

abbrev pub no_address : Address
no_address = record { 0 = replicate 32 0 }

-- an account without a row
abbrev pub no_account : AccountRow
no_account = record {
  status = Offline;
  balance = 0;
  base = 0;
  auth = no_address;
  vote = replicate 32 0;
  selection = replicate 32 0;
  sprf = replicate 64 0;
  first = 0;
  last = 0;
  dilution = 0;
  assets_held = 0;
  assets_created = 0;
  apps_created = 0;
  apps_opted = 0;
  extra_pages = 0;
  uints = 0;
  byte_slices = 0;
  boxes = 0;
  box_bytes = 0;
}

-- the least that an account keeps: for itself, for each asset that it holds, application that it created or opted in to, extra page, schema entry and box
unfoldable pub min_balance : AccountRow → ℕ
min_balance r =
    100000 * (1 + r.assets_held + r.apps_created + r.extra_pages + r.apps_opted)
    + 25000 * (r.uints + r.byte_slices) + 3500 * r.uints + 25000 * r.byte_slices + 2500 * r.boxes + 400 * r.box_bytes

-- an account row that is zero in all but the reward base
unfoldable pub is_zero_account : AccountRow → Bool
is_zero_account r = account_eq r (record no_account { base = r.base })

-- a zero account row, and a resource row without a part, is no row
unfoldable pub is_zero : Row → Bool
is_zero (row.Account r) = is_zero_account r
is_zero (row.Asset a) = is_none a.params && is_none a.holding
is_zero (row.App a) = is_none a.params && is_none a.local
is_zero (row.Box b) = false

abbrev pub unless_zero : Row → Option Row
unless_zero row = if is_zero row then None else Some row

-- a row that is kept: it is of its key's kind, in its ranges, and no zero row
abbrev pub IsKept : Key → Row → Type 0
IsKept key row = InRange key row × (is_zero row ≡ false)

abbrev pub account_in : Option Row → AccountRow
account_in (Some (row.Account r)) = r
account_in row = no_account

abbrev pub account : RowMap → Address → AccountRow
account m who = account_in (get m (key.Account who))

abbrev pub set_account : RowMap → Address → AccountRow → RowMap
set_account m who r = set_at m (key.Account who) (unless_zero (row.Account r))

-- whether a row has the params of its asset or application
abbrev pub has_params : Row → Bool
has_params (row.Account r) = false
has_params (row.Asset a) = is_some a.params
has_params (row.App a) = is_some a.params
has_params (row.Box b) = false

-- the address under whose key the params of an id stand
abbrev pub creator_at : ℕ → Key → Row → Option Address
creator_at id (key.Account who) row = None
creator_at id (key.Resource who i) row = if nat_eq i id && has_params row then Some who else None
creator_at id (key.Box app name) row = None

-- the creator of an asset or an application: the least address whose row of it has params
unfoldable pub creator_of : RowMap → ℕ → Option Address
creator_of m id = first_some (λ e. creator_at id e.0 e.1) (entries m)

-- an index of the creators of all ids
unfoldable pub AreCreators : RowMap → BTreeMap ℕ Address → Type 0
AreCreators m creators = (id : ℕ) → tree.get nat_cmp creators id ≡ creator_of m id
