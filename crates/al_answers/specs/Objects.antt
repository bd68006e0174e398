-- The objects of accounts, assets and applications, each a table with its keys in byte order.
use Rattle.std.specs.Prelude.{ℕ, List, [], ◌∷◌, codes}
use Rattle.al_base.specs.declared.account.Status.{Status}
use Rattle.al_base.specs.declared.account.Status.TheVariants.{Offline, Online, NotParticipating}
use Rattle.al_base.specs.declared.asset.AssetParams.{AssetParams}
use Rattle.al_rewards.specs.Pending.{pending}
use Rattle.al_rows.specs.declared.account.AccountRow.{AccountRow}
use Rattle.al_rows.specs.declared.row.AppParams.{AppParams}
use Rattle.al_rows.specs.declared.row.AppRow.{AppRow}
use Rattle.al_rows.specs.declared.row.AssetRow.{AssetRow}
use Rattle.al_rows.specs.declared.row.Holding.{Holding}
use Rattle.al_rows.specs.declared.row.Local.{Local}
use Rattle.al_rows.specs.Rows.{min_balance}
use Rattle.al_answers.specs.Json.{Json, Table, left_out, whole, flag, text, object_of, hex_of, if_known, unless_zero, unless_false, unless_empty, unless_all_zero, unless_nobody}

-- ---- the account object

abbrev pub status_text : Status → List ℕ
status_text Offline = codes "Offline"
status_text Online = codes "Online"
status_text NotParticipating = codes "Not Participating"

-- the rewards that the account has earned at this level
abbrev pub pending_of : ℕ → AccountRow → ℕ
pending_of level r = pending level (record { status = r.status; balance = r.balance; base = r.base })

-- the keys of an account that is online, all of them
abbrev pub voting : AccountRow → Table
voting r =
    (codes "dilution", whole r.dilution) ∷
    (codes "first", whole r.first) ∷
    (codes "last", whole r.last) ∷
    (codes "selection", hex_of r.selection) ∷
    (codes "sprf", hex_of r.sprf) ∷
    (codes "vote", hex_of r.vote) ∷
    []

abbrev pub vote_of : Status → AccountRow → Json
vote_of Offline r = left_out
vote_of Online r = object_of (voting r)
vote_of NotParticipating r = left_out

-- an account at a reward level
abbrev pub account_of : ℕ → AccountRow → Table
account_of level r =
    (codes "apps_created", unless_zero r.apps_created) ∷
    (codes "apps_opted", unless_zero r.apps_opted) ∷
    (codes "assets_created", unless_zero r.assets_created) ∷
    (codes "assets_held", unless_zero r.assets_held) ∷
    (codes "auth", unless_nobody r.auth) ∷
    (codes "balance", unless_zero r.balance) ∷
    (codes "base", unless_zero r.base) ∷
    (codes "box_bytes", unless_zero r.box_bytes) ∷
    (codes "boxes", unless_zero r.boxes) ∷
    (codes "byte_slices", unless_zero r.byte_slices) ∷
    (codes "extra_pages", unless_zero r.extra_pages) ∷
    (codes "min", whole (min_balance r)) ∷
    (codes "pending", unless_zero (pending_of level r)) ∷
    (codes "status", text (status_text r.status)) ∷
    (codes "uints", unless_zero r.uints) ∷
    (codes "vote", vote_of r.status r) ∷
    []

-- ---- the asset object

abbrev pub holding_of : Holding → Table
holding_of h =
    (codes "amount", whole h.amount) ∷
    (codes "frozen", flag h.frozen) ∷
    []

abbrev pub asset_params_of : AssetParams → Table
asset_params_of p =
    (codes "clawback", unless_nobody p.clawback) ∷
    (codes "decimals", unless_zero p.decimals) ∷
    (codes "default_frozen", unless_false p.default_frozen) ∷
    (codes "freeze", unless_nobody p.freeze) ∷
    (codes "manager", unless_nobody p.manager) ∷
    (codes "meta", unless_all_zero p.meta) ∷
    (codes "name", unless_empty p.name) ∷
    (codes "reserve", unless_nobody p.reserve) ∷
    (codes "total", unless_zero p.total) ∷
    (codes "unit", unless_empty p.unit) ∷
    (codes "url", unless_empty p.url) ∷
    []

abbrev pub asset_of : AssetRow → Table
asset_of row =
    (codes "holding", if_known (λ h. object_of (holding_of h)) row.holding) ∷
    (codes "params", if_known (λ p. object_of (asset_params_of p)) row.params) ∷
    []

-- ---- the application object

abbrev pub local_of : Local → Table
local_of l =
    (codes "slices", unless_zero l.slices) ∷
    (codes "state", unless_empty l.state) ∷
    (codes "uints", unless_zero l.uints) ∷
    []

abbrev pub app_params_of : AppParams → Table
app_params_of p =
    (codes "extra_pages", unless_zero p.extra_pages) ∷
    (codes "global_slices", unless_zero p.global_slices) ∷
    (codes "global_uints", unless_zero p.global_uints) ∷
    (codes "local_slices", unless_zero p.local_slices) ∷
    (codes "local_uints", unless_zero p.local_uints) ∷
    (codes "state", unless_empty p.state) ∷
    []

abbrev pub app_of : AppRow → Table
app_of row =
    (codes "local", if_known (λ l. object_of (local_of l)) row.local) ∷
    (codes "params", if_known (λ p. object_of (app_params_of p)) row.params) ∷
    []
