-- Assets by the Algorand ledger specification: created, configured, destroyed, transferred, clawed back, closed and frozen. Each is what it makes of the rows, or the first rule that it breaks.
use Rattle.std.specs.Prelude.{ℕ, ◌+◌, ◌-◌, ◌^◌, Bool, true, false, not, ◌&&◌, nat_eq, nat_lt, is_none, if◌then◌else◌, replicate, []}
use Rattle.std.specs.declared.option.Option.{Option}
use Rattle.std.specs.declared.option.Option.TheVariants.{None, Some}
use Rattle.std.specs.declared.result.Result.{Result}
use Rattle.std.specs.declared.result.Result.TheVariants.{Ok, Err}
use Rattle.std.specs.FinMap.{get}
use Rattle.al_base.specs.declared.address.Address.{Address}
use Rattle.al_base.specs.declared.asset.AssetParams.{AssetParams}
use Rattle.al_base.specs.declared.key.Key.TheVariants as key
use Rattle.al_rows.specs.declared.row.AssetRow.{AssetRow}
use Rattle.al_rows.specs.declared.row.Holding.{Holding}
use Rattle.al_rows.specs.declared.row.Row.{Row}
use Rattle.al_rows.specs.declared.row.Row.TheVariants as row
use Rattle.al_rows.specs.Rows.{RowMap, asset_params_eq, creator_of, no_address}
use Rattle.al_bodies.specs.declared.body.AssetMove.{AssetMove}
use Rattle.al_bodies.specs.declared.body.Config.{Config}
use Rattle.al_bodies.specs.declared.body.Freeze.{Freeze}
use Rattle.al_overlay.specs.declared.rule.Rule.{Rule}
use Rattle.al_overlay.specs.Rules.{of_account, of_id, plain_rule, then_do, too_few}
use Rattle.al_overlay.specs.Accounts.{same_address}
use Rattle.al_moves.specs.Resources.{put_resource}
use Rattle.al_resources.specs.declared.asset.Issued.{Issued}

-- ---- what an account has of an asset

-- neither parameters nor a holding
abbrev pub no_asset : AssetRow
no_asset = record { params = None; holding = None }

-- what a row says of an asset; a row of another kind says nothing
abbrev pub asset_in : Option Row → AssetRow
asset_in None = no_asset
asset_in (Some (row.Account r)) = no_asset
asset_in (Some (row.Asset a)) = a
asset_in (Some (row.App a)) = no_asset
asset_in (Some (row.Box b)) = no_asset

abbrev pub asset : RowMap → Address → ℕ → AssetRow
asset m who id = asset_in (get m (key.Resource who id))

-- what an account has of an asset, from now on; its counts follow
abbrev pub set_asset : Address → ℕ → AssetRow → RowMap → Result RowMap Rule
set_asset who id a m = put_resource who id (Some (row.Asset a)) m

abbrev pub amount_in : Option Holding → ℕ
amount_in None = 0
amount_in (Some h) = h.amount

-- the most base units of an asset
abbrev pub max_units : ℕ
max_units = 2 ^ 64 - 1

-- ---- an asset that there is

abbrev pub issued_by : ℕ → Address → Option AssetParams → Result Issued Rule
issued_by id who None = Err (of_id 46 id)
issued_by id who (Some p) = Ok (record { creator = who; params = p })

abbrev pub issued_from : ℕ → RowMap → Option Address → Result Issued Rule
issued_from id m None = Err (of_id 46 id)
issued_from id m (Some who) = issued_by id who (asset m who id).params

-- 46: the asset with its creator and parameters. An id of an application is no asset
unfoldable pub issued : ℕ → RowMap → Result Issued Rule
issued id m = issued_from id m (creator_of m id)

-- whether an account is the one that may act for an asset, which is nobody where it is zero
abbrev pub controls : Address → Address → Bool
controls who address = not (same_address address no_address) && same_address address who

-- whether an account created an asset that there is
abbrev pub is_creator : Address → Option Address → Bool
is_creator who None = false
is_creator who (Some creator) = same_address creator who

-- ---- create, configure, destroy

-- the sender gets the parameters and holds all units
unfoldable pub created : Address → AssetParams → ℕ → RowMap → Result RowMap Rule
created who p next m = set_asset who next (record { params = Some p; holding = Some (record { amount = p.total; frozen = false }) }) m

-- 48: the creator holds all units of an asset that is destroyed, and then has nothing of it
unfoldable pub destroyed : ℕ → Issued → RowMap → Result RowMap Rule
destroyed id a m =
    if nat_eq (amount_in (asset m a.creator id).holding) a.params.total then put_resource a.creator id None m
    else Err (too_few 48 (amount_in (asset m a.creator id).holding) a.params.total)

-- an address that may act takes the new value, unless it was given up
abbrev pub renewed : Address → Address → Address
renewed old new = if same_address old no_address then old else new

-- the parameters with their addresses renewed
abbrev pub renewed_params : AssetParams → AssetParams → AssetParams
renewed_params old new = record old {
  manager = renewed old.manager new.manager;
  reserve = renewed old.reserve new.reserve;
  freeze = renewed old.freeze new.freeze;
  clawback = renewed old.clawback new.clawback;
}

unfoldable pub reconfigured : ℕ → Issued → AssetParams → RowMap → Result RowMap Rule
reconfigured id a p m = set_asset a.creator id (record (asset m a.creator id) { params = Some (renewed_params a.params p) }) m

-- parameters that are all zero
abbrev pub no_params : AssetParams
no_params = record {
  total = 0;
  decimals = 0;
  default_frozen = false;
  unit = [];
  name = [];
  url = [];
  meta = replicate 32 0;
  manager = no_address;
  reserve = no_address;
  freeze = no_address;
  clawback = no_address;
}

-- 47: only its manager configures an asset, or destroys it by parameters that are all zero
unfoldable pub managed : Address → ℕ → AssetParams → Issued → RowMap → Result RowMap Rule
managed who id p a m =
    if not (controls who a.params.manager) then Err (plain_rule 47)
    else if asset_params_eq p no_params then destroyed id a m
    else reconfigured id a p m

-- an asset is created with the number `next`, or one that there is is configured or destroyed
unfoldable pub configured : Address → Config → ℕ → RowMap → Result RowMap Rule
configured who c next m =
    if nat_eq c.asset 0 then created who c.params next m
    else then_do (issued c.asset m) (λ a. managed who c.asset c.params a m)

-- ---- units that move

-- 50, 51, 52: a holding gives units
abbrev pub given_from : Bool → ℕ → Address → ℕ → AssetRow → Option Holding → RowMap → Result RowMap Rule
given_from thawed id from amount a None m = Err (of_account 50 from)
given_from thawed id from amount a (Some h) m =
    if not thawed && h.frozen then Err (of_account 51 from)
    else if nat_lt h.amount amount then Err (too_few 52 h.amount amount)
    else set_asset from id (record a { holding = Some (record h { amount = h.amount - amount }) }) m

unfoldable pub give_units : Bool → ℕ → Address → ℕ → RowMap → Result RowMap Rule
give_units thawed id from amount m = given_from thawed id from amount (asset m from id) (asset m from id).holding m

-- 50, 51, 53: a holding takes units in
abbrev pub taken_by : Bool → ℕ → Address → ℕ → AssetRow → Option Holding → RowMap → Result RowMap Rule
taken_by thawed id to amount a None m = Err (of_account 50 to)
taken_by thawed id to amount a (Some h) m =
    if not thawed && h.frozen then Err (of_account 51 to)
    else if nat_lt max_units (h.amount + amount) then Err (of_account 53 to)
    else set_asset to id (record a { holding = Some (record h { amount = h.amount + amount }) }) m

unfoldable pub take_units : Bool → ℕ → Address → ℕ → RowMap → Result RowMap Rule
take_units thawed id to amount m = taken_by thawed id to amount (asset m to id) (asset m to id).holding m

-- units move from one holding to another, the giver being looked at first; where it is thawed, no freeze stops them. No units ask nothing of either
unfoldable pub moved_units : Bool → ℕ → Address → Address → ℕ → RowMap → Result RowMap Rule
moved_units thawed id from to amount m =
    if nat_eq amount 0 then Ok m
    else then_do (give_units thawed id from amount m) (λ n. take_units thawed id to amount n)

-- ---- transfers

-- a transfer of nothing to oneself by an account without a holding
abbrev pub opts_in : Address → AssetMove → RowMap → Bool
opts_in who t m = nat_eq t.amount 0 && same_address t.receiver who && is_none (asset m who t.asset).holding

-- an account gets a holding of nothing, frozen as the asset says
unfoldable pub opted : Address → ℕ → Issued → RowMap → Result RowMap Rule
opted who id a m = set_asset who id (record (asset m who id) { holding = Some (record { amount = 0; frozen = a.params.default_frozen }) }) m

unfoldable pub opted_in : Address → AssetMove → RowMap → Result RowMap Rule
opted_in who t m = if opts_in who t m then then_do (issued t.asset m) (λ a. opted who t.asset a m) else Ok m

-- the holding goes
unfoldable pub without_holding : Address → ℕ → RowMap → Result RowMap Rule
without_holding who id m = set_asset who id (record (asset m who id) { holding = None }) m

-- 50, 54: a holding is closed: its whole rest moves, no freeze stopping it where the receiver is the creator, and then it goes
abbrev pub closed_from : Address → ℕ → Address → Option Holding → RowMap → Result RowMap Rule
closed_from who id to None m = Err (of_account 50 who)
closed_from who id to (Some h) m =
    if is_creator who (creator_of m id) then Err (plain_rule 54)
    else if not (nat_eq h.amount 0) && same_address to who then Err (plain_rule 54)
    else then_do (moved_units (is_creator to (creator_of m id)) id who to h.amount m) (λ n. without_holding who id n)

unfoldable pub closed_units : Address → AssetMove → RowMap → Result RowMap Rule
closed_units who t m =
    if same_address t.close no_address then Ok m
    else closed_from who t.asset t.close (asset m who t.asset).holding m

-- an account sends units of its own: it opts in where it does, the amount moves, and then a close address that is not zero takes the rest
unfoldable pub sent : Address → AssetMove → RowMap → Result RowMap Rule
sent who t m =
    then_do (opted_in who t m)
    (λ n. then_do (moved_units false t.asset who t.receiver t.amount n)
    (λ k. closed_units who t k))

-- 49: only its clawback address takes units from holdings, and no freeze stops it
unfoldable pub clawed_back : Address → AssetMove → RowMap → Result RowMap Rule
clawed_back who t m =
    then_do (issued t.asset m)
    (λ a. if controls who a.params.clawback then moved_units true t.asset t.source t.receiver t.amount m else Err (plain_rule 49))

-- a transfer with a source that is not zero is a clawback
unfoldable pub transferred : Address → AssetMove → RowMap → Result RowMap Rule
transferred who t m = if same_address t.source no_address then sent who t m else clawed_back who t m

-- ---- freezes

-- 50: a holding is frozen, or no longer
abbrev pub frozen_as : Freeze → AssetRow → Option Holding → RowMap → Result RowMap Rule
frozen_as f a None m = Err (of_account 50 f.account)
frozen_as f a (Some h) m = set_asset f.account f.asset (record a { holding = Some (record h { frozen = f.frozen }) }) m

-- 55: only its freeze address freezes holdings of an asset
unfoldable pub frozen : Address → Freeze → RowMap → Result RowMap Rule
frozen who f m =
    then_do (issued f.asset m)
    (λ a. if controls who a.params.freeze then frozen_as f (asset m f.account f.asset) (asset m f.account f.asset).holding m else Err (plain_rule 55))
