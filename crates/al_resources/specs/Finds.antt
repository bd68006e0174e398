-- What a look-up finds that a rule may refuse, and steps over what was looked up.
use Rattle.std.specs.Prelude.{◌≡◌, ⊤, ℕ, Bool, true, not, ◌&&◌, nat_eq, if◌then◌else◌, List}
use Rattle.std.specs.declared.option.Option.{Option}
use Rattle.std.specs.declared.option.Option.TheVariants.{None, Some}
use Rattle.std.specs.declared.result.Result.{Result}
use Rattle.std.specs.declared.result.Result.TheVariants.{Ok, Err}
use Rattle.std.specs.FinMap.{get}
use Rattle.al_base.specs.declared.address.Address.{Address}
use Rattle.al_base.specs.declared.key.Key.TheVariants as key
use Rattle.al_base.specs.declared.name.BoxName.{BoxName}
use Rattle.al_rows.specs.declared.row.AppRow.{AppRow}
use Rattle.al_rows.specs.declared.row.AssetRow.{AssetRow}
use Rattle.al_rows.specs.declared.row.Holding.{Holding}
use Rattle.al_rows.specs.Rows.{AssetParamsInRange, HoldingInRange, LocalInRange, ParamsInRange, RowMap}
use Rattle.al_bodies.specs.declared.body.AssetMove.{AssetMove}
use Rattle.al_bodies.specs.declared.body.Freeze.{Freeze}
use Rattle.al_overlay.specs.declared.rule.Rule.{Rule}
use Rattle.al_overlay.specs.declared.rule.Stop.{Stop}
use Rattle.al_overlay.specs.declared.rule.Stop.TheVariants as stop
use Rattle.al_overlay.specs.Accounts.{same_address}
use Rattle.al_overlay.specs.Rules.{plain_rule, then_do}
use Rattle.al_overlay.specs.Work.{IsCounted, IsFixed, Worked}
use Rattle.al_resources.specs.declared.app.Made.{Made}
use Rattle.al_resources.specs.declared.asset.Issued.{Issued}
use Rattle.al_resources.specs.Effects.{app, box_gone, local_from, opted_from, set_app}
use Rattle.al_resources.specs.Assets.{asset, controls, frozen_as, is_creator, moved_units, without_holding}

-- the parts of a row of an asset are in their ranges
abbrev pub AssetInRange : AssetRow → Type 0
AssetInRange a = AssetParamsInRange a.params × HoldingInRange a.holding

-- the parts of a row of an application are in their ranges
abbrev pub AppInRange : AppRow → Type 0
AppInRange a = ParamsInRange a.params × LocalInRange a.local

-- what is found is what is due, and its refusal is the one that is due
abbrev pub Found : {F T : Type 0} → Result T Rule → Result T (Stop F) → Type 0
Found due (Ok x) = due ≡ Ok x
Found due (Err (stop.Rule r)) = due ≡ Err r
Found due (Err (stop.View f)) = ⊤
Found due (Err stop.Memory) = ⊤

-- a look-up finds what is due, where the rows before the block are as this asks
pub record Finds {F T : Type 0} (tells : Bool) (asks : Type 0) (due : Result T Rule) (old new : Worked) (result : Result T (Stop F)) : Type 0 where
  pub fixed : IsFixed tells old new
  pub now : tells ≡ true → new.now ≡ old.now
  pub start : tells ≡ true → new.start ≡ old.start
  pub found : tells ≡ true → asks → Found due result
  pub cause : IsCounted result old.failures new.failures

-- a holding is closed, once the creator was looked up
abbrev pub closed_as : Address → ℕ → Address → Holding → Option Address → RowMap → Result RowMap Rule
closed_as who id to h creator m =
    if is_creator who creator then Err (plain_rule 54)
    else if not (nat_eq h.amount 0) && same_address to who then Err (plain_rule 54)
    else then_do (moved_units (is_creator to creator) id who to h.amount m) (λ n. without_holding who id n)

-- units are clawed back, once the asset was looked up
abbrev pub clawed_by : Address → AssetMove → Issued → RowMap → Result RowMap Rule
clawed_by who t a m = if controls who a.params.clawback then moved_units true t.asset t.source t.receiver t.amount m else Err (plain_rule 49)

-- a holding is frozen, or no longer, once the asset was looked up
abbrev pub frozen_by : Address → Freeze → Issued → RowMap → Result RowMap Rule
frozen_by who f a m = if controls who a.params.freeze then frozen_as f (asset m f.account f.asset) (asset m f.account f.asset).holding m else Err (plain_rule 55)

-- the global state is set, once the application was looked up
abbrev pub state_by : ℕ → List ℕ → Made → RowMap → Result RowMap Rule
state_by id state a m = set_app a.creator id (record (app m a.creator id) { params = Some (record a.params { state = state }) }) m

-- the parameters go, once the application was looked up
abbrev pub removed_by : ℕ → Made → RowMap → Result RowMap Rule
removed_by id a m = set_app a.creator id (record (app m a.creator id) { params = None }) m

-- the sender opts in, once the application was looked up
abbrev pub opted_by : Address → ℕ → List ℕ → Made → RowMap → Result RowMap Rule
opted_by who id state a m = opted_from who id state a.params (app m who id) (app m who id).local m

-- a local state is set, once the application was looked up
abbrev pub local_by : Address → ℕ → List ℕ → RowMap → Result RowMap Rule
local_by who id state m = local_from who id state (app m who id) (app m who id).local m

-- a box goes, once the application was looked up
abbrev pub gone_by : ℕ → BoxName → RowMap → Result RowMap Rule
gone_by id name m = box_gone id name (get m (key.Box id name)) m
