-- Applications by the effects of calls: created, with states, opted in and out, with boxes, with payments and transfers of their own. Each is what it makes of the rows, or the first rule that it breaks.
use Rattle.std.specs.Prelude.{ℕ, ⊤, List, [], ◌∷◌, All, nat_eq, if◌then◌else◌}
use Rattle.std.specs.declared.option.Option.{Option}
use Rattle.std.specs.declared.option.Option.TheVariants.{None, Some}
use Rattle.std.specs.declared.result.Result.{Result}
use Rattle.std.specs.declared.result.Result.TheVariants.{Ok, Err}
use Rattle.std.specs.FinMap.{get}
use Rattle.al_base.specs.declared.address.Address.{Address}
use Rattle.al_base.specs.declared.key.Key.TheVariants as key
use Rattle.al_base.specs.declared.name.BoxName.{BoxName}
use Rattle.al_rows.specs.declared.row.AppParams.{AppParams}
use Rattle.al_rows.specs.declared.row.AppRow.{AppRow}
use Rattle.al_rows.specs.declared.row.Local.{Local}
use Rattle.al_rows.specs.declared.row.Row.{Row}
use Rattle.al_rows.specs.declared.row.Row.TheVariants as row
use Rattle.al_rows.specs.Rows.{RowMap, creator_of}
use Rattle.al_bodies.specs.declared.body.AppCall.{AppCall}
use Rattle.al_bodies.specs.declared.effect.Effect.{Effect}
use Rattle.al_bodies.specs.declared.effect.Effect.TheVariants as effect
use Rattle.al_bodies.specs.declared.effect.Inner.{Inner}
use Rattle.al_bodies.specs.declared.effect.Inner.TheVariants as inner
use Rattle.al_overlay.specs.declared.rule.Rule.{Rule}
use Rattle.al_overlay.specs.Rules.{of_account, of_id, plain_rule, then_do}
use Rattle.al_moves.specs.Pay.{paid}
use Rattle.al_moves.specs.Resources.{app_account, put_box, put_resource}
use Rattle.al_overlay.specs.Work.{HasOneCreator}
use Rattle.al_resources.specs.Assets.{transferred}
use Rattle.al_resources.specs.declared.app.Made.{Made}

-- ---- what an account has of an application

-- neither parameters nor a local state
abbrev pub no_app : AppRow
no_app = record { params = None; local = None }

-- what a row says of an application; a row of another kind says nothing
abbrev pub app_in : Option Row → AppRow
app_in None = no_app
app_in (Some (row.Account r)) = no_app
app_in (Some (row.Asset a)) = no_app
app_in (Some (row.App a)) = a
app_in (Some (row.Box b)) = no_app

abbrev pub app : RowMap → Address → ℕ → AppRow
app m who id = app_in (get m (key.Resource who id))

-- what an account has of an application, from now on; its counts follow
abbrev pub set_app : Address → ℕ → AppRow → RowMap → Result RowMap Rule
set_app who id a m = put_resource who id (Some (row.App a)) m

-- ---- an application that there is

abbrev pub made_by : ℕ → Address → Option AppParams → Result Made Rule
made_by id who None = Err (of_id 60 id)
made_by id who (Some p) = Ok (record { creator = who; params = p })

abbrev pub made_from : ℕ → RowMap → Option Address → Result Made Rule
made_from id m None = Err (of_id 60 id)
made_from id m (Some who) = made_by id who (app m who id).params

-- 60: the application with its creator and parameters. An id of an asset is no application
unfoldable pub made : ℕ → RowMap → Result Made Rule
made id m = made_from id m (creator_of m id)

-- ---- parameters

-- 1: the sender gets the parameters
unfoldable pub app_created : Address → ℕ → AppParams → RowMap → Result RowMap Rule
app_created who id p m = set_app who id (record { params = Some p; local = None }) m

-- 2: the global state is set
unfoldable pub state_set : ℕ → List ℕ → RowMap → Result RowMap Rule
state_set id state m =
    then_do (made id m)
    (λ a. set_app a.creator id (record (app m a.creator id) { params = Some (record a.params { state = state }) }) m)

-- 3: the parameters go
unfoldable pub app_removed : ℕ → RowMap → Result RowMap Rule
app_removed id m =
    then_do (made id m)
    (λ a. set_app a.creator id (record (app m a.creator id) { params = None }) m)

-- ---- local states

-- 61: an account opts in once, and its schema is that of the parameters
abbrev pub opted_from : Address → ℕ → List ℕ → AppParams → AppRow → Option Local → RowMap → Result RowMap Rule
opted_from who id state p a None m = set_app who id (record a { local = Some (record { uints = p.local_uints; slices = p.local_slices; state = state }) }) m
opted_from who id state p a (Some l) m = Err (plain_rule 61)

-- 4: the sender opts in
unfoldable pub app_opted : Address → ℕ → List ℕ → RowMap → Result RowMap Rule
app_opted who id state m =
    then_do (made id m)
    (λ a. opted_from who id state a.params (app m who id) (app m who id).local m)

-- 62: an account that has not opted in has no local state
abbrev pub local_from : Address → ℕ → List ℕ → AppRow → Option Local → RowMap → Result RowMap Rule
local_from who id state a None m = Err (of_account 62 who)
local_from who id state a (Some l) m = set_app who id (record a { local = Some (record l { state = state }) }) m

-- 5: the local state of an account is set
unfoldable pub local_set : Address → ℕ → List ℕ → RowMap → Result RowMap Rule
local_set who id state m =
    then_do (made id m)
    (λ a. local_from who id state (app m who id) (app m who id).local m)

abbrev pub opted_out_from : Address → ℕ → AppRow → Option Local → RowMap → Result RowMap Rule
opted_out_from who id a None m = Err (of_account 62 who)
opted_out_from who id a (Some l) m = set_app who id (record a { local = None }) m

-- 6: the sender opts out, also of an application that there is no more
unfoldable pub app_opted_out : Address → ℕ → RowMap → Result RowMap Rule
app_opted_out who id m = opted_out_from who id (app m who id) (app m who id).local m

-- ---- boxes

-- 7: a box is there with a value
unfoldable pub box_put : ℕ → BoxName → List ℕ → RowMap → Result RowMap Rule
box_put id name value m = then_do (made id m) (λ a. put_box id name (Some (row.Box (record { value = value }))) m)

-- 63: a box that is removed is there
abbrev pub box_gone : ℕ → BoxName → Option Row → RowMap → Result RowMap Rule
box_gone id name None m = Err (plain_rule 63)
box_gone id name (Some r) m = put_box id name None m

-- 8: a box goes
unfoldable pub box_removed : ℕ → BoxName → RowMap → Result RowMap Rule
box_removed id name m = then_do (made id m) (λ a. box_gone id name (get m (key.Box id name)) m)

-- ---- transactions of the application's own account, which pay no fee

abbrev pub inner_done : ℕ → Address → Inner → RowMap → Result RowMap Rule
inner_done level who (inner.Pay p) m = paid level who p m
inner_done level who (inner.Move t) m = transferred who t m

-- 9: a payment or a transfer by the account of the application
unfoldable pub inner_sent : ℕ → ℕ → Inner → RowMap → Result RowMap Rule
inner_sent level id i m = then_do (made id m) (λ a. inner_done level (app_account id) i m)

-- ---- all effects

-- what one effect of a call by a sender does to an application
abbrev pub effect_done : ℕ → Address → ℕ → Effect → RowMap → Result RowMap Rule
effect_done level who id (effect.Create gu gs lu ls pages state) m =
    app_created who id (record { global_uints = gu; global_slices = gs; local_uints = lu; local_slices = ls; extra_pages = pages; state = state }) m
effect_done level who id (effect.SetState state) m = state_set id state m
effect_done level who id effect.Remove m = app_removed id m
effect_done level who id (effect.OptIn state) m = app_opted who id state m
effect_done level who id (effect.SetLocal whose state) m = local_set whose id state m
effect_done level who id effect.OptOut m = app_opted_out who id m
effect_done level who id (effect.PutBox name value) m = box_put id name value m
effect_done level who id (effect.RemoveBox name) m = box_removed id name m
effect_done level who id (effect.Inner i) m = inner_sent level id i m

-- effects one after another
abbrev pub effects_done : ℕ → Address → ℕ → List Effect → RowMap → Result RowMap Rule
effects_done level who id [] m = Ok m
effects_done level who id (e ∷ es) m = then_do (effect_done level who id e m) (λ n. effects_done level who id es n)

-- the application of a call: the one that it names, or the one that it creates, which has the number `next`
abbrev pub called : AppCall → ℕ → ℕ
called call next = if nat_eq call.app 0 then next else call.app

-- what a call does to the rows
unfoldable pub called_with : ℕ → Address → AppCall → List Effect → ℕ → RowMap → Result RowMap Rule
called_with level who call effects next m = effects_done level who (called call next) effects m

-- ---- what the rows before the block and the effects are to be

-- an inner transfer asks for the creator of its asset, which had at most one, as in every sound state
abbrev pub InnerAsksOne : RowMap → Inner → Type 0
InnerAsksOne m (inner.Pay p) = ⊤
InnerAsksOne m (inner.Move t) = HasOneCreator m t.asset

abbrev pub EffectAsksOne : RowMap → Effect → Type 0
EffectAsksOne m (effect.Create gu gs lu ls pages state) = ⊤
EffectAsksOne m (effect.SetState state) = ⊤
EffectAsksOne m effect.Remove = ⊤
EffectAsksOne m (effect.OptIn state) = ⊤
EffectAsksOne m (effect.SetLocal whose state) = ⊤
EffectAsksOne m effect.OptOut = ⊤
EffectAsksOne m (effect.PutBox name value) = ⊤
EffectAsksOne m (effect.RemoveBox name) = ⊤
EffectAsksOne m (effect.Inner i) = InnerAsksOne m i

-- the application of a call had at most one creator, and so had the asset of each inner transfer
abbrev pub EffectsAskOne : RowMap → ℕ → List Effect → Type 0
EffectsAskOne m id effects = HasOneCreator m id × All (EffectAsksOne m) effects
