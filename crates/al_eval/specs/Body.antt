-- What the body of a transaction does.
use Rattle.std.specs.Prelude.{◌≡◌, ℕ, ⊤, All, List}
use Rattle.std.specs.declared.option.Option.TheVariants.{Some}
use Rattle.std.specs.declared.result.Result.{Result}
use Rattle.al_rows.specs.Rows.{AssetParamsInRange, RowMap}
use Rattle.al_bodies.specs.declared.body.Body.{Body}
use Rattle.al_bodies.specs.declared.body.Body.TheVariants as body
use Rattle.al_bodies.specs.declared.effect.Effect.{Effect}
use Rattle.al_txn.specs.declared.txn.Item.{Item}
use Rattle.al_overlay.specs.declared.rule.Rule.{Rule}
use Rattle.al_moves.specs.Keys.{keyed}
use Rattle.al_moves.specs.Pay.{paid}
use Rattle.al_overlay.specs.Work.{HasOneCreator}
use Rattle.al_resources.specs.Assets.{configured, frozen, transferred}
use Rattle.al_bodies.specs.Ranges.{EffectInRange}
use Rattle.al_resources.specs.Effects.{EffectAsksOne, called_with}

-- where a transaction stands: the reward level, the round, the number that it gives to what it creates, and its entry of the payset
pub record Context : Type 0 where
  pub level : ℕ
  pub round : ℕ
  pub next : ℕ
  pub item : Item

-- what a body does, a call of an application with the effects that stand beside it
abbrev pub done_by : Body → Context → RowMap → Result RowMap Rule
done_by (body.Pay p) x m = paid x.level x.item.txn.sender p m
done_by (body.KeyReg k) x m = keyed x.round x.item.txn.sender k m
done_by (body.Config c) x m = configured x.item.txn.sender c x.next m
done_by (body.Move t) x m = transferred x.item.txn.sender t m
done_by (body.Freeze f) x m = frozen x.item.txn.sender f m
done_by (body.App a) x m = called_with x.level x.item.txn.sender a x.item.effects x.next m

-- an id whose creator a body asks for had at most one before the block, as in every sound state; of a call that creates an application, each id
abbrev pub BodyAsksOne : RowMap → List Effect → Body → Type 0
BodyAsksOne m effects (body.Pay p) = ⊤
BodyAsksOne m effects (body.KeyReg k) = ⊤
BodyAsksOne m effects (body.Config c) = HasOneCreator m c.asset
BodyAsksOne m effects (body.Move t) = HasOneCreator m t.asset
BodyAsksOne m effects (body.Freeze f) = HasOneCreator m f.asset
BodyAsksOne m effects (body.App a) = (a.app ≡ 0 → (id : ℕ) → HasOneCreator m id) × HasOneCreator m a.app × All (EffectAsksOne m) effects

-- the same of an entry of the payset
abbrev pub AsksOne : RowMap → Item → Type 0
AsksOne m i = BodyAsksOne m i.effects i.txn.body

-- the numbers of what a body creates have 64 bits
abbrev pub IsNumbered : Body → Type 0
IsNumbered (body.Pay p) = ⊤
IsNumbered (body.KeyReg k) = ⊤
IsNumbered (body.Config c) = AssetParamsInRange (Some c.params)
IsNumbered (body.Move t) = ⊤
IsNumbered (body.Freeze f) = ⊤
IsNumbered (body.App a) = ⊤

-- the same of an entry of the payset, whose effects are in the ranges of their records
abbrev pub IsItemInRange : Item → Type 0
IsItemInRange i = IsNumbered i.txn.body × All EffectInRange i.effects
