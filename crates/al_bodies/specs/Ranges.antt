-- The ranges of what a transaction does, and of the effects of a call.
use Rattle.std.specs.Prelude.{◌≡◌, ◌<◌, ◌≤◌, ◌^◌, ℕ, ⊤, not, true, length, List, None}
use Rattle.std.specs.List.{list_all}
use Rattle.al_msgpack.specs.Grammar.{AreBytes}
use Rattle.al_msgpack.specs.Canonical.{IsCanonical, AreEntries}
use Rattle.al_base.specs.declared.asset.AssetParams.{AssetParams}
use Rattle.al_msgpack.specs.declared.val.Entry.{Entry}
use Rattle.al_msgpack.specs.declared.val.Val.TheVariants as values
use Rattle.al_msgpack.specs.Places.{IsSpelling}
use Rattle.al_msgpack.specs.Spelled.{spelled}
use Rattle.al_record.specs.Columns.{Format, IsRecord}
use Rattle.al_record.specs.Laws.{IsShort}
use Rattle.al_bodies.specs.declared.body.Pay.{Pay}
use Rattle.al_bodies.specs.declared.body.KeyReg.{KeyReg}
use Rattle.al_bodies.specs.declared.body.Config.{Config}
use Rattle.al_bodies.specs.declared.body.AssetMove.{AssetMove}
use Rattle.al_bodies.specs.declared.body.Freeze.{Freeze}
use Rattle.al_bodies.specs.declared.body.AppCall.{AppCall}
use Rattle.al_bodies.specs.declared.body.Body.{Body}
use Rattle.al_bodies.specs.declared.body.Body.TheVariants as bodies
use Rattle.al_bodies.specs.declared.effect.Inner.{Inner}
use Rattle.al_bodies.specs.declared.effect.Inner.TheVariants as inners_of
use Rattle.al_bodies.specs.declared.effect.Effect.{Effect}
use Rattle.al_bodies.specs.declared.effect.Effect.TheVariants as effects
use Rattle.al_bodies.specs.Effect.{effect, whole_name}
use Rattle.al_bodies.specs.Kept.{is_kept, are_kept, kept, others, merged}

-- so many bytes
abbrev pub IsArray : ℕ → List ℕ → Type 0
IsArray n bytes = AreBytes bytes × (length bytes ≡ n)

-- at least and at most so many bytes
abbrev pub IsBetween : ℕ → ℕ → List ℕ → Type 0
IsBetween least most bytes = AreBytes bytes × (least ≤ length bytes) × (length bytes ≤ most)

pub record PayRanges (p : Pay) : Type 0 where
  pub receiver : IsArray 32 p.receiver.0
  pub amount : p.amount < 2 ^ 64
  pub close : IsArray 32 p.close.0

pub record KeyRegRanges (k : KeyReg) : Type 0 where
  pub vote : IsArray 32 k.vote
  pub selection : IsArray 32 k.selection
  pub sprf : IsArray 64 k.sprf
  pub first : k.first < 2 ^ 64
  pub last : k.last < 2 ^ 64
  pub dilution : k.dilution < 2 ^ 64

pub record ParamsRanges (p : AssetParams) : Type 0 where
  pub total : p.total < 2 ^ 64
  pub decimals : p.decimals < 2 ^ 64
  pub unit : IsShort p.unit
  pub name : IsShort p.name
  pub url : IsShort p.url
  pub meta : IsArray 32 p.meta
  pub manager : IsArray 32 p.manager.0
  pub reserve : IsArray 32 p.reserve.0
  pub freeze : IsArray 32 p.freeze.0
  pub clawback : IsArray 32 p.clawback.0

pub record ConfigRanges (c : Config) : Type 0 where
  pub asset : c.asset < 2 ^ 64
  pub params : ParamsRanges c.params

pub record MoveRanges (m : AssetMove) : Type 0 where
  pub asset : m.asset < 2 ^ 64
  pub amount : m.amount < 2 ^ 64
  pub source : IsArray 32 m.source.0
  pub receiver : IsArray 32 m.receiver.0
  pub close : IsArray 32 m.close.0

pub record FreezeRanges (f : Freeze) : Type 0 where
  pub account : IsArray 32 f.account.0
  pub asset : f.asset < 2 ^ 64

-- the kept fields have keys that rise, and values whose containers are at most so deep
pub record CallRanges (depth : ℕ) (a : AppCall) : Type 0 where
  pub app : a.app < 2 ^ 64
  pub rest : AreEntries (IsCanonical depth) None a.rest
  pub count : length a.rest < 2 ^ 31

-- in a record whose values have containers at most so deep
abbrev pub BodyRanges : ℕ → Body → Type 0
BodyRanges depth (bodies.Pay p) = PayRanges p
BodyRanges depth (bodies.KeyReg k) = KeyRegRanges k
BodyRanges depth (bodies.Config c) = ConfigRanges c
BodyRanges depth (bodies.Move m) = MoveRanges m
BodyRanges depth (bodies.Freeze f) = FreezeRanges f
BodyRanges depth (bodies.App a) = CallRanges depth a

abbrev pub InnerRanges : Inner → Type 0
InnerRanges (inners_of.Pay p) = PayRanges p
InnerRanges (inners_of.Move m) = MoveRanges m

-- a state, a box's name, and a box's value
abbrev pub IsState : List ℕ → Type 0
IsState = IsBetween 0 8192

abbrev pub IsName : List ℕ → Type 0
IsName = IsBetween 1 64

abbrev pub IsBox : List ℕ → Type 0
IsBox = IsBetween 0 32768

abbrev pub EffectRanges : Effect → Type 0
EffectRanges (effects.Create uints slices local_uints local_slices pages state) = (uints ≤ 64) × (slices ≤ 64) × (local_uints ≤ 64) × (local_slices ≤ 64) × (pages ≤ 3) × IsState state
EffectRanges (effects.SetState state) = IsState state
EffectRanges effects.Remove = Unit {0}
EffectRanges (effects.OptIn state) = IsState state
EffectRanges (effects.SetLocal who state) = IsArray 32 who.0 × IsState state
EffectRanges effects.OptOut = Unit {0}
EffectRanges (effects.PutBox name value) = IsName (whole_name name) × IsBox value
EffectRanges (effects.RemoveBox name) = IsName (whole_name name)
EffectRanges (effects.Inner t) = InnerRanges t

-- the numbers of a schema, the extra pages, states and values of boxes are as few and as short as rows keep them
abbrev pub EffectInRange : Effect → Type 0
EffectInRange (effects.Create gu gs lu ls pages state) = (gu ≤ 64) × (gs ≤ 64) × (lu ≤ 64) × (ls ≤ 64) × (pages ≤ 3) × (length state ≤ 8192)
EffectInRange (effects.SetState state) = length state ≤ 8192
EffectInRange effects.Remove = ⊤
EffectInRange (effects.OptIn state) = length state ≤ 8192
EffectInRange (effects.SetLocal whose state) = length state ≤ 8192
EffectInRange effects.OptOut = ⊤
EffectInRange (effects.PutBox name value) = length value ≤ 32768
EffectInRange (effects.RemoveBox name) = ⊤
EffectInRange (effects.Inner i) = ⊤

-- an effect with a record is in its range
abbrev pub EffectsInRange : Type 0
EffectsInRange = (x : Effect) (es : List Entry) → IsRecord effect x es → EffectInRange x

-- what is written of a value in its ranges is its record
abbrev pub HaveRecords : {X : Type 0} → (X → Type 0) → Format X → Type 0
HaveRecords {X} Ranges format = (x : X) → Ranges x → IsRecord format x (format.write x)

-- it is canonical, and so it has a spelling
abbrev pub HaveSpellings : {X : Type 0} → (X → Type 0) → Format X → Type 0
HaveSpellings {X} Ranges format = (x : X) → Ranges x → IsCanonical 16 (values.Map (format.write x)) × IsSpelling (values.Map (format.write x)) (spelled (values.Map (format.write x)))

-- Kept fields and others, merged: keys that rise, as they do in both, and exactly both lists' entries.
abbrev pub Merges : Type 0
Merges = (depth : ℕ) (ks os : List Entry) → are_kept ks ≡ true → list_all (λ e. not (is_kept e.key)) os ≡ true → AreEntries (IsCanonical depth) None ks → AreEntries (IsCanonical depth) None os → AreEntries (IsCanonical depth) None (merged ks os) × (kept (merged ks os) ≡ ks) × (others (merged ks os) ≡ os)
