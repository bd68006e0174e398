-- The effects of an entry with a record are in their ranges.
use Rattle.std.proofs.Common.{◌≡◌, All, List, [], ◌∷◌, None, Ok, codes, refl, sym, ap, ◌∙◌}
use Rattle.std.specs.List.{AllByRecursion}
use Rattle.std.proofs.lemmas.List.Elements.{All-from_recursion}
use Rattle.al_msgpack.specs.declared.val.Val.{Val, out-Val}
use Rattle.al_msgpack.specs.declared.val.Val.TheViews as views
use Rattle.al_msgpack.specs.declared.val.Entry.{Entry}
use Rattle.al_record.specs.Columns.{IsRecord, list_of, member_open, members_fault, value_at}
use Rattle.al_record.proofs.Engine.{first_none}
use Rattle.al_record.proofs.Laws.{record_shows}
use Rattle.al_bodies.specs.declared.effect.Effect.{Effect}
use Rattle.al_bodies.specs.Effect.{effect}
use Rattle.al_bodies.specs.Ranges.{EffectInRange}
use Rattle.al_bodies.proofs.InRange.{in_range}
use Rattle.al_txn.specs.declared.txn.Item.{Item}
use Rattle.al_txn.specs.Item.{item, item_fields, most_effects, ReadsItem}
use Rattle.al_txn.proofs.Members.{members_are}
use Rattle.al_txn.proofs.SameItem.{of_item}

each_in_range : (xs : List Effect) → AllByRecursion (λ x. IsRecord effect x (effect.write x)) xs → AllByRecursion EffectInRange xs
each_in_range [] h = tt
each_in_range (x ∷ xs) h = (in_range x (effect.write x) h.0, each_in_range xs h.1)

pub effects_in_range : (i : Item) (es : List Entry) → IsRecord item i es → All EffectInRange i.effects
effects_in_range i es r =
    let shown = record_shows (item_fields (most_effects es)) i es refl (of_item i es r) in
    let ranges = first_none _ _ (first_none _ _ r.sound).1 in
    let fx : members_fault effect.fault (list_of (value_at (codes "fx") es)) ≡ None = (first_none _ _ ranges.0).1 in
    All-from_recursion EffectInRange i.effects (each_in_range i.effects (members_are effect i.effects (list_of (value_at (codes "fx") es)) shown.0 fx))

pub read_in_range : (v : Val) (i : Item) → ReadsItem v (Ok i) → All EffectInRange i.effects
read_in_range v i (spelled, sound) =
    effects_in_range i (item.write i) (record { fields = refl; sound = ap (member_open item.fault) (sym (views.outs-Map (item.write i)) ∙ ap out-Val (sym spelled)) ∙ sound })
