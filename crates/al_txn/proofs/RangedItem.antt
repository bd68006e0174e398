-- Entries of a payset in their ranges.
use Rattle.std.proofs.Common.{◌≡◌, ◌<◌, ◌≤◌, ◌^◌, ℕ, suc, true, codes, List, [], ◌∷◌, length, map, Some, None, Option, refl, sym, ap, ◌∙◌, subst, arith, if◌then◌else◌, nat_le}
use Rattle.std.specs.List.{AllByRecursion}
use Rattle.std.specs.Str.{bytes_eq}
use Rattle.std.proofs.lemmas.Bool.{le-leb}
use Rattle.al_msgpack.specs.declared.val.Val.{Val, out-Val}
use Rattle.al_msgpack.specs.declared.val.Val.TheVariants as values
use Rattle.al_msgpack.specs.declared.val.Val.TheViews as views
use Rattle.al_msgpack.specs.declared.val.Entry.{Entry}
use Rattle.al_msgpack.specs.Canonical.{IsCanonical}
use Rattle.al_record.specs.Columns.{IsRecord, table, entries, first_fault, rules_of, limit_fault, unless_range, text_of, text_in, map_of, map_in, map_put, value_at}
use Rattle.al_bodies.specs.declared.effect.Effect.{Effect}
use Rattle.al_bodies.specs.declared.body.Body.{Body}
use Rattle.al_bodies.specs.declared.body.Body.TheVariants as bodies
use Rattle.al_bodies.specs.Effect.{effect}
use Rattle.al_bodies.specs.Ranges.{EffectRanges}
use Rattle.al_bodies.proofs.Ranged.{AllRanged, count_same, map_again, ranged_record, ranged_canonical}
use Rattle.al_bodies.proofs.RangedBodies.{list_canonical, list_sound}
use Rattle.al_bodies.proofs.RangedEffects.{effect_record, effect_canonical}
use Rattle.al_bodies.proofs.Written.{all_put}
use Rattle.al_txn.specs.declared.txn.Txn.{Txn}
use Rattle.al_txn.specs.declared.txn.Item.{Item}
use Rattle.al_txn.specs.Txn.{txn, written}
use Rattle.al_txn.specs.Item.{item, item_fields, most_effects}
use Rattle.al_txn.specs.Ranges.{TxnRanges, ItemRanges, most_beside}
use Rattle.al_txn.proofs.Same.{word, named}
use Rattle.al_txn.proofs.Ranged.{txn_record, txn_canonical}

within_limit : (n most : ℕ) (name : List ℕ) → n ≤ most → limit_fault (Some most) name n ≡ None
within_limit n most name le = rw (le-leb n most le) refl

-- how many effects may stand beside a transaction of each type
kind_most : (b : Body) → (if bytes_eq (word b) (codes "appl") then 256 else 0) ≡ most_beside b
kind_most (bodies.Pay x) = refl
kind_most (bodies.KeyReg x) = refl
kind_most (bodies.Config x) = refl
kind_most (bodies.Move x) = refl
kind_most (bodies.Freeze x) = refl
kind_most (bodies.App x) = refl

most_least : (b : Body) → most_beside b ≤ 256
most_least (bodies.Pay x) = omega arith
most_least (bodies.KeyReg x) = omega arith
most_least (bodies.Config x) = omega arith
most_least (bodies.Move x) = omega arith
most_least (bodies.Freeze x) = omega arith
most_least (bodies.App x) = omega arith

named_in : (t : Txn) (b : Body) → text_of (value_at (codes "type") (written t b)) ≡ word b
named_in t b = ap text_of (named t b) ∙ ap text_in (views.outs-Str (word b))

most_is : (i : Item) → most_effects (item.write i) ≡ most_beside i.txn.body
most_is i =
    let at : value_at (codes "txn") (item.write i) ≡ map_put (txn.write i.txn) = (all_put (item_fields 256) i refl).1.0 in
    let inside : map_of (value_at (codes "txn") (item.write i)) ≡ txn.write i.txn = ap map_of at ∙ map_again (txn.write i.txn) in
    let kind : text_of (value_at (codes "type") (map_of (value_at (codes "txn") (item.write i)))) ≡ word i.txn.body = ap (λ (es : List Entry). text_of (value_at (codes "type") es)) inside ∙ named_in i.txn i.txn.body in
    ap (λ (w : List ℕ). if bytes_eq w (codes "appl") then 256 else 0) kind ∙ kind_most i.txn.body

-- the fields, with effects at most so many
fields_ranged : (depth most : ℕ) (i : Item) → length i.effects ≤ most → length i.effects < 2 ^ 32 → TxnRanges (suc (suc depth)) i.txn → AllByRecursion EffectRanges i.effects → AllRanged (suc (suc (suc depth))) (item_fields most) i
fields_ranged depth most i le lt t each =
    let count : length (map effect.write i.effects) ≤ most = rw (count_same effect.write i.effects) le in (
      (within_limit _ most (codes "fx") count, list_sound EffectRanges effect (λ x p. effect_record x p) i.effects each, list_canonical EffectRanges effect (suc (suc depth)) (λ x p. effect_canonical depth x p) i.effects lt each),
      (((txn_record (suc (suc depth)) i.txn t).sound, txn_canonical (suc depth) i.txn t), tt),
    )

not_many : (i : Item) → length i.effects ≤ most_beside i.txn.body → length i.effects ≤ 256
not_many i le = let m = most_least i.txn.body in omega (arith, le, m)

pub item_record : (depth : ℕ) (i : Item) → ItemRanges (suc (suc depth)) i → IsRecord item i (item.write i)
item_record depth i r =
    let few = not_many i r.few in
    let most = most_beside i.txn.body in
    let rec : IsRecord (table (item_fields most)) i (entries (item_fields most) i) = ranged_record (suc (suc (suc depth))) (item_fields most) i refl (fields_ranged depth most i r.few (omega (arith, few)) r.inner r.each) in
    record { fields = refl; sound = ap (λ (n : ℕ). first_fault (rules_of (item_fields n)) (item.write i)) (most_is i) ∙ rec.sound }

pub item_canonical : (depth : ℕ) (i : Item) → ItemRanges (suc (suc depth)) i → IsCanonical (suc (suc (suc (suc depth)))) (values.Map (item.write i))
item_canonical depth i r =
    let few = not_many i r.few in
    ranged_canonical (suc (suc (suc depth))) (item_fields 256) i refl refl refl (fields_ranged depth 256 i few (omega (arith, few)) r.inner r.each)
