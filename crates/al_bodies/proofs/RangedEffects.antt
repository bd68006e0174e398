-- Inner transactions and effects in their ranges.
use Rattle.std.proofs.Common.{◌≡◌, ◌<◌, ◌≤◌, ◌^◌, ℕ, suc, true, codes, List, [], ◌∷◌, length, None, Ok, refl, sym, ap, ◌∙◌, arith}
use Rattle.al_msgpack.specs.declared.val.Val.TheVariants as values
use Rattle.al_msgpack.specs.declared.val.Entry.{Entry}
use Rattle.al_msgpack.specs.Canonical.{IsCanonical}
use Rattle.al_record.specs.Columns.{FieldOf, IsRecord, table, entries, first_fault, rules_of}
use Rattle.al_record.specs.Kinds.{kind_fault, text_kind, number_kind}
use Rattle.al_record.specs.Laws.{IsShort}
use Rattle.al_bodies.specs.declared.body.Pay.{Pay}
use Rattle.al_bodies.specs.declared.body.AssetMove.{AssetMove}
use Rattle.al_bodies.specs.declared.effect.Inner.{Inner}
use Rattle.al_bodies.specs.declared.effect.Inner.TheVariants as inners_of
use Rattle.al_bodies.specs.declared.effect.Effect.{Effect}
use Rattle.al_bodies.specs.declared.effect.Effect.TheVariants as effects
use Rattle.al_bodies.specs.Effect.{Creation, whole_name, inner_txn, inner_pay, inner_axfer, inner_rules, inner_written, create, bare, with_state, set_local, put_box, remove_box, inner_effect, effect_rules, effect_written, effect}
use Rattle.al_bodies.specs.Ranges.{IsBetween, PayRanges, MoveRanges, InnerRanges, EffectRanges, IsState}
use Rattle.al_bodies.proofs.Ranged.{AllRanged, array_32, short_names, are_short, ranged_record, ranged_canonical}
use Rattle.al_bodies.proofs.SameEffect.{word, no, inner_named, effect_named}

word_ranged : (w : List ℕ) → short_names (w ∷ []) ≡ true → IsShort w
word_ranged w t = (are_short (w ∷ []) t).0

-- ---- inner transactions

pay_ranged : (depth : ℕ) (p : Pay) → PayRanges p → AllRanged depth inner_pay p
pay_ranged depth p b = (b.amount, (array_32 _ b.close, (array_32 _ b.receiver, (word_ranged (codes "pay") refl, tt))))

move_ranged : (depth : ℕ) (m : AssetMove) → MoveRanges m → AllRanged depth inner_axfer m
move_ranged depth m b = (b.amount, (array_32 _ b.close, (array_32 _ b.receiver, (array_32 _ b.source, (word_ranged (codes "axfer") refl, (b.asset, tt))))))

inner_as : {B : Type 0} (fs : List (FieldOf B)) (x : Inner) (y : B) → kind_fault (codes "type") inner_rules (inner_written x) (Ok (word x)) ≡ first_fault (rules_of fs) (entries fs y) → IsRecord (table fs) y (entries fs y) → inner_txn.fault (inner_written x) ≡ None
inner_as fs x y f r = ap (kind_fault (codes "type") inner_rules (inner_written x)) (inner_named x) ∙ f ∙ r.sound

inner_sound : (x : Inner) → InnerRanges x → inner_txn.fault (inner_written x) ≡ None
inner_sound (inners_of.Pay p) b = inner_as inner_pay (inners_of.Pay p) p refl (ranged_record 0 inner_pay p refl (pay_ranged 0 p b))
inner_sound (inners_of.Move m) b = inner_as inner_axfer (inners_of.Move m) m refl (ranged_record 0 inner_axfer m refl (move_ranged 0 m b))

pub inner_record : (x : Inner) → InnerRanges x → IsRecord inner_txn x (inner_txn.write x)
inner_record x b = record { fields = refl; sound = inner_sound x b }

pub inner_canonical : (depth : ℕ) (x : Inner) → InnerRanges x → IsCanonical (suc depth) (values.Map (inner_txn.write x))
inner_canonical depth (inners_of.Pay p) b = ranged_canonical depth inner_pay p refl refl refl (pay_ranged depth p b)
inner_canonical depth (inners_of.Move m) b = ranged_canonical depth inner_axfer m refl refl refl (move_ranged depth m b)

-- ---- effects

low : (n : ℕ) → n ≤ 64 → (n ≤ 64) × (n < 2 ^ 64)
low n le = (le, omega (arith, le))

few : (n : ℕ) → n ≤ 3 → (n ≤ 3) × (n < 2 ^ 64)
few n le = (le, omega (arith, le))

number_few : (n : ℕ) → n ≤ 9 → n < 2 ^ 64
number_few n le = omega (arith, le)

state_ranged : (b : List ℕ) → IsState b → IsShort b × (0 ≤ length b) × (length b ≤ 8192)
state_ranged b p = ((p.0, omega (arith, p.2)), p.1, p.2)

box_ranged : (b : List ℕ) → IsBetween 0 32768 b → IsShort b × (0 ≤ length b) × (length b ≤ 32768)
box_ranged b p = ((p.0, omega (arith, p.2)), p.1, p.2)

name_ranged : (b : List ℕ) → IsBetween 1 64 b → IsShort b × (1 ≤ length b) × (length b ≤ 64)
name_ranged b p = ((p.0, omega (arith, p.2)), p.1, p.2)

create_ranged : (depth : ℕ) (c : Creation) → c.uints ≤ 64 → c.slices ≤ 64 → c.local_uints ≤ 64 → c.local_slices ≤ 64 → c.pages ≤ 3 → IsState c.state → AllRanged depth create c
create_ranged depth c nu nb lu lb ep st = (number_few 1 (omega arith), (few _ ep, (low _ lb, (low _ lu, (low _ nb, (low _ nu, (state_ranged _ st, tt)))))))

with_state_ranged : (depth n : ℕ) (state : List ℕ) → n ≤ 9 → IsState state → AllRanged depth (with_state n) state
with_state_ranged depth n state le st = (number_few n le, (state_ranged state st, tt))

effect_as : {B : Type 0} (fs : List (FieldOf B)) (x : Effect) (y : B) → kind_fault (codes "e") effect_rules (effect_written x) (Ok (no x)) ≡ first_fault (rules_of fs) (entries fs y) → IsRecord (table fs) y (entries fs y) → effect.fault (effect_written x) ≡ None
effect_as fs x y f r = ap (kind_fault (codes "e") effect_rules (effect_written x)) (effect_named x) ∙ f ∙ r.sound

effect_sound : (x : Effect) → EffectRanges x → effect.fault (effect_written x) ≡ None
effect_sound (effects.Create a b c d e f) p = effect_as create (effects.Create a b c d e f) (record { uints = a; slices = b; local_uints = c; local_slices = d; pages = e; state = f }) refl (ranged_record 0 create (record { uints = a; slices = b; local_uints = c; local_slices = d; pages = e; state = f }) refl (create_ranged 0 (record { uints = a; slices = b; local_uints = c; local_slices = d; pages = e; state = f }) p.0 p.1 p.2 p.3 p.4 p.5))
effect_sound (effects.SetState s) p = effect_as (with_state 2) (effects.SetState s) s refl (ranged_record 0 (with_state 2) s refl (with_state_ranged 0 2 s (omega arith) p))
effect_sound effects.Remove p = effect_as (bare 3) effects.Remove tt refl (ranged_record 0 (bare 3) tt refl ((number_few 3 (omega arith), tt)))
effect_sound (effects.OptIn s) p = effect_as (with_state 4) (effects.OptIn s) s refl (ranged_record 0 (with_state 4) s refl (with_state_ranged 0 4 s (omega arith) p))
effect_sound (effects.SetLocal w s) p = effect_as set_local (effects.SetLocal w s) (w.0, s) refl (ranged_record 0 set_local (w.0, s) refl ((array_32 w.0 p.0, (number_few 5 (omega arith), (state_ranged s p.1, tt)))))
effect_sound effects.OptOut p = effect_as (bare 6) effects.OptOut tt refl (ranged_record 0 (bare 6) tt refl ((number_few 6 (omega arith), tt)))
effect_sound (effects.PutBox n v) p = effect_as put_box (effects.PutBox n v) (whole_name n, v) refl (ranged_record 0 put_box (whole_name n, v) refl ((number_few 7 (omega arith), (name_ranged (whole_name n) p.0, (box_ranged v p.1, tt)))))
effect_sound (effects.RemoveBox n) p = effect_as remove_box (effects.RemoveBox n) (whole_name n) refl (ranged_record 0 remove_box (whole_name n) refl ((number_few 8 (omega arith), (name_ranged (whole_name n) p, tt))))
effect_sound (effects.Inner t) p = effect_as inner_effect (effects.Inner t) t refl (ranged_record 1 inner_effect t refl ((number_few 9 (omega arith), ((inner_sound t p, inner_canonical 0 t p), tt))))

pub effect_record : (x : Effect) → EffectRanges x → IsRecord effect x (effect.write x)
effect_record x p = record { fields = refl; sound = effect_sound x p }

pub effect_canonical : (depth : ℕ) (x : Effect) → EffectRanges x → IsCanonical (suc (suc depth)) (values.Map (effect.write x))
effect_canonical depth (effects.Create a b c d e f) p = ranged_canonical (suc depth) create (record { uints = a; slices = b; local_uints = c; local_slices = d; pages = e; state = f }) refl refl refl (create_ranged (suc depth) (record { uints = a; slices = b; local_uints = c; local_slices = d; pages = e; state = f }) p.0 p.1 p.2 p.3 p.4 p.5)
effect_canonical depth (effects.SetState s) p = ranged_canonical (suc depth) (with_state 2) s refl refl refl (with_state_ranged (suc depth) 2 s (omega arith) p)
effect_canonical depth effects.Remove p = ranged_canonical (suc depth) (bare 3) tt refl refl refl ((number_few 3 (omega arith), tt))
effect_canonical depth (effects.OptIn s) p = ranged_canonical (suc depth) (with_state 4) s refl refl refl (with_state_ranged (suc depth) 4 s (omega arith) p)
effect_canonical depth (effects.SetLocal w s) p = ranged_canonical (suc depth) set_local (w.0, s) refl refl refl ((array_32 w.0 p.0, (number_few 5 (omega arith), (state_ranged s p.1, tt))))
effect_canonical depth effects.OptOut p = ranged_canonical (suc depth) (bare 6) tt refl refl refl ((number_few 6 (omega arith), tt))
effect_canonical depth (effects.PutBox n v) p = ranged_canonical (suc depth) put_box (whole_name n, v) refl refl refl ((number_few 7 (omega arith), (name_ranged (whole_name n) p.0, (box_ranged v p.1, tt))))
effect_canonical depth (effects.RemoveBox n) p = ranged_canonical (suc depth) remove_box (whole_name n) refl refl refl ((number_few 8 (omega arith), (name_ranged (whole_name n) p, tt)))
effect_canonical depth (effects.Inner t) p = ranged_canonical (suc depth) inner_effect t refl refl refl ((number_few 9 (omega arith), ((inner_sound t p, inner_canonical depth t p), tt)))
