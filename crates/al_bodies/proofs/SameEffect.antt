-- The record of an effect determines the effect.
use Rattle.std.proofs.Common.{◌≡◌, ℕ, Bool, true, false, nat_le, length, List, Option, None, Ok, codes, refl, sym, ap, ap₂, ◌∙◌}
use Rattle.std.proofs.lemmas.Bool.{and_parts}
use Rattle.al_msgpack.specs.declared.val.Val.{Val}
use Rattle.al_msgpack.specs.declared.val.Entry.{Entry}
use Rattle.al_base.specs.declared.address.Address.{Address}
use Rattle.al_base.specs.declared.name.BoxName.{BoxName}
use Rattle.al_record.specs.declared.shape.Shape.TheVariants as shapes
use Rattle.al_record.specs.Columns.{FieldOf, IsRecord, table, entries, map_of, list_of, bytes_of, value_at, in_range, unless_range, first_fault, members_fault, rules_of}
use Rattle.al_record.specs.Kinds.{kind_fault, text_kind, number_kind}
use Rattle.al_record.specs.Laws.{AllAgree}
use Rattle.al_record.proofs.Engine.{first_none}
use Rattle.al_record.proofs.Laws.{record_shows}
use Rattle.al_record.proofs.Same.{Determined}
use Rattle.al_bodies.specs.declared.body.Pay.{Pay}
use Rattle.al_bodies.specs.declared.body.AssetMove.{AssetMove}
use Rattle.al_bodies.specs.declared.effect.Inner.{Inner}
use Rattle.al_bodies.specs.declared.effect.Inner.TheVariants as inners_of
use Rattle.al_bodies.specs.declared.effect.Effect.{Effect}
use Rattle.al_bodies.specs.declared.effect.Effect.TheVariants as effects
use Rattle.al_bodies.specs.Effect.{whole_name, inner_txn, inner_pay, inner_axfer, inner_rules, inner_written, create, bare, with_state, set_local, put_box, remove_box, inner_effect, effect_rules, effect_written, effect}
use Rattle.al_bodies.proofs.Names.{names_same}
use Rattle.al_bodies.proofs.Same.{fields_agree, pay_whole, move_whole}
use Rattle.al_bodies.proofs.Written.{all_put, text_named, number_named, words_apart, numbers_apart}

-- ---- inner transactions

abbrev pub word : Inner → List ℕ
word (inners_of.Pay p) = codes "pay"
word (inners_of.Move m) = codes "axfer"

pub inner_named : (x : Inner) → text_kind (codes "type") (inner_written x) ≡ Ok (word x)
inner_named (inners_of.Pay p) = text_named (codes "type") (codes "pay") (entries inner_pay p) (all_put inner_pay p refl).1.1.1.0 refl
inner_named (inners_of.Move m) = text_named (codes "type") (codes "axfer") (entries inner_axfer m) (all_put inner_axfer m refl).1.1.1.1.0 refl

inner_kind : (x : Inner) (es : List Entry) → IsRecord inner_txn x es → text_kind (codes "type") es ≡ Ok (word x)
inner_kind x es r = ap (text_kind (codes "type")) r.fields ∙ inner_named x

of_inner : {B : Type 0} (fs : List (FieldOf B)) (x : Inner) (y : B) (es : List Entry) → inner_written x ≡ entries fs y → kind_fault (codes "type") inner_rules es (Ok (word x)) ≡ first_fault (rules_of fs) es → IsRecord inner_txn x es → IsRecord (table fs) y es
of_inner fs x y es w f r = record {
  fields = r.fields ∙ w;
  sound = sym (ap (kind_fault (codes "type") inner_rules es) (inner_kind x es r) ∙ f) ∙ r.sound;
}

pay_inner : (p q : Pay) → AllAgree inner_pay p q → p ≡ q
pay_inner p q a = let same : pay_whole p ≡ pay_whole q = cc in same

move_inner : (m n : AssetMove) → AllAgree inner_axfer m n → m ≡ n
move_inner m n a = let same : move_whole m ≡ move_whole n = cc in same

pub inner_determined : Determined inner_txn
inner_determined (inners_of.Pay p) (inners_of.Pay q) es r s =
    ap (λ (z : Pay). inners_of.Pay z) (pay_inner p q (fields_agree inner_pay p q es refl (of_inner inner_pay (inners_of.Pay p) p es refl refl r) (of_inner inner_pay (inners_of.Pay q) q es refl refl s)))
inner_determined (inners_of.Move m) (inners_of.Move n) es r s =
    ap (λ (z : AssetMove). inners_of.Move z) (move_inner m n (fields_agree inner_axfer m n es refl (of_inner inner_axfer (inners_of.Move m) m es refl refl r) (of_inner inner_axfer (inners_of.Move n) n es refl refl s)))
inner_determined x y es r s = absurd (words_apart (word x) (word y) refl (sym (inner_kind x es r) ∙ inner_kind y es s))

-- ---- effects

abbrev pub no : Effect → ℕ
no (effects.Create a b c d e f) = 1
no (effects.SetState s) = 2
no effects.Remove = 3
no (effects.OptIn s) = 4
no (effects.SetLocal w s) = 5
no effects.OptOut = 6
no (effects.PutBox n v) = 7
no (effects.RemoveBox n) = 8
no (effects.Inner t) = 9

pub effect_named : (x : Effect) → number_kind (codes "e") (effect_written x) ≡ Ok (no x)
effect_named (effects.Create a b c d e f) = number_named (codes "e") 1 (entries create (record { uints = a; slices = b; local_uints = c; local_slices = d; pages = e; state = f })) (all_put create (record { uints = a; slices = b; local_uints = c; local_slices = d; pages = e; state = f }) refl).0 refl
effect_named (effects.SetState s) = number_named (codes "e") 2 (entries (with_state 2) s) (all_put (with_state 2) s refl).0 refl
effect_named effects.Remove = number_named (codes "e") 3 (entries (bare 3) tt) (all_put (bare 3) tt refl).0 refl
effect_named (effects.OptIn s) = number_named (codes "e") 4 (entries (with_state 4) s) (all_put (with_state 4) s refl).0 refl
effect_named (effects.SetLocal w s) = number_named (codes "e") 5 (entries set_local (w.0, s)) (all_put set_local (w.0, s) refl).1.0 refl
effect_named effects.OptOut = number_named (codes "e") 6 (entries (bare 6) tt) (all_put (bare 6) tt refl).0 refl
effect_named (effects.PutBox n v) = number_named (codes "e") 7 (entries put_box (whole_name n, v)) (all_put put_box (whole_name n, v) refl).0 refl
effect_named (effects.RemoveBox n) = number_named (codes "e") 8 (entries remove_box (whole_name n)) (all_put remove_box (whole_name n) refl).0 refl
effect_named (effects.Inner t) = number_named (codes "e") 9 (entries inner_effect t) (all_put inner_effect t refl).0 refl

effect_kind : (x : Effect) (es : List Entry) → IsRecord effect x es → number_kind (codes "e") es ≡ Ok (no x)
effect_kind x es r = ap (number_kind (codes "e")) r.fields ∙ effect_named x

pub of_effect : {B : Type 0} (fs : List (FieldOf B)) (x : Effect) (y : B) (es : List Entry) → effect_written x ≡ entries fs y → kind_fault (codes "e") effect_rules es (Ok (no x)) ≡ first_fault (rules_of fs) es → IsRecord effect x es → IsRecord (table fs) y es
of_effect fs x y es w f r = record {
  fields = r.fields ∙ w;
  sound = sym (ap (kind_fault (codes "e") effect_rules es) (effect_kind x es r) ∙ f) ∙ r.sound;
}

-- the inner transaction in an effect's record
inner_of : (t : Inner) (es : List Entry) → IsRecord (table inner_effect) t es → IsRecord inner_txn t (map_of (value_at (codes "t") es))
inner_of t es r =
    let shown = record_shows inner_effect t es refl r in
    let ranges = first_none _ _ r.sound in
    record { fields = sym shown.1.0; sound = (first_none _ _ ranges.1).0 }

create_same : (a b c d e : ℕ) (f : List ℕ) (g h i j k : ℕ) (l : List ℕ) → AllAgree create (record { uints = a; slices = b; local_uints = c; local_slices = d; pages = e; state = f }) (record { uints = g; slices = h; local_uints = i; local_slices = j; pages = k; state = l }) → effects.Create a b c d e f ≡ effects.Create g h i j k l
create_same a b c d e f g h i j k l p = cc

local_same : (w x : Address) (s t : List ℕ) → AllAgree set_local (w.0, s) (x.0, t) → effects.SetLocal w s ≡ effects.SetLocal x t
local_same w x s t p =
    let key : w.0 ≡ x.0 = cc in
    let who : w ≡ x = ap (λ (b : List ℕ). record { 0 = b }) key in
    let state : s ≡ t = cc in
    ap₂ (λ (a : Address) (b : List ℕ). effects.SetLocal a b) who state

-- a name in a record is not empty
passes : (ok : Bool) (name : List ℕ) → unless_range ok name ≡ None → ok ≡ true
passes true name h = refl
passes false name h = absurd cc

not_empty : (n : BoxName) (o : Option Val) → whole_name n ≡ bytes_of o → unless_range (in_range (shapes.Bytes 1 64) o) (codes "n") ≡ None → nat_le 1 (length (whole_name n)) ≡ true
not_empty n o e h = rw e (and_parts _ _ (passes _ (codes "n") h)).0

put_named : (n : BoxName) (v : List ℕ) (es : List Entry) → IsRecord (table put_box) (whole_name n, v) es → nat_le 1 (length (whole_name n)) ≡ true
put_named n v es r =
    let shown = record_shows put_box (whole_name n, v) es refl r in
    let ranges = first_none _ _ (first_none _ _ r.sound).1 in
    not_empty n (value_at (codes "n") es) shown.1.0 ranges.0

remove_named : (n : BoxName) (es : List Entry) → IsRecord (table remove_box) (whole_name n) es → nat_le 1 (length (whole_name n)) ≡ true
remove_named n es r =
    let shown = record_shows remove_box (whole_name n) es refl r in
    let ranges = first_none _ _ (first_none _ _ r.sound).1 in
    not_empty n (value_at (codes "n") es) shown.1.0 ranges.0

put_same : (n m : BoxName) (v w : List ℕ) (es : List Entry) → IsRecord (table put_box) (whole_name n, v) es → IsRecord (table put_box) (whole_name m, w) es → effects.PutBox n v ≡ effects.PutBox m w
put_same n m v w es r s =
    let a = fields_agree put_box (whole_name n, v) (whole_name m, w) es refl r s in
    ap₂ (λ (x : BoxName) (y : List ℕ). effects.PutBox x y) (names_same n m (put_named n v es r) (put_named m w es s) a.1.0) a.1.1.0

remove_same : (n m : BoxName) (es : List Entry) → IsRecord (table remove_box) (whole_name n) es → IsRecord (table remove_box) (whole_name m) es → effects.RemoveBox n ≡ effects.RemoveBox m
remove_same n m es r s =
    let a = fields_agree remove_box (whole_name n) (whole_name m) es refl r s in
    ap (λ (x : BoxName). effects.RemoveBox x) (names_same n m (remove_named n es r) (remove_named m es s) a.1.0)

pub effect_determined : Determined effect
effect_determined (effects.Create a b c d e f) (effects.Create g h i j k l) es r s =
    create_same a b c d e f g h i j k l (fields_agree create _ _ es refl (of_effect create (effects.Create a b c d e f) _ es refl refl r) (of_effect create (effects.Create g h i j k l) _ es refl refl s))
effect_determined (effects.SetState a) (effects.SetState b) es r s =
    ap (λ (z : List ℕ). effects.SetState z) (fields_agree (with_state 2) a b es refl (of_effect (with_state 2) (effects.SetState a) a es refl refl r) (of_effect (with_state 2) (effects.SetState b) b es refl refl s)).1.0
effect_determined effects.Remove effects.Remove es r s = refl
effect_determined (effects.OptIn a) (effects.OptIn b) es r s =
    ap (λ (z : List ℕ). effects.OptIn z) (fields_agree (with_state 4) a b es refl (of_effect (with_state 4) (effects.OptIn a) a es refl refl r) (of_effect (with_state 4) (effects.OptIn b) b es refl refl s)).1.0
effect_determined (effects.SetLocal w a) (effects.SetLocal x b) es r s =
    local_same w x a b (fields_agree set_local (w.0, a) (x.0, b) es refl (of_effect set_local (effects.SetLocal w a) (w.0, a) es refl refl r) (of_effect set_local (effects.SetLocal x b) (x.0, b) es refl refl s))
effect_determined effects.OptOut effects.OptOut es r s = refl
effect_determined (effects.PutBox n v) (effects.PutBox m w) es r s =
    put_same n m v w es (of_effect put_box (effects.PutBox n v) (whole_name n, v) es refl refl r) (of_effect put_box (effects.PutBox m w) (whole_name m, w) es refl refl s)
effect_determined (effects.RemoveBox n) (effects.RemoveBox m) es r s =
    remove_same n m es (of_effect remove_box (effects.RemoveBox n) (whole_name n) es refl refl r) (of_effect remove_box (effects.RemoveBox m) (whole_name m) es refl refl s)
effect_determined (effects.Inner t) (effects.Inner u) es r s =
    ap (λ (z : Inner). effects.Inner z) (inner_determined t u _ (inner_of t es (of_effect inner_effect (effects.Inner t) t es refl refl r)) (inner_of u es (of_effect inner_effect (effects.Inner u) u es refl refl s)))
effect_determined x y es r s = absurd (numbers_apart (no x) (no y) refl (sym (effect_kind x es r) ∙ effect_kind y es s))
