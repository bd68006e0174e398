-- The parts of asset and application rows, as their records show them.
use Rattle.std.proofs.Common.{◌≡◌, ℕ, Bool, true, false, not, is_some, List, [], ◌∷◌, Option, Some, None, Ok, codes, refl, sym, ap, ap₂, ◌∙◌}
use Rattle.std.specs.List.{list_all}
use Rattle.std.specs.Str.{bytes_eq}
use Rattle.std.proofs.lemmas.Bool.{and_parts, not-true}
use Rattle.al_base.specs.declared.asset.AssetParams.{AssetParams}
use Rattle.al_msgpack.specs.declared.val.Val.{Val}
use Rattle.al_msgpack.specs.declared.val.Val.TheVariants as values
use Rattle.al_msgpack.specs.declared.val.Val.TheViews as views
use Rattle.al_msgpack.specs.declared.val.Entry.{Entry}
use Rattle.al_msgpack.specs.Rising.{rises}
use Rattle.al_record.specs.Columns.{FieldOf, IsRecord, AllShown, rule, put, entries, first_fault, heads, number_of, rules_of, table, value_at, with_entry}
use Rattle.al_record.specs.Kinds.{kind_fault, number_kind}
use Rattle.al_record.proofs.Engine.{names}
use Rattle.al_bodies.specs.Bodies.{params_fields}
use Rattle.al_bodies.proofs.Written.{all_put, number_named}
use Rattle.al_rows.specs.declared.row.Holding.{Holding}
use Rattle.al_rows.specs.declared.row.AssetRow.{AssetRow}
use Rattle.al_rows.specs.declared.row.AppParams.{AppParams}
use Rattle.al_rows.specs.declared.row.Local.{Local}
use Rattle.al_rows.specs.declared.row.AppRow.{AppRow}
use Rattle.al_row_records.specs.Parts.{ShowsPart}
use Rattle.al_row_records.specs.Tables.{is_there, asset, asset_fields, asset_rules, holding_fields, app, app_fields, app_rules, app_params_fields, local_fields, resource_fault, resource_rules}

-- a part that is shown is there exactly where it is said to be
pub part_there : {X : Type 0} (fs : List (FieldOf X)) (there : Bool) (o : Option X) (es : List Entry) → ShowsPart fs there o es → is_some o ≡ there
part_there fs false None es h = refl
part_there fs false (Some x) es h = absurd h
part_there fs true None es h = absurd h
part_there fs true (Some x) es h = refl

-- ---- names that stand in no table

skip : (name k : List ℕ) (o : Option Val) (rest : List Entry) → bytes_eq name k ≡ false → value_at name (with_entry k o rest) ≡ value_at name rest
skip name k None rest h = refl
skip name k (Some v) rest h = rw h refl

unlisted : {X : Type 0} (fs : List (FieldOf X)) (x : X) (name : List ℕ) → list_all (λ f. not (bytes_eq name (rule f).name)) fs ≡ true → value_at name (entries fs x) ≡ None
unlisted [] x name h = refl
unlisted (f ∷ fs) x name h =
    let p = and_parts _ _ h in
    skip name (rule f).name (put f x) (entries fs x) (not-true (bytes_eq name (rule f).name) p.0) ∙ unlisted fs x name p.1

flag_there : (name : List ℕ) (es : List Entry) → value_at name es ≡ Some (values.Flag true) → is_there name es ≡ true
flag_there name es h = rw (h, views.outs-Flag true) refl

flag_absent : (name : List ℕ) (es : List Entry) → value_at name es ≡ None → is_there name es ≡ false
flag_absent name es h = rw h refl

-- ---- assets

abbrev pub asset_row : Option AssetParams → Option Holding → AssetRow
asset_row p o = record { params = p; holding = o }

-- the flag of a part stands exactly where the part is there
pub held_is : (p : Option AssetParams) (o : Option Holding) → is_there (codes "h") (asset.write (asset_row p o)) ≡ is_some o
held_is None None = flag_absent (codes "h") (asset.write (asset_row None None)) (unlisted (asset_fields false false) (asset_row None None) (codes "h") refl)
held_is None (Some o) = flag_there (codes "h") (asset.write (asset_row None (Some o))) (all_put (asset_fields true false) (asset_row None (Some o)) refl).1.0
held_is (Some p) None = flag_absent (codes "h") (asset.write (asset_row (Some p) None)) (unlisted (asset_fields false true) (asset_row (Some p) None) (codes "h") refl)
held_is (Some p) (Some o) = flag_there (codes "h") (asset.write (asset_row (Some p) (Some o))) (all_put (asset_fields true true) (asset_row (Some p) (Some o)) refl).1.1.1.1.1.1.1.1.0

pub asset_given : (p : Option AssetParams) (o : Option Holding) → is_there (codes "p") (asset.write (asset_row p o)) ≡ is_some p
asset_given None None = flag_absent (codes "p") (asset.write (asset_row None None)) (unlisted (asset_fields false false) (asset_row None None) (codes "p") refl)
asset_given None (Some o) = flag_absent (codes "p") (asset.write (asset_row None (Some o))) (unlisted (asset_fields true false) (asset_row None (Some o)) (codes "p") refl)
asset_given (Some p) None = flag_there (codes "p") (asset.write (asset_row (Some p) None)) (all_put (asset_fields false true) (asset_row (Some p) None) refl).1.1.1.1.1.1.1.1.0
asset_given (Some p) (Some o) = flag_there (codes "p") (asset.write (asset_row (Some p) (Some o))) (all_put (asset_fields true true) (asset_row (Some p) (Some o)) refl).1.1.1.1.1.1.1.1.1.1.0

pub asset_named : (p : Option AssetParams) (o : Option Holding) → number_kind (codes "x") (asset.write (asset_row p o)) ≡ Ok 1
asset_named None None = number_named (codes "x") 1 (asset.write (asset_row None None)) (all_put (asset_fields false false) (asset_row None None) refl).0 refl
asset_named None (Some o) = number_named (codes "x") 1 (asset.write (asset_row None (Some o))) (all_put (asset_fields true false) (asset_row None (Some o)) refl).1.1.0 refl
asset_named (Some p) None = number_named (codes "x") 1 (asset.write (asset_row (Some p) None)) (all_put (asset_fields false true) (asset_row (Some p) None) refl).1.1.1.1.1.1.1.1.1.1.1.1.0 refl
asset_named (Some p) (Some o) = number_named (codes "x") 1 (asset.write (asset_row (Some p) (Some o))) (all_put (asset_fields true true) (asset_row (Some p) (Some o)) refl).1.1.1.1.1.1.1.1.1.1.1.1.1.1.0 refl

-- the fault of this kind, for the parts that are there
pub asset_fault : (es : List Entry) (o g : Bool) → number_kind (codes "x") es ≡ Ok 1 → is_there (codes "h") es ≡ o → is_there (codes "p") es ≡ g → resource_fault es ≡ first_fault (rules_of (asset_fields o g)) es
asset_fault es o g k eo eg =
    let kinds : resource_fault es ≡ first_fault (asset_rules es) es = ap (kind_fault (codes "x") (resource_rules es) es) k in
    kinds ∙ ap₂ (λ (a b : Bool). first_fault (rules_of (asset_fields a b)) es) eo eg

pub asset_rises : (o g : Bool) → rises (names (heads (rules_of (asset_fields o g)))) ≡ true
asset_rises false false = refl
asset_rises true false = refl
asset_rises false true = refl
asset_rises true true = refl

pub asset_table : (p : Option AssetParams) (o : Option Holding) (es : List Entry) → IsRecord asset (asset_row p o) es → IsRecord (table (asset_fields (is_some o) (is_some p))) (asset_row p o) es
asset_table p o es r =
    let k = ap (number_kind (codes "x")) r.fields ∙ asset_named p o in
    let eo = ap (is_there (codes "h")) r.fields ∙ held_is p o in
    let eg = ap (is_there (codes "p")) r.fields ∙ asset_given p o in
    record { fields = r.fields; sound = sym (asset_fault es (is_some o) (is_some p) k eo eg) ∙ r.sound }

-- the parts that a record shows
pub held_shown : (p : Option AssetParams) (o : Option Holding) (es : List Entry) → AllShown (asset_fields (is_some o) (is_some p)) (asset_row p o) es → ShowsPart holding_fields (is_some o) o es
held_shown None None es s = tt
held_shown None (Some o) es s = (s.0, (s.1.1.1.0, tt))
held_shown (Some p) None es s = tt
held_shown (Some p) (Some o) es s = (s.0, (s.1.1.1.1.1.1.1.1.1.1.1.1.1.1.1.0, tt))

pub asset_params_shown : (p : Option AssetParams) (o : Option Holding) (es : List Entry) → AllShown (asset_fields (is_some o) (is_some p)) (asset_row p o) es → ShowsPart params_fields (is_some p) p es
asset_params_shown None None es s = tt
asset_params_shown None (Some o) es s = tt
asset_params_shown (Some p) None es s = (s.0, (s.1.0, (s.1.1.0, (s.1.1.1.0, (s.1.1.1.1.0, (s.1.1.1.1.1.0, (s.1.1.1.1.1.1.0, (s.1.1.1.1.1.1.1.0, (s.1.1.1.1.1.1.1.1.1.0, (s.1.1.1.1.1.1.1.1.1.1.0, (s.1.1.1.1.1.1.1.1.1.1.1.0, tt)))))))))))
asset_params_shown (Some p) (Some o) es s = (s.1.0, (s.1.1.0, (s.1.1.1.0, (s.1.1.1.1.0, (s.1.1.1.1.1.0, (s.1.1.1.1.1.1.0, (s.1.1.1.1.1.1.1.0, (s.1.1.1.1.1.1.1.1.1.0, (s.1.1.1.1.1.1.1.1.1.1.1.0, (s.1.1.1.1.1.1.1.1.1.1.1.1.0, (s.1.1.1.1.1.1.1.1.1.1.1.1.1.0, tt)))))))))))

-- and back
pub asset_shown : (p : Option AssetParams) (o : Option Holding) (es : List Entry) (b g : Bool) → b ≡ is_there (codes "h") es → g ≡ is_there (codes "p") es → 1 ≡ number_of (value_at (codes "x") es) → ShowsPart holding_fields b o es → ShowsPart params_fields g p es → AllShown (asset_fields b g) (asset_row p o) es
asset_shown None None es false false eb eg x h k = (x, tt)
asset_shown None (Some o) es true false eb eg x h k = (h.0, (eb, (x, (h.1.0, tt))))
asset_shown (Some p) None es false true eb eg x h k = (k.0, (k.1.0, (k.1.1.0, (k.1.1.1.0, (k.1.1.1.1.0, (k.1.1.1.1.1.0, (k.1.1.1.1.1.1.0, (k.1.1.1.1.1.1.1.0, (eg, (k.1.1.1.1.1.1.1.1.0, (k.1.1.1.1.1.1.1.1.1.0, (k.1.1.1.1.1.1.1.1.1.1.0, (x, tt)))))))))))))
asset_shown (Some p) (Some o) es true true eb eg x h k = (h.0, (k.0, (k.1.0, (k.1.1.0, (k.1.1.1.0, (k.1.1.1.1.0, (k.1.1.1.1.1.0, (k.1.1.1.1.1.1.0, (eb, (k.1.1.1.1.1.1.1.0, (eg, (k.1.1.1.1.1.1.1.1.0, (k.1.1.1.1.1.1.1.1.1.0, (k.1.1.1.1.1.1.1.1.1.1.0, (x, (h.1.0, tt))))))))))))))))
asset_shown None (Some o) es false false eb eg x h k = absurd h
asset_shown (Some p) None es false false eb eg x h k = absurd k
asset_shown (Some p) (Some o) es false false eb eg x h k = absurd h
asset_shown None None es false true eb eg x h k = absurd k
asset_shown None (Some o) es false true eb eg x h k = absurd h
asset_shown (Some p) (Some o) es false true eb eg x h k = absurd h
asset_shown None None es true false eb eg x h k = absurd h
asset_shown (Some p) None es true false eb eg x h k = absurd h
asset_shown (Some p) (Some o) es true false eb eg x h k = absurd k
asset_shown None None es true true eb eg x h k = absurd h
asset_shown None (Some o) es true true eb eg x h k = absurd k
asset_shown (Some p) None es true true eb eg x h k = absurd h

pub asset_back : (p : Option AssetParams) (o : Option Holding) (es : List Entry) (b g : Bool) → number_kind (codes "x") es ≡ Ok 1 → is_there (codes "h") es ≡ b → is_there (codes "p") es ≡ g → is_some o ≡ b → is_some p ≡ g → IsRecord (table (asset_fields b g)) (asset_row p o) es → IsRecord asset (asset_row p o) es
asset_back p o es b g k eb eg ob pg r = record {
  fields = r.fields ∙ ap₂ (λ (c d : Bool). entries (asset_fields c d) (asset_row p o)) (sym ob) (sym pg);
  sound = asset_fault es b g k eb eg ∙ r.sound;
}

-- ---- applications

abbrev pub app_row : Option AppParams → Option Local → AppRow
app_row p o = record { params = p; local = o }

-- the flag of a part stands exactly where the part is there
pub opted_is : (p : Option AppParams) (o : Option Local) → is_there (codes "l") (app.write (app_row p o)) ≡ is_some o
opted_is None None = flag_absent (codes "l") (app.write (app_row None None)) (unlisted (app_fields false false) (app_row None None) (codes "l") refl)
opted_is None (Some o) = flag_there (codes "l") (app.write (app_row None (Some o))) (all_put (app_fields true false) (app_row None (Some o)) refl).0
opted_is (Some p) None = flag_absent (codes "l") (app.write (app_row (Some p) None)) (unlisted (app_fields false true) (app_row (Some p) None) (codes "l") refl)
opted_is (Some p) (Some o) = flag_there (codes "l") (app.write (app_row (Some p) (Some o))) (all_put (app_fields true true) (app_row (Some p) (Some o)) refl).1.1.1.0

pub app_given : (p : Option AppParams) (o : Option Local) → is_there (codes "p") (app.write (app_row p o)) ≡ is_some p
app_given None None = flag_absent (codes "p") (app.write (app_row None None)) (unlisted (app_fields false false) (app_row None None) (codes "p") refl)
app_given None (Some o) = flag_absent (codes "p") (app.write (app_row None (Some o))) (unlisted (app_fields true false) (app_row None (Some o)) (codes "p") refl)
app_given (Some p) None = flag_there (codes "p") (app.write (app_row (Some p) None)) (all_put (app_fields false true) (app_row (Some p) None) refl).1.1.1.1.1.0
app_given (Some p) (Some o) = flag_there (codes "p") (app.write (app_row (Some p) (Some o))) (all_put (app_fields true true) (app_row (Some p) (Some o)) refl).1.1.1.1.1.1.1.1.1.0

pub app_named : (p : Option AppParams) (o : Option Local) → number_kind (codes "x") (app.write (app_row p o)) ≡ Ok 2
app_named None None = number_named (codes "x") 2 (app.write (app_row None None)) (all_put (app_fields false false) (app_row None None) refl).0 refl
app_named None (Some o) = number_named (codes "x") 2 (app.write (app_row None (Some o))) (all_put (app_fields true false) (app_row None (Some o)) refl).1.1.1.1.0 refl
app_named (Some p) None = number_named (codes "x") 2 (app.write (app_row (Some p) None)) (all_put (app_fields false true) (app_row (Some p) None) refl).1.1.1.1.1.1.1.0 refl
app_named (Some p) (Some o) = number_named (codes "x") 2 (app.write (app_row (Some p) (Some o))) (all_put (app_fields true true) (app_row (Some p) (Some o)) refl).1.1.1.1.1.1.1.1.1.1.1.0 refl

-- the fault of this kind, for the parts that are there
pub app_fault : (es : List Entry) (o g : Bool) → number_kind (codes "x") es ≡ Ok 2 → is_there (codes "l") es ≡ o → is_there (codes "p") es ≡ g → resource_fault es ≡ first_fault (rules_of (app_fields o g)) es
app_fault es o g k eo eg =
    let kinds : resource_fault es ≡ first_fault (app_rules es) es = ap (kind_fault (codes "x") (resource_rules es) es) k in
    kinds ∙ ap₂ (λ (a b : Bool). first_fault (rules_of (app_fields a b)) es) eo eg

pub app_rises : (o g : Bool) → rises (names (heads (rules_of (app_fields o g)))) ≡ true
app_rises false false = refl
app_rises true false = refl
app_rises false true = refl
app_rises true true = refl

pub app_table : (p : Option AppParams) (o : Option Local) (es : List Entry) → IsRecord app (app_row p o) es → IsRecord (table (app_fields (is_some o) (is_some p))) (app_row p o) es
app_table p o es r =
    let k = ap (number_kind (codes "x")) r.fields ∙ app_named p o in
    let eo = ap (is_there (codes "l")) r.fields ∙ opted_is p o in
    let eg = ap (is_there (codes "p")) r.fields ∙ app_given p o in
    record { fields = r.fields; sound = sym (app_fault es (is_some o) (is_some p) k eo eg) ∙ r.sound }

-- the parts that a record shows
pub opted_shown : (p : Option AppParams) (o : Option Local) (es : List Entry) → AllShown (app_fields (is_some o) (is_some p)) (app_row p o) es → ShowsPart local_fields (is_some o) o es
opted_shown None None es s = tt
opted_shown None (Some o) es s = (s.1.1.1.0, (s.1.0, (s.1.1.0, tt)))
opted_shown (Some p) None es s = tt
opted_shown (Some p) (Some o) es s = (s.1.1.1.1.1.1.1.1.0, (s.1.1.1.1.1.1.0, (s.1.1.1.1.1.1.1.0, tt)))

pub app_params_shown : (p : Option AppParams) (o : Option Local) (es : List Entry) → AllShown (app_fields (is_some o) (is_some p)) (app_row p o) es → ShowsPart app_params_fields (is_some p) p es
app_params_shown None None es s = tt
app_params_shown None (Some o) es s = tt
app_params_shown (Some p) None es s = (s.1.1.0, (s.1.0, (s.1.1.1.1.0, (s.1.1.1.0, (s.0, (s.1.1.1.1.1.1.0, tt))))))
app_params_shown (Some p) (Some o) es s = (s.1.1.0, (s.1.0, (s.1.1.1.1.1.0, (s.1.1.1.1.0, (s.0, (s.1.1.1.1.1.1.1.1.1.1.0, tt))))))

-- and back
pub app_shown : (p : Option AppParams) (o : Option Local) (es : List Entry) (b g : Bool) → b ≡ is_there (codes "l") es → g ≡ is_there (codes "p") es → 2 ≡ number_of (value_at (codes "x") es) → ShowsPart local_fields b o es → ShowsPart app_params_fields g p es → AllShown (app_fields b g) (app_row p o) es
app_shown None None es false false eb eg x h k = (x, tt)
app_shown None (Some o) es true false eb eg x h k = (eb, (h.1.0, (h.1.1.0, (h.0, (x, tt)))))
app_shown (Some p) None es false true eb eg x h k = (k.1.1.1.1.0, (k.1.0, (k.0, (k.1.1.1.0, (k.1.1.0, (eg, (k.1.1.1.1.1.0, (x, tt))))))))
app_shown (Some p) (Some o) es true true eb eg x h k = (k.1.1.1.1.0, (k.1.0, (k.0, (eb, (k.1.1.1.0, (k.1.1.0, (h.1.0, (h.1.1.0, (h.0, (eg, (k.1.1.1.1.1.0, (x, tt))))))))))))
app_shown None (Some o) es false false eb eg x h k = absurd h
app_shown (Some p) None es false false eb eg x h k = absurd k
app_shown (Some p) (Some o) es false false eb eg x h k = absurd h
app_shown None None es false true eb eg x h k = absurd k
app_shown None (Some o) es false true eb eg x h k = absurd h
app_shown (Some p) (Some o) es false true eb eg x h k = absurd h
app_shown None None es true false eb eg x h k = absurd h
app_shown (Some p) None es true false eb eg x h k = absurd h
app_shown (Some p) (Some o) es true false eb eg x h k = absurd k
app_shown None None es true true eb eg x h k = absurd h
app_shown None (Some o) es true true eb eg x h k = absurd k
app_shown (Some p) None es true true eb eg x h k = absurd h

pub app_back : (p : Option AppParams) (o : Option Local) (es : List Entry) (b g : Bool) → number_kind (codes "x") es ≡ Ok 2 → is_there (codes "l") es ≡ b → is_there (codes "p") es ≡ g → is_some o ≡ b → is_some p ≡ g → IsRecord (table (app_fields b g)) (app_row p o) es → IsRecord app (app_row p o) es
app_back p o es b g k eb eg ob pg r = record {
  fields = r.fields ∙ ap₂ (λ (c d : Bool). entries (app_fields c d) (app_row p o)) (sym ob) (sym pg);
  sound = app_fault es b g k eb eg ∙ r.sound;
}
