-- Lists of records that determine their values.
use Rattle.std.proofs.Common.{◌≡◌, List, [], ◌∷◌, map, None, refl, sym, ap, ap₂, ◌∙◌}
use Rattle.std.specs.List.{AllByRecursion}
use Rattle.al_msgpack.specs.declared.val.Val.{Val, out-Val}
use Rattle.al_msgpack.specs.declared.val.Val.TheVariants as values
use Rattle.al_msgpack.specs.declared.val.Val.TheViews as views
use Rattle.al_msgpack.specs.declared.val.Entry.{Entry}
use Rattle.al_record.specs.Columns.{Format, IsRecord, member_open, members_fault, map_in}
use Rattle.al_record.proofs.Engine.{first_none}
use Rattle.al_record.proofs.Same.{Determined}

pub map_back : (es ds : List Entry) → values.Map es ≡ values.Map ds → es ≡ ds
map_back es ds e = ap map_in (sym (views.outs-Map es)) ∙ ap (λ (v : Val). map_in (out-Val v)) e ∙ ap map_in (views.outs-Map ds)

-- the members of a list of records
pub members_determined : {X : Type 0} (format : Format X) → Determined format → (xs ys : List X) (vs : List Val) → map (λ es. values.Map es) (map format.write xs) ≡ vs → map (λ es. values.Map es) (map format.write ys) ≡ vs → members_fault format.fault vs ≡ None → xs ≡ ys
members_determined format d [] [] vs p q n = refl
members_determined format d [] (y ∷ ys) vs p q n = let e = p ∙ sym q in absurd cc
members_determined format d (x ∷ xs) [] vs p q n = let e = p ∙ sym q in absurd cc
members_determined format d (x ∷ xs) (y ∷ ys) [] p q n = absurd cc
members_determined {X} format d (x ∷ xs) (y ∷ ys) (v ∷ vs) p q n =
    let k = first_none (member_open format.fault (out-Val v)) (members_fault format.fault vs) n in
    let px : values.Map (format.write x) ≡ v = cc in
    let py : values.Map (format.write y) ≡ v = cc in
    let same_es : format.write x ≡ format.write y = map_back _ _ (px ∙ sym py) in
    let f : format.fault (format.write x) ≡ None = ap (member_open format.fault) (sym (views.outs-Map (format.write x)) ∙ ap out-Val px) ∙ k.0 in
    let rx : IsRecord format x (format.write x) = record { fields = refl; sound = f } in
    let ry : IsRecord format y (format.write x) = record { fields = same_es; sound = f } in
    let more_x : map (λ es. values.Map es) (map format.write xs) ≡ vs = cc in
    let more_y : map (λ es. values.Map es) (map format.write ys) ≡ vs = cc in
    ap₂ (λ (z : X) (more : List X). z ∷ more) (d x y _ rx ry) (members_determined format d xs ys vs more_x more_y k.1)

-- a list of records with no fault is one of members with a record each
pub members_are : {X : Type 0} (format : Format X) (xs : List X) (vs : List Val) → map (λ es. values.Map es) (map format.write xs) ≡ vs → members_fault format.fault vs ≡ None → AllByRecursion (λ x. IsRecord format x (format.write x)) xs
members_are format [] vs p n = tt
members_are format (x ∷ xs) [] p n = absurd cc
members_are format (x ∷ xs) (v ∷ vs) p n =
    let k = first_none (member_open format.fault (out-Val v)) (members_fault format.fault vs) n in
    let first : values.Map (format.write x) ≡ v = cc in
    let rest : map (λ es. values.Map es) (map format.write xs) ≡ vs = cc in
    (record { fields = refl; sound = ap (member_open format.fault) (sym (views.outs-Map (format.write x)) ∙ ap out-Val first) ∙ k.0 }, members_are format xs vs rest k.1)
