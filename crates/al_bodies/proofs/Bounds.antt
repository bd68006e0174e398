-- What a record shows is within its table's bounds.
use Rattle.std.proofs.Common.{◌≡◌, ◌≤◌, ◌&&◌, ℕ, Bool, true, false, nat_le, leb-true, List, [], ◌∷◌, length, Option, None, refl, sym, subst}
use Rattle.std.proofs.lemmas.Bool.{and_parts}
use Rattle.al_msgpack.specs.declared.val.Val.{Val}
use Rattle.al_msgpack.specs.declared.val.Entry.{Entry}
use Rattle.al_msgpack.specs.Rising.{rises}
use Rattle.al_record.specs.Columns.{FieldOf, number, up_to, flag, text, bytes, array, addresses, inner, inners, rule, rules_of, heads, unless_range, number_of, bytes_of, value_at, range_fault, Shows, AllShown, table, IsRecord}
use Rattle.al_record.proofs.Engine.{first_none, names}
use Rattle.al_record.proofs.Laws.{record_shows}

-- a number is at most so much, and bytes are so many
abbrev pub Bounded : {X : Type 0} → FieldOf X → X → Type 0
Bounded (number name get) x = Unit {0}
Bounded (up_to name most get) x = get x ≤ most
Bounded (flag name get) x = Unit {0}
Bounded (text name get) x = Unit {0}
Bounded (bytes name least most get) x = (least ≤ length (get x)) × (length (get x) ≤ most)
Bounded (array name len get) x = Unit {0}
Bounded (addresses name most get) x = Unit {0}
Bounded (inner name fault get) x = Unit {0}
Bounded (inners name limit fault get) x = Unit {0}

abbrev pub AllBounded : {X : Type 0} → List (FieldOf X) → X → Type 0
AllBounded [] x = Unit {0}
AllBounded (f ∷ fs) x = Bounded f x × AllBounded fs x

passed : (ok : Bool) (name : List ℕ) → unless_range ok name ≡ None → ok ≡ true
passed true name h = refl
passed false name h = absurd cc

few_bytes : (least most : ℕ) (name : List ℕ) (b c : List ℕ) → b ≡ c → unless_range (nat_le least (length c) && nat_le (length c) most) name ≡ None → (least ≤ length b) × (length b ≤ most)
few_bytes least most name b c e h =
    let p = and_parts (nat_le least (length c)) (nat_le (length c) most) (passed _ name h) in
    subst (λ (d : List ℕ). (least ≤ length d) × (length d ≤ most)) (sym e) (leb-true least (length c) p.0, leb-true (length c) most p.1)

bounded : {X : Type 0} (f : FieldOf X) (x : X) (o : Option Val) → Shows f x o → (rule f).fault o ≡ None → Bounded f x
bounded (number name get) x o s h = tt
bounded (up_to name most get) x o s h = subst (λ n. n ≤ most) (sym s) (leb-true (number_of o) most (passed _ name h))
bounded (flag name get) x o s h = tt
bounded (text name get) x o s h = tt
bounded (bytes name least most get) x o s h = few_bytes least most name (get x) (bytes_of o) s h
bounded (array name len get) x o s h = tt
bounded (addresses name most get) x o s h = tt
bounded (inner name fault get) x o s h = tt
bounded (inners name limit fault get) x o s h = tt

all_bounded : {X : Type 0} (fs : List (FieldOf X)) (x : X) (es : List Entry) → AllShown fs x es → range_fault (rules_of fs) es ≡ None → AllBounded fs x
all_bounded [] x es s h = tt
all_bounded (f ∷ fs) x es s h =
    let k = first_none ((rule f).fault (value_at (rule f).name es)) (range_fault (rules_of fs) es) h in
    (bounded f x (value_at (rule f).name es) s.0 k.0, all_bounded fs x es s.1 k.1)

-- a record is within the bounds of its table
pub record_bounded : {X : Type 0} (fs : List (FieldOf X)) (x : X) (es : List Entry) → rises (names (heads (rules_of fs))) ≡ true → IsRecord (table fs) x es → AllBounded fs x
record_bounded fs x es r is = all_bounded fs x es (record_shows fs x es r is) (first_none _ (range_fault (rules_of fs) es) is.sound).1
