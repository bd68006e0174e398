-- Values in their ranges have records, which have spellings: field by field.
use Rattle.std.proofs.Common.{◌≡◌, ◌==◌, ◌<◌, ◌≤◌, ◌^◌, ◌&&◌, ◌||◌, ℕ, zero, suc, Bool, true, false, nat_le, List, [], ◌∷◌, length, map, Option, Some, None, refl, sym, ap, ap₂, ◌∙◌, subst, arith, eq-eqb, is_none, inl, inr}
use Rattle.std.specs.List.{AllByRecursion, list_all}
use Rattle.std.proofs.lemmas.Bool.{and_from, and_parts, le-leb, leb-true}
use Rattle.al_msgpack.specs.declared.val.Val.{Val, out-Val}
use Rattle.al_msgpack.specs.declared.val.Val.TheVariants as values
use Rattle.al_msgpack.specs.declared.val.Val.TheViews as views
use Rattle.al_msgpack.specs.declared.val.Entry.{Entry}
use Rattle.al_msgpack.specs.Rising.{rises}
use Rattle.al_msgpack.specs.Grammar.{AreBytes}
use Rattle.al_msgpack.specs.Canonical as canon
use Rattle.al_msgpack.specs.Canonical.{IsPlain, AreEntries, IsCanonical}
use Rattle.al_record.specs.declared.fault.Fault.{Fault}
use Rattle.al_record.specs.declared.shape.Shape.TheVariants as shapes
use Rattle.al_record.specs.Columns.{FieldOf, number, up_to, flag, text, bytes, array, addresses, inner, inners, Format, rule, rules_of, heads, put, in_range, unless, unless_range, number_of, bytes_of, list_of, map_of, bytes_put, list_put, map_put, array_in, is_address, address_in, are_addresses, no_doubles, list_in, map_in, first_of, limit_fault, member_open, members_fault, table, entries, IsRecord}
use Rattle.al_record.specs.Laws.{names_of, InRange, IsShort, IsSpellable, AllSpellable}
use Rattle.al_record.proofs.Order.{rising}
use Rattle.al_record.proofs.Sound.{has_record}
use Rattle.al_record.proofs.Tables.{names_are, entries_are, count_bound, written_canonical}
use Rattle.al_bodies.specs.Ranges.{IsArray, IsBetween}

-- a field's value is in its range, and has a spelling with containers at most so deep
abbrev pub Ranged : {X : Type 0} → ℕ → FieldOf X → X → Type 0
Ranged depth (number name get) x = get x < 2 ^ 64
Ranged depth (up_to name most get) x = (get x ≤ most) × (get x < 2 ^ 64)
Ranged depth (flag name get) x = Unit {0}
Ranged depth (text name get) x = IsShort (get x)
Ranged depth (bytes name least most get) x = IsShort (get x) × (least ≤ length (get x)) × (length (get x) ≤ most)
Ranged depth (array name len get) x = IsShort (get x) × (length (get x) ≡ len)
Ranged depth (addresses name most get) x = ((length (get x) ≤ most) × AllByRecursion (IsArray 32) (get x) × (no_doubles (get x) ≡ true)) × IsCanonical depth (values.List (map (λ a. values.Bin a) (get x)))
Ranged depth (inner name fault get) x = (fault (get x) ≡ None) × IsCanonical depth (values.Map (get x))
Ranged depth (inners name limit fault get) x = (limit_fault limit name (length (get x)) ≡ None) × (members_fault fault (map (λ es. values.Map es) (get x)) ≡ None) × IsCanonical depth (values.List (map (λ es. values.Map es) (get x)))

abbrev pub AllRanged : {X : Type 0} → ℕ → List (FieldOf X) → X → Type 0
AllRanged depth [] x = Unit {0}
AllRanged depth (f ∷ fs) x = Ranged depth f x × AllRanged depth fs x

-- ---- in range

passes : (b : Bool) (name : List ℕ) → b ≡ true → unless_range b name ≡ None
passes b name h = rw h refl

number_ok : (zero : Bool) (n most : ℕ) → n ≤ most → nat_le (number_of (unless zero (values.Num n))) most ≡ true
number_ok true n most le = le-leb 0 most (omega arith)
number_ok false n most le = rw (views.outs-Num n) (le-leb n most le)

bytes_ok : (b : List ℕ) (least most : ℕ) → least ≤ length b → length b ≤ most → in_range (shapes.Bytes least most) (bytes_put b) ≡ true
bytes_ok [] least most l m = and_from _ _ (le-leb least 0 l) (le-leb 0 most m)
bytes_ok (x ∷ b) least most l m = rw (views.outs-Bin (x ∷ b)) (and_from _ _ (le-leb least _ l) (le-leb _ most m))

array_ok : (zero : Bool) (b : List ℕ) (n : ℕ) → length b ≡ n → in_range (shapes.Array n) (unless zero (values.Bin b)) ≡ true
array_ok true b n e = refl
array_ok false b n e = rw (views.outs-Bin b) (eq-eqb (length b) n e)

list_again : (vs : List Val) → list_of (list_put vs) ≡ vs
list_again [] = refl
list_again (v ∷ vs) = ap list_in (views.outs-List (v ∷ vs))

pub map_again : (es : List Entry) → map_of (map_put es) ≡ es
map_again [] = refl
map_again (e ∷ es) = ap map_in (views.outs-Map (e ∷ es))

abbrev bins : List (List ℕ) → List Val
bins xs = map (λ a. values.Bin a) xs

bins_are : (xs : List (List ℕ)) → AllByRecursion (IsArray 32) xs → list_all is_address (bins xs) ≡ true
bins_are [] h = refl
bins_are (a ∷ xs) h = and_from (is_address (values.Bin a)) _ (rw (views.outs-Bin a) (eq-eqb (length a) 32 h.0.1)) (bins_are xs h.1)

address_again : (a : List ℕ) → length a ≡ 32 → address_in (values.Bin a) ≡ a
address_again a e = let t : (length a == 32) ≡ true = eq-eqb (length a) 32 e in rw (views.outs-Bin a, t) refl

bins_again : (xs : List (List ℕ)) → AllByRecursion (IsArray 32) xs → map address_in (bins xs) ≡ xs
bins_again [] h = refl
bins_again (a ∷ xs) h = ap₂ (λ (y : List ℕ) (ys : List (List ℕ)). y ∷ ys) (address_again a h.0.1) (bins_again xs h.1)

pub count_same : {A B : Type 0} (f : A → B) (xs : List A) → length (map f xs) ≡ length xs
count_same f [] = refl
count_same f (x ∷ xs) = ap (λ (n : ℕ). suc n) (count_same f xs)

addresses_ok : (most : ℕ) (xs : List (List ℕ)) → length xs ≤ most → AllByRecursion (IsArray 32) xs → no_doubles xs ≡ true → are_addresses most (list_of (list_put (bins xs))) ≡ true
addresses_ok most xs le all apart =
    let few : nat_le (length (bins xs)) most ≡ true = ap (λ (n : ℕ). nat_le n most) (count_same _ xs) ∙ le-leb (length xs) most le in
    let once : no_doubles (map address_in (bins xs)) ≡ true = ap no_doubles (bins_again xs all) ∙ apart in
    ap (are_addresses most) (list_again (bins xs)) ∙ and_from _ _ few (and_from _ _ (bins_are xs all) once)

none_first : (f g : Option Fault) → f ≡ None → g ≡ None → first_of f g ≡ None
none_first f g p q = rw (p, q) refl

inners_ok : (limit : Option ℕ) (name : List ℕ) (fault : List Entry → Option Fault) (xs : List (List Entry)) → limit_fault limit name (length xs) ≡ None → members_fault fault (map (λ es. values.Map es) xs) ≡ None → first_of (limit_fault limit name (length (list_of (list_put (map (λ es. values.Map es) xs))))) (members_fault fault (list_of (list_put (map (λ es. values.Map es) xs)))) ≡ None
inners_ok limit name fault xs l m =
    let again = list_again (map (λ es. values.Map es) xs) in
    none_first _ _ (ap (λ (vs : List Val). limit_fault limit name (length vs)) again ∙ ap (limit_fault limit name) (count_same _ xs) ∙ l) (ap (members_fault fault) again ∙ m)

in_range_of : {X : Type 0} (depth : ℕ) (f : FieldOf X) (x : X) → Ranged depth f x → (rule f).fault (put f x) ≡ None
in_range_of depth (number name get) x p = refl
in_range_of depth (up_to name most get) x p = passes _ name (number_ok _ (get x) most p.0)
in_range_of depth (flag name get) x p = refl
in_range_of depth (text name get) x p = refl
in_range_of depth (bytes name least most get) x p = passes _ name (bytes_ok (get x) least most p.1 p.2)
in_range_of depth (array name len get) x p = passes _ name (array_ok _ (get x) len p.1)
in_range_of depth (addresses name most get) x p = passes _ name (addresses_ok most (get x) p.0.0 p.0.1 p.0.2)
in_range_of depth (inner name fault get) x p = ap fault (map_again (get x)) ∙ p.0
in_range_of depth (inners name limit fault get) x p = inners_ok limit name fault (get x) p.0 p.1

all_in_range : {X : Type 0} (depth : ℕ) (fs : List (FieldOf X)) (x : X) → AllRanged depth fs x → InRange fs x
all_in_range depth [] x p = tt
all_in_range depth (f ∷ fs) x p = (in_range_of depth f x p.0, all_in_range depth fs x p.1)

-- ---- with a spelling

spellable_of : {X : Type 0} (depth : ℕ) (f : FieldOf X) (x : X) → Ranged depth f x → IsSpellable depth f x
spellable_of depth (number name get) x p = p
spellable_of depth (up_to name most get) x p = p.1
spellable_of depth (flag name get) x p = tt
spellable_of depth (text name get) x p = p
spellable_of depth (bytes name least most get) x p = p.0
spellable_of depth (array name len get) x p = p.0
spellable_of depth (addresses name most get) x p = p.1
spellable_of depth (inner name fault get) x p = p.1
spellable_of depth (inners name limit fault get) x p = p.2

all_spellable : {X : Type 0} (depth : ℕ) (fs : List (FieldOf X)) (x : X) → AllRanged depth fs x → AllSpellable depth fs x
all_spellable depth [] x p = tt
all_spellable depth (f ∷ fs) x p = (spellable_of depth f x p.0, all_spellable depth fs x p.1)

-- ---- names that are short, as a test

abbrev short_name : List ℕ → Bool
short_name name = list_all (λ b. nat_le b 255) name && nat_le (length name) 255

abbrev pub short_names : List (List ℕ) → Bool
short_names ns = list_all short_name ns

bytes_from : (b : List ℕ) → list_all (λ b. nat_le b 255) b ≡ true → AreBytes b
bytes_from [] h = tt
bytes_from (x ∷ b) h =
    let p = and_parts _ _ h in
    let le = leb-true x 255 p.0 in
    (omega (arith, le), bytes_from b p.1)

pub are_short : (ns : List (List ℕ)) → short_names ns ≡ true → AllByRecursion IsShort ns
are_short [] h = tt
are_short (n ∷ ns) h =
    let p = and_parts _ _ h in
    let q = and_parts (list_all (λ b. nat_le b 255) n) (nat_le (length n) 255) p.0 in
    let le = leb-true (length n) 255 q.1 in
    ((bytes_from n q.0, omega (arith, le)), are_short ns p.1)

-- ---- parts

pub array_32 : (b : List ℕ) → IsArray 32 b → IsShort b × (length b ≡ 32)
array_32 b p = ((p.0, omega (arith, p.1)), p.1)

pub array_64 : (b : List ℕ) → IsArray 64 b → IsShort b × (length b ≡ 64)
array_64 b p = ((p.0, omega (arith, p.1)), p.1)

plain_at : (depth : ℕ) (v : Val) → IsPlain v → IsCanonical depth v
unfolding IsCanonical
plain_at zero v p = p
plain_at (suc depth) v p = inl p

bins_canonical : (depth : ℕ) (xs : List (List ℕ)) → AllByRecursion (IsArray 32) xs → AllByRecursion (IsCanonical depth) (bins xs)
bins_canonical depth [] h = tt
bins_canonical depth (a ∷ xs) h = (plain_at depth _ (canon.bytes a refl h.0.0 (array_32 a h.0).0.1), bins_canonical depth xs h.1)

pub addresses_canonical : (depth : ℕ) (xs : List (List ℕ)) → length xs < 2 ^ 32 → AllByRecursion (IsArray 32) xs → IsCanonical (suc depth) (values.List (map (λ a. values.Bin a) xs))
unfolding IsCanonical
addresses_canonical depth xs lt h = inr (canon.list (bins xs) refl (rw (count_same (λ (a : List ℕ). values.Bin a) xs) lt) (bins_canonical depth xs h))

-- ---- whole tables

pub ranged_record : {X : Type 0} (depth : ℕ) (fs : List (FieldOf X)) (x : X) → rises (names_of fs) ≡ true → AllRanged depth fs x → IsRecord (table fs) x (entries fs x)
ranged_record depth fs x r p = has_record fs x (ap rises (names_are fs) ∙ r) (all_in_range depth fs x p)

pub ranged_canonical : {X : Type 0} (depth : ℕ) (fs : List (FieldOf X)) (x : X) → rises (names_of fs) ≡ true → short_names (names_of fs) ≡ true → nat_le (length fs) 255 ≡ true → AllRanged depth fs x → IsCanonical (suc depth) (values.Map (entries fs x))
ranged_canonical depth fs x r s t p =
    let le = leb-true (length fs) 255 t in
    written_canonical depth fs x r (are_short _ s) (omega (arith, le)) (all_spellable depth fs x p)

pub ranged_entries : {X : Type 0} (depth : ℕ) (fs : List (FieldOf X)) (x : X) → rises (names_of fs) ≡ true → short_names (names_of fs) ≡ true → AllRanged depth fs x → AreEntries (IsCanonical depth) None (entries fs x)
ranged_entries depth fs x r s p = entries_are depth None fs x (rising _ r) tt (are_short _ s) (all_spellable depth fs x p)

pub ranged_count : {X : Type 0} (fs : List (FieldOf X)) (x : X) → length (entries fs x) ≤ length fs
ranged_count fs x = count_bound fs x
