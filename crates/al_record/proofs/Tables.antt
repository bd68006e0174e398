-- The laws of records, over any table of fields.
use Rattle.std.proofs.Common.{◌≡◌, ◌&&◌, ◌⊎◌, ℕ, zero, suc, ◌<◌, ◌≤◌, ◌^◌, Bool, true, false, List, [], ◌∷◌, length, map, Option, Some, None, refl, sym, ap, ap₂, ◌∙◌, arith, inl, inr}
use Rattle.std.specs.List.{AllByRecursion, list_all}
use Rattle.std.specs.Ordering.{is_lt, nat_cmp, ordering_then}
use Rattle.std.specs.Cmp.Lexicographic.{slice_cmp}
use Rattle.std.specs.declared.cmp.Ordering.{Ordering}
use Rattle.std.specs.declared.cmp.Ordering.TheVariants.{Less, Equal, Greater}
use Rattle.std.proofs.lemmas.Cmp.{ranked}
use Rattle.std.proofs.lemmas.Bool.{and_from}
use Rattle.al_msgpack.specs.declared.val.Val.{Val, out-Val}
use Rattle.al_msgpack.specs.declared.val.Val.TheVariants as values
use Rattle.al_msgpack.specs.declared.val.Val.TheViews as views
use Rattle.al_msgpack.specs.declared.val.Entry.{Entry}
use Rattle.al_msgpack.specs.Grammar.{Above}
use Rattle.al_msgpack.specs.Spelling.{Rises}
use Rattle.al_msgpack.specs.Canonical as canon
use Rattle.al_msgpack.specs.Canonical.{IsPlain, AreEntries, IsCanonical}
use Rattle.al_msgpack.specs.Rising.{rises, keys, canonical, are_canonical}
use Rattle.al_msgpack.proofs.Rising.{of_num, of_flag, of_str, of_bin, of_list, of_entries}
use Rattle.al_record.specs.Columns.{FieldOf, number, up_to, flag, text, bytes, array, addresses, inner, inners, rule, rules_of, heads, put, unless, map_in, with_entry, entries, Shows, AllShown}
use Rattle.al_record.specs.Laws.{names_of, Agree, AllAgree, InnerRises, AllInnerRise, IsShort, IsSpellable, AllSpellable}
use Rattle.al_record.proofs.Order.{IsLess, IsBelow, Rising, rising}
use Rattle.al_record.proofs.Engine.{names}
use Rattle.al_record.proofs.Laws.{keys_above}

pub names_are : {X : Type 0} (fs : List (FieldOf X)) → names (heads (rules_of fs)) ≡ names_of fs
names_are [] = refl
names_are (f ∷ fs) = ap (λ (ns : List (List ℕ)). (rule f).name ∷ ns) (names_are fs)

-- ---- values that show the same

map_back : (es ds : List Entry) → values.Map es ≡ values.Map ds → es ≡ ds
map_back es ds e = ap map_in (sym (views.outs-Map es)) ∙ ap (λ (v : Val). map_in (out-Val v)) e ∙ ap map_in (views.outs-Map ds)

maps_back : (xs ys : List (List Entry)) → map (λ es. values.Map es) xs ≡ map (λ es. values.Map es) ys → xs ≡ ys
maps_back [] [] e = refl
maps_back [] (y ∷ ys) e = absurd cc
maps_back (x ∷ xs) [] e = absurd cc
maps_back (x ∷ xs) (y ∷ ys) e =
    let first : values.Map x ≡ values.Map y = cc in
    let rest : map (λ es. values.Map es) xs ≡ map (λ es. values.Map es) ys = cc in
    ap₂ (λ (a : List Entry) (more : List (List Entry)). a ∷ more) (map_back x y first) (maps_back xs ys rest)

agree : {X : Type 0} (f : FieldOf X) (x y : X) (o : Option Val) → Shows f x o → Shows f y o → Agree f x y
agree (number name get) x y o p q = p ∙ sym q
agree (up_to name most get) x y o p q = p ∙ sym q
agree (flag name get) x y o p q = p ∙ sym q
agree (text name get) x y o p q = p ∙ sym q
agree (bytes name least most get) x y o p q = p ∙ sym q
agree (array name len get) x y o p q = p ∙ sym q
agree (addresses name most get) x y o p q = p ∙ sym q
agree (inner name fault get) x y o p q = p ∙ sym q
agree (inners name limit fault get) x y o p q = maps_back (get x) (get y) (p ∙ sym q)

pub all_agree : {X : Type 0} (fs : List (FieldOf X)) (x y : X) (es : List Entry) → AllShown fs x es → AllShown fs y es → AllAgree fs x y
all_agree [] x y es p q = tt
all_agree (f ∷ fs) x y es p q = (agree f x y _ p.0 q.0, all_agree fs x y es p.1 q.1)

-- ---- what holds of each value that is put

abbrev Held : (Val → Type 0) → Option Val → Type 0
Held P None = Unit {0}
Held P (Some v) = P v

held : (P : Val → Type 0) (zero : Bool) (v : Val) → P v → Held P (unless zero v)
held P true v p = tt
held P false v p = p

-- ---- keys that rise

abbrev IsRising : Val → Type 0
IsRising v = canonical v ≡ true

bins_rise : (xs : List (List ℕ)) → list_all canonical (map (λ a. values.Bin a) xs) ≡ true
bins_rise [] = refl
bins_rise (a ∷ xs) = and_from _ _ (of_bin a) (bins_rise xs)

maps_rise : (xs : List (List Entry)) → list_all canonical (map (λ es. values.Map es) xs) ≡ list_all are_canonical xs
maps_rise [] = refl
maps_rise (es ∷ xs) = ap₂ (λ (a b : Bool). a && b) (of_entries es) (maps_rise xs)

put_rises : {X : Type 0} (f : FieldOf X) (x : X) → InnerRises f x → Held IsRising (put f x)
put_rises (number name get) x p = held IsRising _ _ (of_num (get x))
put_rises (up_to name most get) x p = held IsRising _ _ (of_num (get x))
put_rises (flag name get) x p = held IsRising _ _ (of_flag (get x))
put_rises (text name get) x p = held IsRising _ _ (of_str (get x))
put_rises (bytes name least most get) x p = held IsRising _ _ (of_bin (get x))
put_rises (array name len get) x p = held IsRising _ _ (of_bin (get x))
put_rises (addresses name most get) x p = held IsRising _ _ (of_list (map (λ a. values.Bin a) (get x)) ∙ bins_rise (get x))
put_rises (inner name fault get) x p = held IsRising _ _ (of_entries (get x) ∙ p)
put_rises (inners name limit fault get) x p = held IsRising _ _ (of_list (map (λ es. values.Map es) (get x)) ∙ maps_rise (get x) ∙ p)

first_rises : (k : List ℕ) (ks : List (List ℕ)) → IsBelow k ks → rises ks ≡ true → rises (k ∷ ks) ≡ true
first_rises k [] b r = refl
first_rises k (n ∷ ks) b r = and_from _ _ (ap is_lt b.0) r

entry_rises : (name : List ℕ) (o : Option Val) (rest : List Entry) → IsBelow name (keys rest) → rises (keys rest) ≡ true → rises (keys (with_entry name o rest)) ≡ true
entry_rises name None rest b r = r
entry_rises name (Some v) rest b r = first_rises name (keys rest) b r

member_rises : (name : List ℕ) (o : Option Val) (rest : List Entry) → Held IsRising o → list_all (λ e. canonical e.val) rest ≡ true → list_all (λ e. canonical e.val) (with_entry name o rest) ≡ true
member_rises name None rest h r = r
member_rises name (Some v) rest h r = and_from _ _ h r

keys_up : {X : Type 0} (fs : List (FieldOf X)) (x : X) → Rising (names (heads (rules_of fs))) → rises (keys (entries fs x)) ≡ true
keys_up [] x r = refl
keys_up (f ∷ fs) x r = entry_rises (rule f).name (put f x) (entries fs x) (keys_above (rule f).name fs x r.0) (keys_up fs x r.1)

members_up : {X : Type 0} (fs : List (FieldOf X)) (x : X) → AllInnerRise fs x → list_all (λ e. canonical e.val) (entries fs x) ≡ true
members_up [] x p = refl
members_up (f ∷ fs) x p = member_rises (rule f).name (put f x) (entries fs x) (put_rises f x p.0) (members_up fs x p.1)

-- what is written has keys that rise at each level
pub written_rises : {X : Type 0} (fs : List (FieldOf X)) (x : X) → rises (names_of fs) ≡ true → AllInnerRise fs x → are_canonical (entries fs x) ≡ true
written_rises fs x r p =
    let up : rises (names (heads (rules_of fs))) ≡ true = ap rises (names_are fs) ∙ r in
    and_from _ _ (keys_up fs x (rising _ up)) (members_up fs x p)

-- ---- what is written has a spelling

first_less : (r o : Ordering) → ordering_then r o ≡ Less → (r ≡ Less) ⊎ ((r ≡ Equal) × (o ≡ Less))
first_less Less o h = inl refl
first_less Equal o h = inr (refl, h)
first_less Greater o h = absurd cc

pub less_above : (a b : List ℕ) → IsLess a b → Above a b
less_above [] [] h = absurd cc
less_above [] (y ∷ b) h = tt
less_above (x ∷ a) [] h = absurd cc
less_above (x ∷ a) (y ∷ b) h =
    elim (first_less (nat_cmp x y) (slice_cmp nat_cmp a b) h) [
      | inl l ↦ inl (ranked x y Less (sym l))
      | inr p ↦ inr (ranked x y Equal (sym p.0), less_above a b p.1)
    ]

plain_at : (depth : ℕ) (v : Val) → IsPlain v → IsCanonical depth v
unfolding IsCanonical
plain_at zero v p = p
plain_at (suc depth) v p = inl p

put_canonical : {X : Type 0} (depth : ℕ) (f : FieldOf X) (x : X) → IsSpellable depth f x → Held (IsCanonical depth) (put f x)
put_canonical depth (number name get) x p = held (IsCanonical depth) _ _ (plain_at depth _ (canon.number (get x) refl p))
put_canonical depth (up_to name most get) x p = held (IsCanonical depth) _ _ (plain_at depth _ (canon.number (get x) refl p))
put_canonical depth (flag name get) x p = held (IsCanonical depth) _ _ (plain_at depth _ (canon.flag (get x) refl))
put_canonical depth (text name get) x p = held (IsCanonical depth) _ _ (plain_at depth _ (canon.string (get x) refl p.0 p.1))
put_canonical depth (bytes name least most get) x p = held (IsCanonical depth) _ _ (plain_at depth _ (canon.bytes (get x) refl p.0 p.1))
put_canonical depth (array name len get) x p = held (IsCanonical depth) _ _ (plain_at depth _ (canon.bytes (get x) refl p.0 p.1))
put_canonical depth (addresses name most get) x p = held (IsCanonical depth) _ _ p
put_canonical depth (inner name fault get) x p = held (IsCanonical depth) _ _ p
put_canonical depth (inners name limit fault get) x p = held (IsCanonical depth) _ _ p

-- the names stand above the key before
abbrev pub BelowAll : Option (List ℕ) → List (List ℕ) → Type 0
BelowAll None ns = Unit {0}
BelowAll (Some k) ns = IsBelow k ns

first_above : (before : Option (List ℕ)) (n : List ℕ) (ns : List (List ℕ)) → BelowAll before (n ∷ ns) → Rises before n
first_above None n ns b = tt
first_above (Some k) n ns b = less_above k n b.0

rest_above : (before : Option (List ℕ)) (n : List ℕ) (ns : List (List ℕ)) → BelowAll before (n ∷ ns) → BelowAll before ns
rest_above None n ns b = tt
rest_above (Some k) n ns b = b.1

entry_canonical : (P : Val → Type 0) (before : Option (List ℕ)) (name : List ℕ) (o : Option Val) (rest : List Entry) → Rises before name → IsShort name → Held P o → AreEntries P before rest → AreEntries P (Some name) rest → AreEntries P before (with_entry name o rest)
entry_canonical P before name None rest up short h skipped rest_are = skipped
entry_canonical P before name (Some v) rest up short h skipped rest_are = (up, short.0, short.1, h, rest_are)

pub entries_are : {X : Type 0} (depth : ℕ) (before : Option (List ℕ)) (fs : List (FieldOf X)) (x : X) → Rising (names_of fs) → BelowAll before (names_of fs) → AllByRecursion IsShort (names_of fs) → AllSpellable depth fs x → AreEntries (IsCanonical depth) before (entries fs x)
entries_are depth before [] x r b s p = tt
entries_are depth before (f ∷ fs) x r b s p =
    entry_canonical (IsCanonical depth) before (rule f).name (put f x) (entries fs x) (first_above before (rule f).name (names_of fs) b) s.0 (put_canonical depth f x p.0)
    (entries_are depth before fs x r.1 (rest_above before (rule f).name (names_of fs) b) s.1 p.1)
    (entries_are depth (Some (rule f).name) fs x r.1 r.0 s.1 p.1)

one_more : (name : List ℕ) (o : Option Val) (rest : List Entry) (n : ℕ) → length rest ≤ n → length (with_entry name o rest) ≤ suc n
one_more name None rest n le = omega arith
one_more name (Some v) rest n le = omega arith

pub count_bound : {X : Type 0} (fs : List (FieldOf X)) (x : X) → length (entries fs x) ≤ length fs
count_bound [] x = omega arith
count_bound (f ∷ fs) x = one_more (rule f).name (put f x) (entries fs x) (length fs) (count_bound fs x)

pub written_canonical : {X : Type 0} (depth : ℕ) (fs : List (FieldOf X)) (x : X) → rises (names_of fs) ≡ true → AllByRecursion IsShort (names_of fs) → length fs < 2 ^ 32 → AllSpellable depth fs x → IsCanonical (suc depth) (values.Map (entries fs x))
unfolding IsCanonical
written_canonical depth fs x r s lt p =
    let few : length (entries fs x) ≤ length fs = count_bound fs x in
    inr (canon.map (entries fs x) refl (omega arith) (entries_are depth None fs x (rising _ r) tt s p))
