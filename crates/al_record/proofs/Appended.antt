-- What the writers append.
use Rattle.std.proofs.Common.{◌≡◌, ◌==◌, ℕ, zero, suc, ◌+◌, Bool, true, false, is_none, List, [], ◌∷◌, ◌++◌, length, map, Option, Some, None, refl, sym, ap, ◌∙◌, arith, append_assoc, take, drop}
use Rattle.std.proofs.lemmas.List.{append-nil, length-map, take-append-drop}
use Rattle.std.proofs.Math.Seq.{take-append_seam}
use Rattle.al_msgpack.specs.declared.val.Val.{Val}
use Rattle.al_msgpack.specs.declared.val.Val.TheVariants as values
use Rattle.al_msgpack.specs.declared.val.Entry.{Entry}
use Rattle.al_msgpack.specs.Spelled.{IsFront, string_head, list_head, map_head, spelled, all_spelled, entries_spelled}
use Rattle.al_msgpack.proofs.Spellings.{spelled_list, spelled_map, spelled_first}
use Rattle.al_record.specs.declared.write.Content.{Content}
use Rattle.al_record.specs.declared.write.Content.TheVariants as contents
use Rattle.al_record.specs.Columns.{Rule, is_empty, unless, map_put, list_put, with_entry}
use Rattle.al_record.specs.Code.{count_some, listed, put_of, val_of}

-- a field alone
pub field_there : (name : List ℕ) (v : Val) → entries_spelled (with_entry name (Some v) []) ≡ (string_head (length name) ++ name) ++ spelled v
field_there name v = spelled_first (record { key = name; val = v }) [] ∙ ap (λ z. (string_head (length name) ++ name) ++ z) (append-nil (spelled v))

-- a field, and the others behind it
pub field_first : (name : List ℕ) (o : Option Val) (es : List Entry) → entries_spelled (with_entry name o es) ≡ entries_spelled (with_entry name o []) ++ entries_spelled es
field_first name None es = refl
field_first name (Some v) es =
    spelled_first (record { key = name; val = v }) es ∙ sym (append_assoc (string_head (length name) ++ name) (spelled v) (entries_spelled es)) ∙ ap (λ z. z ++ entries_spelled es) (sym (field_there name v))

pub length_with : (name : List ℕ) (o : Option Val) (es : List Entry) → length (with_entry name o es) ≡ count_some (o ∷ []) + length es
length_with name None es = omega arith
length_with name (Some v) es = omega arith

pub count_listed : (rs : List Rule) (os : List (Option Val)) → length rs ≡ length os → length (listed rs os) ≡ count_some os
count_listed [] [] e = refl
count_listed [] (o ∷ os) e = absurd cc
count_listed (r ∷ rs) [] e = absurd cc
count_listed (r ∷ rs) (None ∷ os) e = count_listed rs os (omega (arith, e))
count_listed (r ∷ rs) (Some v ∷ os) e = (let h = count_listed rs os (omega (arith, e)) in omega (arith, h))

unless_there : (b : Bool) (v : Val) → is_none (unless b v) ≡ false → unless b v ≡ Some v
unless_there true v h = absurd cc
unless_there false v h = refl

-- what is not zero is written
pub put_there : (c : Content) → is_none (put_of c) ≡ false → put_of c ≡ Some (val_of c)
put_there (contents.Number n) h = unless_there _ _ h
put_there (contents.Flag b) h = unless_there _ _ h
put_there (contents.Word w) h = unless_there _ _ h
put_there (contents.Text b) h = unless_there _ _ h
put_there (contents.Bytes b) h = unless_there _ _ h
put_there (contents.Slice b) h = unless_there _ _ h
put_there (contents.Array b) h = unless_there _ _ h
put_there (contents.Wide b) h = unless_there _ _ h
put_there (contents.Addresses xs) h = unless_there _ _ h

-- a name, and the value behind it
pub field_behind : (old mid new name : List ℕ) (o : Option Val) (v : Val) → o ≡ Some v → mid ≡ old ++ (string_head (length name) ++ name) → new ≡ mid ++ spelled v → new ≡ old ++ entries_spelled (with_entry name o [])
field_behind old mid new name o v is named valued =
    valued ∙ ap (λ z. z ++ spelled v) named ∙ append_assoc old (string_head (length name) ++ name) (spelled v) ∙ ap (λ z. old ++ z) (sym (ap (λ z. entries_spelled (with_entry name z [])) is ∙ field_there name v))

-- a head, and the entries behind it
pub map_behind : (old mid new : List ℕ) (n : ℕ) (es : List Entry) → length es ≡ n → mid ≡ old ++ map_head n → new ≡ mid ++ entries_spelled es → new ≡ old ++ spelled (values.Map es)
map_behind old mid new n es counts headed valued =
    valued ∙ ap (λ z. z ++ entries_spelled es) (headed ∙ ap (λ z. old ++ map_head z) (sym counts)) ∙ append_assoc old (map_head (length es)) (entries_spelled es) ∙ ap (λ z. old ++ z) (sym (spelled_map es))

-- a head, and the members behind it
pub list_behind : (old mid new : List ℕ) (n : ℕ) (vs : List Val) → length vs ≡ n → mid ≡ old ++ list_head n → new ≡ mid ++ all_spelled vs → new ≡ old ++ spelled (values.List vs)
list_behind old mid new n vs counts headed valued =
    valued ∙ ap (λ z. z ++ all_spelled vs) (headed ∙ ap (λ z. old ++ list_head z) (sym counts)) ∙ append_assoc old (list_head (length vs)) (all_spelled vs) ∙ ap (λ z. old ++ z) (sym (spelled_list vs))

-- one step of a walk over a list
pub one_more : (start old new a rest whole : List ℕ) → old ++ (a ++ rest) ≡ start ++ whole → new ≡ old ++ a → new ++ rest ≡ start ++ whole
one_more start old new a rest whole before step = ap (λ z. z ++ rest) step ∙ append_assoc old a rest ∙ before

count_none : (os : List (Option Val)) (rs : List Rule) → length rs ≡ length os → count_some os ≡ 0 → listed rs os ≡ []
count_none [] [] e h = refl
count_none [] (r ∷ rs) e h = absurd cc
count_none (o ∷ os) [] e h = absurd cc
count_none (None ∷ os) (r ∷ rs) e h = count_none os rs (omega (arith, e)) h
count_none (Some v ∷ os) (r ∷ rs) e h = absurd (omega (arith, h))

pub map_absent : (old name : List ℕ) (rs : List Rule) (os : List (Option Val)) → length rs ≡ length os → count_some os ≡ 0 → old ≡ old ++ entries_spelled (with_entry name (map_put (listed rs os)) [])
map_absent old name rs os e h = sym (append-nil old) ∙ ap (λ z. old ++ entries_spelled (with_entry name (map_put z) [])) (sym (count_none os rs e h))

there : (es : List Entry) → (length es ≡ 0 → ⊥) → map_put es ≡ Some (values.Map es)
there [] h = absurd (h refl)
there (e ∷ es) h = refl

pub map_there : (rs : List Rule) (os : List (Option Val)) (n : ℕ) → length rs ≡ length os → n ≡ count_some os → (n ≡ 0 → ⊥) → map_put (listed rs os) ≡ Some (values.Map (listed rs os))
map_there rs os n e h more = there (listed rs os) (λ z. more (h ∙ sym (count_listed rs os e) ∙ z))

-- a value of a content
pub valued : (old new : List ℕ) (c d : Content) (b : List ℕ) → c ≡ d → spelled (val_of d) ≡ b → new ≡ old ++ b → new ≡ old ++ spelled (val_of c)
valued old new c d b is spells h = h ∙ ap (λ z. old ++ z) (sym (ap (λ z. spelled (val_of z)) is ∙ spells))

-- what stands in front of a longer front
pub front_behind : (old x mid new : List ℕ) → mid ≡ old ++ x → IsFront mid new → IsFront old new
front_behind old x mid new e h =
    let rest = drop (length mid) new in
    let whole : new ≡ old ++ (x ++ rest) = sym (take-append-drop (length mid) new) ∙ ap (λ z. z ++ rest) (h ∙ e) ∙ append_assoc old x rest in
    ap (take (length old)) whole ∙ take-append_seam old (x ++ rest)

pub list_there : {X : Type 0} (write : X → List Entry) (xs : List X) → (length xs == 0) ≡ false → list_put (map (λ es. values.Map es) (map write xs)) ≡ Some (values.List (map (λ es. values.Map es) (map write xs)))
list_there write [] h = absurd cc
list_there write (x ∷ xs) h = refl
