-- What is appended of records, and records that are never empty.
use Rattle.std.proofs.Common.{◌≡◌, codes, ℕ, ◌+◌, zero, suc, Bool, true, false, is_none, List, [], ◌∷◌, ◌++◌, length, take, drop, Option, Some, None, refl, sym, ap, ◌∙◌, arith, append_assoc}
use Rattle.std.proofs.lemmas.List.{length-append, take-append-drop}
use Rattle.al_msgpack.specs.declared.val.Val.{Val}
use Rattle.al_msgpack.specs.declared.val.Entry.{Entry}
use Rattle.al_msgpack.specs.declared.val.Val.TheVariants as values
use Rattle.al_msgpack.specs.Spelled.{map_head, spelled, entries_spelled}
use Rattle.al_msgpack.proofs.Spellings.{entries_append}
use Rattle.al_record.specs.Columns.{entries, is_empty, map_put, value_at, with_entry}
use Rattle.al_record.specs.Code.{count_some}
use Rattle.al_record.proofs.Appended.{field_first, map_behind}
use Rattle.al_bodies.specs.declared.effect.Inner.{Inner}
use Rattle.al_bodies.specs.declared.effect.Inner.TheVariants as inners_of
use Rattle.al_bodies.specs.Effect.{inner_axfer, inner_pay, inner_written}
use Rattle.al_bodies.specs.Kept.{below, merged}
use Rattle.al_bodies.proofs.Written.{all_put}

-- a record with a field is not empty
pub not_empty : (name : List ℕ) (v : Val) (es : List Entry) → value_at name es ≡ Some v → is_empty es ≡ false
not_empty name v [] h = absurd cc
not_empty name v (e ∷ es) h = refl

pub length_merged : (ks es : List Entry) → length (merged ks es) ≡ length ks + length es
length_merged ks [] = omega arith
length_merged ks (e ∷ es) =
    let n = below e.key ks in
    let whole = ap length (take-append-drop n ks) in
    let parts = length-append (take n ks) (drop n ks) in
    let all = length-append (take n ks) (e ∷ merged (drop n ks) es) in
    let rest = length_merged (drop n ks) es in
    omega (arith, whole, parts, all, rest)

-- the entries with lower keys, then a field, then the others
merged_first : (ks : List Entry) (name : List ℕ) (v : Val) (es : List Entry) → entries_spelled (merged ks (with_entry name (Some v) es)) ≡ (entries_spelled (take (below name ks) ks) ++ entries_spelled (with_entry name (Some v) [])) ++ entries_spelled (merged (drop (below name ks) ks) es)
merged_first ks name v es =
    let n = below name ks in
    let more = merged (drop n ks) es in
    entries_append (take n ks) (with_entry name (Some v) more) ∙ ap (λ z. entries_spelled (take n ks) ++ z) (field_first name (Some v) more) ∙ sym (append_assoc (entries_spelled (take n ks)) (entries_spelled (with_entry name (Some v) [])) (entries_spelled more))

merged_step : (old new : List ℕ) (ks : List Entry) (name : List ℕ) (v : Val) (es : List Entry) → new ≡ (old ++ entries_spelled (take (below name ks) ks)) ++ entries_spelled (with_entry name (Some v) []) → new ++ entries_spelled (merged (drop (below name ks) ks) es) ≡ old ++ entries_spelled (merged ks (with_entry name (Some v) es))
merged_step old new ks name v es h =
    let low = entries_spelled (take (below name ks) ks) in
    let field = entries_spelled (with_entry name (Some v) []) in
    let more = entries_spelled (merged (drop (below name ks) ks) es) in
    ap (λ z. z ++ more) (h ∙ append_assoc old low field) ∙ append_assoc old (low ++ field) more ∙ ap (λ z. old ++ z) (sym (merged_first ks name v es))

there : (old new : List ℕ) (ks : List Entry) (name : List ℕ) (o : Option Val) → is_none o ≡ false → new ≡ (old ++ entries_spelled (take (below name ks) ks)) ++ entries_spelled (with_entry name o []) → (es : List Entry) → new ++ entries_spelled (merged (drop (below name ks) ks) es) ≡ old ++ entries_spelled (merged ks (with_entry name o es))
there old new ks name None n h es = absurd cc
there old new ks name (Some v) n h es = merged_step old new ks name v es h

-- one more field of a merge
pub next_there : (old mid new : List ℕ) (ks lower higher : List Entry) (n : ℕ) (name : List ℕ) (o : Option Val) → n ≡ below name ks → lower ≡ take n ks → higher ≡ drop n ks → is_none o ≡ false → mid ≡ old ++ entries_spelled lower → new ≡ mid ++ entries_spelled (with_entry name o []) → (es : List Entry) → new ++ entries_spelled (merged higher es) ≡ old ++ entries_spelled (merged ks (with_entry name o es))
next_there old mid new ks lower higher n name o counts low high some first field es =
    let start : new ≡ (old ++ entries_spelled (take (below name ks) ks)) ++ entries_spelled (with_entry name o []) = field ∙ ap (λ z. z ++ entries_spelled (with_entry name o [])) (first ∙ ap (λ z. old ++ entries_spelled z) (low ∙ ap (λ z. take z ks) counts)) in
    ap (λ z. new ++ entries_spelled (merged z es)) (high ∙ ap (λ z. drop z ks) counts) ∙ there old new ks name o some start es

pub next_absent : (old : List ℕ) (ks : List Entry) (name : List ℕ) (o : Option Val) → is_none o ≡ true → (es : List Entry) → old ++ entries_spelled (merged ks es) ≡ old ++ entries_spelled (merged ks (with_entry name o es))
next_absent old ks name None n es = refl
next_absent old ks name (Some v) n es = absurd cc

pub inner_some : (x : Inner) → is_empty (inner_written x) ≡ false
inner_some (inners_of.Pay p) = not_empty (codes "type") (values.Str (codes "pay")) (entries inner_pay p) (all_put inner_pay p refl).1.1.1.0
inner_some (inners_of.Move m) = not_empty (codes "type") (values.Str (codes "axfer")) (entries inner_axfer m) (all_put inner_axfer m refl).1.1.1.1.0

-- how many fields an inner record takes
pub count_absent : (es : List Entry) → is_empty es ≡ true → 0 ≡ count_some (map_put es ∷ [])
count_absent [] h = refl
count_absent (e ∷ es) h = absurd cc

pub count_there : (es : List Entry) → is_empty es ≡ false → 1 ≡ count_some (map_put es ∷ [])
count_there [] h = absurd cc
count_there (e ∷ es) h = refl

pub empty_length : (es : List Entry) → length es ≡ 0 → is_empty es ≡ true
empty_length [] h = refl
empty_length (e ∷ es) h = absurd (omega (arith, h))

pub some_length : (es : List Entry) → (length es ≡ 0 → ⊥) → is_empty es ≡ false
some_length [] h = absurd (h refl)
some_length (e ∷ es) h = refl

-- a head, a field, and the others behind it
pub fields_behind : (old mid more new : List ℕ) (n : ℕ) (name : List ℕ) (o : Option Val) (es : List Entry) → length (with_entry name o es) ≡ n → mid ≡ old ++ map_head n → more ≡ mid ++ entries_spelled (with_entry name o []) → new ≡ more ++ entries_spelled es → new ≡ old ++ spelled (values.Map (with_entry name o es))
fields_behind old mid more new n name o es counts headed first rest =
    let whole : new ≡ mid ++ entries_spelled (with_entry name o es) = rest ∙ ap (λ z. z ++ entries_spelled es) first ∙ append_assoc mid (entries_spelled (with_entry name o [])) (entries_spelled es) ∙ ap (λ z. mid ++ z) (sym (field_first name o es)) in
    map_behind old mid new n (with_entry name o es) counts headed whole
