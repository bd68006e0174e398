-- The relation and the function agree, on the canonical values.
use Rattle.std.proofs.Common.{◌≡◌, ℕ, zero, suc, ◌%◌, ◌^◌, ◌<◌, true, false, List, [], ◌∷◌, ◌++◌, length, Option, Some, None, refl, sym, ap, ap₂, subst, ◌∙◌, arith, inl, inr}
use Rattle.std.specs.List.{AllByRecursion}
use Rattle.std.proofs.lemmas.Bool.{cases_lt, lt-ltb, le-ltb}
use Rattle.al_msgpack.specs.declared.val.Val.{Val}
use Rattle.al_msgpack.specs.declared.val.Val.TheVariants as vals
use Rattle.al_msgpack.specs.declared.val.Entry.{Entry}
use Rattle.al_msgpack.specs.Grammar.{Spelling, AreBytes}
use Rattle.al_msgpack.specs.Spelling as spell
use Rattle.al_msgpack.specs.Spelling.{Near, Far, NumIs, StringHead, BytesHead, ListHead, MapHead, Counted, PlainIs, NestIs, Spells, AllSpelled, EntriesSpelled, Rises}
use Rattle.al_msgpack.specs.Spelled.{num_spelled, string_head, bytes_head, list_head, map_head, spelled, all_spelled, entries_spelled}
use Rattle.al_msgpack.proofs.Spellings.{spelled_num, spelled_flag, spelled_str, spelled_bin, spelled_list, spelled_map, spelled_first}
use Rattle.al_msgpack.specs.Canonical as canon
use Rattle.al_msgpack.specs.Canonical.{IsPlain, IsNest, AreEntries, IsCanonical}

num_only : (n : ℕ) (b : List ℕ) → NumIs n b → num_spelled n ≡ b
num_only n b (spell.num_0 p) = rw (lt-ltb n 128 p.below) (ap (λ z. z ∷ []) (omega arith) ∙ sym p.is)
num_only n b (spell.num_1 p) = rw (le-ltb n 128 (omega (arith, p.shortest)), lt-ltb n 256 (omega (arith, p.fits))) (sym p.is)
num_only n b (spell.num_2 p) = rw (le-ltb n 128 (omega (arith, p.shortest)), le-ltb n 256 (omega (arith, p.shortest)), lt-ltb n 65536 (omega (arith, p.fits))) (sym p.is)
num_only n b (spell.num_4 p) = rw (le-ltb n 128 (omega (arith, p.shortest)), le-ltb n 256 (omega (arith, p.shortest)), le-ltb n 65536 (omega (arith, p.shortest)), lt-ltb n 4294967296 (omega (arith, p.fits))) (sym p.is)
num_only n b (spell.num_8 p) = rw (le-ltb n 128 (omega (arith, p.shortest)), le-ltb n 256 (omega (arith, p.shortest)), le-ltb n 65536 (omega (arith, p.shortest)), le-ltb n 4294967296 (omega (arith, p.shortest))) (sym p.is)

num_some : (n : ℕ) → n < 2 ^ 64 → NumIs n (num_spelled n)
num_some n lt = elim (cases_lt n 128) [
  | inl a ↦ rw (lt-ltb n 128 a) (spell.num_0 (record { below = a; is = ap (λ z. z ∷ []) (omega arith) }))
  | inr a0 ↦ elim (cases_lt n 256) [
    | inl a ↦ rw (le-ltb n 128 a0, lt-ltb n 256 a) (spell.num_1 (record { shortest = a0; fits = a; is = refl }))
    | inr a1 ↦ elim (cases_lt n 65536) [
      | inl a ↦ rw (le-ltb n 128 a0, le-ltb n 256 a1, lt-ltb n 65536 a) (spell.num_2 (record { shortest = a1; fits = a; is = refl }))
      | inr a2 ↦ elim (cases_lt n 4294967296) [
        | inl a ↦ rw (le-ltb n 128 a0, le-ltb n 256 a1, le-ltb n 65536 a2, lt-ltb n 4294967296 a) (spell.num_4 (record { shortest = a2; fits = a; is = refl }))
        | inr a3 ↦ rw (le-ltb n 128 a0, le-ltb n 256 a1, le-ltb n 65536 a2, le-ltb n 4294967296 a3) (spell.num_8 (record { shortest = a3; fits = lt; is = refl }))
      ]
    ]
  ]
]

num_small : (n : ℕ) (b : List ℕ) → NumIs n b → n < 2 ^ 64
num_small n b (spell.num_0 p) = omega (arith, p.below)
num_small n b (spell.num_1 p) = omega (arith, p.fits)
num_small n b (spell.num_2 p) = omega (arith, p.fits)
num_small n b (spell.num_4 p) = omega (arith, p.fits)
num_small n b (spell.num_8 p) = omega (arith, p.fits)

string_only : (n : ℕ) (b : List ℕ) → StringHead n b → string_head n ≡ b
string_only n b (spell.str_0 p) = rw (lt-ltb n 32 p.below) (sym p.is)
string_only n b (spell.str_1 p) = rw (le-ltb n 32 (omega (arith, p.shortest)), lt-ltb n 256 (omega (arith, p.fits))) (sym p.is)
string_only n b (spell.str_2 p) = rw (le-ltb n 32 (omega (arith, p.shortest)), le-ltb n 256 (omega (arith, p.shortest)), lt-ltb n 65536 (omega (arith, p.fits))) (sym p.is)
string_only n b (spell.str_4 p) =
    let e : n % 2 ^ 32 ≡ n = omega (arith, p.fits) in
    rw (le-ltb n 32 (omega (arith, p.shortest)), le-ltb n 256 (omega (arith, p.shortest)), le-ltb n 65536 (omega (arith, p.shortest)), e) (sym p.is)

string_some : (n : ℕ) → n < 2 ^ 32 → StringHead n (string_head n)
string_some n lt = elim (cases_lt n 32) [
  | inl a ↦ rw (lt-ltb n 32 a) (spell.str_0 (record { below = a; is = refl }))
  | inr a0 ↦ elim (cases_lt n 256) [
    | inl a ↦ rw (le-ltb n 32 a0, lt-ltb n 256 a) (spell.str_1 (record { shortest = a0; fits = a; is = refl }))
    | inr a1 ↦ elim (cases_lt n 65536) [
      | inl a ↦ rw (le-ltb n 32 a0, le-ltb n 256 a1, lt-ltb n 65536 a) (spell.str_2 (record { shortest = a1; fits = a; is = refl }))
      | inr a2 ↦ (let e : n % 2 ^ 32 ≡ n = omega arith in rw (le-ltb n 32 a0, le-ltb n 256 a1, le-ltb n 65536 a2, e) (spell.str_4 (record { shortest = a2; fits = lt; is = refl })))
    ]
  ]
]

string_small : (n : ℕ) (b : List ℕ) → StringHead n b → n < 2 ^ 32
string_small n b (spell.str_0 p) = omega (arith, p.below)
string_small n b (spell.str_1 p) = omega (arith, p.fits)
string_small n b (spell.str_2 p) = omega (arith, p.fits)
string_small n b (spell.str_4 p) = omega (arith, p.fits)

bytes_only : (n : ℕ) (b : List ℕ) → BytesHead n b → bytes_head n ≡ b
bytes_only n b (spell.bin_1 p) = rw (lt-ltb n 256 (omega (arith, p.fits))) (sym p.is)
bytes_only n b (spell.bin_2 p) = rw (le-ltb n 256 (omega (arith, p.shortest)), lt-ltb n 65536 (omega (arith, p.fits))) (sym p.is)
bytes_only n b (spell.bin_4 p) =
    let e : n % 2 ^ 32 ≡ n = omega (arith, p.fits) in
    rw (le-ltb n 256 (omega (arith, p.shortest)), le-ltb n 65536 (omega (arith, p.shortest)), e) (sym p.is)

bytes_some : (n : ℕ) → n < 2 ^ 32 → BytesHead n (bytes_head n)
bytes_some n lt = elim (cases_lt n 256) [
  | inl a ↦ rw (lt-ltb n 256 a) (spell.bin_1 (record { shortest = (omega arith); fits = a; is = refl }))
  | inr a0 ↦ elim (cases_lt n 65536) [
    | inl a ↦ rw (le-ltb n 256 a0, lt-ltb n 65536 a) (spell.bin_2 (record { shortest = a0; fits = a; is = refl }))
    | inr a1 ↦ (let e : n % 2 ^ 32 ≡ n = omega arith in rw (le-ltb n 256 a0, le-ltb n 65536 a1, e) (spell.bin_4 (record { shortest = a1; fits = lt; is = refl })))
  ]
]

bytes_small : (n : ℕ) (b : List ℕ) → BytesHead n b → n < 2 ^ 32
bytes_small n b (spell.bin_1 p) = omega (arith, p.fits)
bytes_small n b (spell.bin_2 p) = omega (arith, p.fits)
bytes_small n b (spell.bin_4 p) = omega (arith, p.fits)

list_only : (n : ℕ) (b : List ℕ) → ListHead n b → list_head n ≡ b
list_only n b (spell.list_0 p) = rw (lt-ltb n 16 p.below) (sym p.is)
list_only n b (spell.list_2 p) = rw (le-ltb n 16 (omega (arith, p.shortest)), lt-ltb n 65536 (omega (arith, p.fits))) (sym p.is)
list_only n b (spell.list_4 p) =
    let e : n % 2 ^ 32 ≡ n = omega (arith, p.fits) in
    rw (le-ltb n 16 (omega (arith, p.shortest)), le-ltb n 65536 (omega (arith, p.shortest)), e) (sym p.is)

list_some : (n : ℕ) → n < 2 ^ 32 → ListHead n (list_head n)
list_some n lt = elim (cases_lt n 16) [
  | inl a ↦ rw (lt-ltb n 16 a) (spell.list_0 (record { below = a; is = refl }))
  | inr a0 ↦ elim (cases_lt n 65536) [
    | inl a ↦ rw (le-ltb n 16 a0, lt-ltb n 65536 a) (spell.list_2 (record { shortest = a0; fits = a; is = refl }))
    | inr a1 ↦ (let e : n % 2 ^ 32 ≡ n = omega arith in rw (le-ltb n 16 a0, le-ltb n 65536 a1, e) (spell.list_4 (record { shortest = a1; fits = lt; is = refl })))
  ]
]

list_small : (n : ℕ) (b : List ℕ) → ListHead n b → n < 2 ^ 32
list_small n b (spell.list_0 p) = omega (arith, p.below)
list_small n b (spell.list_2 p) = omega (arith, p.fits)
list_small n b (spell.list_4 p) = omega (arith, p.fits)

map_only : (n : ℕ) (b : List ℕ) → MapHead n b → map_head n ≡ b
map_only n b (spell.map_0 p) = rw (lt-ltb n 16 p.below) (sym p.is)
map_only n b (spell.map_2 p) = rw (le-ltb n 16 (omega (arith, p.shortest)), lt-ltb n 65536 (omega (arith, p.fits))) (sym p.is)
map_only n b (spell.map_4 p) =
    let e : n % 2 ^ 32 ≡ n = omega (arith, p.fits) in
    rw (le-ltb n 16 (omega (arith, p.shortest)), le-ltb n 65536 (omega (arith, p.shortest)), e) (sym p.is)

map_some : (n : ℕ) → n < 2 ^ 32 → MapHead n (map_head n)
map_some n lt = elim (cases_lt n 16) [
  | inl a ↦ rw (lt-ltb n 16 a) (spell.map_0 (record { below = a; is = refl }))
  | inr a0 ↦ elim (cases_lt n 65536) [
    | inl a ↦ rw (le-ltb n 16 a0, lt-ltb n 65536 a) (spell.map_2 (record { shortest = a0; fits = a; is = refl }))
    | inr a1 ↦ (let e : n % 2 ^ 32 ≡ n = omega arith in rw (le-ltb n 16 a0, le-ltb n 65536 a1, e) (spell.map_4 (record { shortest = a1; fits = lt; is = refl })))
  ]
]

map_small : (n : ℕ) (b : List ℕ) → MapHead n b → n < 2 ^ 32
map_small n b (spell.map_0 p) = omega (arith, p.below)
map_small n b (spell.map_2 p) = omega (arith, p.fits)
map_small n b (spell.map_4 p) = omega (arith, p.fits)

-- ---- one spelling

counted_only : (H : ℕ → List ℕ → Type 0) (f : ℕ → List ℕ) → ((n : ℕ) (b : List ℕ) → H n b → f n ≡ b) → (s b : List ℕ) → Counted H s b → f (length s) ++ s ≡ b
counted_only H f only s b p = ap (λ z. z ++ s) (only (length s) p.head p.counts) ∙ sym p.is

plain_only : (v : Val) (b : List ℕ) → PlainIs v b → spelled v ≡ b
plain_only v b (spell.number n e p) = ap spelled e ∙ spelled_num n ∙ num_only n b p
plain_only v b (spell.no e p) = ap spelled e ∙ spelled_flag false ∙ sym p
plain_only v b (spell.yes e p) = ap spelled e ∙ spelled_flag true ∙ sym p
plain_only v b (spell.string s e p) = ap spelled e ∙ spelled_str s ∙ counted_only StringHead string_head string_only s b p
plain_only v b (spell.bytes s e p) = ap spelled e ∙ spelled_bin s ∙ counted_only BytesHead bytes_head bytes_only s b p

module _ (S : Spelling Val) (only : (v : Val) (b : List ℕ) → S v b → spelled v ≡ b) where
  all_only : (vs : List Val) (b : List ℕ) → AllSpelled S vs b → all_spelled vs ≡ b
  all_only [] b p = sym p
  all_only (v ∷ vs) b (a, c, e, p, rest) = ap₂ (λ s t. s ++ t) (only v a p) (all_only vs c rest) ∙ sym e

  entries_only : (before : Option (List ℕ)) (es : List Entry) (b : List ℕ) → EntriesSpelled S before es b → entries_spelled es ≡ b
  entries_only before [] b p = sym p
  entries_only before (e ∷ es) b (k, a, c, is, up, key, val, rest) =
      spelled_first e es ∙ ap₂ (λ s t. s ++ t) (counted_only StringHead string_head string_only e.key k key) (ap₂ (λ s t. s ++ t) (only e.val a val) (entries_only (Some e.key) es c rest)) ∙ sym is

  nest_only : (v : Val) (b : List ℕ) → NestIs S v b → spelled v ≡ b
  nest_only v b (spell.list vs h c e head is p) = ap spelled e ∙ spelled_list vs ∙ ap₂ (λ s t. s ++ t) (list_only (length vs) h head) (all_only vs c p) ∙ sym is
  nest_only v b (spell.map es h c e head is p) = ap spelled e ∙ spelled_map es ∙ ap₂ (λ s t. s ++ t) (map_only (length es) h head) (entries_only None es c p) ∙ sym is

pub spells_only : (depth : ℕ) (v : Val) (b : List ℕ) → Spells depth v b → spelled v ≡ b
unfolding Spells
spells_only zero v b p = plain_only v b p
spells_only (suc depth) v b (inl p) = plain_only v b p
spells_only (suc depth) v b (inr p) = nest_only (Spells depth) (spells_only depth) v b p

-- ---- the canonical values are those that have one

counted_some : (H : ℕ → List ℕ → Type 0) (f : ℕ → List ℕ) (s : List ℕ) → AreBytes s → H (length s) (f (length s)) → Counted H s (f (length s) ++ s)
counted_some H f s fits p = record { bytes = fits; head = f (length s); counts = p; is = refl }

plain_some : (v : Val) → IsPlain v → PlainIs v (spelled v)
plain_some v (canon.number n e lt) = subst (λ z. PlainIs z (spelled z)) (sym e) (spell.number n refl (subst (λ z. NumIs n z) (sym (spelled_num n)) (num_some n lt)))
plain_some v (canon.flag false e) = subst (λ z. PlainIs z (spelled z)) (sym e) (spell.no refl (spelled_flag false))
plain_some v (canon.flag true e) = subst (λ z. PlainIs z (spelled z)) (sym e) (spell.yes refl (spelled_flag true))
plain_some v (canon.string s e fits lt) = subst (λ z. PlainIs z (spelled z)) (sym e) (spell.string s refl (subst (λ z. Counted StringHead s z) (sym (spelled_str s)) (counted_some StringHead string_head s fits (string_some (length s) lt))))
plain_some v (canon.bytes s e fits lt) = subst (λ z. PlainIs z (spelled z)) (sym e) (spell.bytes s refl (subst (λ z. Counted BytesHead s z) (sym (spelled_bin s)) (counted_some BytesHead bytes_head s fits (bytes_some (length s) lt))))

plain_has : (v : Val) (b : List ℕ) → PlainIs v b → IsPlain v
plain_has v b (spell.number n e p) = canon.number n e (num_small n b p)
plain_has v b (spell.no e p) = canon.flag false e
plain_has v b (spell.yes e p) = canon.flag true e
plain_has v b (spell.string s e p) = canon.string s e p.bytes (string_small (length s) p.head p.counts)
plain_has v b (spell.bytes s e p) = canon.bytes s e p.bytes (bytes_small (length s) p.head p.counts)

module _ (S : Spelling Val) (P : Val → Type 0) (some : (v : Val) → P v → S v (spelled v)) where
  all_some : (vs : List Val) → AllByRecursion P vs → AllSpelled S vs (all_spelled vs)
  all_some [] p = refl
  all_some (v ∷ vs) p = (spelled v, all_spelled vs, refl, some v p.0, all_some vs p.1)

  entries_some : (before : Option (List ℕ)) (es : List Entry) → AreEntries P before es → EntriesSpelled S before es (entries_spelled es)
  entries_some before [] p = refl
  entries_some before (e ∷ es) (up, fits, lt, val, rest) =
      (string_head (length e.key) ++ e.key, spelled e.val, entries_spelled es, spelled_first e es, up, counted_some StringHead string_head e.key fits (string_some (length e.key) lt), some e.val val, entries_some (Some e.key) es rest)

  nest_some : (v : Val) → IsNest P v → NestIs S v (spelled v)
  nest_some v (canon.list vs e lt p) = subst (λ z. NestIs S z (spelled z)) (sym e)
      (spell.list vs (list_head (length vs)) (all_spelled vs) refl (list_some (length vs) lt) (spelled_list vs) (all_some vs p))
  nest_some v (canon.map es e lt p) = subst (λ z. NestIs S z (spelled z)) (sym e)
      (spell.map es (map_head (length es)) (entries_spelled es) refl (map_some (length es) lt) (spelled_map es) (entries_some None es p))

module _ (S : Spelling Val) (P : Val → Type 0) (has : (v : Val) (b : List ℕ) → S v b → P v) where
  all_have : (vs : List Val) (b : List ℕ) → AllSpelled S vs b → AllByRecursion P vs
  all_have [] b p = tt
  all_have (v ∷ vs) b (a, c, e, p, rest) = (has v a p, all_have vs c rest)

  entries_have : (before : Option (List ℕ)) (es : List Entry) (b : List ℕ) → EntriesSpelled S before es b → AreEntries P before es
  entries_have before [] b p = tt
  entries_have before (e ∷ es) b (k, a, c, is, up, key, val, rest) = (up, key.bytes, string_small (length e.key) key.head key.counts, has e.val a val, entries_have (Some e.key) es c rest)

  nest_has : (v : Val) (b : List ℕ) → NestIs S v b → IsNest P v
  nest_has v b (spell.list vs h c e head is p) = canon.list vs e (list_small (length vs) h head) (all_have vs c p)
  nest_has v b (spell.map es h c e head is p) = canon.map es e (map_small (length es) h head) (entries_have None es c p)

pub canonical_spells : (depth : ℕ) (v : Val) → IsCanonical depth v → Spells depth v (spelled v)
unfolding Spells IsCanonical
canonical_spells zero v p = plain_some v p
canonical_spells (suc depth) v (inl p) = inl (plain_some v p)
canonical_spells (suc depth) v (inr p) = inr (nest_some (Spells depth) (IsCanonical depth) (canonical_spells depth) v p)

pub spells_canonical : (depth : ℕ) (v : Val) (b : List ℕ) → Spells depth v b → IsCanonical depth v
unfolding Spells IsCanonical
spells_canonical zero v b p = plain_has v b p
spells_canonical (suc depth) v b (inl p) = inl (plain_has v b p)
spells_canonical (suc depth) v b (inr p) = inr (nest_has (Spells depth) (IsCanonical depth) (spells_canonical depth) v b p)
