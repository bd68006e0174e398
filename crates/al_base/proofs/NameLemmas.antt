-- The name of a box is determined by its bytes.
use Rattle.std.proofs.Common.{◌≡◌, ℕ, ◌-◌, ◌≤◌, List, ◌++◌, length, drop, replicate, refl, sym, ◌∙◌, ap, subst, arith}
use Rattle.std.proofs.lemmas.List.{take-append-drop, length-take}
use Rattle.std.proofs.Props.{props}
use Rattle.al_base.specs.Name.{name_of}
use Rattle.al_base.specs.declared.name.BoxName.{BoxName}

abbrev Facts : List ℕ → ℕ → Type 0
Facts bytes len = (1 ≤ len) × (len ≤ 64) × (drop len bytes ≡ replicate (64 - len) 0)

facts-prop : (bytes : List ℕ) (len : ℕ) → IsProp (Facts bytes len)
facts-prop bytes len = hlevel props

abbrev made : (bytes : List ℕ) (len : ℕ) → Facts bytes len → BoxName
made bytes len h = record { bytes = bytes; len = len; some = h.0; short = h.1; padded = h.2 }

-- names of the same fields are the same
pub same_name : (a b : BoxName) → a.bytes ≡ b.bytes → a.len ≡ b.len → a ≡ b
same_name a b e f =
    let h : Facts a.bytes a.len = (a.some, a.short, a.padded) in
    let P : ℕ → Type 0 = λ len. (g : Facts a.bytes len) → made a.bytes a.len h ≡ made a.bytes len g in
    let Q : List ℕ → Type 0 = λ bytes. (g : Facts bytes b.len) → made a.bytes a.len h ≡ made bytes b.len g in
    let at_len : P b.len = subst P f (λ g. ap (made a.bytes a.len) (facts-prop a.bytes a.len h g)) in
    subst Q e at_len (b.some, b.short, b.padded)

-- how long a name is, and what stands in its array
pub name_len : (n : BoxName) (name : List ℕ) → length n.bytes ≡ 64 → name_of n ≡ name → n.len ≡ length name
name_len n name l e = let h = n.short in omega (arith, length-take n.len n.bytes, ap length e)

pub name_bytes : (n : BoxName) (name : List ℕ) → length n.bytes ≡ 64 → name_of n ≡ name → n.bytes ≡ name ++ replicate (64 - length name) 0
name_bytes n name l e =
    let len = name_len n name l e in
    sym (take-append-drop n.len n.bytes) ∙ ap (λ t. t ++ drop n.len n.bytes) e ∙ ap (λ t. name ++ t) (n.padded ∙ ap (λ k. replicate (64 - k) 0) len)

-- names of arrays of 64 bytes that have the same bytes are the same
pub name_is : (a b : BoxName) → length a.bytes ≡ 64 → length b.bytes ≡ 64 → name_of a ≡ name_of b → a ≡ b
name_is a b la lb e =
    same_name a b (name_bytes a (name_of b) la e ∙ sym (name_bytes b (name_of b) lb refl)) (name_len a (name_of b) la e ∙ sym (name_len b (name_of b) lb refl))
