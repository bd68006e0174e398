-- Equal names of boxes are equal values.
use Rattle.std.proofs.Common.{◌≡◌, ◌==◌, ◌∙◌, ◌-◌, ◌++◌, ◌≤◌, ℕ, Bool, true, false, nat_le, List, [], drop, length, replicate, if◌then◌else◌, refl, sym, ap, ap₂, subst}
use Rattle.std.proofs.lemmas.Bool.{eqb-true}
use Rattle.std.proofs.lemmas.List.{length-take-le, take-append-drop}
use Rattle.std.proofs.Props.{props}
use Rattle.std.proofs.Math.Bridge.{le_prop}
use Rattle.al_base.specs.Name.{name_of}
use Rattle.al_base.specs.declared.name.BoxName.{BoxName}
use Rattle.al_bodies.specs.Effect.{whole_name}

pub whole_is : (n : BoxName) → length n.bytes ≡ 64 → whole_name n ≡ name_of n
whole_is n h = rw h refl

abbrev Padded : ℕ → List ℕ → Type 0
Padded len bytes = drop len bytes ≡ replicate (64 - len) 0

abbrev name : (bytes : List ℕ) (len : ℕ) → 1 ≤ len → len ≤ 64 → Padded len bytes → BoxName
name bytes len s h p = record { bytes = bytes; len = len; some = s; short = h; padded = p }

one_proof : (len : ℕ) (bytes : List ℕ) → IsProp (Padded len bytes)
one_proof len bytes = hlevel props

proofs : (bytes : List ℕ) (len : ℕ) (s t : 1 ≤ len) (u v : len ≤ 64) (p q : Padded len bytes) → name bytes len s u p ≡ name bytes len t v q
proofs bytes len s t u v p q =
    let a : s ≡ t = le_prop s t in
    let b : u ≡ v = le_prop u v in
    let c : p ≡ q = one_proof len bytes p q in
    cc

same_parts : (a b : BoxName) → a.bytes ≡ b.bytes → a.len ≡ b.len → a ≡ b
same_parts a b p q =
    subst (λ (n : ℕ). (s : 1 ≤ n) (u : n ≤ 64) (z : Padded n b.bytes) → a ≡ name b.bytes n s u z) q
    (subst (λ (bytes : List ℕ). (s : 1 ≤ a.len) (u : a.len ≤ 64) (z : Padded a.len bytes) → a ≡ name bytes a.len s u z) p
    (λ s u z. proofs a.bytes a.len a.some s a.short u a.padded z)) b.some b.short b.padded

name_length : (b : BoxName) → length b.bytes ≡ 64 → length (name_of b) ≡ b.len
name_length b h = length-take-le b.len b.bytes (rw h b.short)

same_name : (a b : BoxName) → length a.bytes ≡ 64 → length b.bytes ≡ 64 → name_of a ≡ name_of b → a ≡ b
same_name a b p q e =
    let len : a.len ≡ b.len = sym (name_length a p) ∙ ap length e ∙ name_length b q in
    let back : drop a.len a.bytes ≡ drop b.len b.bytes = a.padded ∙ ap (λ (n : ℕ). replicate (64 - n) 0) len ∙ sym b.padded in
    let bytes : a.bytes ≡ b.bytes = sym (take-append-drop a.len a.bytes) ∙ ap₂ (λ (xs ys : List ℕ). xs ++ ys) e back ∙ take-append-drop b.len b.bytes in
    same_parts a b bytes len

-- only a whole name is not empty
is_whole : (test : Bool) (bytes : List ℕ) → nat_le 1 (length (if test then bytes else [])) ≡ true → test ≡ true
is_whole true bytes h = refl
is_whole false bytes h = absurd cc

pub names_same : (a b : BoxName) → nat_le 1 (length (whole_name a)) ≡ true → nat_le 1 (length (whole_name b)) ≡ true → whole_name a ≡ whole_name b → a ≡ b
names_same a b p q e =
    let h : length a.bytes ≡ 64 = eqb-true _ _ (is_whole (length a.bytes == 64) (name_of a) p) in
    let i : length b.bytes ≡ 64 = eqb-true _ _ (is_whole (length b.bytes == 64) (name_of b) q) in
    same_name a b h i (sym (whole_is a h) ∙ e ∙ whole_is b i)
