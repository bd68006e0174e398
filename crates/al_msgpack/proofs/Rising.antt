-- A canonical value has keys that rise at each level.
use Rattle.std.proofs.Common.{◌≡◌, ◌&&◌, ℕ, zero, suc, Bool, true, List, [], ◌∷◌, Option, Some, None, refl, sym, ap, ap₂, ◌∙◌, map, inl, inr}
use Rattle.std.specs.List.{AllByRecursion, list_all}
use Rattle.std.specs.Ordering.{is_lt, nat_cmp, ordering_then}
use Rattle.std.specs.Cmp.{nat_cmp_is}
use Rattle.std.specs.Cmp.Lexicographic.{slice_cmp}
use Rattle.std.specs.declared.cmp.Ordering.TheVariants.{Less, Equal}
use Rattle.std.proofs.lemmas.Bool.{and_from}
use Rattle.al_msgpack.specs.declared.val.Val.{Val}
use Rattle.al_msgpack.specs.declared.val.Val.TheVariants as vals
use Rattle.al_msgpack.specs.declared.val.Val.TheOpen.{Val-F}
use Rattle.al_msgpack.specs.declared.val.Val.TheViews.{roll-Val}
use Rattle.al_msgpack.specs.declared.val.Val.TheFolds.{fold-roll-Val, fold-Entry, fold_out-Entry}
use Rattle.al_msgpack.specs.declared.val.Entry.{Entry}
use denote.Hole.Carrier.{roll}
use Rattle.al_msgpack.specs.Grammar.{Above}
use Rattle.al_msgpack.specs.Canonical as canon
use Rattle.al_msgpack.specs.Canonical.{IsPlain, IsNest, AreEntries, IsCanonical}
use Rattle.al_msgpack.specs.Rising.{rises, keys, rising_step, member_step, canonical, are_canonical}

pub above_less : (a b : List ℕ) → Above a b → slice_cmp nat_cmp a b ≡ Less
above_less a [] p = absurd p
above_less [] (y ∷ b) p = refl
above_less (x ∷ a) (y ∷ b) (inl lt) = ap (λ o. ordering_then o (slice_cmp nat_cmp a b)) (sym (nat_cmp_is x y Less lt))
above_less (x ∷ a) (y ∷ b) (inr p) = ap (λ o. ordering_then o (slice_cmp nat_cmp a b)) (sym (nat_cmp_is x y Equal p.0)) ∙ above_less a b p.1

abbrev pub Pair : Type 0
Pair = List ℕ × Bool

abbrev pub tested : Entry → Pair
tested = fold-Entry Bool Pair rising_step member_step

at_num : (n : ℕ) → canonical (vals.Num n) ≡ true
unfolding roll-Val roll
at_num n = fold-roll-Val Bool Pair rising_step member_step (Val-F.Num n)

at_flag : (b : Bool) → canonical (vals.Flag b) ≡ true
unfolding roll-Val roll
at_flag b = fold-roll-Val Bool Pair rising_step member_step (Val-F.Flag b)

at_str : (s : List ℕ) → canonical (vals.Str s) ≡ true
unfolding roll-Val roll
at_str s = fold-roll-Val Bool Pair rising_step member_step (Val-F.Str s)

at_bin : (s : List ℕ) → canonical (vals.Bin s) ≡ true
unfolding roll-Val roll
at_bin s = fold-roll-Val Bool Pair rising_step member_step (Val-F.Bin s)

at_list : (vs : List Val) → canonical (vals.List vs) ≡ list_all (λ b. b) (map canonical vs)
unfolding roll-Val roll
at_list vs = fold-roll-Val Bool Pair rising_step member_step (Val-F.List vs)

at_map : (es : List Entry) → canonical (vals.Map es) ≡ rises (map (λ (e : Pair). e.0) (map tested es)) && list_all (λ (e : Pair). e.1) (map tested es)
unfolding roll-Val roll
at_map es = fold-roll-Val Bool Pair rising_step member_step (Val-F.Map es)

pub entry_is : (e : Entry) → tested e ≡ (e.key, canonical e.val)
entry_is e = fold_out-Entry Bool Pair rising_step member_step e ∙ refl

pub keys_are : (es : List Entry) → map (λ (p : Pair). p.0) (map tested es) ≡ keys es
keys_are [] = refl
keys_are (e ∷ es) = ap₂ (λ (k : List ℕ) (ks : List (List ℕ)). k ∷ ks) (ap (λ (p : Pair). p.0) (entry_is e)) (keys_are es)

pub vals_are : (es : List Entry) → list_all (λ (p : Pair). p.1) (map tested es) ≡ list_all (λ e. canonical e.val) es
vals_are [] = refl
vals_are (e ∷ es) = ap₂ (λ (a b : Bool). a && b) (ap (λ (p : Pair). p.1) (entry_is e)) (vals_are es)

pub members_are : (vs : List Val) → list_all (λ (b : Bool). b) (map canonical vs) ≡ list_all canonical vs
members_are [] = refl
members_are (v ∷ vs) = ap (λ (b : Bool). canonical v && b) (members_are vs)

-- a list is canonical where its members are, and a map where its entries are
pub of_list : (vs : List Val) → canonical (vals.List vs) ≡ list_all canonical vs
of_list vs = at_list vs ∙ members_are vs

pub of_entries : (es : List Entry) → canonical (vals.Map es) ≡ are_canonical es
of_entries es = at_map es ∙ ap₂ (λ (a b : Bool). a && b) (ap rises (keys_are es)) (vals_are es)

pub of_num : (n : ℕ) → canonical (vals.Num n) ≡ true
of_num n = at_num n

pub of_flag : (b : Bool) → canonical (vals.Flag b) ≡ true
of_flag b = at_flag b

pub of_str : (s : List ℕ) → canonical (vals.Str s) ≡ true
of_str s = at_str s

pub of_bin : (s : List ℕ) → canonical (vals.Bin s) ≡ true
of_bin s = at_bin s

plain : (v : Val) → IsPlain v → canonical v ≡ true
plain v (canon.number n e lt) = ap canonical e ∙ at_num n
plain v (canon.flag b e) = ap canonical e ∙ at_flag b
plain v (canon.string s e fits lt) = ap canonical e ∙ at_str s
plain v (canon.bytes s e fits lt) = ap canonical e ∙ at_bin s

module _ (P : Val → Type 0) (so : (v : Val) → P v → canonical v ≡ true) where
  members : (vs : List Val) → AllByRecursion P vs → list_all canonical vs ≡ true
  members [] p = refl
  members (v ∷ vs) p = and_from _ _ (so v p.0) (members vs p.1)

  entries : (before : Option (List ℕ)) (es : List Entry) → AreEntries P before es → list_all (λ e. canonical e.val) es ≡ true
  entries before [] p = refl
  entries before (e ∷ es) (up, fits, lt, val, rest) = and_from _ _ (so e.val val) (entries (Some e.key) es rest)

  up : (before : Option (List ℕ)) (es : List Entry) → AreEntries P before es → rises (keys es) ≡ true
  up before [] p = refl
  up before (e ∷ []) p = refl
  up before (e ∷ f ∷ es) (first, fits, lt, val, rest) = and_from _ _ (ap is_lt (above_less e.key f.key rest.0)) (up (Some e.key) (f ∷ es) rest)

  nest : (v : Val) → IsNest P v → canonical v ≡ true
  nest v (canon.list vs e lt p) = ap canonical e ∙ of_list vs ∙ members vs p
  nest v (canon.map es e lt p) = ap canonical e ∙ of_entries es ∙ and_from _ _ (up None es p) (entries None es p)

pub canonical_rises : (depth : ℕ) (v : Val) → IsCanonical depth v → canonical v ≡ true
unfolding IsCanonical
canonical_rises zero v p = plain v p
canonical_rises (suc depth) v (inl p) = plain v p
canonical_rises (suc depth) v (inr p) = nest (IsCanonical depth) (canonical_rises depth) v p
