-- Names that rise.
use Rattle.std.proofs.Common.{◌≡◌, ℕ, true, false, List, [], ◌∷◌, refl, sym}
use Rattle.std.proofs.lemmas.Bool.{and_parts, false_from_ne_true}
use Rattle.std.proofs.lemmas.Cmp.{nat_list_cmp_total, tied_itself}
use Rattle.std.proofs.lemmas.Slice.Eq.{bytes_eq-Decides}
use Rattle.std.specs.Str.{bytes_eq}
use Rattle.std.specs.Ordering.{is_lt, nat_cmp}
use Rattle.std.specs.declared.cmp.Ordering.{Ordering}
use Rattle.std.specs.declared.cmp.Ordering.TheVariants.{Less, Equal, Greater}
use Rattle.std.specs.Cmp.Lexicographic.{slice_cmp}
use Rattle.al_msgpack.specs.Rising.{rises}

abbrev pub IsLess : List ℕ → List ℕ → Type 0
IsLess a b = slice_cmp nat_cmp a b ≡ Less

abbrev pub IsBelow : List ℕ → List (List ℕ) → Type 0
IsBelow k [] = Unit {0}
IsBelow k (n ∷ ns) = IsLess k n × IsBelow k ns

abbrev pub Rising : List (List ℕ) → Type 0
Rising [] = Unit {0}
Rising (n ∷ ns) = IsBelow n ns × Rising ns

pub below_more : (a b : List ℕ) (ns : List (List ℕ)) → IsLess a b → IsBelow b ns → IsBelow a ns
below_more a b [] h p = tt
below_more a b (n ∷ ns) h p = (nat_list_cmp_total.trans a b n h p.0, below_more a b ns h p.1)

less_from_test : (o : Ordering) → is_lt o ≡ true → o ≡ Less
less_from_test Less h = refl
less_from_test Equal h = absurd cc
less_from_test Greater h = absurd cc

pub rising : (ns : List (List ℕ)) → rises ns ≡ true → Rising ns
rising [] h = tt
rising (a ∷ []) h = (tt, tt)
rising (a ∷ b ∷ ns) h =
    let p = and_parts _ _ h in
    let rest = rising (b ∷ ns) p.1 in
    let less : IsLess a b = less_from_test _ p.0 in
    ((less, below_more a b ns less rest.0), rest)

not_itself : (a b : List ℕ) → IsLess a b → a ≡ b → ⊥
not_itself a b h e =
    let same : slice_cmp nat_cmp a b ≡ Equal = rw (← e) (tied_itself nat_list_cmp_total a) in
    absurd cc

pub apart : (a b : List ℕ) → IsLess a b → bytes_eq a b ≡ false
apart a b h = false_from_ne_true _ (λ t. not_itself a b h ((bytes_eq-Decides a b).0 t))

pub apart_back : (a b : List ℕ) → IsLess a b → bytes_eq b a ≡ false
apart_back a b h = false_from_ne_true _ (λ t. not_itself a b h (sym ((bytes_eq-Decides b a).0 t)))

pub same_name : (a b : List ℕ) → bytes_eq a b ≡ true → a ≡ b
same_name a b t = (bytes_eq-Decides a b).0 t

pub same_itself : (a : List ℕ) → bytes_eq a a ≡ true
same_itself a = (bytes_eq-Decides a a).1 refl
