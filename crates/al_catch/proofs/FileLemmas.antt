-- The names of files.
use Rattle.std.proofs.Common.{◌≡◌, ◌==◌, ◌<◌, ◌^◌, ℕ, suc, false, List, [], ◌∷◌, ◌++◌, get_or, codes, refl, sym, ap, ◌∙◌, arith, All}
use Rattle.std.proofs.lemmas.Bool.Decides.{nat_tests}
use Rattle.std.proofs.lemmas.Fmt.{decimal_injective}
use Rattle.std.proofs.lemmas.List.{append_cancel_left}
use Rattle.std.proofs.lemmas.List.Elements.{All-nil, All-cons}
use Rattle.std.proofs.lemmas.List.Splits.{slice_split_at}
use Rattle.std.specs.Fmt.{decimal}
use Rattle.std.specs.Int.{IsInRange}
use Rattle.std.specs.List.{slice_split}
use Rattle.al_catch.specs.declared.files.CatchFile.{CatchFile}
use Rattle.al_catch.specs.declared.files.CatchFile.TheVariants as file
use Rattle.al_catch.specs.Files.{IsFile, name_of, part_of}
use Rattle.al_catch.proofs.NumberLemmas.{AreDigits, digits_of}

abbrev first_byte : List ℕ → ℕ
first_byte t = get_or t 0 0

of_parts : (f g : CatchFile) → IsFile f → IsFile g → part_of f ≡ part_of g → f ≡ g
of_parts (file.Rows j) (file.Rows k) p q e = ap file.Rows (decimal_injective j k p q (append_cancel_left (codes "rows-") (decimal j) (decimal k) e))
of_parts (file.Rows j) file.Info p q e = let first : 114 ≡ 105 = ap first_byte e in absurd (omega (arith, first))
of_parts (file.Rows j) (file.Block k) p q e = let first : 114 ≡ 98 = ap first_byte e in absurd (omega (arith, first))
of_parts (file.Rows j) file.Label p q e = let first : 114 ≡ 108 = ap first_byte e in absurd (omega (arith, first))
of_parts file.Info (file.Rows k) p q e = let first : 105 ≡ 114 = ap first_byte e in absurd (omega (arith, first))
of_parts file.Info file.Info p q e = λ i. file.Info
of_parts file.Info (file.Block k) p q e = let first : 105 ≡ 98 = ap first_byte e in absurd (omega (arith, first))
of_parts file.Info file.Label p q e = let first : 105 ≡ 108 = ap first_byte e in absurd (omega (arith, first))
of_parts (file.Block j) (file.Rows k) p q e = let first : 98 ≡ 114 = ap first_byte e in absurd (omega (arith, first))
of_parts (file.Block j) file.Info p q e = let first : 98 ≡ 105 = ap first_byte e in absurd (omega (arith, first))
of_parts (file.Block j) (file.Block k) p q e = ap file.Block (decimal_injective j k p q (append_cancel_left (codes "block-") (decimal j) (decimal k) e))
of_parts (file.Block j) file.Label p q e = let first : 98 ≡ 108 = ap first_byte e in absurd (omega (arith, first))
of_parts file.Label (file.Rows k) p q e = let first : 108 ≡ 114 = ap first_byte e in absurd (omega (arith, first))
of_parts file.Label file.Info p q e = let first : 108 ≡ 105 = ap first_byte e in absurd (omega (arith, first))
of_parts file.Label (file.Block k) p q e = let first : 108 ≡ 98 = ap first_byte e in absurd (omega (arith, first))
of_parts file.Label file.Label p q e = λ i. file.Label

pub own_names : (round : ℕ) (f g : CatchFile) → IsFile f → IsFile g → name_of round f ≡ name_of round g → f ≡ g
own_names round f g p q same =
    of_parts f g p q
    (append_cancel_left (codes "-") (part_of f) (part_of g)
    (append_cancel_left (decimal round) (codes "-" ++ part_of f) (codes "-" ++ part_of g)
    (append_cancel_left (codes "cp-") (decimal round ++ (codes "-" ++ part_of f)) (decimal round ++ (codes "-" ++ part_of g)) same)))

-- ---- the round of a name

-- what stands between two dashes is read up to the first
abbrev upto_dash : List ℕ → List (List ℕ)
upto_dash text = slice_split (λ b. b == 45) text

no_dash : (ds : List ℕ) → AreDigits ds → All (λ b. (b == 45) ≡ false) ds
no_dash [] h = All-nil (λ b. (b == 45) ≡ false)
no_dash (d ∷ ds) h =
    let here : IsInRange 48 57 d = h 0 (omega arith) in
    All-cons (λ b. (b == 45) ≡ false) d ds (grind (arith, nat_tests, here)) (no_dash ds (λ i l. h (suc i) (omega arith)))

front_of : (a x : List ℕ) → All (λ b. (b == 45) ≡ false) a → get_or (upto_dash (a ++ 45 ∷ x)) 0 [] ≡ a
front_of a x clear = ap (λ ps. get_or ps 0 []) (slice_split_at (λ b. b == 45) a 45 x clear refl)

same_front : (a b x y : List ℕ) → All (λ c. (c == 45) ≡ false) a → All (λ c. (c == 45) ≡ false) b → a ++ 45 ∷ x ≡ b ++ 45 ∷ y → a ≡ b
same_front a b x y p q same = sym (front_of a x p) ∙ ap (λ (t : List ℕ). get_or (upto_dash t) 0 []) same ∙ front_of b y q

pub same_round : (r s : ℕ) (f g : CatchFile) → r < 2 ^ 64 → s < 2 ^ 64 → name_of r f ≡ name_of s g → r ≡ s
same_round r s f g low least same =
    decimal_injective r s low least
    (same_front (decimal r) (decimal s) (part_of f) (part_of g) (no_dash (decimal r) (digits_of r low)) (no_dash (decimal s) (digits_of s least))
    (append_cancel_left (codes "cp-") (decimal r ++ 45 ∷ part_of f) (decimal s ++ 45 ∷ part_of g) same))

pub own_files : (r s : ℕ) (f g : CatchFile) → r < 2 ^ 64 → s < 2 ^ 64 → IsFile f → IsFile g → name_of r f ≡ name_of s g → (r ≡ s) × (f ≡ g)
own_files r s f g low least p q same =
    let round = same_round r s f g low least same in
    (round, own_names s f g p q (ap (λ (n : ℕ). name_of n f) (sym round) ∙ same))
