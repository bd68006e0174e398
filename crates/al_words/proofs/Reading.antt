-- Texts of numbers, and words that are no line of the generator.
use Rattle.std.proofs.Common.{◌≡◌, ◌<◌, ◌^◌, ℕ, List, [], ◌∷◌, codes, subst, arith, Result, Ok, length, get_or}
use Rattle.std.specs.Str.Parse.{ParsesUnsigned}
use Rattle.std.proofs.lemmas.Fmt.{parse-decimal}
use Rattle.al_words.specs.declared.line.Line.{Line}
use Rattle.al_words.specs.declared.line.Line.TheVariants as lines
use Rattle.al_words.specs.Lines.{IsLine, IsNumber, most_number}

-- a number's text is read as the number
pub read_as : {E : Type 0} (least most : ℕ) (text : List ℕ) (r : Result ℕ E) → most < 2 ^ 64 → ParsesUnsigned 64 10 text r → (x : ℕ) → IsNumber least most text x → r ≡ Ok x
read_as least most text r small parses x h =
    let top = h.high in
    let low : x < 2 ^ 64 = omega arith in
    parse-decimal 64 x text r low low h.is parses

pub no_generate : (a b : List ℕ) → ((n k : ℕ) → IsNumber 0 most_number a n → IsNumber 1 100000 b k → ⊥) → (l : Line) → IsLine (codes "generate" ∷ a ∷ b ∷ []) l → ⊥
no_generate a b none (lines.Session g) h = cc
no_generate a b none (lines.Serve g p) (text, n, e) = cc
no_generate a b none (lines.Generate n k) (text, other, x, y, e) =
    let first : text ≡ a = cc in
    let second : other ≡ b = cc in
    none n k (subst (λ (t : List ℕ). IsNumber 0 most_number t n) first x) (subst (λ (t : List ℕ). IsNumber 1 100000 t k) second y)
no_generate a b none (lines.Catchpoint g k r) (text, n, e) = cc
no_generate a b none (lines.Catchup g k) h = cc
no_generate a b none (lines.Label r) (text, n, e) = cc

-- four words
pub four_words : (ws : List (List ℕ)) (p q r s : List ℕ) → length ws ≡ 4 → p ≡ get_or ws 0 [] → q ≡ get_or ws 1 [] → r ≡ get_or ws 2 [] → s ≡ get_or ws 3 [] → p ∷ q ∷ r ∷ s ∷ [] ≡ ws
four_words [] p q r s l a b c d = absurd (omega arith)
four_words (w ∷ []) p q r s l a b c d = absurd (omega arith)
four_words (w ∷ x ∷ []) p q r s l a b c d = absurd (omega arith)
four_words (w ∷ x ∷ y ∷ []) p q r s l a b c d = absurd (omega arith)
four_words (w ∷ x ∷ y ∷ z ∷ []) p q r s l a b c d = cc
four_words (w ∷ x ∷ y ∷ z ∷ v ∷ more) p q r s l a b c d = absurd (omega arith)
