-- The lines of the command and their words.
use Rattle.std.specs.Prelude.{◌≡◌, ◌≤◌, ◌-◌, ◌^◌, ◌↔◌, ℕ, false, List, [], ◌∷◌, codes, Option, Some, None}
use Rattle.std.specs.Fmt.{decimal}
use Rattle.al_words.specs.declared.line.Line.{Line}
use Rattle.al_words.specs.declared.line.Line.TheVariants as lines
use Rattle.al_words.specs.Commands.{IsCommand, has_dash}

-- a value is read, or there is none
abbrev pub Reads : {A : Type 0} → (A → Type 0) → Option A → Type 0
Reads Is (Some x) = Is x
Reads {A = A} Is None = (x : A) → Is x → ⊥

-- a number between two bounds, as a decimal without sign or leading zero
pub record IsNumber (least most : ℕ) (text : List ℕ) (n : ℕ) : Type 0 where
  pub low : least ≤ n
  pub high : n ≤ most
  pub is : text ≡ decimal n

-- the greatest round
abbrev pub most_round : ℕ
most_round = 2 ^ 62

-- the greatest number that blocks are drawn from
abbrev pub most_number : ℕ
most_number = 2 ^ 64 - 1

-- the words are this line
abbrev pub IsLine : List (List ℕ) → Line → Type 0
IsLine words (lines.Session genesis) = words ≡ codes "session" ∷ genesis.now ∷ []
IsLine words (lines.Serve genesis port) = (text : List ℕ) × IsNumber 1 65535 text port × (words ≡ codes "serve" ∷ genesis.now ∷ text ∷ [])
IsLine words (lines.Generate number blocks) =
    (text : List ℕ) × (other : List ℕ) × IsNumber 0 most_number text number × IsNumber 1 100000 other blocks × (words ≡ codes "generate" ∷ text ∷ other ∷ [])
IsLine words (lines.Catchpoint genesis blocks round) =
    (text : List ℕ) × IsNumber 0 most_round text round × (words ≡ codes "catchpoint" ∷ genesis.now ∷ blocks.now ∷ text ∷ [])
IsLine words (lines.Catchup genesis label) = words ≡ codes "catchup" ∷ genesis.now ∷ label.now ∷ []
IsLine words (lines.Label round) = (text : List ℕ) × IsNumber 0 most_round text round × (words ≡ codes "label" ∷ text ∷ [])

-- no word begins with a dash, and the words are this line
abbrev pub Says : List (List ℕ) → Line → Type 0
Says words line = (has_dash words ≡ false) × IsLine words line

-- words without a dash that are a line are a command
abbrev pub LinesAreCommands : Type 0
LinesAreCommands = (words : List (List ℕ)) (line : Line) → Says words line → IsCommand words

-- words are read as none exactly where they say nothing
abbrev pub IsRefused : Type 0
IsRefused = (words : List (List ℕ)) (o : Option Line) → Reads (Says words) o → (o ≡ None) ↔ ((line : Line) → Says words line → ⊥)
