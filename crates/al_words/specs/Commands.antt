-- Which words are a command.
use Rattle.std.specs.Prelude.{◌≡◌, ◌⊎◌, ◌==◌, ℕ, Bool, false, List, [], ◌∷◌, length, codes}
use Rattle.std.specs.List.{list_any}

-- the name of each line, and how many words it has behind it
abbrev pub forms : List (List ℕ × ℕ)
forms = (codes "session", 1) ∷ (codes "serve", 2) ∷ (codes "generate", 2) ∷ (codes "catchpoint", 3) ∷ (codes "catchup", 2) ∷ (codes "label", 1) ∷ []

-- a name and the words behind it have one of the forms
abbrev pub IsAmong : List ℕ → List (List ℕ) → List (List ℕ × ℕ) → Type 0
IsAmong name args [] = ⊥
IsAmong name args (f ∷ fs) = ((name ≡ f.0) × (length args ≡ f.1)) ⊎ IsAmong name args fs

-- whether a word begins with a dash
abbrev pub begins_with_dash : List ℕ → Bool
begins_with_dash [] = false
begins_with_dash (b ∷ bs) = b == 45

-- whether one of the words begins with a dash
abbrev pub has_dash : List (List ℕ) → Bool
has_dash words = list_any begins_with_dash words

-- the first word names a line, and as many words stand behind it as it has
abbrev pub HasForm : List (List ℕ) → Type 0
HasForm [] = ⊥
HasForm (name ∷ args) = IsAmong name args forms

-- no word begins with a dash, and the words have the form of a line
abbrev pub IsCommand : List (List ℕ) → Type 0
IsCommand words = (has_dash words ≡ false) × HasForm words
