-- Labels, their texts, and what is wrong with other texts.
use Rattle.std.specs.Prelude.{◌≡◌, ◌≢◌, ◌≤◌, ◌^◌, ◌==◌, ℕ, List, [], ◌∷◌, ◌++◌, length, get_or, Option, Some, None, Result, Ok, Err}
use Rattle.std.specs.Fmt.{decimal}
use Rattle.std.specs.List.{slice_split}
use Rattle.al_digest.specs.declared.hashing.Prefix.TheVariants as prefixes
use Rattle.al_digest.specs.Digests.{digest_of}
use Rattle.al_digest.specs.Texts.{AreBytes, HasTextFault, hash_text_of}
use Rattle.al_msgpack.specs.declared.val.Val.TheVariants as values
use Rattle.al_msgpack.specs.Spelled.{spelled}
use Rattle.al_rewards.specs.declared.totals.Totals.{Totals}
use Rattle.al_rewards.specs.Record.{totals}
use Rattle.al_catch.specs.declared.label.Label.{Label}
use Rattle.al_catch.specs.declared.label.LabelFault.{LabelFault}
use Rattle.al_catch.specs.declared.label.LabelFault.TheVariants.{Shape, Round, Text}

-- ---- what a label commits to

-- What the digest of a label is taken of: the hash of the round's block, the root of the rows and the spelling of the totals.
abbrev pub label_string : List ℕ → List ℕ → Totals → List ℕ
label_string block root t = block ++ (root ++ spelled (values.Map (totals.write t)))

-- the label of a round over such a string
abbrev pub label_of : ℕ → List ℕ → Label
label_of round string = record { round = round; digest = digest_of prefixes.Label string }

-- ---- texts

-- the numbers of the faults
abbrev pub number_of : LabelFault → ℕ
number_of Shape = 1
number_of Round = 2
number_of (Text fault) = 3

-- a decimal of 1 to 2^62 without sign or leading zero
abbrev pub IsRoundText : List ℕ → ℕ → Type 0
IsRoundText text n = (1 ≤ n) × (n ≤ 2 ^ 62) × (text ≡ decimal n)

-- a round of 1 to 2^62 and a digest of 32 bytes
abbrev pub IsLabel : Label → Type 0
IsLabel l = (1 ≤ l.round) × (l.round ≤ 2 ^ 62) × AreBytes 32 l.digest

-- the text of a label: the round in decimal, `#` (the byte 35) and the letters of the digest
abbrev pub label_text_of : Label → List ℕ
label_text_of l = decimal l.round ++ 35 ∷ hash_text_of l.digest

-- what stands before, between and behind the bytes `#` of a text
abbrev pub parts_of : List ℕ → List (List ℕ)
parts_of text = slice_split (λ b. b == 35) text

-- The first fault of a text. One with exactly one `#` has two parts.
abbrev pub HasLabelFault : List ℕ → LabelFault → Type 0
HasLabelFault text Shape = length (parts_of text) ≢ 2
HasLabelFault text Round = (length (parts_of text) ≡ 2) × ((n : ℕ) → IsRoundText (get_or (parts_of text) 0 []) n → ⊥)
HasLabelFault text (Text fault) = (length (parts_of text) ≡ 2) × ((n : ℕ) × IsRoundText (get_or (parts_of text) 0 []) n) × HasTextFault 52 4 (get_or (parts_of text) 1 []) fault

-- what a text says: the label whose text it is, or its first fault
abbrev pub ReadsLabel : List ℕ → Result Label LabelFault → Type 0
ReadsLabel text (Ok l) = IsLabel l × (text ≡ label_text_of l)
ReadsLabel text (Err fault) = HasLabelFault text fault

-- a value is read, or there is none
abbrev pub Reads : {A : Type 0} → (A → Type 0) → Option A → Type 0
Reads Is (Some x) = Is x
Reads {A = A} Is None = (x : A) → Is x → ⊥
