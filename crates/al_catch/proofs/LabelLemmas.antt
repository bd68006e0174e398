-- The texts of labels.
use Rattle.std.proofs.Common.{◌≡◌, ◌≢◌, ◌<◌, ◌≤◌, ◌==◌, ◌⊎◌, inl, inr, ℕ, suc, false, List, [], ◌∷◌, ◌++◌, length, take, get_or, refl, sym, ap, ◌∙◌, arith, subst, All, Result, Ok, Err}
use Rattle.std.proofs.lemmas.Bool.{cases_order}
use Rattle.std.proofs.lemmas.Bool.Decides.{nat_tests}
use Rattle.std.proofs.lemmas.Fmt.{decimal_injective}
use Rattle.std.proofs.lemmas.List.{get_or-take, length-take}
use Rattle.std.proofs.lemmas.List.Elements.{All-nil, All-cons, All-get_or, All-weaker}
use Rattle.std.proofs.lemmas.List.Splits.{slice_split_at, slice_split_none, length-slice_split, join_with_byte-slice_split}
use Rattle.std.specs.Fmt.{decimal}
use Rattle.std.specs.Int.{IsInRange}
use Rattle.std.specs.List.{join_with_byte}
use Rattle.al_digest.specs.declared.texts.TextFault.{TextFault}
use Rattle.al_digest.specs.declared.texts.TextFault.TheVariants.{Length, Letter, SpareBits, Check}
use Rattle.al_digest.specs.Base32.{IsFirstOther, IsLetter}
use Rattle.al_digest.specs.Texts.{AreBytes, HasTextFault, hash_text_of}
use Rattle.al_digest.proofs.Letters.{base32_letters}
use Rattle.al_digest.proofs.Readings.{hash_read}
use Rattle.al_catch.specs.declared.label.Label.{Label}
use Rattle.al_catch.specs.declared.label.LabelFault.{LabelFault}
use Rattle.al_catch.specs.declared.label.LabelFault.TheVariants.{Shape, Round, Text}
use Rattle.al_catch.specs.Labels.{HasLabelFault, IsLabel, IsRoundText, ReadsLabel, label_text_of, parts_of}
use Rattle.al_catch.proofs.NumberLemmas.{AreDigits, decimal_digits}

-- no byte is `#`
abbrev pub NoMark : List ℕ → Type 0
NoMark text = All (λ b. (b == 35) ≡ false) text

-- ---- the parts of a text

first_part : (text a b : List ℕ) → NoMark a → text ≡ a ++ 35 ∷ b → parts_of text ≡ a ∷ parts_of b
first_part text a b clear is = ap parts_of is ∙ slice_split_at (λ c. c == 35) a 35 b clear refl

one_part : (text : List ℕ) → NoMark text → parts_of text ≡ text ∷ []
one_part text clear = slice_split_none (λ c. c == 35) text clear

some_part : (text : List ℕ) → 1 ≤ length (parts_of text)
some_part text = omega (arith, length-slice_split (λ c. c == 35) text)

pub no_mark : (text : List ℕ) → NoMark text → length (parts_of text) ≢ 2
no_mark text clear two = absurd (omega (arith, two, ap length (one_part text clear)))

pub more_marks : (text a b c d : List ℕ) → NoMark a → text ≡ a ++ 35 ∷ b → NoMark c → b ≡ c ++ 35 ∷ d → length (parts_of text) ≢ 2
more_marks text a b c d p is q more two = absurd (omega (arith, two, ap length (first_part text a b p is), ap length (first_part b c d q more), some_part d))

pub one_mark : (text a b : List ℕ) → NoMark a → text ≡ a ++ 35 ∷ b → NoMark b → parts_of text ≡ a ∷ b ∷ []
one_mark text a b p is q = first_part text a b p is ∙ ap (λ (ps : List (List ℕ)). a ∷ ps) (one_part b q)

text_is : (text a b : List ℕ) → parts_of text ≡ a ∷ b ∷ [] → text ≡ a ++ 35 ∷ b
text_is text a b is = sym (join_with_byte-slice_split 35 text) ∙ ap (join_with_byte 35) is

-- ---- what is read of two parts

pub round_fault : (text a b : List ℕ) → parts_of text ≡ a ∷ b ∷ [] → ((n : ℕ) → IsRoundText a n → ⊥) → HasLabelFault text Round
round_fault text a b is none = (ap length is, λ n h. none n (subst (λ (t : List ℕ). IsRoundText t n) (ap (λ ps. get_or ps 0 []) is) h))

pub text_fault : (text a b : List ℕ) (n : ℕ) (fault : TextFault) → parts_of text ≡ a ∷ b ∷ [] → IsRoundText a n → HasTextFault 52 4 b fault → HasLabelFault text (Text fault)
text_fault text a b n fault is round h = (
  ap length is,
  (n, subst (λ (t : List ℕ). IsRoundText t n) (sym (ap (λ ps. get_or ps 0 []) is)) round),
  subst (λ (t : List ℕ). HasTextFault 52 4 t fault) (sym (ap (λ ps. get_or ps 1 []) is)) h,
)

pub label_read : (text a b : List ℕ) (l : Label) → parts_of text ≡ a ∷ b ∷ [] → IsRoundText a l.round → AreBytes 32 l.digest → b ≡ hash_text_of l.digest → IsLabel l × (text ≡ label_text_of l)
label_read text a b l is (some, most, front) bytes behind =
    ((some, most, bytes), text_is text a b is ∙ ap (λ (t : List ℕ). t ++ 35 ∷ b) front ∙ ap (λ (t : List ℕ). decimal l.round ++ 35 ∷ t) behind)

-- ---- the text of a label

digits_clear : (ds : List ℕ) → AreDigits ds → NoMark ds
digits_clear [] h = All-nil (λ b. (b == 35) ≡ false)
digits_clear (d ∷ ds) h =
    let here : IsInRange 48 57 d = h 0 (omega arith) in
    All-cons (λ b. (b == 35) ≡ false) d ds (grind (arith, nat_tests, here)) (digits_clear ds (λ i l. h (suc i) (omega arith)))

letter_clear : (c : ℕ) → IsLetter c → (c == 35) ≡ false
letter_clear c (inl h) = grind (arith, nat_tests)
letter_clear c (inr h) = grind (arith, nat_tests)

label_parts : (l : Label) → IsLabel l → parts_of (label_text_of l) ≡ decimal l.round ∷ hash_text_of l.digest ∷ []
label_parts l (some, most, bytes) =
    one_mark (label_text_of l) (decimal l.round) (hash_text_of l.digest) (digits_clear (decimal l.round) (decimal_digits l.round most)) refl
    (All-weaker IsLetter (λ b. (b == 35) ≡ false) letter_clear (hash_text_of l.digest) (base32_letters l.digest))

both_parts : (text : List ℕ) (l : Label) → IsLabel l → text ≡ label_text_of l → parts_of text ≡ decimal l.round ∷ hash_text_of l.digest ∷ []
both_parts text l own is = ap parts_of is ∙ label_parts l own

no_hash : (text : List ℕ) (fault : TextFault) (hash : List ℕ) → HasTextFault 52 4 text fault → AreBytes 32 hash → text ≡ hash_text_of hash → ⊥
no_hash text fault hash h own is = let e : Err fault ≡ Ok hash = hash_read text (Err fault) h tt hash own is in cc

no_label : (text : List ℕ) (f : LabelFault) (l : Label) → HasLabelFault text f → IsLabel l → text ≡ label_text_of l → ⊥
no_label text Shape l h own is = h (ap length (both_parts text l own is))
no_label text Round l h own is = h.1 l.round (own.0, own.1, ap (λ ps. get_or ps 0 []) (both_parts text l own is))
no_label text (Text fault) l h own is = no_hash (get_or (parts_of text) 1 []) fault l.digest h.2 own.2 (ap (λ ps. get_or ps 1 []) (both_parts text l own is))

one_hash : (text k l : List ℕ) → AreBytes 32 k → AreBytes 32 l → text ≡ hash_text_of k → text ≡ hash_text_of l → k ≡ l
one_hash text k l p q is other = let e : Ok k ≡ Ok l = hash_read text (Ok k) is p l q other in cc

one_label : (text : List ℕ) (k l : Label) → IsLabel k → IsLabel l → text ≡ label_text_of k → text ≡ label_text_of l → k ≡ l
one_label text k l p q is other = λ i. record { round = rounds i; digest = digests i }
  where
    rounds : k.round ≡ l.round
    rounds = decimal_injective k.round l.round (omega (arith, p.1)) (omega (arith, q.1)) (sym (ap (λ ps. get_or ps 0 []) (both_parts text k p is)) ∙ ap (λ ps. get_or ps 0 []) (both_parts text l q other))

    digests : k.digest ≡ l.digest
    digests = one_hash (get_or (parts_of text) 1 []) k.digest l.digest p.2 q.2 (ap (λ ps. get_or ps 1 []) (both_parts text k p is)) (ap (λ ps. get_or ps 1 []) (both_parts text l q other))

-- ---- a text has one first fault

no_two_places : (text : List ℕ) (a b : ℕ) → IsFirstOther text a → All IsLetter (take b text) → a < b → ⊥
no_two_places text a b (within, other, front) all less =
    other (subst IsLetter (get_or-take b text a 0 less) (All-get_or IsLetter (take b text) a 0 (omega (arith, within, less, length-take b text)) all))

one_place : (text : List ℕ) (a b : ℕ) → IsFirstOther text a → IsFirstOther text b → a ≡ b
one_place text a b h k = by_order (cases_order a b)
  where
    by_order : (a ≡ b) ⊎ ((a < b) ⊎ (b < a)) → a ≡ b
    by_order (inl e) = e
    by_order (inr (inl less)) = absurd (no_two_places text a b h k.2 less)
    by_order (inr (inr less)) = absurd (no_two_places text b a k h.2 less)

one_text_fault : (text : List ℕ) (f g : TextFault) → HasTextFault 52 4 text f → HasTextFault 52 4 text g → f ≡ g
one_text_fault text (Length m) (Length n) h k = ap Length (h.0 ∙ sym k.0)
one_text_fault text (Length m) (Letter at) h k = absurd (h.1 (h.0 ∙ k.0))
one_text_fault text (Length m) SpareBits h k = absurd (h.1 (h.0 ∙ k.0))
one_text_fault text (Length m) Check h k = absurd k
one_text_fault text (Letter at) (Length n) h k = absurd (k.1 (k.0 ∙ h.0))
one_text_fault text (Letter a) (Letter b) h k = ap Letter (one_place text a b h.1 k.1)
one_text_fault text (Letter at) SpareBits h k = absurd (h.1.1 (All-get_or IsLetter text at 0 h.1.0 k.1))
one_text_fault text (Letter at) Check h k = absurd k
one_text_fault text SpareBits (Length n) h k = absurd (k.1 (k.0 ∙ h.0))
one_text_fault text SpareBits (Letter at) h k = absurd (k.1.1 (All-get_or IsLetter text at 0 k.1.0 h.1))
one_text_fault text SpareBits SpareBits h k = refl
one_text_fault text SpareBits Check h k = absurd k
one_text_fault text Check g h k = absurd h

one_fault : (text : List ℕ) (f g : LabelFault) → HasLabelFault text f → HasLabelFault text g → f ≡ g
one_fault text Shape Shape h k = refl
one_fault text Shape Round h k = absurd (h k.0)
one_fault text Shape (Text y) h k = absurd (h k.0)
one_fault text Round Shape h k = absurd (k h.0)
one_fault text Round Round h k = refl
one_fault text Round (Text y) h k = absurd (h.1 k.1.0 k.1.1)
one_fault text (Text x) Shape h k = absurd (k h.0)
one_fault text (Text x) Round h k = absurd (k.1 h.1.0 h.1.1)
one_fault text (Text x) (Text y) h k = ap Text (one_text_fault (get_or (parts_of text) 1 []) x y h.2 k.2)

-- ---- an answer that says what the text is, is the only one

pub reads_label : (text : List ℕ) (r : Result Label LabelFault) → ReadsLabel text r → (l : Label) → IsLabel l → text ≡ label_text_of l → r ≡ Ok l
reads_label text (Ok k) reads l own is = ap Ok (one_label text k l reads.0 own reads.1 is)
reads_label text (Err fault) reads l own is = absurd (no_label text fault l reads own is)

pub reads_fault : (text : List ℕ) (r : Result Label LabelFault) → ReadsLabel text r → (f : LabelFault) → HasLabelFault text f → r ≡ Err f
reads_fault text (Ok l) reads f h = absurd (no_label text f l h reads.0 reads.1)
reads_fault text (Err fault) reads f h = ap Err (one_fault text fault f reads h)
