-- One word of a command line after another, where no word begins with a dash.
use Rattle.std.proofs.Common.{◌≡◌, ◌==◌, ◌&&◌, ℕ, Bool, false, not, cond, List, [], ◌∷◌, ◌++◌, Option, Some, None, option_and_then, fold, refl, sym, ap, ap₂, ◌∙◌, codes, bytes_eq, append-nil, append_assoc}
use Rattle.std.specs.Option.{option_map_or}
use Rattle.clap.specs.Lexer.{strip_byte, long_of, long_of_rest, short_of, short_of_rest}
use Rattle.clap.specs.Walk.{Text, Rule, Held, Walk, Step, Names, idle, value, trailing, nothing_held, walk_from, walked, walk, word_met, subcommand_met, subcommand_or_other, long_or_other, short_or_plain, after_step, to_positional, arg_by_index}
use Rattle.clap.specs.Simple.{Shape}
use Rattle.clap.specs.Kinds.{Kinds, or_else}
use Rattle.clap.specs.Faults.{walk_fault, turn_fault, word_fault, other_fault, flag_word_fault, bundle_fault, step_fault}
use Rattle.clap.specs.declared.error.kind.ErrorKind.TheVariants as kind
use Rattle.al_words.specs.Commands.{begins_with_dash}

-- where the walk stands before a word, when nothing waits
abbrev pub at : Held → ℕ → Walk
at h p = record { held = h; waiting = idle; position = p; is_trailing = false; stopped = None }

no_strip : (b : ℕ) (bs : List ℕ) → (b == 45) ≡ false → strip_byte 45 (b ∷ bs) ≡ None
no_strip b bs e = ap (λ (c : Bool). cond c (Some bs) None) e

no_dashes : (word : Text) → begins_with_dash word ≡ false → bytes_eq word (45 ∷ 45 ∷ []) ≡ false
no_dashes [] e = refl
no_dashes (b ∷ bs) e = ap (λ (c : Bool). c && bytes_eq bs (45 ∷ [])) e

no_long : (word : Text) → begins_with_dash word ≡ false → long_of word ≡ None
no_long [] e = refl
no_long (b ∷ bs) e = ap (λ (o : Option Text). option_and_then long_of_rest (option_and_then (strip_byte 45) o)) (no_strip b bs e)

no_short : (word : Text) → begins_with_dash word ≡ false → short_of word ≡ None
no_short [] e = refl
no_short (b ∷ bs) e = ap (option_and_then short_of_rest) (no_strip b bs e)

-- ---- a word that names no subcommand goes to a positional

met_plain : (c : List Rule) (names : Names) (p : ℕ) (word : Text) (h : Held) → subcommand_met names idle word ≡ None → begins_with_dash word ≡ false
    → ◌≡◌ {A = Held × Step} (word_met c names false idle p word h) (h, value)
met_plain c names p word h none plain =
    ap (λ (o : Option Text). subcommand_or_other c o idle p word h) none
    ∙ ap (λ (t : Bool). cond {A = Held × Step} t (h, trailing p) (long_or_other c idle word (long_of word) h)) (no_dashes word plain)
    ∙ ap (λ (o : Option (Text × Option Text)). long_or_other c idle word o h) (no_long word plain)
    ∙ ap (λ (o : Option Text). short_or_plain c idle word o h) (no_short word plain)

fault_plain : (s : Shape) (names : Names) (word : Text) (h : Held) → subcommand_met names idle word ≡ None → begins_with_dash word ≡ false → word_fault s names false idle word h ≡ []
fault_plain s names word h none plain =
    ap (λ (o : Option Text). other_fault s o word h) none
    ∙ ap (λ (t : Bool). cond {A = Kinds} t [] (flag_word_fault s.rules s.args_override_self (long_of word) word h)) (no_dashes word plain)
    ∙ ap (λ (o : Option (Text × Option Text)). flag_word_fault s.rules s.args_override_self o word h) (no_long word plain)
    ∙ ap (λ (o : Option Text). option_map_or (λ flags. bundle_fault s.rules s.args_override_self flags h) o []) (no_short word plain)

turn_plain : (s : Shape) (names : Names) (h : Held) (p : ℕ) (word : Text) → subcommand_met names idle word ≡ None → begins_with_dash word ≡ false → turn_fault s names (at h p) word ≡ step_fault s p h value
turn_plain s names h p word none plain =
    ap (λ (k : Kinds). or_else k (step_fault s p (word_met s.rules names false idle p word h).0 (word_met s.rules names false idle p word h).1)) (fault_plain s names word h none plain)
    ∙ ap (λ (m : Held × Step). step_fault s p m.0 m.1) (met_plain s.rules names p word h none plain)

pub walked_plain : (c : List Rule) (names : Names) (h : Held) (p : ℕ) (word : Text) → subcommand_met names idle word ≡ None → begins_with_dash word ≡ false → walked c names (at h p) word ≡ to_positional c (arg_by_index c p) word (at h p) h
unfolding walked
walked_plain c names h p word none plain = ap (λ (m : Held × Step). after_step c word (at h p) m.0 m.1) (met_plain c names p word h none plain)

pub walk_fault_plain : (s : Shape) (names : Names) (h : Held) (p : ℕ) (word : Text) (rest : List Text) → subcommand_met names idle word ≡ None → begins_with_dash word ≡ false
    → walk_fault s names (at h p) (word ∷ rest) ≡ or_else (step_fault s p h value) (walk_fault s names (to_positional s.rules (arg_by_index s.rules p) word (at h p) h) rest)
unfolding walk_fault
walk_fault_plain s names h p word rest none plain =
    ap₂ or_else (turn_plain s names h p word none plain) (ap (λ (w : Walk). walk_fault s names w rest) (walked_plain s.rules names h p word none plain))

-- ---- a word that names a subcommand stops the walk

abbrev pub stopped_at : Text → List Text → Walk
stopped_at name rest = record { held = nothing_held; waiting = idle; position = 1; is_trailing = false; stopped = Some (name, rest) }

walked_named : (c : List Rule) (names : Names) (word name : Text) → subcommand_met names idle word ≡ Some name → walked c names (walk_from nothing_held) word ≡ stopped_at name []
unfolding walked
walked_named c names word name is =
    ap (λ (o : Option Text). after_step c word (walk_from nothing_held) (subcommand_or_other c o idle 1 word nothing_held).0 (subcommand_or_other c o idle 1 word nothing_held).1) is

fold_stopped : (c : List Rule) (names : Names) (name : Text) (seen rest : List Text) → fold (walked c names) (stopped_at name seen) rest ≡ stopped_at name (seen ++ rest)
unfolding walked
fold_stopped c names name seen [] = ap (stopped_at name) (sym (append-nil seen))
fold_stopped c names name seen (x ∷ xs) = fold_stopped c names name (seen ++ x ∷ []) xs ∙ ap (stopped_at name) (append_assoc seen (x ∷ []) xs)

pub walk_named : (c : List Rule) (names : Names) (word name : Text) (rest : List Text) → subcommand_met names idle word ≡ Some name → walk c names nothing_held (word ∷ rest) ≡ stopped_at name rest
walk_named c names word name rest is =
    ap (λ (w : Walk). fold (walked c names) w rest) (walked_named c names word name is) ∙ fold_stopped c names name [] rest

fault_stopped : (s : Shape) (names : Names) (name : Text) (seen rest : List Text) → walk_fault s names (stopped_at name seen) rest ≡ []
unfolding walk_fault walked
fault_stopped s names name seen [] = refl
fault_stopped s names name seen (x ∷ xs) = fault_stopped s names name (seen ++ x ∷ []) xs

turn_named : (s : Shape) (names : Names) (word name : Text) → subcommand_met names idle word ≡ Some name → bytes_eq name (codes "help") ≡ false → turn_fault s names (walk_from nothing_held) word ≡ []
turn_named s names word name is other =
    ap (λ (o : Option Text). or_else (other_fault s o word nothing_held) (step_fault s 1 (subcommand_or_other s.rules o idle 1 word nothing_held).0 (subcommand_or_other s.rules o idle 1 word nothing_held).1)) is
    ∙ ap (λ (t : Bool). or_else (cond {A = Kinds} (t && not s.disable_help_subcommand) (kind.DisplayHelp ∷ kind.InvalidSubcommand ∷ []) []) []) other

pub walk_fault_named : (s : Shape) (names : Names) (word name : Text) (rest : List Text) → subcommand_met names idle word ≡ Some name → bytes_eq name (codes "help") ≡ false → walk_fault s names (walk_from nothing_held) (word ∷ rest) ≡ []
unfolding walk_fault
walk_fault_named s names word name rest is other =
    ap₂ or_else (turn_named s names word name is other) (ap (λ (w : Walk). walk_fault s names w rest) (walked_named s.rules names word name is) ∙ fault_stopped s names name [] rest)
