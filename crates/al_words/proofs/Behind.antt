-- What a line's command makes of the words behind its name.
use Rattle.std.proofs.Common.{◌≡◌, ◌||◌, ℕ, Bool, true, false, List, [], ◌∷◌, length, Option, Some, is_some, option_map, find, refl, sym, ap, ap₂, ◌∙◌, codes, bytes_eq, arith}
use Rattle.std.specs.Option.{option_map_or}
use Rattle.clap.specs.Walk.{Text, Held, Walk, idle, nothing_held, walk_from, walked, walk, to_positional, arg_by_index, answers_to, settled, finished, subcommand_met}
use Rattle.clap.specs.Simple.{App, Shape, names_of, label_of, entered, rows_at, inherited, built_leaf, with_leaf_noted, marked_built}
use Rattle.clap.specs.Kinds.{Kinds, or_else}
use Rattle.clap.specs.Faults.{walk_fault, settle_fault, defaults_fault, check_fault, level_fault, built_fault, entered_fault}
use Rattle.clap.specs.declared.error.kind.ErrorKind.{ErrorKind}
use Rattle.al_words.specs.Commands.{begins_with_dash, has_dash}
use Rattle.al_words.specs.Apps.{one_word, two_words, three_words, whole_app}
use Rattle.al_words.proofs.Walking.{walked_plain, walk_fault_plain, walk_named, walk_fault_named}

pub left_false : (a b : Bool) → (a || b) ≡ false → a ≡ false
left_false true b p = p
left_false false b p = refl

pub right_false : (a b : Bool) → (a || b) ≡ false → b ≡ false
right_false true b p = cc
right_false false b p = p

-- the faults after the walk
abbrev pub after : Shape → Held → Bool → Kinds
after s end entered_one =
    or_else (settle_fault s.rules s.args_override_self end) (or_else (defaults_fault (settled s.rules end).rows s.rules) (check_fault s (finished s.rules end) entered_one))

level_is : (s : Shape) (words : List Text) (end : Walk) → walk s.rules [] nothing_held words ≡ end → walk_fault s [] (walk_from nothing_held) words ≡ [] → level_fault s [] nothing_held words false [] ≡ after s end.held false
level_is s words end w f = ap₂ (λ (k : Kinds) (e : Walk). or_else k (or_else [] (after s e.held false))) f w

level_bad : (s : Shape) (words : List Text) (k : ErrorKind) (ks : Kinds) → walk_fault s [] (walk_from nothing_held) words ≡ k ∷ ks → level_fault s [] nothing_held words false [] ≡ k ∷ ks
level_bad s words k ks f = ap (λ (j : Kinds). or_else j (or_else [] (after s (walk s.rules [] nothing_held words).held false))) f

-- a line's command in its place below the top
abbrev pub in_place : App → Shape
in_place a = built_leaf (inherited (with_leaf_noted (marked_built whole_app.top)) a.top)

abbrev go : Shape → Walk → Text → Walk
go s w word = to_positional s.rules (arg_by_index s.rules w.position) word w w.held

abbrev start : Walk
start = walk_from nothing_held

no_list : {A : Type 0} (x : A) (xs : List A) → x ∷ xs ≡ [] → ⊥
no_list x xs e = cc

-- ---- one word

abbrev pub Decided : Shape → ℕ → List Text → Type 0
Decided s n args = (level_fault s [] nothing_held args false [] ≡ [] → length args ≡ n) × (length args ≡ n → level_fault s [] nothing_held args false [] ≡ [])

one_taken : (name a : Text) → begins_with_dash a ≡ false → level_fault (in_place (one_word name)) [] nothing_held (a ∷ []) false [] ≡ []
unfolding walk_fault defaults_fault
one_taken name a p =
    let s = in_place (one_word name) in
    level_is s (a ∷ []) (go s start a) (walked_plain s.rules [] nothing_held 1 a refl p) (walk_fault_plain s [] nothing_held 1 a [] refl p)

one_long : (name a b : Text) (more : List Text) → begins_with_dash a ≡ false → begins_with_dash b ≡ false → level_fault (in_place (one_word name)) [] nothing_held (a ∷ b ∷ more) false [] ≡ [] → ⊥
one_long name a b more p q e =
    let s = in_place (one_word name) in
    no_list _ _ (sym (level_bad s (a ∷ b ∷ more) _ _ (walk_fault_plain s [] nothing_held 1 a (b ∷ more) refl p ∙ walk_fault_plain s [] (go s start a).held 2 b more refl q)) ∙ e)

one_short : (name : Text) → level_fault (in_place (one_word name)) [] nothing_held [] false [] ≡ [] → ⊥
unfolding walk_fault defaults_fault
one_short name e = no_list _ _ e

pub one : (name : Text) (args : List Text) → has_dash args ≡ false → Decided (in_place (one_word name)) 1 args
one name [] d = (λ e. absurd (one_short name e), λ l. absurd (omega (arith, l)))
one name (a ∷ []) d = (λ e. refl, λ l. one_taken name a (left_false (begins_with_dash a) false d))
one name (a ∷ b ∷ more) d =
    let p = left_false (begins_with_dash a) (has_dash (b ∷ more)) d in
    let q = left_false (begins_with_dash b) (has_dash more) (right_false (begins_with_dash a) (has_dash (b ∷ more)) d) in
    (λ e. absurd (one_long name a b more p q e), λ l. absurd (omega (arith, l)))

-- ---- two words

two_taken : (name a b : Text) → begins_with_dash a ≡ false → begins_with_dash b ≡ false → level_fault (in_place (two_words name)) [] nothing_held (a ∷ b ∷ []) false [] ≡ []
unfolding walk_fault defaults_fault
two_taken name a b p q =
    let s = in_place (two_words name) in
    level_is s (a ∷ b ∷ []) (go s (go s start a) b)
    (ap (λ (w : Walk). walked s.rules [] w b) (walked_plain s.rules [] nothing_held 1 a refl p) ∙ walked_plain s.rules [] (go s start a).held 2 b refl q)
    (walk_fault_plain s [] nothing_held 1 a (b ∷ []) refl p ∙ walk_fault_plain s [] (go s start a).held 2 b [] refl q)

two_long : (name a b c : Text) (more : List Text) → begins_with_dash a ≡ false → begins_with_dash b ≡ false → begins_with_dash c ≡ false → level_fault (in_place (two_words name)) [] nothing_held (a ∷ b ∷ c ∷ more) false [] ≡ [] → ⊥
two_long name a b c more p q r e =
    let s = in_place (two_words name) in
    no_list _ _ (sym (level_bad s (a ∷ b ∷ c ∷ more) _ _
    (walk_fault_plain s [] nothing_held 1 a (b ∷ c ∷ more) refl p ∙ walk_fault_plain s [] (go s start a).held 2 b (c ∷ more) refl q ∙ walk_fault_plain s [] (go s (go s start a) b).held 3 c more refl r)) ∙ e)

two_short : (name : Text) → level_fault (in_place (two_words name)) [] nothing_held [] false [] ≡ [] → ⊥
unfolding walk_fault defaults_fault
two_short name e = no_list _ _ e

two_half : (name a : Text) → begins_with_dash a ≡ false → level_fault (in_place (two_words name)) [] nothing_held (a ∷ []) false [] ≡ [] → ⊥
unfolding walk_fault defaults_fault
two_half name a p e =
    let s = in_place (two_words name) in
    no_list _ _ (sym (level_is s (a ∷ []) (go s start a) (walked_plain s.rules [] nothing_held 1 a refl p) (walk_fault_plain s [] nothing_held 1 a [] refl p)) ∙ e)

pub two : (name : Text) (args : List Text) → has_dash args ≡ false → Decided (in_place (two_words name)) 2 args
two name [] d = (λ e. absurd (two_short name e), λ l. absurd (omega (arith, l)))
two name (a ∷ []) d = (λ e. absurd (two_half name a (left_false (begins_with_dash a) false d) e), λ l. absurd (omega (arith, l)))
two name (a ∷ b ∷ []) d =
    let p = left_false (begins_with_dash a) (has_dash (b ∷ [])) d in
    let q = left_false (begins_with_dash b) false (right_false (begins_with_dash a) (has_dash (b ∷ [])) d) in
    (λ e. refl, λ l. two_taken name a b p q)
two name (a ∷ b ∷ c ∷ more) d =
    let p = left_false (begins_with_dash a) (has_dash (b ∷ c ∷ more)) d in
    let d2 = right_false (begins_with_dash a) (has_dash (b ∷ c ∷ more)) d in
    let q = left_false (begins_with_dash b) (has_dash (c ∷ more)) d2 in
    let r = left_false (begins_with_dash c) (has_dash more) (right_false (begins_with_dash b) (has_dash (c ∷ more)) d2) in
    (λ e. absurd (two_long name a b c more p q r e), λ l. absurd (omega (arith, l)))

-- ---- three words

three_taken : (name a b c : Text) → begins_with_dash a ≡ false → begins_with_dash b ≡ false → begins_with_dash c ≡ false → level_fault (in_place (three_words name)) [] nothing_held (a ∷ b ∷ c ∷ []) false [] ≡ []
unfolding walk_fault defaults_fault
three_taken name a b c p q r =
    let s = in_place (three_words name) in
    level_is s (a ∷ b ∷ c ∷ []) (go s (go s (go s start a) b) c)
    (ap (λ (w : Walk). walked s.rules [] (walked s.rules [] w b) c) (walked_plain s.rules [] nothing_held 1 a refl p)
    ∙ ap (λ (w : Walk). walked s.rules [] w c) (walked_plain s.rules [] (go s start a).held 2 b refl q)
    ∙ walked_plain s.rules [] (go s (go s start a) b).held 3 c refl r)
    (walk_fault_plain s [] nothing_held 1 a (b ∷ c ∷ []) refl p ∙ walk_fault_plain s [] (go s start a).held 2 b (c ∷ []) refl q ∙ walk_fault_plain s [] (go s (go s start a) b).held 3 c [] refl r)

three_long : (name a b c d : Text) (more : List Text) → begins_with_dash a ≡ false → begins_with_dash b ≡ false → begins_with_dash c ≡ false → begins_with_dash d ≡ false → level_fault (in_place (three_words name)) [] nothing_held (a ∷ b ∷ c ∷ d ∷ more) false [] ≡ [] → ⊥
three_long name a b c d more p q r t e =
    let s = in_place (three_words name) in
    no_list _ _ (sym (level_bad s (a ∷ b ∷ c ∷ d ∷ more) _ _
    (walk_fault_plain s [] nothing_held 1 a (b ∷ c ∷ d ∷ more) refl p ∙ walk_fault_plain s [] (go s start a).held 2 b (c ∷ d ∷ more) refl q
    ∙ walk_fault_plain s [] (go s (go s start a) b).held 3 c (d ∷ more) refl r ∙ walk_fault_plain s [] (go s (go s (go s start a) b) c).held 4 d more refl t)) ∙ e)

three_short : (name : Text) → level_fault (in_place (three_words name)) [] nothing_held [] false [] ≡ [] → ⊥
unfolding walk_fault defaults_fault
three_short name e = no_list _ _ e

three_one : (name a : Text) → begins_with_dash a ≡ false → level_fault (in_place (three_words name)) [] nothing_held (a ∷ []) false [] ≡ [] → ⊥
unfolding walk_fault defaults_fault
three_one name a p e =
    let s = in_place (three_words name) in
    no_list _ _ (sym (level_is s (a ∷ []) (go s start a) (walked_plain s.rules [] nothing_held 1 a refl p) (walk_fault_plain s [] nothing_held 1 a [] refl p)) ∙ e)

three_two : (name a b : Text) → begins_with_dash a ≡ false → begins_with_dash b ≡ false → level_fault (in_place (three_words name)) [] nothing_held (a ∷ b ∷ []) false [] ≡ [] → ⊥
unfolding walk_fault defaults_fault
three_two name a b p q e =
    let s = in_place (three_words name) in
    no_list _ _ (sym (level_is s (a ∷ b ∷ []) (go s (go s start a) b)
    (ap (λ (w : Walk). walked s.rules [] w b) (walked_plain s.rules [] nothing_held 1 a refl p) ∙ walked_plain s.rules [] (go s start a).held 2 b refl q)
    (walk_fault_plain s [] nothing_held 1 a (b ∷ []) refl p ∙ walk_fault_plain s [] (go s start a).held 2 b [] refl q)) ∙ e)

pub three : (name : Text) (args : List Text) → has_dash args ≡ false → Decided (in_place (three_words name)) 3 args
three name [] d = (λ e. absurd (three_short name e), λ l. absurd (omega (arith, l)))
three name (a ∷ []) d = (λ e. absurd (three_one name a (left_false (begins_with_dash a) false d) e), λ l. absurd (omega (arith, l)))
three name (a ∷ b ∷ []) d =
    let p = left_false (begins_with_dash a) (has_dash (b ∷ [])) d in
    let q = left_false (begins_with_dash b) false (right_false (begins_with_dash a) (has_dash (b ∷ [])) d) in
    (λ e. absurd (three_two name a b p q e), λ l. absurd (omega (arith, l)))
three name (a ∷ b ∷ c ∷ []) d =
    let p = left_false (begins_with_dash a) (has_dash (b ∷ c ∷ [])) d in
    let d2 = right_false (begins_with_dash a) (has_dash (b ∷ c ∷ [])) d in
    let q = left_false (begins_with_dash b) (has_dash (c ∷ [])) d2 in
    let r = left_false (begins_with_dash c) false (right_false (begins_with_dash b) (has_dash (c ∷ [])) d2) in
    (λ e. refl, λ l. three_taken name a b c p q r)
three name (a ∷ b ∷ c ∷ f ∷ more) d =
    let p = left_false (begins_with_dash a) (has_dash (b ∷ c ∷ f ∷ more)) d in
    let d2 = right_false (begins_with_dash a) (has_dash (b ∷ c ∷ f ∷ more)) d in
    let q = left_false (begins_with_dash b) (has_dash (c ∷ f ∷ more)) d2 in
    let d3 = right_false (begins_with_dash b) (has_dash (c ∷ f ∷ more)) d2 in
    let r = left_false (begins_with_dash c) (has_dash (f ∷ more)) d3 in
    let t = left_false (begins_with_dash f) (has_dash more) (right_false (begins_with_dash c) (has_dash (f ∷ more)) d3) in
    (λ e. absurd (three_long name a b c f more p q r t e), λ l. absurd (omega (arith, l)))

-- ---- the top

abbrev pub of_walk : App → Kinds → Walk → Kinds
of_walk a k w = or_else k (or_else (entered_fault a w.stopped) (after a.top w.held (is_some (entered a w.stopped))))

-- where the first word names a command, the faults are that command's
pub built_named : (a : App) (name : Text) (s : Shape) (rest : List Text) → subcommand_met (names_of a) idle name ≡ Some name → bytes_eq name (codes "help") ≡ false
    → find (λ t. answers_to name (label_of t)) a.subs ≡ Some s → after a.top nothing_held true ≡ []
    → built_fault a nothing_held (name ∷ rest) ≡ or_else (level_fault s [] nothing_held rest false []) []
built_named a name s rest met other there none =
    ap₂ (of_walk a) (walk_fault_named a.top (names_of a) name name rest met other) (walk_named a.top.rules (names_of a) name name rest met)
    ∙ ap (λ (o : Option Shape). or_else (option_map_or (λ t. level_fault t [] nothing_held rest false []) o []) (after a.top nothing_held (is_some (option_map (λ t. rows_at t rest) o)))) there
    ∙ ap (or_else (level_fault s [] nothing_held rest false [])) none

pub built_bad : (a : App) (words : List Text) (k : ErrorKind) (ks : Kinds) → walk_fault a.top (names_of a) (walk_from nothing_held) words ≡ k ∷ ks → built_fault a nothing_held words ≡ k ∷ ks
built_bad a words k ks f = ap (λ (j : Kinds). of_walk a j (walk a.top.rules (names_of a) nothing_held words)) f
