-- The command takes exactly its forms.
use Rattle.std.proofs.Common.{◌≡◌, ◌||◌, ◌⊎◌, inl, inr, Bool, true, false, cond, List, [], ◌∷◌, map, Option, Some, None, option_map, find, refl, sym, ap, ◌∙◌, codes, bytes_eq, subst, Result, Ok, Err}
use Rattle.std.specs.Borrow.{Bor}
use Rattle.std.specs.List.{list_any}
use Rattle.clap.proofs.WalkLemmas.{list_any-map}
use Rattle.std.specs.Cmp.Lexicographic.{bytes_decides}
use Rattle.clap.specs.Walk.{Text, Names, idle, nothing_held, answers_to, subcommand_met}
use Rattle.clap.specs.Simple.{built}
use Rattle.clap.specs.Kinds.{Kinds, FailsBy, HasKind, IsAmong as IsOneOf, or_else}
use Rattle.clap.specs.Values.{kind_of}
use Rattle.clap.specs.declared.error.Error.{Error}
use Rattle.clap.specs.declared.error.kind.ErrorKind.TheVariants as kind
use Rattle.clap.proofs.OnLiterals.{clap_on_literals}
use Rattle.clap.specs.Faults.{fault_of, is_simple_and_free, walk_fault, defaults_fault, level_fault}
use Rattle.al_words.specs.Commands.{forms, IsAmong, HasForm, begins_with_dash, has_dash}
use Rattle.al_words.specs.Apps.{one_word, two_words, three_words, whole_app}
use Rattle.al_words.proofs.Walking.{walk_fault_plain}
use Rattle.al_words.proofs.Behind.{one, two, three, in_place, built_named, built_bad, left_false, right_false}

-- ---- which name a word is

abbrev named : List Text → Names
named ns = map (λ n. (n, [])) ns

abbrev Among : Text → List Text → Type 0
Among word [] = ⊥
Among word (n ∷ ns) = (word ≡ n) ⊎ Among word ns

met_or : (ns : List Text) (word : Text) → (subcommand_met (named ns) idle word ≡ None) ⊎ Among word ns
met_or [] word = inl refl
met_or (n ∷ ns) word = by (bytes_eq n word) refl (met_or ns word)
  where
    by : (c : Bool) → bytes_eq n word ≡ c → (subcommand_met (named ns) idle word ≡ None) ⊎ Among word ns → (subcommand_met (named (n ∷ ns)) idle word ≡ None) ⊎ ((word ≡ n) ⊎ Among word ns)
    by true e r = inr (inl (sym ((bytes_decides n word).0 e)))
    by false e (inl none) = inl (ap (λ (c : Bool). option_map (λ (s : Text × List Text). s.0) (cond {A = Option (Text × List Text)} (c || false) (Some (n, [])) (find (answers_to word) (named ns)))) e ∙ none)
    by false e (inr r) = inr (inr r)

abbrev names : List Text
names = codes "session" ∷ codes "serve" ∷ codes "generate" ∷ codes "catchpoint" ∷ codes "catchup" ∷ codes "label" ∷ codes "help" ∷ []

-- ---- the faults at each first word

or_nil : (ks : Kinds) → or_else ks [] ≡ ks
or_nil [] = refl
or_nil (k ∷ ks) = refl

session_is : (rest : List Text) → fault_of whole_app (codes "session" ∷ rest) ≡ level_fault (in_place (one_word (codes "session"))) [] nothing_held rest false []
unfolding defaults_fault
session_is rest = built_named (built whole_app) (codes "session") (in_place (one_word (codes "session"))) rest refl refl refl refl ∙ or_nil _

serve_is : (rest : List Text) → fault_of whole_app (codes "serve" ∷ rest) ≡ level_fault (in_place (two_words (codes "serve"))) [] nothing_held rest false []
unfolding defaults_fault
serve_is rest = built_named (built whole_app) (codes "serve") (in_place (two_words (codes "serve"))) rest refl refl refl refl ∙ or_nil _

generate_is : (rest : List Text) → fault_of whole_app (codes "generate" ∷ rest) ≡ level_fault (in_place (two_words (codes "generate"))) [] nothing_held rest false []
unfolding defaults_fault
generate_is rest = built_named (built whole_app) (codes "generate") (in_place (two_words (codes "generate"))) rest refl refl refl refl ∙ or_nil _

catchpoint_is : (rest : List Text) → fault_of whole_app (codes "catchpoint" ∷ rest) ≡ level_fault (in_place (three_words (codes "catchpoint"))) [] nothing_held rest false []
unfolding defaults_fault
catchpoint_is rest = built_named (built whole_app) (codes "catchpoint") (in_place (three_words (codes "catchpoint"))) rest refl refl refl refl ∙ or_nil _

catchup_is : (rest : List Text) → fault_of whole_app (codes "catchup" ∷ rest) ≡ level_fault (in_place (two_words (codes "catchup"))) [] nothing_held rest false []
unfolding defaults_fault
catchup_is rest = built_named (built whole_app) (codes "catchup") (in_place (two_words (codes "catchup"))) rest refl refl refl refl ∙ or_nil _

label_is : (rest : List Text) → fault_of whole_app (codes "label" ∷ rest) ≡ level_fault (in_place (one_word (codes "label"))) [] nothing_held rest false []
unfolding defaults_fault
label_is rest = built_named (built whole_app) (codes "label") (in_place (one_word (codes "label"))) rest refl refl refl refl ∙ or_nil _

no_list : {A : Type 0} (x : A) (xs : List A) → x ∷ xs ≡ [] → ⊥
no_list x xs e = cc

no_help : (rest : List Text) → fault_of whole_app (codes "help" ∷ rest) ≡ [] → ⊥
unfolding walk_fault
no_help rest e = no_list _ _ (sym (built_bad (built whole_app) (codes "help" ∷ rest) _ _ refl) ∙ e)

no_other : (word : Text) (rest : List Text) → begins_with_dash word ≡ false → subcommand_met (named names) idle word ≡ None → fault_of whole_app (word ∷ rest) ≡ [] → ⊥
no_other word rest plain none e =
    no_list _ _ (sym (built_bad (built whole_app) (word ∷ rest) _ _ (walk_fault_plain (built whole_app).top (named names) nothing_held 1 word rest none plain)) ∙ e)

no_word : fault_of whole_app [] ≡ [] → ⊥
unfolding walk_fault defaults_fault
no_word e = no_list _ _ e

-- ---- the law

pub taken_form : (words : List Text) → has_dash words ≡ false → fault_of whole_app words ≡ [] → HasForm words
taken_form [] d e = no_word e
taken_form (word ∷ rest) d e = by (met_or names word)
  where
    plain : has_dash rest ≡ false
    plain = right_false (begins_with_dash word) (has_dash rest) d

    at_name : (name : Text) → word ≡ name → fault_of whole_app (name ∷ rest) ≡ []
    at_name name is = subst (λ (w : Text). fault_of whole_app (w ∷ rest) ≡ []) is e

    by : (subcommand_met (named names) idle word ≡ None) ⊎ Among word names → IsAmong word rest forms
    by (inl none) = absurd (no_other word rest (left_false (begins_with_dash word) (has_dash rest) d) none e)
    by (inr (inl is)) = inl (is, (one (codes "session") rest plain).0 (sym (session_is rest) ∙ at_name _ is))
    by (inr (inr (inl is))) = inr (inl (is, (two (codes "serve") rest plain).0 (sym (serve_is rest) ∙ at_name _ is)))
    by (inr (inr (inr (inl is)))) = inr (inr (inl (is, (two (codes "generate") rest plain).0 (sym (generate_is rest) ∙ at_name _ is))))
    by (inr (inr (inr (inr (inl is))))) = inr (inr (inr (inl (is, (three (codes "catchpoint") rest plain).0 (sym (catchpoint_is rest) ∙ at_name _ is)))))
    by (inr (inr (inr (inr (inr (inl is)))))) = inr (inr (inr (inr (inl (is, (two (codes "catchup") rest plain).0 (sym (catchup_is rest) ∙ at_name _ is))))))
    by (inr (inr (inr (inr (inr (inr (inl is))))))) = inr (inr (inr (inr (inr (inl (is, (one (codes "label") rest plain).0 (sym (label_is rest) ∙ at_name _ is)))))))
    by (inr (inr (inr (inr (inr (inr (inr (inl is)))))))) = absurd (no_help rest (at_name _ is))
    by (inr (inr (inr (inr (inr (inr (inr (inr h)))))))) = absurd h

pub form_taken : (words : List Text) → has_dash words ≡ false → HasForm words → fault_of whole_app words ≡ []
form_taken [] d h = absurd h
form_taken (word ∷ rest) d h = by h
  where
    plain : has_dash rest ≡ false
    plain = right_false (begins_with_dash word) (has_dash rest) d

    from_name : (name : Text) → word ≡ name → fault_of whole_app (name ∷ rest) ≡ [] → fault_of whole_app (word ∷ rest) ≡ []
    from_name name is e = subst (λ (w : Text). fault_of whole_app (w ∷ rest) ≡ []) (sym is) e

    by : IsAmong word rest forms → fault_of whole_app (word ∷ rest) ≡ []
    by (inl l) = from_name _ l.0 (session_is rest ∙ (one (codes "session") rest plain).1 l.1)
    by (inr (inl l)) = from_name _ l.0 (serve_is rest ∙ (two (codes "serve") rest plain).1 l.1)
    by (inr (inr (inl l))) = from_name _ l.0 (generate_is rest ∙ (two (codes "generate") rest plain).1 l.1)
    by (inr (inr (inr (inl l)))) = from_name _ l.0 (catchpoint_is rest ∙ (three (codes "catchpoint") rest plain).1 l.1)
    by (inr (inr (inr (inr (inl l))))) = from_name _ l.0 (catchup_is rest ∙ (two (codes "catchup") rest plain).1 l.1)
    by (inr (inr (inr (inr (inr (inl l)))))) = from_name _ l.0 (label_is rest ∙ (one (codes "label") rest plain).1 l.1)
    by (inr (inr (inr (inr (inr (inr l)))))) = absurd l

pub dashed : (ws : List (Bor Text)) → list_any (λ w. begins_with_dash w.now) ws ≡ has_dash (map (λ w. w.now) ws)
dashed ws = list_any-map begins_with_dash (λ w. w.now) ws

-- ---- the command is one of which clap's words hold

pub plain : is_simple_and_free whole_app ≡ true
unfolding clap_on_literals
plain = refl

pub taken_by : {T : Type 0} (kinds : Kinds) (r : Result T Error) (m : T) → r ≡ Ok m → FailsBy kinds r → kinds ≡ []
taken_by kinds r m is fails = subst (FailsBy kinds) is fails

pub refused_by : {T : Type 0} (kinds : Kinds) (r : Result T Error) (e : Error) → r ≡ Err e → FailsBy kinds r → (kind_of e ≡ kind.OutOfMemory → ⊥) → kinds ≡ [] → ⊥
refused_by kinds r e is fails other none = by (subst (FailsBy kinds) is fails)
  where
    by : HasKind kinds e → ⊥
    by (inl h) = other h
    by (inr h) = subst (IsOneOf (kind_of e)) none h
