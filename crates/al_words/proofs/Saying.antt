-- Lines are commands, and what is read as none is no line.
use Rattle.std.proofs.Common.{◌≡◌, inl, inr, List, ℕ, false, Option, Some, None, refl, sym, subst}
use Rattle.al_words.specs.declared.line.Line.{Line}
use Rattle.al_words.specs.declared.line.Line.TheVariants as lines
use Rattle.al_words.specs.Commands.{HasForm, IsCommand, has_dash}
use Rattle.al_words.specs.Lines.{IsLine, IsRefused, LinesAreCommands, Reads, Says}

pub has_form : (words : List (List ℕ)) (line : Line) → IsLine words line → HasForm words
has_form words (lines.Session genesis) is = subst HasForm (sym is) (inl (refl, refl))
has_form words (lines.Serve genesis port) (text, n, is) = subst HasForm (sym is) (inr (inl (refl, refl)))
has_form words (lines.Generate number blocks) (text, other, n, k, is) = subst HasForm (sym is) (inr (inr (inl (refl, refl))))
has_form words (lines.Catchpoint genesis blocks round) (text, n, is) = subst HasForm (sym is) (inr (inr (inr (inl (refl, refl)))))
has_form words (lines.Catchup genesis label) is = subst HasForm (sym is) (inr (inr (inr (inr (inl (refl, refl))))))
has_form words (lines.Label round) (text, n, is) = subst HasForm (sym is) (inr (inr (inr (inr (inr (inl (refl, refl)))))))

pub lines_are_commands : LinesAreCommands
lines_are_commands words line says = (says.0, has_form words line says.1)

pub is_refused : IsRefused
is_refused words (Some line) says = (λ none. cc, λ none_is. absurd (none_is line says))
is_refused words None none_is = (λ none. none_is, λ none. refl)

-- what is no command says nothing
pub says_nothing : (words : List (List ℕ)) → (IsCommand words → ⊥) → Reads (Says words) None
says_nothing words none_is = λ line says. none_is (lines_are_commands words line says)

-- what is read of a command is what it says
pub says_line : (words : List (List ℕ)) (o : Option Line) → has_dash words ≡ false → Reads (IsLine words) o → Reads (Says words) o
says_line words (Some line) plain is = (plain, is)
says_line words None plain none_is = λ line says. none_is line says.1
