-- The command as clap sees it.
use Rattle.std.specs.Prelude.{ℕ, List, codes, true}
use Rattle.clap.specs.Words.{App, Rule, new_app, new_rule, with_rule, with_subcommand}

-- a word that has to be there
abbrev pub wanted : List ℕ → Rule
wanted id = record (new_rule id) { required = true }

-- a line's name with one word behind it
abbrev pub one_word : List ℕ → App
one_word name = with_rule (new_app name) (wanted (codes "first"))

-- a line's name with two words behind it
abbrev pub two_words : List ℕ → App
two_words name = with_rule (one_word name) (wanted (codes "second"))

-- a line's name with three words behind it
abbrev pub three_words : List ℕ → App
three_words name = with_rule (two_words name) (wanted (codes "third"))

-- the command without its lines: its first word names one
abbrev pub bare_app : App
bare_app = record (new_app (codes "al_node")) { top = record (new_app (codes "al_node")).top { no_binary_name = true; subcommand_required = true } }

-- the command with one more line
abbrev pub with_line : App → App → App
with_line a line = with_subcommand a line.top

-- the command with its six lines
abbrev pub whole_app : App
whole_app =
    with_line (with_line (with_line (with_line (with_line (with_line bare_app (one_word (codes "session"))) (two_words (codes "serve"))) (two_words (codes "generate")))
    (three_words (codes "catchpoint"))) (two_words (codes "catchup"))) (one_word (codes "label"))
