use Rattle.std.proofs.Common.{map, rules}
use Rattle.std.proofs.lemmas.Result.{IfOk-weaker}
use Rattle.al_words.specs.Commands.{IsCommand}
use Rattle.al_words.proofs.Saying.{says_line, says_nothing}
use Rattle.al_words.proofs.read.read_command.Goals as goal

pub returns-then-branch : goal.returns-then-branch
returns-then-branch c =
    let words = map (λ w. w.now) c.args.words.now in
    let is : IsCommand words = c.in_ok-is_command.ensures.0 (search rules) in
    IfOk-weaker c.read_line.result _ _ (λ o h. says_line words o is.0 h) c.read_line.ensures

pub returns-else-branch : goal.returns-else-branch
returns-else-branch c = says_nothing (map (λ w. w.now) c.args.words.now) (λ is. let yes = c.in_ok-is_command.ensures.1 is in cc)
