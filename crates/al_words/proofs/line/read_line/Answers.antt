use Rattle.std.proofs.Common.{◌≡◌, List, ℕ, map, length, subst, arith, IfOk}
use Rattle.std.proofs.lemmas.List.{length-map}
use Rattle.al_words.specs.Lines.{IsLine, Reads}
use Rattle.al_words.proofs.Reading.{four_words}
use Rattle.al_words.proofs.line.read_line.Goals as goal

pub returns-in-len4 : goal.returns-in-len4
returns-in-len4 c =
    let words : List (List ℕ) = map (λ w. w.now) c.args.words.now in
    let four : length words ≡ 4 = omega (arith, length-map {B = List ℕ} c.args.words.now (λ w. w.now), c.in-len4.len_at_least, c.in-len4.len_below) in
    subst (λ (ws : List (List ℕ)). IfOk c.of_four.result (λ o. Reads (IsLine ws) o))
    (four_words words c.word.result.now c.word-in-len4.result.now c.word-in-len4-2.result.now c.word-in-len4-3.result.now four c.word.ensures c.word-in-len4.ensures c.word-in-len4-2.ensures c.word-in-len4-3.ensures)
    c.of_four.ensures
