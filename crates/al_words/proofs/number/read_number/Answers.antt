use Rattle.std.proofs.Common.{rules, ◌≡◌, ◌<◌, ◌^◌, arith, sym, ap, ◌∙◌, true, false, bytes_eq}
use Rattle.std.specs.Cmp.Lexicographic.{bytes_decides}
use Rattle.std.specs.Fmt.{decimal}
use Rattle.al_words.proofs.Reading.{read_as}
use Rattle.al_words.proofs.number.read_number.Goals as goal
use Rattle.al_words.proofs.number.read_number.Goals.{then-n-least-via-then-n-least, then-n-least-via-else-n-least+then-n-most}

pub returns-in_default : goal.returns-in_default
returns-in_default c = λ x h.
    let small : c.args.most < 2 ^ 64 = search rules in
    c.in_default.not-Ok x (read_as c.args.least c.args.most c.args.text.now c.parse.result small c.parse.ensures.value.0 x h)

pub returns-then-n-least : goal.returns-then-n-least
returns-then-n-least c = λ x h.
    let small : c.args.most < 2 ^ 64 = search rules in
    let same = read_as c.args.least c.args.most c.args.text.now c.parse.result small c.parse.ensures.value.0 x h in
    let is = c.in-Ok.is in
    let n : c.in-Ok.n ≡ x = cc in
    let low = h.low in
    let high = h.high in
    elim c.then-n-least.branch [
      | then-n-least-via-then-n-least w ↦ absurd (omega (arith, w.if-n-least.true))
      | then-n-least-via-else-n-least+then-n-most w ↦ absurd (omega (arith, w.if-n-most.true))
    ]

pub returns : goal.returns
returns c = λ x h.
    let small : c.args.most < 2 ^ 64 = search rules in
    let same = read_as c.args.least c.args.most c.args.text.now c.parse.result small c.parse.ensures.value.0 x h in
    let is = c.in-Ok.is in
    let n : c.in-Ok.n ≡ x = cc in
    let text : c.args.text.now ≡ decimal c.in-Ok.n = h.is ∙ ap decimal (sym n) in
    let back : c.as_str.result.now ≡ decimal c.in-Ok.n = search rules in
    let yes : bytes_eq c.as_str.result.now c.args.text.now ≡ true = (bytes_decides c.as_str.result.now c.args.text.now).1 (back ∙ sym text) in
    let other : bytes_eq c.as_str.result.now c.args.text.now ≡ false = search rules in
    let f : true ≡ false = sym yes ∙ other in
    cc
