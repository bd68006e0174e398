use Rattle.std.proofs.Common.{rules, ◌≡◌, ◌≢◌, ◌<◌, ◌+◌, ◌*◌, ◌-◌, ◌^◌, true, length, min, get_or, arith}
use Rattle.std.specs.Char.{is_ascii_digit}
use Rattle.al_catch.proofs.NumberLemmas.{digits_below, number_more, number_read, no_other_byte, no_larger}
use Rattle.al_catch.proofs.number.round_in.Goals as goal

pub loop-c-preserved : goal.loop-c-preserved
loop-c-preserved c =
    let text = c.args.text.now in
    let i = c.loop-c.c-index in
    let is : is_ascii_digit (get_or text i 0) ≡ true = search rules in
    let next : c.saturating_add-n.result ≡ min (c.loop-c.n * 10 + (get_or text i 0 - 48)) (2 ^ 64 - 1) = omega arith in
    record {
      below = digits_below text i c.loop-c.invariant.below is;
      most = omega arith;
      value = number_more text i c.loop-c.n c.saturating_add-n.result (omega arith) is c.loop-c.invariant.value next (omega arith);
    }

pub returns-then-not-is_ascii_digit : goal.returns-then-not-is_ascii_digit
returns-then-not-is_ascii_digit c = λ n h. no_other_byte c.args.text.now c.loop-c.c-index n (omega arith) (search rules) h.1 h.2

pub returns-then-n-gt-MOST_ROUND : goal.returns-then-n-gt-MOST_ROUND
returns-then-n-gt-MOST_ROUND c = λ k h.
    let text = c.args.text.now in
    let i = c.loop-c.c-index in
    let is : is_ascii_digit (get_or text i 0) ≡ true = search rules in
    let next : c.saturating_add-n.result ≡ min (c.loop-c.n * 10 + (get_or text i 0 - 48)) (2 ^ 64 - 1) = omega arith in
    no_larger text i c.loop-c.n c.saturating_add-n.result k (omega arith) is c.loop-c.invariant.value next (omega arith) h.1 h.2

pub returns : goal.returns
returns c =
    let text = c.args.text.now in
    let first : (0 < length text) × (get_or text 0 0 ≢ 48) = search rules in
    number_read text c.loop-c.c-index c.loop-c.n (omega arith) first.0 first.1 c.loop-c.invariant.below c.loop-c.invariant.most c.loop-c.invariant.value
