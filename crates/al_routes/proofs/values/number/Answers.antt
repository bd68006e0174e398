use Rattle.std.proofs.Common.{rules, ◌≡◌, ◌≤◌, ◌<◌, ◌+◌, ◌*◌, ◌-◌, ◌^◌, true, length, min, get_or, arith}
use Rattle.std.specs.Char.{is_ascii_digit}
use Rattle.al_routes.proofs.NumberLemmas.{digits_below, number_more, number_read, not_empty, no_leading_zero, no_other_byte, no_larger}
use Rattle.al_routes.proofs.values.number.Goals as goal
use Rattle.al_routes.proofs.values.number.Goals.{else-text-eq48-via-then-text-eq48+else-text-gt1, else-text-eq48-via-else-text-eq48}

pub loop-c-preserved : goal.loop-c-preserved
loop-c-preserved c =
    let text = c.args.text.now in
    let i = c.loop-c.c-index in
    let is : is_ascii_digit (get_or text i 0) ≡ true = search rules in
    let next : c.saturating_add-n.result ≡ min (c.loop-c.n * 10 + (get_or text i 0 - 48)) (2 ^ 64 - 1) = omega arith in
    record {
      below = digits_below text i c.loop-c.invariant.below is;
      most = omega arith;
      value = number_more text i c.loop-c.n c.saturating_add-n.result (omega arith) is c.loop-c.invariant.value next (omega arith);
    }

pub returns-then-is_empty : goal.returns-then-is_empty
returns-then-is_empty c = λ n h. let none : length c.args.text.now ≡ 0 = search rules in not_empty c.args.text.now n none h.0 h.1

pub returns-then-text-gt1 : goal.returns-then-text-gt1
returns-then-text-gt1 c = λ n h. no_leading_zero c.args.text.now n (search rules) (omega arith) h.0 h.1

pub returns-then-not-is_ascii_digit : goal.returns-then-not-is_ascii_digit
returns-then-not-is_ascii_digit c = λ n h. no_other_byte c.args.text.now c.loop-c.c-index n (omega arith) (search rules) h.0 h.1

pub returns-then-n-gt-MOST_NUMBER : goal.returns-then-n-gt-MOST_NUMBER
returns-then-n-gt-MOST_NUMBER c = λ k h.
    let text = c.args.text.now in
    let i = c.loop-c.c-index in
    let is : is_ascii_digit (get_or text i 0) ≡ true = search rules in
    let next : c.saturating_add-n.result ≡ min (c.loop-c.n * 10 + (get_or text i 0 - 48)) (2 ^ 64 - 1) = omega arith in
    no_larger text i c.loop-c.n c.saturating_add-n.result k (omega arith) is c.loop-c.invariant.value next (omega arith) h.0 h.1

pub returns : goal.returns
returns c =
    let text = c.args.text.now in
    let some : 0 < length text = search rules in
    let lead : get_or text 0 0 ≡ 48 → length text ≤ 1 = elim c.else-text-eq48.branch [
      | else-text-eq48-via-then-text-eq48+else-text-gt1 w ↦ λ zero. omega (arith, w.if-text-gt1.false)
      | else-text-eq48-via-else-text-eq48 w ↦ λ zero. absurd (omega (arith, zero, w.if-text-eq48.false))
    ] in
    (c.loop-c.invariant.most, number_read text c.loop-c.c-index c.loop-c.n (omega arith) some lead c.loop-c.invariant.below c.loop-c.invariant.most c.loop-c.invariant.value)
