use Rattle.std.proofs.Common.{rules, ◌≡◌, ◌+◌, ◌*◌, ◌-◌, ◌^◌, ◌<◌, length, true, get_or, min, arith}
use Rattle.std.specs.Char.{is_ascii_digit}
use Rattle.al_http.proofs.FieldLemmas.{digits_more, value_more, size_whole}
use Rattle.al_http.proofs.fields.size_of_text.Goals as goal

pub loop-c-preserved : goal.loop-c-preserved
loop-c-preserved c =
    let text = c.args.text.now in
    let i = c.loop-c.c-index in
    let is : is_ascii_digit (get_or text i 0) ≡ true = search rules in
    let next : c.saturating_add-n.result ≡ min (c.loop-c.n * 10 + (get_or text i 0 - 48)) (2 ^ 64 - 1) = omega arith in
    record {
      most = omega arith;
      digits = digits_more text i c.loop-c-test.true is c.loop-c.invariant.digits;
      value = value_more text i c.loop-c.n c.saturating_add-n.result (2 ^ 64 - 1) _ c.loop-c-test.true is next c.loop-c.invariant.value;
    }

pub returns : goal.returns
returns c =
    let some : 0 < length c.args.text.now = search rules in
    size_whole c.args.text.now c.loop-c.c-index c.loop-c.n (omega arith) some c.loop-c.invariant.most c.loop-c.invariant.digits c.loop-c.invariant.value
