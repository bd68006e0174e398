use Rattle.std.proofs.Common.{rules, ◌≡◌, ◌<◌, ◌-◌, ◌∷◌, sym, ap, ◌∙◌, arith}
use Rattle.al_msgpack.specs.Reading.{digits_at}
use Rattle.al_msgpack.proofs.Codes.{room, grown, digits_stop, digits_go}
use Rattle.al_msgpack.proofs.key.digits.Goals as goal

pub overflow_mul-more : goal.overflow_mul-more
overflow_mul-more c = omega (arith, room c.loop-i.i c.loop-i.n 0 (omega arith) c.loop-i.invariant.small (omega arith))

pub overflow_add-more : goal.overflow_add-more
overflow_add-more c =
    let small : c.in-Some.b.now < 256 = omega arith in
    omega (arith, room c.loop-i.i c.loop-i.n c.in-Some.b.now (omega arith) c.loop-i.invariant.small small)

pub returns-then-more-least : goal.returns-then-more-least
returns-then-more-least c =
    let front : c.loop-i.rest.now ≡ c.in-Some.b.now ∷ c.in-Some.after.now = search rules in
    sym c.loop-i.invariant.same ∙ rw front (digits_stop c.args.width c.loop-i.i c.loop-i.n c.args.least c.in-Some.b.now c.in-Some.after.now c.loop-i-test.true c.if-more-least.true)

pub loop-i-preserved : goal.loop-i-preserved
loop-i-preserved c =
    let front : c.loop-i.rest.now ≡ c.in-Some.b.now ∷ c.in-Some.after.now = search rules in
    let small : c.in-Some.b.now < 256 = omega arith in
    record {
      same = sym (digits_go c.args.width c.loop-i.i c.loop-i.n c.args.least c.in-Some.b.now c.in-Some.after.now c.loop-i-test.true c.if-more-least.false) ∙ sym (ap (digits_at (c.args.width - c.loop-i.i) c.loop-i.n c.args.least) front) ∙ c.loop-i.invariant.same;
      small = grown c.loop-i.i c.loop-i.n c.in-Some.b.now c.loop-i.invariant.small small;
    }
