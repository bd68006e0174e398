use Rattle.std.proofs.Common.{arith, sym, take, subst}
use Rattle.al_http.specs.Heads.{IsRead}
use Rattle.al_http.specs.Limits.{most_head}
use Rattle.al_http.specs.declared.head.HeadRead.TheVariants.{Got}
use Rattle.std.proofs.lemmas.List.{length-take-le}
use Rattle.al_http.proofs.HeadLemmas.{got_in_front, bad_in_front}
use Rattle.al_http.proofs.head.read_head.Goals as goal

pub slice_bounds-read_front-end : goal.slice_bounds-read_front-end
slice_bounds-read_front-end c = sym (length-take-le most_head c.args.buf.now (omega arith))

pub read_front-requires-2 : goal.read_front-requires-2
read_front-requires-2 c = omega (arith, length-take-le most_head c.args.buf.now (omega arith))

pub returns-in-Got : goal.returns-in-Got
returns-in-Got c =
    let at : IsRead (take most_head c.args.buf.now) (Got c.in-Got.head) = subst (IsRead (take most_head c.args.buf.now)) c.in-Got.is c.in_ok-head.ensures in
    (at.0, got_in_front c.args.buf.now c.in-Got.head at.0 at.1)

pub returns-in_default : goal.returns-in_default
returns-in_default c = bad_in_front c.args.buf.now c.in_ok-head.field-0 c.in_ok-head.ensures c.in_default.not-Got (omega arith)
