use Rattle.std.proofs.Common.{◌≡◌, ◌∙◌, ◌-◌, ◌<◌, ◌++◌, ◌∷◌, [], List, map, take, length, length-append, sym, ap, arith}
use Rattle.al_base.specs.declared.key.Key.{Key}
use Rattle.al_rows.specs.declared.stored.Keyed.{Keyed}
use Rattle.al_rows.specs.declared.stored.Stored.{Stored}
use Rattle.al_rows.specs.Above.{keyed_of}
use Rattle.al_rows.proofs.Above.{copied}
use Rattle.al_deltas.proofs.above.first_from.Goals as goal

pub loop-key-preserved : goal.loop-key-preserved
loop-key-preserved c =
    let out = c.loop-key.out in
    let rest = c.next.new.self in
    let key = c.in-Some.key.now in
    let stored = c.in-Some.stored.now in
    let low : length out < c.args.max = omega (arith, c.if-max-len.false, c.len.ensures) in
    let new : c.push.new.self ≡ out ++ keyed_of (key, stored) ∷ [] = c.in_ok-push.ensures.ok ∙ ap (λ (k : Keyed). out ++ k ∷ []) c.in_ok-keyed.ensures in
    record {
      few = omega (arith, ap (length {A = Keyed}) new, length-append out (keyed_of (key, stored) ∷ []), low);
      same =
          ap (λ (o : List Keyed). o ++ map keyed_of (take (c.args.max - length o) rest)) new
          ∙ copied c.args.max out key stored rest low
          ∙ ap (λ (es : List (Key × Stored)). out ++ map keyed_of (take (c.args.max - length out) es)) (sym c.in-Some.ensures.steps)
          ∙ c.loop-key.invariant.same;
    }
