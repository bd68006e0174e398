use Rattle.std.proofs.Common.{◌≡◌, ◌∙◌, ◌-◌, ◌<◌, ◌++◌, ◌∷◌, [], Some, Option, List, map, take, length, length-append, sym, ap, arith}
use Rattle.al_base.specs.declared.key.Key.{Key}
use Rattle.al_rows.specs.declared.stored.Keyed.{Keyed}
use Rattle.al_rows.specs.declared.stored.Stored.{Stored}
use Rattle.al_keeper.specs.Rooms.{live}
use Rattle.al_rows.specs.Above.{keyed_of}
use Rattle.al_rows.proofs.Above.{copied}
use Rattle.al_keeper.proofs.rows.copies_from.Goals as goal

pub loop-key-preserved-in_ok-push : goal.loop-key-preserved-in_ok-push
loop-key-preserved-in_ok-push c =
    let out = c.loop-key.out in
    let rest = c.next.new.self in
    let key = c.in-Some.key.now in
    let stored = c.in-Some-slot.stored in
    let low : length out < c.args.max = omega (arith, c.if-max-len.false, c.len.ensures) in
    let new : c.push.new.self ≡ out ++ keyed_of (key, stored) ∷ [] = c.in_ok-push.ensures.ok ∙ ap (λ (k : Keyed). out ++ k ∷ []) c.in_ok-keyed.ensures in
    let steps : c.loop-key.key-iterator ≡ (key, Some stored) ∷ rest = c.in-Some.ensures.steps ∙ ap (λ (o : Option Stored). (key, o) ∷ rest) c.in-Some-slot.is in
    record {
      few = omega (arith, ap (length {A = Keyed}) new, length-append out (keyed_of (key, stored) ∷ []), low);
      same =
          ap (λ (o : List Keyed). o ++ map keyed_of (take (c.args.max - length o) (live rest))) new
          ∙ copied c.args.max out key stored (live rest) low
          ∙ ap (λ (es : List (Key × Option Stored)). out ++ map keyed_of (take (c.args.max - length out) (live es))) (sym steps)
          ∙ c.loop-key.invariant.same;
    }
