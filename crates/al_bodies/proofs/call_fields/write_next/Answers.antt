use Rattle.std.proofs.Common.{sym, ◌∙◌, ap}
use Rattle.al_record.specs.Code.{put_of}
use Rattle.al_bodies.specs.Kept.{below}
use Rattle.al_bodies.proofs.Straight.{next_there, next_absent}
use Rattle.al_bodies.proofs.call_fields.write_next.Goals as goal

pub returns-then-is_zero-clause-bytes : goal.returns-then-is_zero-clause-bytes
returns-then-is_zero-clause-bytes c = λ es. next_absent c.args.out.now.items c.args.kept.now c.args.name.now (put_of c.args.content.now) (sym c.is_zero.ensures ∙ c.if-is_zero.true) es

pub returns-clause-bytes : goal.returns-clause-bytes
returns-clause-bytes c =
    let some = sym c.is_zero.ensures ∙ c.if-is_zero.false in
    let counts = c.below-n.ensures.value ∙ ap (λ z. below z c.args.kept.now) c.as_bytes.ensures.value in
    λ es. next_there c.args.out.now.items c.write_entries.new.out.items c.write_field.new.out.items c.args.kept.now c.split_at.result.0.now c.split_at.result.1.now c.below-n.result c.args.name.now (put_of c.args.content.now) counts c.split_at.ensures.front c.split_at.ensures.back some c.in_ok-write_entries.ensures.bytes c.in_ok-write_field.ensures.bytes es
