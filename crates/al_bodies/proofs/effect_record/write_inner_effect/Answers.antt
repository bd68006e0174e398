use Rattle.std.proofs.Common.{◌≡◌, length, codes, refl, [], Some}
use Rattle.std.proofs.lemmas.Result.{on_ok_weaker, on_err_weaker}
use Rattle.al_msgpack.specs.declared.val.Val.TheVariants as values
use Rattle.al_msgpack.specs.Spelled.{map_head, entries_spelled}
use Rattle.al_record.specs.Columns.{entries, map_put, with_entry}
use Rattle.al_record.proofs.Appended.{front_behind}
use Rattle.al_bodies.specs.Effect.{inner_effect, inner_written}
use Rattle.al_bodies.proofs.Straight.{fields_behind, inner_some}
use Rattle.al_bodies.proofs.effect_record.write_inner_effect.Goals as goal

pub returns-clause-bytes : goal.returns-clause-bytes
returns-clause-bytes c =
    let es = inner_written c.args.inner.now in
    let counts : length (entries inner_effect c.args.inner.now) ≡ 2 = rw (inner_some c.args.inner.now) refl in
    on_ok_weaker c.write_record.result (fields_behind c.args.out.now.items c.write_map_head.new.out.items c.write_field.new.out.items c.write_record.new.out.items 2 (codes "e") (Some (values.Num 9)) (with_entry (codes "t") (map_put es) []) counts c.in_ok-write_map_head.ensures.bytes c.in_ok-write_field.ensures.bytes) c.write_record.ensures.bytes

pub returns-clause-front : goal.returns-clause-front
returns-clause-front c =
    on_err_weaker c.write_record.result (λ h. front_behind c.args.out.now.items (map_head 2) c.write_map_head.new.out.items c.write_record.new.out.items c.in_ok-write_map_head.ensures.bytes (front_behind c.write_map_head.new.out.items (entries_spelled (with_entry (codes "e") (Some (values.Num 9)) [])) c.write_field.new.out.items c.write_record.new.out.items c.in_ok-write_field.ensures.bytes h)) c.write_record.ensures.front
