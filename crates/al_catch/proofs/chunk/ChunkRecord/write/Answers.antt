use Rattle.std.proofs.Common.{codes, [], sym}
use Rattle.std.proofs.lemmas.Result.{on_ok_weaker, on_err_weaker}
use Rattle.al_msgpack.specs.Spelled.{map_head}
use Rattle.al_record.specs.Columns.{number_put, with_entry}
use Rattle.al_record.proofs.Appended.{front_behind}
use Rattle.al_catch.specs.Records.{rows_put}
use Rattle.al_catch.proofs.Straight.{fields_behind, on_err}
use Rattle.al_catch.proofs.chunk.ChunkRecord.write.Goals as goal

pub returns-clause-bytes : goal.returns-clause-bytes
returns-clause-bytes c =
    let o = number_put c.args.self.now.number in
    let es = with_entry (codes "rows") (rows_put c.args.self.now.rows) [] in
    on_ok_weaker c.write_records.result (λ h. fields_behind c.args.out.now.items c.write_map_head.new.out.items c.write_field.new.out.items c.write_records.new.out.items c.count_fields.result (codes "k") o es (sym c.count_fields.ensures) c.in_ok-write_map_head.ensures.bytes c.in_ok-write_field.ensures.bytes (rw (← c.as_slice.ensures) h)) c.write_records.ensures.bytes

pub returns-clause-front : goal.returns-clause-front
returns-clause-front c =
    on_err_weaker c.write_records.result (λ h. front_behind c.args.out.now.items _ c.write_map_head.new.out.items c.write_records.new.out.items c.in_ok-write_map_head.ensures.bytes (front_behind c.write_map_head.new.out.items _ c.write_field.new.out.items c.write_records.new.out.items c.in_ok-write_field.ensures.bytes h)) c.write_records.ensures.front

pub returns-in_err-write_field-clause-front : goal.returns-in_err-write_field-clause-front
returns-in_err-write_field-clause-front c =
    on_err c.from_residual-in_err-write_field.result _ (front_behind c.args.out.now.items (map_head c.count_fields.result) c.write_map_head.new.out.items c.write_field.new.out.items c.in_ok-write_map_head.ensures.bytes c.in_err-write_field.ensures.front)
