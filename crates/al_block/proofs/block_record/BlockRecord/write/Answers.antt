use Rattle.std.proofs.Common.{◌≡◌, ◌++◌, length, map, codes, [], sym, ap, ◌∙◌}
use Rattle.std.proofs.lemmas.Result.{on_ok_weaker, on_err_weaker}
use Rattle.al_msgpack.specs.declared.val.Val.TheVariants as values
use Rattle.al_msgpack.specs.Spelled.{map_head, entries_spelled}
use Rattle.al_record.specs.Columns.{list_put, map_put, with_entry}
use Rattle.al_record.proofs.Appended.{front_behind}
use Rattle.al_bodies.proofs.Straight.{fields_behind}
use Rattle.al_txn.proofs.Straight.{on_err}
use Rattle.al_txn.specs.Item.{item}
use Rattle.al_block.specs.Header.{header}
use Rattle.al_block.proofs.block_record.BlockRecord.write.Goals as goal

pub returns-clause-bytes : goal.returns-clause-bytes
returns-clause-bytes c =
    let o = map_put (header.write c.args.self.now.header) in
    let es = with_entry (codes "t") (list_put (map (λ ds. values.Map ds) (map item.write c.args.self.now.items))) [] in
    on_ok_weaker c.write_records.result (λ h. fields_behind c.args.out.now.items c.write_map_head.new.out.items c.write_record.new.out.items c.write_records.new.out.items c.count_fields.result (codes "b") o es (sym c.count_fields.ensures) c.in_ok-write_map_head.ensures.bytes c.in_ok-write_record.ensures.bytes (rw (← c.as_slice.ensures) h)) c.write_records.ensures.bytes

pub returns-clause-front : goal.returns-clause-front
returns-clause-front c =
    on_err_weaker c.write_records.result (λ h. front_behind c.args.out.now.items _ c.write_map_head.new.out.items c.write_records.new.out.items c.in_ok-write_map_head.ensures.bytes (front_behind c.write_map_head.new.out.items _ c.write_record.new.out.items c.write_records.new.out.items c.in_ok-write_record.ensures.bytes h)) c.write_records.ensures.front

pub returns-in_err-write_record-clause-front : goal.returns-in_err-write_record-clause-front
returns-in_err-write_record-clause-front c =
    on_err c.from_residual-in_err-write_record.result _ (front_behind c.args.out.now.items (map_head c.count_fields.result) c.write_map_head.new.out.items c.write_record.new.out.items c.in_ok-write_map_head.ensures.bytes c.in_err-write_record.ensures.front)
