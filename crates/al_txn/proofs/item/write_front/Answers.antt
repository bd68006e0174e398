use Rattle.std.proofs.Common.{◌++◌, ◌∷◌, [], suc, codes, length, ap, ◌∙◌}
use Rattle.std.proofs.lemmas.Result.{on_ok_weaker, on_err_weaker}
use Rattle.al_msgpack.specs.Spelled.{string_head, map_head, entries_spelled}
use Rattle.al_record.specs.Columns.{with_entry}
use Rattle.al_record.specs.Code.{count_some}
use Rattle.al_record.proofs.Appended.{front_behind}
use Rattle.al_txn.specs.Item.{effects_put}
use Rattle.al_txn.proofs.Straight.{two_parts}
use Rattle.al_txn.proofs.item.write_front.Goals as goal

pub returns-clause-bytes : goal.returns-clause-bytes
returns-clause-bytes c =
    let fx = effects_put c.args.effects.now in
    let headed = c.in_ok-write_map_head.ensures.bytes ∙ ap (λ n. c.args.out.now.items ++ map_head n) c.count_fields.ensures in
    on_ok_weaker c.write_string.result (two_parts c.args.out.now.items c.write_map_head.new.out.items c.write_records.new.out.items c.write_string.new.out.items (map_head (suc (count_some (fx ∷ [])))) (entries_spelled (with_entry (codes "fx") fx [])) (string_head (length (codes "txn")) ++ codes "txn") headed c.in_ok-write_records.ensures.bytes) c.write_string.ensures.bytes

pub returns-clause-front : goal.returns-clause-front
returns-clause-front c =
    on_err_weaker c.write_string.result (λ h. front_behind c.args.out.now.items _ c.write_map_head.new.out.items c.write_string.new.out.items c.in_ok-write_map_head.ensures.bytes (front_behind c.write_map_head.new.out.items _ c.write_records.new.out.items c.write_string.new.out.items c.in_ok-write_records.ensures.bytes h)) c.write_string.ensures.front
