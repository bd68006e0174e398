use Rattle.std.proofs.lemmas.Result.{on_ok_weaker, on_err_weaker}
use Rattle.std.proofs.Common.{map, sym, ap, ◌∙◌}
use Rattle.std.proofs.lemmas.List.{length-map}
use Rattle.al_msgpack.specs.Spelled.{map_head}
use Rattle.al_record.specs.Columns.{flat}
use Rattle.al_record.specs.Code.{listed, put_of, table_of}
use Rattle.al_record.proofs.Appended.{map_behind, front_behind, count_listed}
use Rattle.al_record.proofs.spell.write_listed.Goals as goal

pub returns-clause-bytes : goal.returns-clause-bytes
returns-clause-bytes c =
    let rs = table_of c.args.columns.now in
    let os = map put_of c.args.contents.now in
    let same = length-map c.args.columns.now (λ c. flat c.0.now c.1) ∙ c.requires ∙ sym (length-map c.args.contents.now put_of) in
    on_ok_weaker c.write_fields.result (map_behind c.args.out.now.items c.write_map_head.new.out.items c.write_fields.new.out.items c.count_written.result (listed rs os) (count_listed rs os same ∙ sym c.count_written.ensures) c.in_ok-write_map_head.ensures.bytes) c.write_fields.ensures.bytes
