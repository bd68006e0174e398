use Rattle.std.proofs.lemmas.Result.{on_ok_weaker}
use Rattle.std.proofs.Common.{sym, ◌∙◌}
use Rattle.al_msgpack.specs.Spelled.{string_head}
use Rattle.al_record.specs.Code.{put_of, val_of}
use Rattle.al_record.proofs.Appended.{field_behind, put_there}
use Rattle.al_record.proofs.spell.write_field.Goals as goal

pub returns-clause-bytes : goal.returns-clause-bytes
returns-clause-bytes c =
    let some = put_there c.args.content.now (sym c.is_zero.ensures ∙ c.if-is_zero.false) in
    on_ok_weaker c.write.result (field_behind c.args.out.now.items c.write_string.new.out.items c.write.new.out.items c.args.name.now (put_of c.args.content.now) (val_of c.args.content.now) some (rw (← c.as_bytes.ensures.value) c.in_ok-write_string.ensures.bytes)) c.write.ensures.bytes
