use Rattle.std.proofs.Common.{map, length, ◌∙◌}
use Rattle.std.proofs.lemmas.List.{length-map}
use Rattle.std.proofs.lemmas.Result.{on_ok_weaker, on_err_weaker}
use Rattle.al_msgpack.specs.Spelled.{list_head}
use Rattle.al_msgpack.specs.declared.val.Val.TheVariants as values
use Rattle.al_record.proofs.Appended.{list_behind, front_behind}
use Rattle.al_record.proofs.record.write_list_of.Goals as goal

pub returns-clause-bytes : goal.returns-clause-bytes
returns-clause-bytes g c =
    let xs = c.args.values.now in
    let written = map g.R.Record.format.write xs in
    on_ok_weaker c.write_members.result (list_behind c.args.out.now.items c.write_list_head.new.out.items c.write_members.new.out.items (length xs) (map (λ es. values.Map es) written) (length-map written (λ es. values.Map es) ∙ length-map xs g.R.Record.format.write) c.in_ok-write_list_head.ensures.bytes) c.write_members.ensures.bytes

pub returns-clause-front : goal.returns-clause-front
returns-clause-front g c =
    on_err_weaker c.write_members.result (front_behind c.args.out.now.items (list_head (length c.args.values.now)) c.write_list_head.new.out.items c.write_members.new.out.items c.in_ok-write_list_head.ensures.bytes) c.write_members.ensures.front
