use Rattle.std.proofs.Common.{map, length, sym, ◌∙◌}
use Rattle.std.proofs.lemmas.List.{length-map}
use Rattle.std.proofs.lemmas.Result.{on_ok_weaker, on_err_weaker}
use Rattle.al_msgpack.specs.Spelled.{list_head}
use Rattle.al_msgpack.specs.declared.val.Val.TheVariants as values
use Rattle.al_record.proofs.Appended.{list_behind, front_behind}
use Rattle.al_record.proofs.spell.write_addresses.Goals as goal

pub returns-clause-bytes : goal.returns-clause-bytes
returns-clause-bytes c =
    let list = c.args.list.now in
    on_ok_weaker c.write_members.result (list_behind c.args.out.now.items c.write_list_head.new.out.items c.write_members.new.out.items (length list) (map (λ a. values.Bin a) (map (λ a. a.0) list)) (length-map (map (λ a. a.0) list) (λ a. values.Bin a) ∙ length-map list (λ a. a.0)) c.in_ok-write_list_head.ensures.bytes) c.write_members.ensures.bytes

pub returns-clause-front : goal.returns-clause-front
returns-clause-front c =
    on_err_weaker c.write_members.result (front_behind c.args.out.now.items (list_head (length c.args.list.now)) c.write_list_head.new.out.items c.write_members.new.out.items c.in_ok-write_list_head.ensures.bytes) c.write_members.ensures.front
