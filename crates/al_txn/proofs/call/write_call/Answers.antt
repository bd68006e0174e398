use Rattle.std.proofs.Common.{◌≡◌, ◌≤◌, ◌++◌, ◌+◌, ℕ, arith, length, map, refl, sym, ap, ap₂, ◌∙◌}
use Rattle.std.proofs.lemmas.Result.{on_ok_weaker, on_err_weaker}
use Rattle.al_msgpack.specs.Spelled.{entries_spelled}
use Rattle.al_record.specs.Columns.{entries, put, rules_of}
use Rattle.al_record.specs.Code.{count_some, listed}
use Rattle.al_record.proofs.Appended.{count_listed, front_behind, map_behind}
use Rattle.al_bodies.specs.Kept.{merged}
use Rattle.al_bodies.proofs.Straight.{length_merged}
use Rattle.al_txn.specs.declared.txn.Txn.{Txn}
use Rattle.al_txn.proofs.Straight.{count_most}
use Rattle.al_txn.specs.Txn.{flat_appl, with_group}
use Rattle.al_txn.proofs.call.write_call.Goals as goal

pub returns-clause-bytes : goal.returns-clause-bytes
returns-clause-bytes c =
    let x : Txn × ℕ = (with_group c.args.group.now c.args.t.now, c.args.a.now.app) in
    let ks = c.args.a.now.rest in
    let flat = entries flat_appl x in
    let os = map (λ f. put f x) flat_appl in
    let counts : length (merged ks flat) ≡ length ks + c.count_written.result = length_merged ks flat ∙ ap (λ n. length ks + n) (count_listed (rules_of flat_appl) os refl ∙ ap count_some (sym c.contents-contents.ensures) ∙ sym c.count_written.ensures) in
    on_ok_weaker c.write_merged.result (λ h. map_behind c.args.out.now.items c.write_map_head.new.out.items c.write_merged.new.out.items _ (merged ks flat) counts (rw (← c.as_slice-rest.ensures) c.in_ok-write_map_head.ensures.bytes) (h ∙ ap₂ (λ (y : _) z. c.write_map_head.new.out.items ++ entries_spelled (merged y (listed (rules_of flat_appl) z))) c.as_slice-rest.ensures c.contents-contents.ensures)) c.write_merged.ensures.bytes

pub returns-clause-front : goal.returns-clause-front
returns-clause-front c =
    on_err_weaker c.write_merged.result (front_behind c.args.out.now.items _ c.write_map_head.new.out.items c.write_merged.new.out.items c.in_ok-write_map_head.ensures.bytes) c.write_merged.ensures.front

pub overflow_add-rest : goal.overflow_add-rest
overflow_add-rest c =
    let x : Txn × ℕ = (with_group c.args.group.now c.args.t.now, c.args.a.now.app) in
    let os = map (λ f. put f x) flat_appl in
    let counted : c.count_written.result ≡ count_some os = c.count_written.ensures ∙ ap count_some c.contents-contents.ensures in
    let many : count_some os ≤ 12 = count_most os in
    omega (arith, counted, many)
