use Rattle.std.proofs.Common.{◌≡◌, ◌≤◌, ◌++◌, ◌+◌, ◌∷◌, ℕ, [], arith, length, map, codes, refl, sym, ap, ap₂, ◌∙◌}
use Rattle.std.proofs.lemmas.Result.{on_ok_weaker, on_err_weaker}
use Rattle.al_msgpack.specs.Spelled.{map_head, entries_spelled}
use Rattle.al_record.specs.Columns.{entries, map_put, put, rules_of, with_entry}
use Rattle.al_record.specs.Code.{count_some, listed}
use Rattle.al_record.proofs.Appended.{count_listed, front_behind, length_with}
use Rattle.al_bodies.specs.Bodies.{asset_params}
use Rattle.al_bodies.proofs.Straight.{fields_behind}
use Rattle.al_txn.specs.declared.txn.Txn.{Txn}
use Rattle.al_txn.proofs.Straight.{count_most, on_err}
use Rattle.al_txn.specs.Txn.{flat_acfg, with_group}
use Rattle.al_txn.proofs.configuration.write_config.Goals as goal

pub returns-clause-bytes : goal.returns-clause-bytes
returns-clause-bytes c =
    let x : Txn × ℕ = (with_group c.args.group.now c.args.t.now, c.args.c.now.asset) in
    let flat = entries flat_acfg x in
    let ps = asset_params.write c.args.c.now.params in
    let os = map (λ f. put f x) flat_acfg in
    let counts : length (with_entry (codes "apar") (map_put ps) flat) ≡ c.count_params.result + c.count_written.result = length_with (codes "apar") (map_put ps) flat ∙ ap₂ (λ a b. a + b) (sym c.count_params.ensures) (count_listed (rules_of flat_acfg) os refl ∙ ap count_some (sym c.contents-contents.ensures) ∙ sym c.count_written.ensures) in
    on_ok_weaker c.write_fields.result (λ h. fields_behind c.args.out.now.items c.write_map_head.new.out.items c.write_params.new.out.items c.write_fields.new.out.items _ (codes "apar") (map_put ps) flat counts c.in_ok-write_map_head.ensures.bytes c.in_ok-write_params.ensures.bytes (h ∙ ap (λ z. c.write_params.new.out.items ++ entries_spelled (listed (rules_of flat_acfg) z)) c.contents-contents.ensures)) c.write_fields.ensures.bytes

pub returns-clause-front : goal.returns-clause-front
returns-clause-front c =
    let ps = asset_params.write c.args.c.now.params in
    on_err_weaker c.write_fields.result (λ h. front_behind c.args.out.now.items (map_head (c.count_params.result + c.count_written.result)) c.write_map_head.new.out.items c.write_fields.new.out.items c.in_ok-write_map_head.ensures.bytes (front_behind c.write_map_head.new.out.items (entries_spelled (with_entry (codes "apar") (map_put ps) [])) c.write_params.new.out.items c.write_fields.new.out.items c.in_ok-write_params.ensures.bytes h)) c.write_fields.ensures.front

pub returns-in_err-write_params-clause-front : goal.returns-in_err-write_params-clause-front
returns-in_err-write_params-clause-front c =
    on_err c.from_residual-in_err-write_params.result _ (front_behind c.args.out.now.items (map_head (c.count_params.result + c.count_written.result)) c.write_map_head.new.out.items c.write_params.new.out.items c.in_ok-write_map_head.ensures.bytes c.in_err-write_params.ensures.front)

pub overflow_add-count_params : goal.overflow_add-count_params
overflow_add-count_params c =
    let x : Txn × ℕ = (with_group c.args.group.now c.args.t.now, c.args.c.now.asset) in
    let ps = asset_params.write c.args.c.now.params in
    let os = map (λ f. put f x) flat_acfg in
    let counted : c.count_written.result ≡ count_some os = c.count_written.ensures ∙ ap count_some c.contents-contents.ensures in
    let many : count_some os ≤ 12 = count_most os in
    let one : count_some (map_put ps ∷ []) ≤ 1 = count_most (map_put ps ∷ []) in
    omega (arith, c.count_params.ensures, counted, many, one)
