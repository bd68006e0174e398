use Rattle.std.proofs.Common.{map, refl, sym, ap, ◌∙◌}
use Rattle.al_record.specs.Columns.{put, rules_of}
use Rattle.al_record.specs.Code.{count_some}
use Rattle.al_record.proofs.Appended.{count_listed}
use Rattle.al_bodies.specs.Bodies.{asset_params, params_fields}
use Rattle.al_bodies.proofs.Straight.{count_absent, count_there, empty_length, some_length}
use Rattle.al_bodies.proofs.params.count_params.Goals as goal

pub returns-then-count_written-eq0 : goal.returns-then-count_written-eq0
returns-then-count_written-eq0 c =
    let os = map (λ f. put f c.args.p.now) params_fields in
    let counts = count_listed (rules_of params_fields) os refl ∙ ap count_some (sym c.contents.ensures) ∙ sym c.count_written.ensures in
    count_absent (asset_params.write c.args.p.now) (empty_length (asset_params.write c.args.p.now) (counts ∙ c.if-count_written-eq0.true))

pub returns : goal.returns
returns c =
    let os = map (λ f. put f c.args.p.now) params_fields in
    let counts = count_listed (rules_of params_fields) os refl ∙ ap count_some (sym c.contents.ensures) ∙ sym c.count_written.ensures in
    count_there (asset_params.write c.args.p.now) (some_length (asset_params.write c.args.p.now) (λ z. c.if-count_written-eq0.false (sym counts ∙ z)))
