use Rattle.std.proofs.Common.{rules, refl}
use Rattle.al_bodies.specs.Bodies.{asset_params, params_fields}
use Rattle.al_record.proofs.Engine.{is_record, passes_on}
use Rattle.al_bodies.proofs.params.read_params.Goals as goal

pub returns-in_err-check : goal.returns-in_err-check
returns-in_err-check c = passes_on asset_params c.args.entries.now _ _ c.from_residual.result refl c.in_err-check.ensures c.from_residual.ensures.1

pub returns : goal.returns
returns c = is_record params_fields _ c.args.entries.now refl c.requires c.in_ok-check.ensures (search rules)
