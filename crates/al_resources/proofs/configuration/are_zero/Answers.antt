use Rattle.std.proofs.Common.{◌∙◌, ap}
use Rattle.al_rows.specs.Rows.{asset_params_eq}
use Rattle.al_resources.proofs.Params.{params_tests}
use Rattle.al_resources.proofs.configuration.are_zero.Goals as goal

pub returns : goal.returns
returns c = c.eq.ensures ∙ params_tests c.args.params.now c.no_params.result ∙ ap (asset_params_eq c.args.params.now) c.no_params.ensures
