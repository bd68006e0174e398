-- The derived comparison of parameters is the test of the definitions.
use Rattle.std.proofs.Common.{◌≡◌, refl, ap, ◌∷◌, [], Bool, true, false, nat_eq}
use mathlib.Core.Bool.{beq}
use Rattle.al_base.specs.declared.asset.AssetParams.{AssetParams}
use Rattle.al_base.specs.contracts.asset.AssetParamsPartialEq.TheImpl as asset_params
use Rattle.al_rows.specs.Rows.{all_true, asset_params_eq, same_bool, same_bytes}

bool_tests : (a b : Bool) → beq a b ≡ same_bool a b
bool_tests true true = refl
bool_tests true false = refl
bool_tests false true = refl
bool_tests false false = refl

pub params_tests : (p q : AssetParams) → (asset_params.eq-value).it p q ≡ asset_params_eq p q
params_tests p q = ap (λ b. all_true (nat_eq p.total q.total ∷ nat_eq p.decimals q.decimals ∷ b ∷ same_bytes p.unit q.unit ∷ same_bytes p.name q.name ∷ same_bytes p.url q.url ∷ same_bytes p.meta q.meta ∷ same_bytes p.manager.0 q.manager.0 ∷ same_bytes p.reserve.0 q.reserve.0 ∷ same_bytes p.freeze.0 q.freeze.0 ∷ same_bytes p.clawback.0 q.clawback.0 ∷ [])) (bool_tests p.default_frozen q.default_frozen)
