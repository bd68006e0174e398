use Rattle.std.proofs.Common.{None}
use Rattle.al_msgpack.specs.declared.val.Val.TheVariants as values
use Rattle.al_msgpack.proofs.Canonical.{canonical_spells}
use Rattle.al_msgpack.specs.Canonical.{IsCanonical}
use Rattle.al_bodies.specs.Bodies.{asset_params}
use Rattle.al_bodies.specs.Effect.{inner_txn, effect}
use Rattle.al_bodies.proofs.Apart.{kept_merged, others_merged}
use Rattle.al_bodies.proofs.MergedFields.{merged_are, others_keys}
use Rattle.al_bodies.proofs.RangedBodies.{params_record, params_canonical}
use Rattle.al_bodies.proofs.RangedEffects.{inner_record, inner_canonical, effect_record, effect_canonical}
use Rattle.al_bodies.proofs.ranges.range_laws.Goals as goal

pub returns-clause-params : goal.returns-clause-params
returns-clause-params c = λ p r. params_record p r

pub returns-clause-params_spelled : goal.returns-clause-params_spelled
returns-clause-params_spelled c = λ p r. (params_canonical 15 p r, canonical_spells 16 (values.Map (asset_params.write p)) (params_canonical 15 p r))

pub returns-clause-inners : goal.returns-clause-inners
returns-clause-inners c = λ x r. inner_record x r

pub returns-clause-inners_spelled : goal.returns-clause-inners_spelled
returns-clause-inners_spelled c = λ x r. (inner_canonical 15 x r, canonical_spells 16 (values.Map (inner_txn.write x)) (inner_canonical 15 x r))

pub returns-clause-effects : goal.returns-clause-effects
returns-clause-effects c = λ x r. effect_record x r

pub returns-clause-effects_spelled : goal.returns-clause-effects_spelled
returns-clause-effects_spelled c = λ x r. (effect_canonical 14 x r, canonical_spells 16 (values.Map (effect.write x)) (effect_canonical 14 x r))

pub returns-clause-merged : goal.returns-clause-merged
returns-clause-merged c = λ depth ks os h q k o. (merged_are (IsCanonical depth) ks os h (others_keys os q) None k o, kept_merged ks os h (others_keys os q), others_merged ks os h (others_keys os q))
