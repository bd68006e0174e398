use Rattle.al_bodies.proofs.Same.{params_determined}
use Rattle.al_txn.proofs.Same.{txn_determined}
use Rattle.al_bodies.proofs.SameEffect.{inner_determined, effect_determined}
use Rattle.al_txn.proofs.SameItem.{item_determined}
use Rattle.al_txn.proofs.laws.txn_laws.Goals as goal

pub returns-clause-params : goal.returns-clause-params
returns-clause-params c = λ x y es r s. params_determined x y es r s

pub returns-clause-txns : goal.returns-clause-txns
returns-clause-txns c = λ x y es r s. txn_determined x y es r s

pub returns-clause-inners : goal.returns-clause-inners
returns-clause-inners c = λ x y es r s. inner_determined x y es r s

pub returns-clause-effects : goal.returns-clause-effects
returns-clause-effects c = λ x y es r s. effect_determined x y es r s

pub returns-clause-items : goal.returns-clause-items
returns-clause-items c = λ x y es r s. item_determined x y es r s
