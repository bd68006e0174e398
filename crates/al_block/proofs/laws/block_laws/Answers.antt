use Rattle.al_block.proofs.Meaning.{once}
use Rattle.al_block.proofs.Same.{header_determined, block_determined}
use Rattle.al_block.proofs.laws.block_laws.Goals as goal

pub returns-clause-headers : goal.returns-clause-headers
returns-clause-headers c = λ x y es r s. header_determined x y es r s

pub returns-clause-blocks : goal.returns-clause-blocks
returns-clause-blocks c = λ x y es r s. block_determined x y es r s

pub returns-clause-once : goal.returns-clause-once
returns-clause-once c = λ input a b m n. once input a b m n
