use Rattle.al_catch.specs.Records.{chunk, info}
use Rattle.al_catch.proofs.Meaning.{once}
use Rattle.al_catch.proofs.Ranged.{chunk_holds, info_holds}
use Rattle.al_catch.proofs.Same.{chunk_determined, info_determined}
use Rattle.al_catch.proofs.laws.record_laws.Goals as goal

pub returns-clause-chunks : goal.returns-clause-chunks
returns-clause-chunks c = λ input x y m n. once chunk chunk_determined input x y m n

pub returns-clause-infos : goal.returns-clause-infos
returns-clause-infos c = λ input x y m n. once info info_determined input x y m n

pub returns-clause-written : goal.returns-clause-written
returns-clause-written c = λ x h. chunk_holds x h

pub returns-clause-said : goal.returns-clause-said
returns-clause-said c = λ x h. info_holds x h
