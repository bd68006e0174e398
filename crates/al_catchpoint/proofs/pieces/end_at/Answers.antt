use Rattle.std.proofs.Common.{Err, subst}
use Rattle.al_msgpack.specs.Places.{MeansUnless}
use Rattle.al_catchpoint.proofs.PieceLemmas.{truncated_first}
use Rattle.al_catchpoint.proofs.pieces.end_at.Goals as goal

pub returns-in-Truncated-clause-first : goal.returns-in-Truncated-clause-first
returns-in-Truncated-clause-first c = truncated_first c.args.bytes.now c.in-Truncated.at c.requires.some (subst (λ f. MeansUnless c.args.bytes.now (Err f)) c.in-Truncated.is c.requires.means)
