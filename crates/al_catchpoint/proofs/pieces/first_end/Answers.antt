use Rattle.al_catchpoint.proofs.PieceLemmas.{spelled_first}
use Rattle.al_catchpoint.proofs.pieces.first_end.Goals.{in-Ok, in-Err}
use Rattle.al_catchpoint.proofs.pieces.first_end.Goals as goal

pub returns-clause-first : goal.returns-clause-first
returns-clause-first c = elim c.match-decode.branch [
  | in-Ok w ↦ rw (w.result-is) (spelled_first w.in-Ok.field-0 c.args.bytes.now c.requires.some w.in-Ok.ensures.right)
  | in-Err w ↦ rw (w.result-is) w.end_at.ensures.first
]
