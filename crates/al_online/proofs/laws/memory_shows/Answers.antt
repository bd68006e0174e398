use Rattle.al_online.proofs.Shows.{shows_before, shows_from, shows_next}
use Rattle.al_online.proofs.laws.memory_shows.Goals as goal

pub returns : goal.returns
returns c = record { next = shows_next; before = shows_before; from = shows_from }
