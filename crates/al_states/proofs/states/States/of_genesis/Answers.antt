use Rattle.al_eval.proofs.Counted.{start_counted}
use Rattle.al_eval.proofs.Firsts.{start_is_sound}
use Rattle.al_eval.proofs.Onlines.{start_rises}
use Rattle.al_eval.proofs.Starts.{genesis_ranged}
use Rattle.al_eval.specs.Start.{start_online}
use Rattle.al_online.proofs.Once.{once_where_rising}
use Rattle.al_states.proofs.OpenLemmas.{begun_few}
use Rattle.al_states.proofs.states.States.of_genesis.Goals as goal

pub begin-requires-clause-ranged : goal.begin-requires-clause-ranged
begin-requires-clause-ranged c = genesis_ranged c.requires.0 c.args.genesis c.requires.1

pub begin-requires-clause-sound : goal.begin-requires-clause-sound
begin-requires-clause-sound c = start_is_sound c.requires.0 c.args.genesis c.requires.1

pub begin-requires-clause-few : goal.begin-requires-clause-few
begin-requires-clause-few c = begun_few c.requires.0 c.args.genesis c.requires.1

pub begin-requires-clause-once : goal.begin-requires-clause-once
begin-requires-clause-once c = once_where_rising (start_online c.args.genesis.accounts) (start_rises c.requires.0 c.args.genesis c.requires.1)

pub begin-requires-clause-totals : goal.begin-requires-clause-totals
begin-requires-clause-totals c = start_counted c.requires.0 c.args.genesis c.requires.1
