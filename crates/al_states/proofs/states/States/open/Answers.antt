use Rattle.std.proofs.Common.{Err, sym, subst}
use Rattle.al_states.specs.declared.opening.OpenFault.{OpenFault}
use Rattle.al_states.specs.Opening.{Opens}
use Rattle.al_eval.proofs.Counted.{start_counted}
use Rattle.al_eval.proofs.Firsts.{start_is_sound}
use Rattle.al_eval.proofs.Onlines.{start_rises}
use Rattle.al_eval.proofs.Starts.{genesis_ranged}
use Rattle.al_eval.specs.Start.{start_online}
use Rattle.al_online.proofs.Once.{once_where_rising}
use Rattle.al_states.proofs.OpenLemmas.{begun_few, fault_opens}
use Rattle.al_states.proofs.states.States.open.Goals as goal

pub begin-requires-clause-ranged : goal.begin-requires-clause-ranged
begin-requires-clause-ranged c = genesis_ranged c.args.file.now c.in-Ok.genesis c.in-Ok.ensures.right

pub begin-requires-clause-sound : goal.begin-requires-clause-sound
begin-requires-clause-sound c = start_is_sound c.args.file.now c.in-Ok.genesis c.in-Ok.ensures.right

pub begin-requires-clause-few : goal.begin-requires-clause-few
begin-requires-clause-few c = begun_few c.args.file.now c.in-Ok.genesis c.in-Ok.ensures.right

pub begin-requires-clause-once : goal.begin-requires-clause-once
begin-requires-clause-once c = once_where_rising (start_online c.in-Ok.genesis.accounts) (start_rises c.args.file.now c.in-Ok.genesis c.in-Ok.ensures.right)

pub begin-requires-clause-totals : goal.begin-requires-clause-totals
begin-requires-clause-totals c = start_counted c.args.file.now c.in-Ok.genesis c.in-Ok.ensures.right

pub returns-in-Err : goal.returns-in-Err
returns-in-Err c = subst (λ (f : OpenFault). Opens c.args.file.now (Err f)) (sym c.fault_of.ensures) (fault_opens c.args.file.now c.in-Err.fault c.in-Err.ensures.right)

pub returns-in-Ok-begin : goal.returns-in-Ok-begin
returns-in-Ok-begin c = (c.in-Ok-begin.ensures.states, (c.in-Ok.genesis, c.in-Ok.ensures.right, c.in-Ok-begin.ensures.origin))
