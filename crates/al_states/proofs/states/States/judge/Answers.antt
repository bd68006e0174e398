use Rattle.std.proofs.Common.{refl, subst, sym, true}
use Rattle.al_block.proofs.Within.{is_within}
use Rattle.al_states.specs.Accepting.{IsRefused}
use Rattle.al_states.specs.Keeping.{held}
use Rattle.al_states.proofs.KeepLemmas.{before_is, last_state, led_to_last}
use Rattle.al_states.proofs.SoundLemmas.{created_within, last_consistent, round_within}
use Rattle.al_states.proofs.ToldLemmas.{bytes_are, next_is, step_refused}
use Rattle.al_states.proofs.states.States.judge.Goals as goal

pub evaluate-requires-clause-round : goal.evaluate-requires-clause-round
evaluate-requires-clause-round c = round_within c.args.bytes.now c.args.block c.requires.spelled

pub evaluate-requires-clause-effects : goal.evaluate-requires-clause-effects
evaluate-requires-clause-effects c = (is_within c.args.bytes.now c.args.block c.requires.spelled).effects

pub evaluate-requires-clause-counted : goal.evaluate-requires-clause-counted
evaluate-requires-clause-counted c = created_within c.args.bytes.now c.args.block c.args.self.now.before.header.counter c.requires.spelled c.requires.short c.requires.states.few

pub take-requires-clause-leads : goal.take-requires-clause-leads
take-requires-clause-leads c =
    let s = c.args.self.now in
    let k = c.requires.states in
    record {
      last = last_state s k;
      replayed = led_to_last s k;
      evaluated = c.in-Ok.ensures (last_state s k) (before_is s k) k.tail_is c.requires.newest (last_consistent s k);
    }

pub returns-in-Err-clause-accepts : goal.returns-in-Err-clause-accepts
returns-in-Err-clause-accepts c =
    let s = c.args.self.now in
    let k = c.requires.states in
    let h = held s in
    let next = next_is s k c.args.block true c.requires.next (bytes_are c.args.block.header.prev s.before.hash c.requires.continues) in
    let due = c.in-Err.ensures (last_state s k) (before_is s k) k.tail_is c.requires.newest (last_consistent s k) in
    (refl, subst (IsRefused h.origin h.blocks c.args.bytes.now) (sym c.unfit.ensures) (step_refused h.origin (last_state s k) h.blocks c.args.bytes.now c.args.block c.front.result c.in-Err.refusal c.requires.spelled next due c.front.ensures.front))
