use Rattle.std.proofs.Common.{◌∙◌, ◌≤◌, ap, subst, sym, arith, ◌+◌}
use Rattle.al_history.proofs.Told.{from_start}
use Rattle.al_history.proofs.read.memory_of.Goals as goal

pub loop-next-init : goal.loop-next-init
loop-next-init c =
    let within : c.saturating_sub-base.result ≤ c.args.round = omega arith in
    record {
      base = c.in_ok-memory.ensures.base;
      top = ap (λ n. n + 1) c.in_ok-memory.ensures.top;
      read = from_start c.args.history.now c.as_slice.result.now c.args.levels.now c.in_ok-memory.rest.now c.in_ok-memory.memory c.saturating_sub-base.result c.args.round c.as_slice.ensures c.in_ok-memory.ensures.read within;
    }

pub loop-next-preserved : goal.loop-next-preserved
loop-next-preserved c = record {
  base = c.in_ok-rest.ensures.base ∙ c.loop-next.invariant.base;
  top = ap (λ n. n + 1) c.in_ok-rest.ensures.top;
  read = λ snaps low h l. c.in_ok-rest.ensures.read c.args.history.now snaps low c.args.round h (subst (λ n. low ≤ n) (sym c.loop-next.invariant.base) l) (omega arith) (c.loop-next.invariant.read snaps low h l);
}

pub returns-clause-shows : goal.returns-clause-shows
returns-clause-shows c = λ snaps low h l. (c.loop-next.invariant.read snaps low h (omega arith)).shown
