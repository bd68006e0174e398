use Rattle.std.proofs.Common.{◌+◌, ap, ◌∙◌, arith}
use Rattle.al_opening.specs.declared.past.Past.{Past}
use Rattle.al_opening.proofs.PastLemmas.{first_past, next_past, next_refused, of_chain}
use Rattle.al_opening.proofs.past.read_past.Goals as goal

pub loop-round-init : goal.loop-round-init
loop-round-init g c =
    let first = c.in-Ok.ensures in
    record {
      rounds = first.rounds;
      same = first.same;
      told = first.told;
      reads = λ t. (let s = first.reads t in first_past _ _ _ c.in-Ok.first _ s.0 s.1 s.2 c.in-Ok-begin.ensures);
      chain = λ t. (let s = first.reads t in of_chain _ _ _ c.in-Ok.first s.0 s.2);
      header = record { block = c.in-Ok.first; header = ap (λ (p : Past). p.header) c.in-Ok-begin.ensures; at = first.block.0; spelled = first.block.1 };
      later = first.cause.later;
    }

pub returns-in-Err-add_next-clause-reads : goal.returns-in-Err-add_next-clause-reads
returns-in-Err-add_next-clause-reads g c t =
    let l = c.loop-round in
    let before = c.in-Err-add_next.ensures.told t in
    next_refused _ _ _ _ l.round (l.round + 1) l.past c.add_next.new.past (omega arith) (l.invariant.same before) (l.invariant.reads before) c.args.to c.in-Err-add_next.refused c.loop-round-test.true (l.invariant.chain before) (c.in-Err-add_next.ensures.adds t)

pub loop-round-preserved : goal.loop-round-preserved
loop-round-preserved g c =
    let l = c.loop-round in
    let next = c.in-Ok-add_next.ensures in
    record {
      rounds = next.rounds ∙ l.invariant.rounds;
      same = λ t. next.same t ∙ l.invariant.same (next.told t);
      told = λ t. l.invariant.told (next.told t);
      reads = λ t. next_past _ _ _ _ l.round (l.round + 1) l.past c.add_next.new.past (omega arith) (l.invariant.same (next.told t)) (l.invariant.reads (next.told t)) (next.adds t);
      chain = λ t. l.invariant.chain (next.told t);
      header = next.header;
      later = omega (arith, l.invariant.later, next.cause.later);
    }
