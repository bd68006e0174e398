use Rattle.std.proofs.Common.{◌≡◌, ◌∙◌, ◌+◌, [], ◌∷◌, ◌++◌, refl, sym, subst, arith, length-append}
use Rattle.al_base.specs.Causes.{Rose}
use Rattle.al_states.specs.declared.told.Told.{Told}
use Rattle.al_states.specs.Keeping.{held}
use Rattle.al_session.proofs.TakingLemmas.{request_length}
use Rattle.al_session.proofs.ServeLemmas.{begins, unserved, took, spent, stopped_at, stopped_counts, answered, goes_on, closed, answer_failed, body_seen, rest_of, length_more}
use Rattle.al_session.proofs.link.serve_link.Goals as goal

pub loop-i-init : goal.loop-i-init
loop-i-init g c = ([], [], rw c.new-inbox.ensures (begins (held c.args.states.now) (g.S.Source.left c.args.source.now) (g.T.Sink.written c.args.sink.now)), refl, refl, omega arith, refl, refl, c.requires, c.front-caller.ensures.front)

pub returns-in_default-clause-serves : goal.returns-in_default-clause-serves
returns-in_default-clause-serves g c = unserved (held c.args.states.now) (g.S.Source.left c.args.source.now) (g.T.Sink.written c.args.sink.now)

pub returns-clause-serves : goal.returns-clause-serves
returns-clause-serves g c =
    let i = c.loop-i.invariant in
    spent _ (held c.loop-i.states) _ _ _ _ c.loop-i.inbox i.0 i.1 i.2 (omega (arith, i.3))

pub returns-in-Err-clause-serves : goal.returns-in-Err-clause-serves
returns-in-Err-clause-serves g c =
    let i = c.loop-i.invariant in
    stopped_at _ (held c.loop-i.states) _ (g.S.Source.left c.loop-i.source) _ _ (g.T.Sink.written c.loop-i.sink) _ c.loop-i.inbox c.next.new.self i.0 i.1 c.in-Err.stop (c.loop-i.done + c.len-waiting.result) c.len-waiting.result c.end.result i.2 c.in-Err.ensures.bytes c.len-waiting.ensures (omega (arith, i.4)) c.end.ensures.ends

pub returns-in-Err-clause-source_fault : goal.returns-in-Err-clause-source_fault
returns-in-Err-clause-source_fault g c =
    let i = c.loop-i.invariant in
    (stopped_counts c.in-Err.stop (c.loop-i.done + c.len-waiting.result) c.len-waiting.result (g.T.Sink.written c.loop-i.sink) (g.T.Sink.written c.end.new.sink) c.end.result (g.S.Source.faults c.args.source.now) (g.S.Source.faults c.loop-i.source) (g.S.Source.faults c.next.new.source) i.6 c.end.ensures.ends c.in-Err.ensures.kept).0

pub returns-in-Err-clause-sink_fault : goal.returns-in-Err-clause-sink_fault
returns-in-Err-clause-sink_fault g c =
    let i = c.loop-i.invariant in
    λ e. subst (λ k. Rose k (g.T.Sink.faults c.end.new.sink)) i.7 (c.end.ensures.sink_fault e)

pub returns-in-Err-clause-kept : goal.returns-in-Err-clause-kept
returns-in-Err-clause-kept g c =
    let i = c.loop-i.invariant in (
      (stopped_counts c.in-Err.stop (c.loop-i.done + c.len-waiting.result) c.len-waiting.result (g.T.Sink.written c.loop-i.sink) (g.T.Sink.written c.end.new.sink) c.end.result (g.S.Source.faults c.args.source.now) (g.S.Source.faults c.loop-i.source) (g.S.Source.faults c.next.new.source) i.6 c.end.ensures.ends c.in-Err.ensures.kept).1,
      λ n. c.end.ensures.kept n ∙ i.7,
    )

pub returns-in-Err-send-clause-serves : goal.returns-in-Err-send-clause-serves
returns-in-Err-send-clause-serves g c =
    let i = c.loop-i.invariant in
    let x = c.in-Ok-next.ensures.bytes in
    let put = c.in-Err-send.ensures.bytes in
    let new = held c.answer-told.new.self in
    let s = took _ (held c.loop-i.states) _ (g.S.Source.left c.loop-i.source) _ _ _ c.loop-i.inbox c.next.new.self i.0 i.1 i.2 x.0 in
    let done = answered _ (held c.loop-i.states) new _ _ _ (g.T.Sink.written c.loop-i.sink) c.next.new.self x.1.1 _ i.0 i.1 x.1.0 c.in-Ok-next.piece.asked c.answer-told.result put.0 s x.1.2 x.1.3 x.1.7 (body_seen c.next.new.self c.waiting.result.now x.1.0 x.1.1 c.in-Ok-next.piece.used c.in-Ok-next.piece.size c.waiting.ensures x.1.5 x.1.6 x.1.7) c.answer-told.ensures.answered put.1 in
    let out : Told = record { front = c.answer-told.result.front; answer = put.0 } in
    answer_failed _ new _ _ _ (g.T.Sink.written c.loop-i.sink) _ x.1.1 i.0 i.1 x.1.0 out put.2.0 done s.going s.written put.2.1 put.2.2

pub returns-in-Err-send-clause-kept : goal.returns-in-Err-send-clause-kept
returns-in-Err-send-clause-kept g c = (λ n. c.in-Ok-next.ensures.kept ∙ c.loop-i.invariant.6, λ n. absurd (n refl))

pub returns-then-piece-clause-serves : goal.returns-then-piece-clause-serves
returns-then-piece-clause-serves g c =
    let i = c.loop-i.invariant in
    let x = c.in-Ok-next.ensures.bytes in
    let put = c.in-Ok-send.ensures.bytes in
    let new = held c.answer-told.new.self in
    let s = took _ (held c.loop-i.states) _ (g.S.Source.left c.loop-i.source) _ _ _ c.loop-i.inbox c.next.new.self i.0 i.1 i.2 x.0 in
    let done = answered _ (held c.loop-i.states) new _ _ _ (g.T.Sink.written c.loop-i.sink) c.next.new.self x.1.1 _ i.0 i.1 x.1.0 c.in-Ok-next.piece.asked c.answer-told.result put.0 s x.1.2 x.1.3 x.1.7 (body_seen c.next.new.self c.waiting.result.now x.1.0 x.1.1 c.in-Ok-next.piece.used c.in-Ok-next.piece.size c.waiting.ensures x.1.5 x.1.6 x.1.7) c.answer-told.ensures.answered put.1 in
    let out : Told = record { front = c.answer-told.result.front; answer = put.0 } in
    closed _ new _ _ _ (g.T.Sink.written c.loop-i.sink) _ x.1.1 i.0 i.1 x.1.0 out done s.going s.written put.2 (sym x.1.4 ∙ c.if-piece.true)

pub loop-i-preserved : goal.loop-i-preserved
loop-i-preserved g c =
    let i = c.loop-i.invariant in
    let x = c.in-Ok-next.ensures.bytes in
    let put = c.in-Ok-send.ensures.bytes in
    let new = held c.answer-told.new.self in
    let s = took _ (held c.loop-i.states) _ (g.S.Source.left c.loop-i.source) _ _ _ c.loop-i.inbox c.next.new.self i.0 i.1 i.2 x.0 in
    let done = answered _ (held c.loop-i.states) new _ _ _ (g.T.Sink.written c.loop-i.sink) c.next.new.self x.1.1 _ i.0 i.1 x.1.0 c.in-Ok-next.piece.asked c.answer-told.result put.0 s x.1.2 x.1.3 x.1.7 (body_seen c.next.new.self c.waiting.result.now x.1.0 x.1.1 c.in-Ok-next.piece.used c.in-Ok-next.piece.size c.waiting.ensures x.1.5 x.1.6 x.1.7) c.answer-told.ensures.answered put.1 in
    let out : Told = record { front = c.answer-told.result.front; answer = put.0 } in
    let next = goes_on _ new _ _ _ (g.T.Sink.written c.loop-i.sink) _ x.1.1 i.0 i.1 x.1.0 out done s.going s.written put.2 (sym x.1.4 ∙ c.if-piece.false) in
    let left : c.pass.new.self ≡ x.1.1 = c.pass.ensures ∙ rest_of c.next.new.self x.1.0 x.1.1 c.in-Ok-next.piece.used c.in-Ok-next.piece.size x.1.5 x.1.6 x.1.7 in
    let long = request_length x.1.0 c.in-Ok-next.piece.used c.in-Ok-next.piece.size x.1.5 x.1.6 x.1.2 in
    (i.0 ++ x.1.0 ∷ [], i.1 ++ out ∷ [], rw left next, omega (arith, i.3, length-append i.0 (x.1.0 ∷ [])), omega (arith, i.4, long.0, length_more i.0 x.1.0), omega (arith, i.5, long.1), c.in-Ok-next.ensures.kept ∙ i.6, c.in-Ok-send.ensures.cause.kept ∙ i.7, c.answer-told.ensures.states, c.answer-told.ensures.answered.front)
