use Rattle.std.proofs.Common.{subst, sym}
use Rattle.al_moves.specs.Keys.{keyed}
use Rattle.al_overlay.specs.Work.{DoesWhere, Gives}
use Rattle.al_eval.specs.Body.{BodyAsksOne, done_by}
use Rattle.al_eval.specs.Turns.{context}
use Rattle.al_eval.proofs.Asks.{call_asks}
use Rattle.al_eval.proofs.transact.do_body.Goals as goal

pub returns-in-KeyReg : goal.returns-in-KeyReg
returns-in-KeyReg g c =
    let e = c.keyreg.ensures in
    let work = c.args.work.now in
    let turn = c.args.turn.now in
    let new = c.keyreg.new.self in
    subst (λ b. DoesWhere g.V.RowView.tells (BodyAsksOne work.block turn.item.now.effects b) (done_by b (context work.level turn) work.now) work new c.keyreg.result) (sym c.in-KeyReg.is) (record {
      fixed = e.fixed;
      gives = λ t _. subst (λ n. Gives (keyed n turn.item.now.txn.sender c.in-KeyReg.k work.now) c.keyreg.result new.now) c.requires.round (e.gives t);
      starts = e.starts;
      cause = e.cause;
    })

pub returns-in-App : goal.returns-in-App
returns-in-App g c =
    let e = c.apply_effects.ensures in
    let work = c.args.work.now in
    let turn = c.args.turn.now in
    let new = c.apply_effects.new.work in
    subst (λ b. DoesWhere g.V.RowView.tells (BodyAsksOne work.block turn.item.now.effects b) (done_by b (context work.level turn) work.now) work new c.apply_effects.result) (sym c.in-App.is) (record {
      fixed = e.fixed;
      gives = λ t asks. e.gives t (call_asks work.block turn.item.now.effects c.in-App.call turn.next asks);
      starts = e.starts;
      cause = e.cause;
    })
