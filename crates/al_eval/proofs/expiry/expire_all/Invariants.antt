use Rattle.std.proofs.Common.{◌≡◌, true, drop}
use Rattle.al_overlay.specs.Work.{IsFixed}
use Rattle.al_eval.specs.Expiry.{all_expired}
use Rattle.al_eval.proofs.expiry.expire_all.Given as goal

abbrev pub invariant-loop-place : goal.invariant-loop-place
invariant-loop-place g l = record {
  fixed : IsFixed g.V.RowView.tells l.fn.work l.work;
  rest : g.V.RowView.tells ≡ true → all_expired l.fn.work.round l.place (drop l.place l.accounts) l.work.now ≡ all_expired l.fn.work.round 0 l.accounts l.fn.work.now;
}
