use Rattle.std.proofs.Common.{rules, ◌≡◌, ◌∙◌, [], get_or, subst, Ok}
use Rattle.std.proofs.lemmas.Result.{err_from_is_err_and}
use Rattle.al_moves.specs.Keys as keys
use Rattle.al_eval.specs.Expiry.{or_refused}
use Rattle.al_eval.specs.Refusals.{IsDue, refusal_of}
use Rattle.al_eval.proofs.Expiries.{expired_done, expired_due}
use Rattle.al_base.specs.declared.address.Address.{Address}
use Rattle.al_eval.proofs.expiry.expire_all.Goals as goal

-- the address that a place behind the list shows
abbrev none : Address
none = record { 0 = [] }

pub returns-in_err-expire_at : goal.returns-in_err-expire_at
returns-in_err-expire_at g c = let q = err_from_is_err_and c.from_residual.result c.from_residual.ensures.1 in rw (q.1, q.2) (record {
  fixed = search rules;
  gives = λ t.
      let p = c.loop-place in
      let list = c.as_slice-who-items.result.now in
      let v = refusal_of c.in_err-expire_at.field-0.0 in
      let here = subst (λ r. IsDue (or_refused p.place (keys.expired r (get_or list p.place none) p.work.now)) v) p.invariant.fixed.round (c.in_err-expire_at.ensures.gives t) in
      subst (λ d. IsDue d v) (p.invariant.rest t) (expired_due c.args.work.now.round c.args.accounts.now list c.as_slice-who-items.ensures p.place none c.loop-place-test.true p.work.now v here);
  cause = search rules;
})

pub loop-place-preserved : goal.loop-place-preserved
loop-place-preserved g c = record {
  fixed = search rules;
  rest = λ t.
      let p = c.loop-place in
      let list = c.as_slice-who-items.result.now in
      let n = c.expire_at.new.work.now in
      let here = subst (λ r. or_refused p.place (keys.expired r (get_or list p.place none) p.work.now) ≡ Ok n) p.invariant.fixed.round (c.in_ok-expire_at.ensures.gives t) in
      expired_done c.args.work.now.round c.args.accounts.now list c.as_slice-who-items.ensures p.place none c.loop-place-test.true p.work.now n here ∙ p.invariant.rest t;
}
