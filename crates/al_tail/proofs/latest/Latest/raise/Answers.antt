use Rattle.std.proofs.Common.{◌≡◌, ◌∙◌, refl, ap, List, ℕ, Option, sym, subst, IsSome, true≢false}
use Rattle.al_tail.specs.declared.latest.Mark.{Mark}
use Rattle.al_tail.specs.Latest.{at}
use Rattle.al_tail.proofs.Marks.{IsPut, lease_stays, put_there, put_undone, raised_both, raised_id}
use Rattle.al_tail.proofs.latest.Latest.raise.Goals as goal

pub put_back-requires : goal.put_back-requires
put_back-requires c =
    subst (λ (rs : List (Mark × ℕ)). IsSome (at rs c.id_mark-id.result)) (sym c.in-Err.ensures.err)
    (put_there c.id_mark-id.result _ (at c.args.self.now.rounds.entries) (at c.raise_one.new.self.rounds.entries) c.in_ok-id_before.ensures.ok)

pub returns-in-Err-clause-err : goal.returns-in-Err-clause-err
returns-in-Err-clause-err c =
    let i = c.id_mark-id.result in
    let old = c.args.self.now.rounds.entries in
    let mid = c.raise_one.new.self.rounds.entries in
    let end = c.put_back.new.self.rounds.entries in
    let second : IsPut i c.in_ok-id_before.id_before (at mid) (at end) = subst (λ (rs : List (Mark × ℕ)). IsPut i c.in_ok-id_before.id_before (at rs) (at end)) c.in-Err.ensures.err c.put_back.ensures in
    put_undone i _ (at old) (at mid) (at end) c.in_ok-id_before.ensures.ok (subst (λ (o : Option ℕ). IsPut i o (at mid) (at end)) c.in_ok-id_before.ensures.old second)

pub returns-in-Ok-clause-ok : goal.returns-in-Ok-clause-ok
returns-in-Ok-clause-ok c =
    raised_both c.args.entry c.id_mark-id.result c.lease_mark.result (at c.args.self.now.rounds.entries) (at c.raise_one.new.self.rounds.entries) (at c.raise_one-2.new.self.rounds.entries) (sym c.has_no_lease.ensures ∙ c.if-has_no_lease.false)
    c.id_mark-id.ensures c.lease_mark.ensures c.in_ok-id_before.ensures.ok c.in-Ok.ensures.ok

pub returns-in-Ok-clause-kept : goal.returns-in-Ok-clause-kept
returns-in-Ok-clause-kept c =
    let old = c.args.self.now.rounds.entries in
    let mid = c.raise_one.new.self.rounds.entries in
    let stays : at mid c.lease_mark.result ≡ at old c.lease_mark.result = lease_stays c.args.entry c.id_mark-id.result c.lease_mark.result _ (at old) (at mid) c.id_mark-id.ensures c.lease_mark.ensures c.in_ok-id_before.ensures.ok in (
      refl,
      record {
        id = c.in_ok-id_before.ensures.old ∙ ap (at old) c.id_mark-id.ensures;
        lease = λ _. c.in-Ok.ensures.old ∙ stays ∙ ap (at old) c.lease_mark.ensures;
      },
    )

pub returns-then-has_no_lease-clause-ok : goal.returns-then-has_no_lease-clause-ok
returns-then-has_no_lease-clause-ok c =
    raised_id c.args.entry c.id_mark-id.result (at c.args.self.now.rounds.entries) (at c.raise_one.new.self.rounds.entries) (sym c.has_no_lease.ensures ∙ c.if-has_no_lease.true) c.id_mark-id.ensures c.in_ok-id_before.ensures.ok

pub returns-then-has_no_lease-clause-kept : goal.returns-then-has_no_lease-clause-kept
returns-then-has_no_lease-clause-kept c =
    let old = c.args.self.now.rounds.entries in (
      refl,
      record {
        id = c.in_ok-id_before.ensures.old ∙ ap (at old) c.id_mark-id.ensures;
        lease = λ n. absurd (true≢false (sym c.if-has_no_lease.true ∙ c.has_no_lease.ensures ∙ n));
      },
    )
