use Rattle.std.proofs.Common.{◌∙◌, ap}
use Rattle.al_rows.specs.Rows.{account}
use Rattle.al_overlay.specs.Held.{nows}
use Rattle.al_overlay.specs.Work.{Worked}
use Rattle.al_overlay.proofs.Creators.{account_noted}
use Rattle.al_overlay.proofs.Holds.{account-held, not-held}
use Rattle.al_moves.proofs.work.Work.account.Goals as goal

pub hold_account-requires : goal.hold_account-requires
hold_account-requires g c = not-held c.self.inside.rows.entries c.args.who.now c.in-None.ensures.value

pub returns-in-Some-clause-value : goal.returns-in-Some-clause-value
returns-in-Some-clause-value g c = λ t.
    account-held (nows c.self.inside.rows.entries) (g.V.RowView.rows c.self.inside.view) c.args.who.now c.in-Some.r c.in-Some.ensures.value
    ∙ ap (λ (w : Worked). account w.now c.args.who.now) c.self.view_is

pub invariant_of-self : goal.invariant_of-self
invariant_of-self g c = (
  c.hold_account.ensures.work c.self.inside.started.items c.self.invariant.0,
  account_noted c.self.inside.rows.entries c.hold_account.new.rows.entries c.args.who.now c.self.inside.creators c.hold_account.ensures.others c.self.invariant.1,
)
