use Rattle.std.proofs.Common.{◌∙◌, ap, refl, subst, sym}
use Rattle.al_ledger.specs.declared.flushing.Flushed.{Flushed}
use Rattle.al_ledger.specs.Flushing.{with_floor}
use Rattle.al_ledger.specs.Keeping.{IsLedger}
use Rattle.al_tables.specs.Tables.{Tables}
use Rattle.al_ledger.proofs.Flushes.{moved_up}
use Rattle.al_ledger.proofs.Looks.{floor_is}
use Rattle.al_ledger.proofs.recent.Recent.flush.Goals as goal

pub returns-in-Ok-commit-clause-told : goal.returns-in-Ok-commit-clause-told
returns-in-Ok-commit-clause-told g c = λ t w kept k.
    let r = c.args.self.now in (
      with_floor c.args.to w,
      moved_up w (g.K.TableKeeper.tables c.args.tables.now.inner) (g.K.TableKeeper.tables c.commit.new.self.inner) kept r _ k c.args.to c.in-Ok.batch c.requires.above c.requires.below c.in-Ok.ensures (c.in-Ok-commit.ensures.ok t) c.drop_to.ensures refl refl refl,
      (ap (λ from. let f : Flushed = record { from = from; to = c.args.to } in f) (c.floor-from.ensures ∙ floor_is w (g.K.TableKeeper.tables c.args.tables.now.inner) kept r k), refl),
    )

pub returns-in-Err-Fault-clause-told : goal.returns-in-Err-Fault-clause-told
returns-in-Err-Fault-clause-told g c = λ t w kept k. (w, subst (λ (u : Tables). IsLedger w u kept c.args.self.now) (sym (c.in-Err-Fault.ensures.err t)) k, refl)

pub returns-clause-told : goal.returns-clause-told
returns-clause-told g c = λ t w kept k. (w, subst (λ (u : Tables). IsLedger w u kept c.args.self.now) (sym (c.in-Err-Memory.ensures.err t)) k, refl)
