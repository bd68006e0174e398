use Rattle.std.proofs.Common.{◌∙◌, sym, None, []}
use Rattle.al_base.specs.declared.online.Version.{Version}
use Rattle.al_keeper.specs.Newest.{is_current}
use Rattle.al_keeper.proofs.Newests.{passed, picked}
use Rattle.al_keeper.proofs.newest.current.Goals.{then-is_current+in_ok-push, else-is_current}
use Rattle.al_keeper.proofs.newest.current.Goals as goal

pub loop-version-preserved : goal.loop-version-preserved
loop-version-preserved c =
    let no_version : Version = record { address = record { 0 = [] }; round = 0; now = None } in
    let p = is_current c.args.newest.now in
    elim c.if-is_current.branch [
      | then-is_current+in_ok-push w ↦ picked p c.args.versions.now c.loop-version.version-index no_version c.loop-version.out c.if-is_current.out c.loop-version-test.true c.loop-version.invariant (sym c.is_current.ensures ∙ w.if-is_current.true) (w.out-is ∙ w.in_ok-push.ensures.ok)
      | else-is_current w ↦ passed p c.args.versions.now c.loop-version.version-index no_version c.loop-version.out c.if-is_current.out c.loop-version-test.true c.loop-version.invariant (sym c.is_current.ensures ∙ w.if-is_current.false) w.out-is
    ]
