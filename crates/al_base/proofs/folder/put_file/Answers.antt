use Rattle.std.proofs.Common.{ap, ◌∙◌}
use Rattle.std.specs.List.{position}
use Rattle.al_base.specs.Folders.{is_named}
use Rattle.al_base.proofs.FolderLemmas.{set_at_place, pushed_new}
use Rattle.al_base.proofs.folder.put_file.Goals as goal

pub returns-in-Some-clause-ok : goal.returns-in-Some-clause-ok
returns-in-Some-clause-ok c =
    let found = c.in-Some.ensures ∙ ap (position (is_named c.args.name.now)) c.as_slice.ensures in
    set_at_place c.args.name.now c.args.bytes.now _ c.args.files.now _ _ found c.set.ensures c.in_ok-of.ensures c.in_ok-of-2.ensures

pub returns-in_ok-push-in-None-clause-ok : goal.returns-in_ok-push-in-None-clause-ok
returns-in_ok-push-in-None-clause-ok c =
    let missing = c.in-None.ensures ∙ ap (position (is_named c.args.name.now)) c.as_slice.ensures in
    pushed_new c.args.name.now c.args.bytes.now _ c.args.files.now _ missing c.in_ok-push-in-None.ensures.ok c.in_ok-of.ensures c.in_ok-of-2.ensures
