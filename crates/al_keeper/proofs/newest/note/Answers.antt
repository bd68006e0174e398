use Rattle.std.proofs.Common.{◌∙◌, sym}
use Rattle.al_keeper.specs.Newest.{newest_at}
use Rattle.al_keeper.proofs.Newests.{replaced}
use Rattle.al_keeper.proofs.newest.note.Goals as goal

pub returns-in-Ok : goal.returns-in-Ok
returns-in-Ok c = replaced c.args.to c.args.version.now (newest_at c.args.newest.now) (newest_at c.insert.new.self) (sym c.is_settled.ensures ∙ c.if-not-is_settled.false) (sym c.is_newest.ensures ∙ c.if-not-is_newest.false) c.in-Ok.ensures.updates.0
