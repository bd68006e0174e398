use Rattle.std.proofs.Common.{◌∙◌, ap}
use Rattle.al_online.specs.Search.{put_accounts}
use Rattle.al_online.proofs.Snaps.{next_is}
use Rattle.al_online.proofs.snapshot.Snapshot.next.Goals as goal

pub returns : goal.returns
returns c =
    next_is c.self.inside.level c.self.inside.online.items c.args.self.now c.self.view_is c.self.invariant c.args.level c.args.changes.now c.put_accounts.new.online.items c.in_ok-put_accounts.ensures.order
    (c.in_ok-put_accounts.ensures.ok ∙ ap (put_accounts c.args.changes.now) (c.in_ok-online.ensures.items ∙ c.deref.ensures.value))
