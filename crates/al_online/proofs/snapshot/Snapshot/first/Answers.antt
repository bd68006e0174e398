use Rattle.std.proofs.Common.{◌∙◌, ap}
use Rattle.al_online.specs.Search.{put_accounts}
use Rattle.al_online.proofs.Snaps.{first_is}
use Rattle.al_online.proofs.snapshot.Snapshot.first.Goals as goal

pub returns : goal.returns
returns c =
    first_is c.args.level c.args.start.now c.put_accounts.new.online.items c.in_ok-put_accounts.ensures.order
    (c.in_ok-put_accounts.ensures.ok ∙ ap (put_accounts c.args.start.now) c.new-online.ensures.items)
