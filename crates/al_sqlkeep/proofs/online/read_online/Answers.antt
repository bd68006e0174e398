use Rattle.std.proofs.Common.{refl}
use Rattle.al_record.proofs.Engine.{is_record}
use Rattle.al_sqlkeep.specs.Online.{online_fields}
use Rattle.al_sqlkeep.proofs.online.read_online.Goals as goal

pub returns : goal.returns
returns c =
    is_record online_fields _ c.args.entries.now refl c.requires c.in_ok-check.ensures (c.number.ensures, (c.number-2.ensures, (c.array.ensures, (c.array-2.ensures, (c.number-3.ensures, (c.number-4.ensures, (c.number-5.ensures, tt)))))))
