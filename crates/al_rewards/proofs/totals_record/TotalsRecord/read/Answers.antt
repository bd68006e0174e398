use Rattle.std.proofs.Common.{refl}
use Rattle.al_record.proofs.Engine.{is_record}
use Rattle.al_rewards.specs.Record.{totals_fields}
use Rattle.al_rewards.proofs.totals_record.TotalsRecord.read.Goals as goal

pub returns : goal.returns
returns c = is_record totals_fields _ c.args.entries.now refl c.requires c.in_ok-check.ensures (c.number-4.ensures, (c.number-5.ensures, (c.number.ensures, (c.number-2.ensures, (c.number-3.ensures, (c.number-6.ensures, (c.number-7.ensures, tt)))))))
