use Rattle.std.proofs.Common.{refl}
use Rattle.al_record.specs.Columns.{rules_of}
use Rattle.al_txn.specs.Txn.{appl_txn}
use Rattle.al_bodies.proofs.Apart.{range_others}
use Rattle.al_txn.proofs.call.check_call.Goals as goal

pub returns : goal.returns
returns c = rw (c.in_ok-check_others.ensures, range_others (rules_of appl_txn) c.args.entries.now refl) c.check_ranges.ensures
