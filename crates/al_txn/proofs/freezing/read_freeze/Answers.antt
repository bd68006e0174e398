use Rattle.std.proofs.Common.{rules, refl, ap, codes}
use Rattle.al_txn.specs.Txn.{txn, txn_fault, written, afrz_txn}
use Rattle.al_record.proofs.Engine.{is_record, passes_on}
use Rattle.al_record.proofs.OfKind.{of_kind, text_shown}
use Rattle.al_txn.proofs.freezing.read_freeze.Goals as goal

pub returns-in_err-check : goal.returns-in_err-check
returns-in_err-check c = passes_on txn c.args.entries.now _ _ c.from_residual.result (ap (txn_fault c.args.entries.now) c.requires.kind) c.in_err-check.ensures c.from_residual.ensures.1

pub returns : goal.returns
returns c =
    let es = c.args.entries.now in
    let t = c.in_ok-common.field-0 in
    let kind = text_shown (codes "type") es _ c.requires.kind in
    of_kind txn afrz_txn t (t, c.freeze_of.result) es (ap (txn_fault es) c.requires.kind) (ap (written t) c.in_ok-common.ensures.body)
    (is_record afrz_txn _ es refl c.requires.canonical c.in_ok-check.ensures (search (rules, kind, c.in_ok-common.ensures.fields, c.freeze_of.ensures)))
