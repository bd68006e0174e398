use Rattle.std.proofs.Common.{rules, refl, ap, codes}
use Rattle.al_bodies.specs.Effect.{inner_txn, inner_rules, inner_axfer}
use Rattle.al_record.specs.Kinds.{kind_fault}
use Rattle.al_record.proofs.Engine.{is_record, passes_on}
use Rattle.al_record.proofs.OfKind.{of_kind, text_shown}
use Rattle.al_bodies.proofs.inner.read_inner_move.Goals as goal

pub returns-in_err-check : goal.returns-in_err-check
returns-in_err-check c = passes_on inner_txn c.args.entries.now _ _ c.from_residual.result (ap (kind_fault (codes "type") inner_rules c.args.entries.now) c.requires.kind) c.in_err-check.ensures c.from_residual.ensures.1

pub returns : goal.returns
returns c =
    let es = c.args.entries.now in
    let kind = text_shown (codes "type") es _ c.requires.kind in
    of_kind inner_txn inner_axfer _ c.move_of.result es (ap (kind_fault (codes "type") inner_rules es) c.requires.kind) refl
    (is_record inner_axfer _ es refl c.requires.canonical c.in_ok-check.ensures (search (rules, kind, c.move_of.ensures)))
