use Rattle.std.proofs.Common.{Bool, true, false, sym, subst}
use Rattle.al_record.specs.Columns.{Passes, first_fault, rules_of}
use Rattle.al_row_records.specs.Tables.{asset_fields}
use Rattle.al_row_records.proofs.asset_record.check_parts.Goals as goal

pub returns-in-true-true : goal.returns-in-true-true
returns-in-true-true c =
    subst (λ (b : Bool). Passes (first_fault (rules_of (asset_fields b c.args.given)) c.args.entries.now) c.check.result) (sym c.in-true-true.is-0)
    (subst (λ (b : Bool). Passes (first_fault (rules_of (asset_fields true b)) c.args.entries.now) c.check.result) (sym c.in-true-true.is-1) c.check.ensures)

pub returns-in-false-true : goal.returns-in-false-true
returns-in-false-true c =
    subst (λ (b : Bool). Passes (first_fault (rules_of (asset_fields b c.args.given)) c.args.entries.now) c.check-in-false-true.result) (sym c.in-false-true.is-0)
    (subst (λ (b : Bool). Passes (first_fault (rules_of (asset_fields false b)) c.args.entries.now) c.check-in-false-true.result) (sym c.in-false-true.is-1) c.check-in-false-true.ensures)
