use Rattle.std.proofs.Common.{◌≡◌, ◌≤◌, ℕ, codes, refl, subst, sym, ◌∙◌}
use Rattle.al_record.specs.Columns.{number_of, value_at}
use Rattle.al_record.proofs.Engine.{is_record}
use Rattle.al_row_records.specs.Tables.{account_fields, status_number}
use Rattle.al_row_records.proofs.Counts.{status_within}
use Rattle.al_row_records.proofs.account_record.read_account.Goals as goal

pub returns : goal.returns
returns c =
    let es = c.args.entries.now in
    let within : c.number.result ≤ 2 = subst (λ (n : ℕ). n ≤ 2) (sym c.number.ensures) (status_within es c.in_ok-check.ensures) in
    let status : status_number c.status_of.result ≡ number_of (value_at (codes "a") es) = c.status_of.ensures within ∙ c.number.ensures in
    is_record account_fields _ es refl c.requires c.in_ok-check.ensures (status, (c.number-2.ensures, (c.number-3.ensures, (c.array.ensures, (c.array-2.ensures, (c.array-3.ensures, (c.array-4.ensures, (c.number-4.ensures, (c.number-5.ensures, (c.number-6.ensures, (c.number-7.ensures, (c.number-8.ensures, (c.number-9.ensures, (c.number-10.ensures, (c.number-11.ensures, (c.number-12.ensures, (c.number-13.ensures, (c.number-14.ensures, (c.number-15.ensures, tt)))))))))))))))))))
