use Rattle.std.proofs.Common.{Ok, Err, arith}
use Rattle.al_msgpack.proofs.Exact.{Fit}
use Rattle.al_msgpack.proofs.Sizes.{limit}
use Rattle.al_msgpack.proofs.Verdicts.{bytes_fit}
use Rattle.al_row_records.proofs.Meaning.{only_from}
use Rattle.al_row_records.proofs.Within.{is_kept}
use Rattle.al_row_records.proofs.decoding.decode_row.Goals as goal

pub returns-in-Ok-clause-only : goal.returns-in-Ok-clause-only
returns-in-Ok-clause-only c =
    let fit : Fit limit c.args.input.now = record { bytes = bytes_fit c.args.input.now (λ i. omega (arith, c.type_inv.input i)); short = omega (arith, c.requires) } in
    λ r m. only_from c.args.key.now c.args.input.now fit (Ok c.in-Ok.row) r c.in-Ok.ensures m

pub returns-in-Err-clause-only : goal.returns-in-Err-clause-only
returns-in-Err-clause-only c =
    let fit : Fit limit c.args.input.now = record { bytes = bytes_fit c.args.input.now (λ i. omega (arith, c.type_inv.input i)); short = omega (arith, c.requires) } in
    λ r m. only_from c.args.key.now c.args.input.now fit (Err c.in-Err.fault) r c.in-Err.ensures m

pub returns-in-Ok-clause-kept : goal.returns-in-Ok-clause-kept
returns-in-Ok-clause-kept c = is_kept c.args.key.now c.args.input.now c.in-Ok.row c.in-Ok.ensures c.key_fits.ensures c.row_fits.ensures
