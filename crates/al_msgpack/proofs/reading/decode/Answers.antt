use Rattle.std.proofs.Common.{arith}
use Rattle.al_msgpack.specs.Reading.{verdict}
use Rattle.al_msgpack.proofs.Exact.{Fit}
use Rattle.al_msgpack.proofs.Sizes.{limit}
use Rattle.al_msgpack.proofs.Verdicts.{bytes_fit, verdict_means, means_verdict, right_from, only_from, rises_from}
use Rattle.al_msgpack.proofs.reading.decode.Goals as goal

pub returns-clause-right : goal.returns-clause-right
returns-clause-right c =
    let fit : Fit limit c.args.input.now = record { bytes = bytes_fit c.args.input.now (λ i. omega (arith, c.type_inv.input i)); short = omega (arith, c.requires) } in
    right_from c.args.input.now c.judge.result (verdict c.args.input.now) c.judge.ensures (verdict_means c.args.input.now fit)

pub returns-clause-only : goal.returns-clause-only
returns-clause-only c =
    let fit : Fit limit c.args.input.now = record { bytes = bytes_fit c.args.input.now (λ i. omega (arith, c.type_inv.input i)); short = omega (arith, c.requires) } in
    λ r m. only_from c.judge.result (verdict c.args.input.now) r c.judge.ensures (means_verdict c.args.input.now fit r m)

pub returns-clause-rising : goal.returns-clause-rising
returns-clause-rising c =
    let fit : Fit limit c.args.input.now = record { bytes = bytes_fit c.args.input.now (λ i. omega (arith, c.type_inv.input i)); short = omega (arith, c.requires) } in
    rises_from c.args.input.now c.judge.result (right_from c.args.input.now c.judge.result (verdict c.args.input.now) c.judge.ensures (verdict_means c.args.input.now fit))
