use Rattle.std.proofs.Common.{arith}
use Rattle.al_msgpack.proofs.Exact.{Fit}
use Rattle.al_msgpack.proofs.Sizes.{limit}
use Rattle.al_msgpack.proofs.Verdicts.{bytes_fit}
use Rattle.al_catch.specs.Records.{chunk}
use Rattle.al_catch.proofs.Meaning.{only_from}
use Rattle.al_catch.proofs.Same.{chunk_determined}
use Rattle.al_catch.proofs.decoding.decode_chunk.Goals as goal

pub returns-clause-only : goal.returns-clause-only
returns-clause-only c =
    let fit : Fit limit c.args.input.now = record { bytes = bytes_fit c.args.input.now (λ i. omega (arith, c.type_inv.input i)); short = omega (arith, c.requires) } in
    λ r m. only_from chunk chunk_determined c.args.input.now fit c.judge.result r c.judge.ensures m
