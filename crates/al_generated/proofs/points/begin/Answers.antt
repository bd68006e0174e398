use Rattle.std.proofs.Common.{◌∙◌, ap, subst, sym, []}
use Rattle.al_eval.specs.Start.{start}
use Rattle.al_genesis.specs.Genesis.{IsGenesis}
use Rattle.al_genesis.specs.declared.genesis.Genesis.{Genesis}
use Rattle.al_generator.specs.Genesis.{generated_bytes}
use Rattle.al_generator.proofs.Good.{is_genesis}
use Rattle.al_generated.proofs.points.begin.Goals as goal

pub of_genesis-requires : goal.of_genesis-requires
of_genesis-requires c = (generated_bytes, subst (IsGenesis generated_bytes) (sym c.in_ok-genesis.ensures) is_genesis)

pub returns : goal.returns
returns c = (c.in_ok-states.ensures.states, c.in_ok-states.ensures.origin ∙ ap (λ (g : Genesis). record { origin = start g; blocks = [] }) c.in_ok-genesis.ensures, ap (λ (g : Genesis). g.chain.hash) c.in_ok-genesis.ensures)
