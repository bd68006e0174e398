use Rattle.std.proofs.Common.{◌∙◌, sym, subst, length, ◌<◌, ◌≤◌, ◌^◌, arith, List, ℕ}
use Rattle.al_states.specs.Keeping.{held}
use Rattle.al_states.proofs.CatchLemmas.{bytes_are, bytes_few}
use Rattle.al_states.proofs.states.States.block_bytes.Goals as goal

pub returns-clause-bytes : goal.returns-clause-bytes
returns-clause-bytes c =
    let s = c.args.self.now in
    let some : 0 < c.args.round = (let h = c.if-round-eq0.false in omega (arith, h)) in
    let within : c.args.round ≤ length (held s).blocks = (let f = c.front.ensures.front in let h = c.if-front-round.false in omega (arith, f, h)) in
    c.as_slice.ensures.value ∙ bytes_are s c.requires c.args.round some c.index-kept.result.now within c.index-kept.ensures

pub returns-clause-short : goal.returns-clause-short
returns-clause-short c =
    let s = c.args.self.now in
    let some : 0 < c.args.round = (let h = c.if-round-eq0.false in omega (arith, h)) in
    let within : c.args.round ≤ length (held s).blocks = (let f = c.front.ensures.front in let h = c.if-front-round.false in omega (arith, f, h)) in
    subst (λ (xs : List ℕ). length xs < 2 ^ 31) (sym c.as_slice.ensures.value) (bytes_few s c.requires c.args.round some c.index-kept.result.now within c.index-kept.ensures)
