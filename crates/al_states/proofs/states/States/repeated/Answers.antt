use Rattle.std.proofs.Common.{◌≡◌, inl, ap, refl, sym, length}
use Rattle.al_states.specs.declared.accepting.Accepted.{Accepted}
use Rattle.al_states.specs.Keeping.{held}
use Rattle.al_states.proofs.KeepLemmas.{kept_block, other_spelled, same_spelled}
use Rattle.al_states.proofs.states.States.repeated.Goals as goal

pub returns-then-eq : goal.returns-then-eq
returns-then-eq c =
    let s = c.args.self.now in
    let k = c.requires.states in
    let b = c.args.block.now in
    let x = c.index-kept.result.now in
    let same = same_spelled s k b.header.round x c.requires.round.0 c.requires.round.1 c.index-kept.ensures c.args.bytes.now c.as_slice.result.now c.as_slice.ensures.value (sym c.if-eq.ensures) in
    let shown : ◌≡◌ {A = Accepted} (record { front = c.front-front.result; round = b.header.round }) (record { front = length (held s).blocks; round = b.header.round }) = ap (λ f. record { front = f; round = b.header.round }) c.front-front.ensures.front in
    inl (refl, (b, c.requires.spelled, (x.block, same, kept_block s k b.header.round x c.requires.round.0 c.requires.round.1 c.index-kept.ensures, shown)))

pub returns-in-Ok : goal.returns-in-Ok
returns-in-Ok c =
    let s = c.args.self.now in
    let k = c.requires.states in
    let b = c.args.block.now in
    let x = c.index-kept.result.now in
    let other = other_spelled s k b.header.round x c.requires.round.0 c.requires.round.1 c.index-kept.ensures c.args.bytes.now c.as_slice.result.now c.as_slice.ensures.value (sym c.if-eq.ensures) in
    (refl, (b, c.requires.spelled, ((x.block, kept_block s k b.header.round x c.requires.round.0 c.requires.round.1 c.index-kept.ensures, other, c.in-Ok.ensures), c.front-front.ensures.front)))
