use Rattle.std.proofs.Common.{◌≡◌, ◌+◌, ◌-◌, ◌^◌, ◌<◌, arith, subst, sym}
use Rattle.std.proofs.lemmas.Nat.{shr_below}
use Rattle.al_digest.proofs.base32.Bits.split.Goals as goal

pub returns-clause-high : goal.returns-clause-high
returns-clause-high c =
    let s = c.args.self in
    let whole : c.args.width + (s.count - c.args.width) ≡ s.count = omega arith in
    shr_below s.value c.args.width (s.count - c.args.width) (subst (λ k. s.value < 2 ^ k) (sym whole) s.fits)
