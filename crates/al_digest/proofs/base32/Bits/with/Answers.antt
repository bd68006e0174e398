use Rattle.std.proofs.Common.{◌≡◌, ◌*◌, ◌%◌, ◌^◌, arith}
use Rattle.std.proofs.lemmas.Nat.{shl_whole, mul-add-lt, pow-add}
use Rattle.al_digest.proofs.base32.Bits.with.Goals as goal

pub invariant_of-result : goal.invariant_of-result
invariant_of-result c =
    let s = c.args.self in
    let w = c.args.width in
    let whole : s.value * 2 ^ w % 2 ^ 32 ≡ s.value * 2 ^ w = shl_whole s.value s.count w 32 s.fits (omega arith) in
    record {
      few = omega arith;
      fits = omega (arith, whole, pow-add 2 s.count w, mul-add-lt s.value (2 ^ w) c.args.low (2 ^ s.count) s.fits c.requires.fits);
    }
