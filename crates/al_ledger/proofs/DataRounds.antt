-- The rounds whose rows a catchpoint has.
use Rattle.std.proofs.Common.{◌≡◌, ◌+◌, ◌-◌, ◌*◌, ◌/◌, ◌≤◌, ◌<◌, ℕ, arith, Some}
use Rattle.std.proofs.Math.Nat.{le-div_iff_mul-le, lt_of_not-le, mul-le-mul_right}
use Rattle.al_ledger.specs.Flushing.{IsNextDataRound}

-- the next multiple of an interval lies above a number, and every other that does is at least it
module _ (interval number : ℕ) (some : 0 < interval) where
  abbrev times : ℕ
  times = number / interval + 1

  over : number < times * interval
  over = lt_of_not-le (λ h. (let most = (le-div_iff_mul-le {k = interval} {x = times} {y = number} some).1 h in omega (arith, most)))

  least : (k : ℕ) → number < k * interval → times * interval ≤ k * interval
  least k above =
      let more : number / interval < k = lt_of_not-le (λ h. (let most = (le-div_iff_mul-le {k = interval} {x = k} {y = number} some).0 h in omega (arith, most, above))) in
      mul-le-mul_right interval (let m : times ≤ k = omega (arith, more) in m)

-- the data round that lies next above a round
pub next_data_round : (interval floor : ℕ) → 0 < interval → IsNextDataRound interval floor (Some (((floor + 320) / interval + 1) * interval - 320))
next_data_round interval floor some =
    let high = over interval (floor + 320) some in
    let product = ((floor + 320) / interval + 1) * interval in
    let back : product - 320 + 320 ≡ product = omega (arith, high) in (
      ((let one : 1 ≤ product - 320 = omega (arith, high) in one), (let one : 1 ≤ interval = omega (arith, some) in one), ((floor + 320) / interval + 1, back)),
      (let more : floor < product - 320 = omega (arith, high) in more),
      λ other is above.
          let k = is.2.0 in
          let same : other + 320 ≡ k * interval = is.2.1 in
          let beyond : floor + 320 < k * interval = omega (arith, same, above) in
          let most = least interval (floor + 320) some k beyond in
          (let e : product - 320 ≤ other = omega (arith, most, same) in e),
    )
