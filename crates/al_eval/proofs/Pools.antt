-- What the pool has to pay, and what it keeps: over plain numbers.
use Rattle.std.proofs.Common.{◌≡◌, ◌≤◌, ◌<◌, ◌+◌, ◌-◌, ◌*◌, ◌/◌, ◌%◌, ℕ, refl, ap, ◌∙◌, arith, Bool, true, false, if◌then◌else◌, nat_eq, mul-add, mul-zero}
use Rattle.std.proofs.lemmas.Nat.{div-add-mod'}
use Rattle.std.proofs.lemmas.Bool.{eqb-false}
use Rattle.std.proofs.Math.Nat.{div-add-mod}
use Rattle.al_rewards.specs.declared.state.RewardsState.{RewardsState}
use Rattle.al_rewards.specs.Next.{least_pool, rate_due, recalc_due, fund, gives, next_rewards}

-- what is due until the rate is computed anew, from a round on
abbrev pub due_until : RewardsState → ℕ → ℕ
due_until s round = least_pool + s.residue + s.rate * (s.recalc - round - 1)

-- by how much the level rises
abbrev rise : RewardsState → ℕ → ℕ → ℕ
rise s all units = if gives s.level all units then all / units else 0

-- what is owed and what is left over is what there is, where it is given; else nothing is owed
shared : (b : Bool) (all units residue : ℕ) → residue ≤ all → units * (if b then all / units else 0) + (if b then all % units else residue) ≤ all
shared true all units residue l = omega (arith, div-add-mod all units)
shared false all units residue l = omega (arith, mul-zero units)

-- the rate and what it gives up to the round in which it is computed anew
rated : (b : Bool) (s : RewardsState) (round interval pool : ℕ) → nat_eq round s.recalc ≡ b → 1 ≤ interval → round ≤ s.recalc → least_pool + s.residue + s.rate * (s.recalc - round) ≤ pool
    → (round < (if b then round + interval else s.recalc)) × (least_pool + s.residue + (if b then (pool - least_pool - s.residue) / interval else s.rate) * ((if b then round + interval else s.recalc) - round) ≤ pool)
rated true s round interval pool e i l h =
    let given = pool - least_pool - s.residue in
    let all : given / interval * interval ≤ given = omega (arith, div-add-mod' given interval) in
    let span : round + interval - round ≡ interval = omega arith in
    (omega arith, omega (arith, ap (λ n. given / interval * n) span))
rated false s round interval pool e i l h =
    let differ : round ≡ s.recalc → ⊥ = eqb-false round s.recalc e in
    (omega (arith, differ), h)

-- one round of a rate
one_round : (rate recalc round : ℕ) → round < recalc → rate * (recalc - round) ≡ rate + rate * (recalc - round - 1)
one_round rate recalc round l =
    let split : recalc - round ≡ 1 + (recalc - round - 1) = omega arith in
    ap (λ n. rate * n) split ∙ mul-add rate 1 (recalc - round - 1) ∙ omega arith

raised : (b : Bool) (level by : ℕ) → (if b then level + by else level) ≡ level + (if b then by else 0)
raised true level by = refl
raised false level by = omega arith

-- the level never falls
pub never_falls : (s : RewardsState) (round interval pool units : ℕ) → s.level ≤ (next_rewards s round interval pool units).level
unfolding next_rewards
never_falls s round interval pool units =
    let all = fund s round interval pool in
    omega (arith, raised (gives s.level all units) s.level (all / units))

pub record CanPay (s d : RewardsState) (round pool units : ℕ) : Type 0 where
  pub rises : s.level ≤ d.level
  pub enough : units * (d.level - s.level) + least_pool ≤ pool
  pub ahead : round < d.recalc
  pub still : due_until d round ≤ pool - units * (d.level - s.level)

-- the pool can pay what is owed in a round, and then what is due after it
pub can_pay : (s : RewardsState) (round interval pool units : ℕ) → 1 ≤ interval → round ≤ s.recalc → least_pool + s.residue + s.rate * (s.recalc - round) ≤ pool → CanPay s (next_rewards s round interval pool units) round pool units
unfolding next_rewards
can_pay s round interval pool units i l h =
    let all = fund s round interval pool in
    let b = gives s.level all units in
    let rate = rate_due s round interval pool in
    let recalc = recalc_due s round interval in
    let up = rise s all units in
    let residue = if b then all % units else s.residue in
    let r = rated (nat_eq round s.recalc) s round interval pool refl i l h in
    let level : (if b then s.level + all / units else s.level) ≡ s.level + up = raised b s.level (all / units) in
    let up_is : (if b then s.level + all / units else s.level) - s.level ≡ up = omega arith in
    let owed_is : units * ((if b then s.level + all / units else s.level) - s.level) ≡ units * up = ap (λ n. units * n) up_is in
    let share : units * up + residue ≤ rate + s.residue = shared b all units s.residue (omega arith) in
    let one : rate * (recalc - round) ≡ rate + rate * (recalc - round - 1) = one_round rate recalc round r.0 in
    let all_due : least_pool + s.residue + rate * (recalc - round) ≤ pool = r.1 in
    let rest : least_pool + residue + rate * (recalc - round - 1) + units * up ≤ pool = omega arith in
    record { rises = omega arith; enough = omega arith; ahead = r.0; still = omega arith }
