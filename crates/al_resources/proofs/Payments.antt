-- Payments keep what a body must keep.
use Rattle.std.proofs.Common.{◌≡◌, ◌∙◌, ℕ, ◌+◌, ◌≤◌, Option, Result, Ok, Err, false, arith}
use Rattle.al_base.specs.declared.account.Special.{Special}
use Rattle.al_base.specs.declared.account.Status.TheVariants.{NotParticipating}
use Rattle.al_base.specs.declared.address.Address.{Address}
use Rattle.al_rows.specs.Rows.{RowMap, account, no_address}
use Rattle.al_rows.specs.Limits.{max_balance}
use Rattle.al_bodies.specs.declared.body.Pay.{Pay}
use Rattle.al_overlay.specs.declared.rule.Rule.{Rule}
use Rattle.al_overlay.specs.Accounts.{same_address}
use Rattle.al_moves.specs.Pay.{paid}
use Rattle.al_moves.specs.Money.{money, IsFair}
use Rattle.al_moves.proofs.Monies.{moves_are_fair}
use Rattle.al_resources.specs.Kept.{Ends, IsGood, Kept, MayPay, PaymentsAreSound}
use Rattle.al_resources.proofs.Agrees.{rows_kept}
use Rattle.al_resources.proofs.Steadies.{Holds, Calm, Gains, IsClose, Stays, keeps_itself, paid_holds, calm_steps, calm_close}
use Rattle.al_resources.proofs.Steps.{some_both, some_more}

-- the same with more transactions
pub kept_more : (level : ℕ) (special : Option Special) (start : RowMap) (counter size : ℕ) (m : RowMap) → Kept level special start counter m → Kept level special start (counter + size) m
kept_more level special start counter size m k =
    let more : counter ≤ counter + size = omega arith in
    let low : level ≤ level = omega arith in
    record {
      rows = rows_kept level level counter (counter + size) special m m (keeps_itself level m) k.rows low more k.rows.money k.rows.sink k.rows.pool;
      money = k.money;
      pool = k.pool;
    }

pub ends_more : (level : ℕ) (special : Option Special) (start : RowMap) (counter size : ℕ) (due : Result RowMap Rule) → Ends (Kept level special start counter) due → Ends (Kept level special start (counter + size)) due
ends_more level special start counter size (Ok n) h = kept_more level special start counter size n h
ends_more level special start counter size (Err r) h = h

-- ---- moves, payments and rekeys

pub calm_kept : (level : ℕ) (special : Option Special) (start : RowMap) (counter : ℕ) (m n : RowMap) → money level n ≡ money level m → Calm level special m n → Kept level special start counter m → Kept level special start counter n
calm_kept level special start counter m n same c k =
    let r = k.rows in
    let low : level ≤ level = omega arith in
    let more : counter ≤ counter = omega arith in
    let few : money level n ≤ max_balance = omega (arith, same, r.money) in
    record {
      rows = rows_kept level level counter counter special m n c.keeps r low more few
          (some_both (λ s. Stays s.sink m n) (λ s. (account m s.sink).status ≡ NotParticipating) (λ s. (account n s.sink).status ≡ NotParticipating) special (λ s stays is. stays is) c.sink r.sink)
          (some_both (λ s. Gains s.pool m n) (λ s. (account m s.pool).status ≡ NotParticipating) (λ s. (account n s.pool).status ≡ NotParticipating) special (λ s gains is. (gains is).0) c.pool r.pool);
      money = same ∙ k.money;
      pool = some_both (λ s. (account m s.pool).balance ≤ (account n s.pool).balance) (λ s. (account start s.pool).balance ≤ (account m s.pool).balance) (λ s. (account start s.pool).balance ≤ (account n s.pool).balance) special
          (λ s more had. omega (arith, more, had))
          (some_both (λ s. Gains s.pool m n) (λ s. (account m s.pool).status ≡ NotParticipating) (λ s. (account m s.pool).balance ≤ (account n s.pool).balance) special (λ s gains is. (gains is).1) c.pool r.pool) k.pool;
    }

pub calm_ends : (level : ℕ) (special : Option Special) (start : RowMap) (counter : ℕ) (m : RowMap) (due : Result RowMap Rule) → IsFair level m due → Holds (Calm level special m) due → Kept level special start counter m → Ends (Kept level special start counter) due
calm_ends level special start counter m (Ok n) fair calm k = calm_kept level special start counter m n fair calm k
calm_ends level special start counter m (Err r) fair calm k = (fair k.rows.money, calm)

pay_good : (level : ℕ) (special : Option Special) (start : RowMap) (counter size : ℕ) (who : Address) (p : Pay) → MayPay special who p → IsGood level special start counter size (paid level who p)
pay_good level special start counter size who p may m k =
    let apart = some_more (λ s. (same_address who s.pool ≡ false) × (same_address p.close no_address ≡ false → same_address who s.sink ≡ false)) (λ s. same_address who s.pool ≡ false) special (λ s h. h.0) may in
    let close : same_address p.close no_address ≡ false → IsClose (Calm level special) who = λ e.
    calm_close level special who (some_more (λ s. (same_address who s.pool ≡ false) × (same_address p.close no_address ≡ false → same_address who s.sink ≡ false)) (λ s. (same_address who s.pool ≡ false) × (same_address who s.sink ≡ false)) special (λ s h. (h.0, h.1 e)) may) in
    ends_more level special start counter size (paid level who p m)
    (calm_ends level special start counter m (paid level who p m) (moves_are_fair.paid level who p m) (paid_holds (Calm level special) level who (calm_steps level special who apart) p close m) k)

pub payments_are_sound : PaymentsAreSound
payments_are_sound = record { paid = pay_good }
