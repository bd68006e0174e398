-- Totals that are of 64 bits are counted exactly.
use Rattle.std.proofs.Common.{◌≡◌, ℕ, ◌+◌, ◌-◌, ◌<◌, ◌^◌, Option, Some, None, refl, ap, ap₂, ◌∙◌, arith}
use Rattle.al_base.specs.declared.account.Status.{Status}
use Rattle.al_base.specs.declared.account.Status.TheVariants.{Offline, Online, NotParticipating}
use Rattle.al_rewards.specs.declared.share.Share.{Share}
use Rattle.al_rewards.specs.declared.totals.Count.{Count}
use Rattle.al_rewards.specs.declared.totals.Totals.{Totals}
use Rattle.al_rewards.specs.Totals.{IsCount, AreTotals, and_count, and_share, capped, capped_count, capped_totals, count_of, minus, plus, without_count, without_share}

number_same : (n : ℕ) → n < 2 ^ 64 → capped n ≡ n
number_same n h = omega arith

count_same : (c : Count) → IsCount c → capped_count c ≡ c
count_same c h = ap₂ (λ (m u : ℕ). record { money = m; units = u }) (number_same c.money h.0) (number_same c.units h.1)

abbrev whole : ℕ → Count → Count → Count → Totals
whole level online offline apart = record { level = level; online = online; offline = offline; apart = apart }

pub totals_same : (t : Totals) → AreTotals t → capped_totals t ≡ t
totals_same t h =
    let online = count_same t.online h.0 in
    let offline = count_same t.offline h.1 in
    let apart = count_same t.apart h.2 in
    let same : whole t.level (capped_count t.online) (capped_count t.offline) (capped_count t.apart) ≡ whole t.level t.online t.offline t.apart = cc in
    same

less : (m n : ℕ) → m + n - n ≡ m
less m n = omega arith

count_back : (c d : Count) → minus (plus c d) d ≡ c
count_back c d = ap₂ (λ (m u : ℕ). record { money = m; units = u }) (less c.money d.money) (less c.units d.units)

level_same : (t : Totals) (status : Status) (c : Count) → (and_count t status c).level ≡ t.level
level_same t Online c = refl
level_same t Offline c = refl
level_same t NotParticipating c = refl

totals_back : (t : Totals) (status : Status) (c : Count) → without_count (and_count t status c) status c ≡ t
totals_back t Online c = ap (λ (d : Count). whole t.level d t.offline t.apart) (count_back t.online c)
totals_back t Offline c = ap (λ (d : Count). whole t.level t.online d t.apart) (count_back t.offline c)
totals_back t NotParticipating c = ap (λ (d : Count). whole t.level t.online t.offline d) (count_back t.apart c)

-- an account more and then less
share_back : (t : Totals) (o : Option Share) → without_share (and_share t o) o ≡ t
share_back t None = refl
share_back t (Some s) =
    let all = and_count t s.status (count_of t.level s) in
    ap (λ (n : ℕ). without_count all s.status (count_of n s)) (level_same t s.status (count_of t.level s)) ∙ totals_back t s.status (count_of t.level s)

pub changed : (t rest u : Totals) (old new : Option Share) → u ≡ capped_totals (and_share (without_share t old) new) → t ≡ and_share rest old → AreTotals (and_share rest new) → u ≡ and_share rest new
changed t rest u old new e f h =
    let back : without_share t old ≡ rest = ap (λ (x : Totals). without_share x old) f ∙ share_back rest old in
    e ∙ ap (λ (x : Totals). capped_totals (and_share x new)) back ∙ totals_same (and_share rest new) h
