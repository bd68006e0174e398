-- The stake that may vote, added up account by account.
use Rattle.std.proofs.Common.{◌≡◌, ◌∙◌, ℕ, zero, suc, ◌+◌, ◌-◌, ◌<◌, ◌≤◌, ◌^◌, refl, sym, ap, List, [], ◌∷◌, length, take, get_or, Bool, true, false, cond, min, arith, sum_by}
use Rattle.std.specs.List.{filter}
use Rattle.std.proofs.lemmas.List.Sums.{sum_by-cons}
use Rattle.std.proofs.lemmas.Bool.Decides.{nat_tests}
use Rattle.al_base.specs.declared.address.Address.{Address}
use Rattle.al_base.specs.declared.online.OnlineData.{OnlineData}
use Rattle.al_online.specs.Search.{Accounts, voting_stake}
use Rattle.al_online.specs.Stakes.{is_expired, stake_in, stake_of, voting_in}
use Rattle.al_rewards.specs.Totals.{capped}

-- the stake of those whose keys are not expired
abbrev pub live : ℕ → ℕ → Accounts → ℕ
live level vote [] = 0
live level vote (e ∷ es) = voting_stake level vote e.1 + live level vote es

abbrev expired : ℕ → Accounts → Accounts
expired vote es = filter (λ e. is_expired vote e.1) es

rest_expired : (a l x s y t : ℕ) → l + x ≡ s → y ≡ a + x → t ≡ a + s → (0 + l) + y ≡ t
rest_expired a l x s y t e f g = omega arith

rest_live : (a l x s t : ℕ) → l + x ≡ s → t ≡ a + s → (a + l) + x ≡ t
rest_live a l x s t e f = omega arith

-- with the stake of the expired ones it is all stake
live_and_expired : (level vote : ℕ) (es : Accounts) → live level vote es + stake_in level (expired vote es) ≡ stake_in level es
live_and_expired level vote [] = refl
live_and_expired level vote (e ∷ es) =
    let stake : Address × OnlineData → ℕ = λ f. stake_of level f.1 in
    let l = live level vote es in
    let x = stake_in level (expired vote es) in
    let s = stake_in level es in
    let t = stake_in level (e ∷ es) in
    elim (is_expired vote e.1) as (λ b. cond b 0 (stake_of level e.1) + live level vote es + stake_in level (cond b (e ∷ expired vote es) (expired vote es)) ≡ stake_in level (e ∷ es)) [
      | true ↦ rest_expired (stake_of level e.1) l x s (stake_in level (e ∷ expired vote es)) t (live_and_expired level vote es) (sum_by-cons stake e (expired vote es)) (sum_by-cons stake e es)
      | false ↦ rest_live (stake_of level e.1) l x s t (live_and_expired level vote es) (sum_by-cons stake e es)
    ]

pub live_is : (level vote : ℕ) (es : Accounts) → live level vote es ≡ voting_in level vote es
live_is level vote es = omega (arith, live_and_expired level vote es)

add_after : (a n m x : ℕ) → n ≡ m + x → a + n ≡ (a + m) + x
add_after a n m x e = omega arith

-- the loop's step
pub live_more : (level vote : ℕ) (es : Accounts) (i : ℕ) (d : Address × OnlineData) → i < length es → live level vote (take (i + 1) es) ≡ live level vote (take i es) + voting_stake level vote (get_or es i d).1
live_more level vote [] i d h = absurd (omega arith)
live_more level vote (e ∷ es) zero d h = omega arith
live_more level vote (e ∷ es) (suc i) d h =
    ap (λ j. live level vote (take j (e ∷ es))) (let s : suc i + 1 ≡ suc (i + 1) = omega arith in s)
    ∙ add_after (voting_stake level vote e.1) (live level vote (take (i + 1) es)) (live level vote (take i es)) (voting_stake level vote (get_or es i d).1) (live_more level vote es i d (omega arith))

pub sum_more : (sum l weight next stake new : ℕ) → sum ≡ capped l → stake ≡ capped weight → next ≡ l + weight → new ≡ capped (sum + stake) → new ≡ capped next
sum_more sum l weight next stake new e f g h = omega arith

pub all_taken : {A : Type 0} (n : ℕ) (xs : List A) → length xs ≤ n → take n xs ≡ xs
all_taken zero [] h = refl
all_taken zero (x ∷ xs) h = absurd (omega arith)
all_taken (suc n) [] h = refl
all_taken (suc n) (x ∷ xs) h = ap (λ ys. x ∷ ys) (all_taken n xs (omega arith))

-- before round 0 no keys are expired
never : (d : OnlineData) → is_expired 0 d ≡ false
never d = grind (arith, nat_tests)

pub all_live : (level : ℕ) (es : Accounts) → live level 0 es ≡ stake_in level es
all_live level [] = refl
all_live level (e ∷ es) =
    ap (λ b. cond b 0 (stake_of level e.1) + live level 0 es) (never e.1)
    ∙ ap (λ n. stake_of level e.1 + n) (all_live level es)
    ∙ sym (sum_by-cons (λ (f : Address × OnlineData). stake_of level f.1) e es)
