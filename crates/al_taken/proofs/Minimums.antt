-- No account lacks its minimum while each stands as it should.
use Rattle.std.proofs.Common.{◌≡◌, ◌≤◌, ◌+◌, ◌*◌, ℕ, refl, sym, ap, ◌∙◌, arith, Bool, true, false, ◌||◌, if◌then◌else◌, is_none, ◌⊎◌, inl, inr, List, [], ◌∷◌, Option, Some, None, le-ltb}
use Rattle.std.specs.FinMap.{get, keys}
use Rattle.std.specs.Option.{option_or}
use Rattle.al_base.specs.declared.account.Special.{Special}
use Rattle.al_base.specs.declared.address.Address.{Address}
use Rattle.al_base.specs.declared.key.Key.{Key}
use Rattle.al_base.specs.declared.key.Key.TheVariants as key
use Rattle.al_rows.specs.declared.account.AccountRow.{AccountRow}
use Rattle.al_rows.specs.declared.row.Row.{Row}
use Rattle.al_rows.specs.Finite.{first_some}
use Rattle.al_rows.specs.Rows.{RowMap, account_in, min_balance, same_row}
use Rattle.al_overlay.specs.declared.rule.Rule.{Rule}
use Rattle.al_overlay.specs.Rules.{too_little, unless_refused}
use Rattle.al_overlay.specs.Accounts.{earned, same_address}
use Rattle.al_moves.specs.Minimum.{checked, first_shortfall, lacking, shortfall}
use Rattle.al_taken.proofs.Standings.{AllStand, IsFew, Modest, Most, Passes, Standing, is_app, is_special, is_user}

none_first : {A B : Type 0} (f : A → Option B) (xs : List A) → ((x : A) → f x ≡ None) → first_some f xs ≡ None
none_first f [] h = refl
none_first f (x ∷ xs) h = ap (λ o. option_or o (first_some f xs)) (h x) ∙ none_first f xs h

-- the minimum of modest counts
least_modest : (most boxes : ℕ) (r : AccountRow) → boxes ≤ 16 → Modest most boxes r → min_balance r ≤ 100000 * most + 396000
unfolding min_balance
least_modest most boxes r few h = omega (arith, h.held, h.opted, h.pages, h.uints, h.slices, h.boxed, h.bytes)

no_lack : (level : ℕ) (who : Address) (r : AccountRow) → min_balance r ≤ r.balance → lacking level who r ≡ None
no_lack level who r h = ap (λ (b : Bool). if b then Some (too_little 42 (r.balance + earned level r) (min_balance r) who) else None) (le-ltb (r.balance + earned level r) (min_balance r) (omega arith))

-- a row that is there keeps its minimum, unless it is sink or pool
enough : (user special : Bool) (b : Most) (paid : Bool) (o : Option Row) → IsFew b → Standing user special b paid o → special ≡ false → is_none o ≡ false → min_balance (account_in o) ≤ (account_in o).balance
enough true special b paid o few h s n = omega (arith, least_modest b.count b.boxes (account_in o) few.boxed h.counts, h.money, few.money)
enough false true b paid o few h s n = absurd (let x : true ≡ false = s in cc)
enough false false b paid o few h s n = by_there h.there
  where
    by_there : ((o ≡ None) × (paid ≡ false)) ⊎ (1000000 ≤ (account_in o).balance) → min_balance (account_in o) ≤ (account_in o).balance
    by_there (inl p) = absurd (let x : true ≡ false = sym (ap is_none p.0) ∙ n in cc)
    by_there (inr more) = omega (arith, least_modest 0 b.boxes (account_in o) few.boxed h.counts, more)

none_short : (level : ℕ) (who : Address) (now : Option Row) (a b c d : Bool) → is_none now ≡ c → ((a || b) ≡ false → c ≡ false → lacking level who (account_in now) ≡ None) → (if a || b || c || d then None else lacking level who (account_in now)) ≡ None
none_short level who now true b c d e h = refl
none_short level who now false true c d e h = refl
none_short level who now false false true d e h = refl
none_short level who now false false false true e h = refl
none_short level who now false false false false e h = h refl refl

no_shortfall : (s : Special) (app : Option ℕ) (b : Most) (level : ℕ) (start now : RowMap) → IsFew b → AllStand s app b now → (k : Key) → shortfall level s k (get start k) (get now k) ≡ None
no_shortfall s app b level start now few all (key.Resource who id) = refl
no_shortfall s app b level start now few all (key.Box i name) = refl
no_shortfall s app b level start now few all (key.Account who) =
    none_short level who (get now (key.Account who)) (same_address who s.sink) (same_address who s.pool) (is_none (get now (key.Account who))) (same_row (get start (key.Account who)) (get now (key.Account who))) refl
    (λ e n. no_lack level who (account_in (get now (key.Account who))) (enough (is_user who) (is_special s who) b (is_app app who) (get now (key.Account who)) few (all who) e n))

pub checked_passes : (s : Special) (app : Option ℕ) (b : Most) (P : RowMap → Type 0) (level : ℕ) (start now : RowMap) → IsFew b → AllStand s app b now → P now → Passes P (checked level s start now)
unfolding first_shortfall
checked_passes s app b P level start now few all h = by_none (first_shortfall level s start now) (none_first _ (keys now) (no_shortfall s app b level start now few all))
  where
    by_none : (o : Option Rule) → o ≡ None → Passes P (unless_refused o now)
    by_none None e = h
    by_none (Some r) e = absurd (let x : ◌≡◌ {A = Option Rule} (Some r) None = e in cc)
