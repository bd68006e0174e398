-- Rows that are sound but for units of one asset that are on their way, and what is so once an account's row of the asset was set.
use Rattle.std.proofs.Common.{◌≡◌, ◌≤◌, ◌+◌, ◌⊎◌, inl, inr, ℕ, refl, sym, ap, ◌∙◌, subst, arith, Bool, true, false, ◌&&◌, if◌then◌else◌, nat_eq, true≢false, is_eq, is_none, is_some, Option, Some, None, IfSome}
use Rattle.std.proofs.lemmas.Bool.{and_parts}
use Rattle.std.specs.Prelude.{⊤}
use Rattle.std.specs.BTreeMap.{is_at}
use Rattle.std.specs.Cmp.{tied_itself}
use Rattle.std.specs.FinMap.{get}
use Rattle.al_base.specs.declared.account.Special.{Special}
use Rattle.al_base.specs.declared.account.Status.TheVariants.{NotParticipating}
use Rattle.al_base.specs.declared.address.Address.{Address}
use Rattle.al_base.specs.declared.key.Key.{Key}
use Rattle.al_base.specs.declared.key.Key.TheVariants as key
use Rattle.al_base.specs.Keys.{key_cmp}
use Rattle.al_rows.specs.Limits.{max_balance}
use Rattle.al_rows.specs.declared.row.AssetRow.{AssetRow}
use Rattle.al_rows.specs.declared.row.Row.{Row}
use Rattle.al_rows.specs.declared.row.Row.TheVariants as row
use Rattle.al_rows.specs.Finite.{total, weight}
use Rattle.al_rows.specs.Rows.{AssetParamsInRange, HoldingInRange, RowMap, account, has_params, is_zero, unless_zero}
use Rattle.al_rows.proofs.Keys.{keys_total}
use Rattle.al_moves.specs.Money.{money}
use Rattle.al_moves.specs.Resources.{CountsAgree}
use Rattle.al_resources.specs.Assets.{amount_in, asset, asset_in, no_asset, set_asset}
use Rattle.al_resources.specs.Kept.{Ends, Kept}
use Rattle.al_resources.specs.Sound.{ResourcesAgree, holding_of, issued_of, same_kind, total_in}
use Rattle.al_resources.proofs.Recounts.{AllBased, AllInRange}
use Rattle.al_resources.proofs.Puts.{IsPut, Put, agree_put, at_put, none_is, origin, owner_is, put_ends}
use Rattle.al_resources.proofs.Steps.{ends_as, some_more}

-- ---- sound rows with a debt

-- rows that are sound where so many units of an asset left a holding and came to none, with the money of the start
pub record Owing (level : ℕ) (special : Option Special) (start : RowMap) (counter id debt : ℕ) (m : RowMap) : Type 0 where
  pub bases : AllBased level m
  pub ranges : AllInRange m
  pub resources : ResourcesAgree counter m
  pub holdings : (i : ℕ) → total (holding_of i) m + (if nat_eq id i then debt else 0) ≡ total (issued_of i) m
  pub counts : (who : Address) → CountsAgree m who
  pub sink : IfSome special (λ s. (account m s.sink).status ≡ NotParticipating)
  pub pool : IfSome special (λ s. (account m s.pool).status ≡ NotParticipating)
  pub most : money level m ≤ max_balance
  pub same : money level m ≡ money level start
  pub no_less : IfSome special (λ s. (account start s.pool).balance ≤ (account m s.pool).balance)

pub either : (b : Bool) (n : ℕ) → n ≡ 0 → (if b then n else 0) ≡ 0
either true n e = e
either false n e = refl

pub kept_owing : (level : ℕ) (special : Option Special) (start : RowMap) (counter id : ℕ) (m : RowMap) → Kept level special start counter m → Owing level special start counter id 0 m
kept_owing level special start counter id m k = record {
  bases = k.rows.bases;
  ranges = k.rows.ranges;
  resources = k.rows.resources;
  holdings = λ i. omega (arith, k.rows.holdings i, either (nat_eq id i) 0 refl);
  counts = k.rows.counts;
  sink = k.rows.sink;
  pool = k.rows.pool;
  most = k.rows.money;
  same = k.money;
  no_less = k.pool;
}

-- with no debt the rows are sound, also after more transactions
pub owing_kept : (level : ℕ) (special : Option Special) (start : RowMap) (old new id : ℕ) (m : RowMap) → old ≤ new → Owing level special start old id 0 m → Kept level special start new m
owing_kept level special start old new id m more o = record {
  rows = record {
    money = o.most;
    bases = o.bases;
    ranges = o.ranges;
    resources = record {
      given = λ who i r e. (let l = o.resources.given who i r e in omega arith);
      kinds = o.resources.kinds;
      creators = o.resources.creators;
    };
    holdings = λ i. omega (arith, o.holdings i, either (nat_eq id i) 0 refl);
    counts = o.counts;
    sink = o.sink;
    pool = o.pool;
  };
  money = o.same;
  pool = o.no_less;
}

-- ---- an asset that there is

abbrev pub IsAsset : Row → Type 0
IsAsset (row.Account r) = ⊥
IsAsset (row.Asset a) = ⊤
IsAsset (row.App a) = ⊥
IsAsset (row.Box b) = ⊥

asset_kind : (a : AssetRow) (s : Row) → IsAsset s → same_kind (row.Asset a) s ≡ true
asset_kind a (row.Account s) h = absurd h
asset_kind a (row.Asset b) h = refl
asset_kind a (row.App b) h = absurd h
asset_kind a (row.Box b) h = absurd h

kind_is : (a : AssetRow) (s : Row) → same_kind (row.Asset a) s ≡ true → IsAsset s
kind_is a (row.Account s) h = absurd (true≢false (sym h))
kind_is a (row.Asset b) h = tt
kind_is a (row.App b) h = absurd (true≢false (sym h))
kind_is a (row.Box b) h = absurd (true≢false (sym h))

-- an id that was given, and all rows of it are an asset's
pub record IsThere (counter id : ℕ) (m : RowMap) : Type 0 where
  pub low : id ≤ counter
  pub kinds : (b : Address) (s : Row) → get m (key.Resource b id) ≡ Some s → IsAsset s

-- a row that has a part
pub some_row : (f : AssetRow → Bool) → f no_asset ≡ false → (o : Option Row) → f (asset_in o) ≡ true → (a : AssetRow) × (o ≡ Some (row.Asset a))
some_row f none None h = absurd (true≢false (sym h ∙ none))
some_row f none (Some (row.Account r)) h = absurd (true≢false (sym h ∙ none))
some_row f none (Some (row.Asset a)) h = (a, refl)
some_row f none (Some (row.App a)) h = absurd (true≢false (sym h ∙ none))
some_row f none (Some (row.Box b)) h = absurd (true≢false (sym h ∙ none))

-- an asset of which an account has a part
pub there_by : (counter : ℕ) (m : RowMap) (f : AssetRow → Bool) → f no_asset ≡ false → ResourcesAgree counter m → (who : Address) (id : ℕ) → f (asset m who id) ≡ true → IsThere counter id m
there_by counter m f none agree who id h =
    let x = some_row f none (get m (key.Resource who id)) h in
    record {
      low = agree.given who id (row.Asset x.0) x.1;
      kinds = λ b s e. kind_is x.0 s (agree.kinds who b id (row.Asset x.0) s x.1 e);
    }

-- ---- a row is put

-- a row that may be set: it is in its ranges, nobody else has parameters of the id where it has, and holdings with the debt add up as before
pub record MaySet (id debt later : ℕ) (who : Address) (a : AssetRow) (m : RowMap) : Type 0 where
  pub params : AssetParamsInRange a.params
  pub holding : HoldingInRange a.holding
  pub creators : is_some a.params ≡ true → (b : Address) (s : Row) → get m (key.Resource b id) ≡ Some s → has_params s ≡ true → b ≡ who
  pub units : amount_in a.holding + later + total_in (asset m who id).params ≡ amount_in (asset m who id).holding + debt + total_in a.params

pub record After (level : ℕ) (special : Option Special) (start : RowMap) (counter id debt : ℕ) (who : Address) (a : AssetRow) (m n : RowMap) : Type 0 where
  pub rows : Owing level special start counter id debt n
  pub there : IsThere counter id n
  pub here : asset n who id ≡ a
  pub others : (b : Address) → (b ≡ who → ⊥) → asset n b id ≡ asset m b id

pub at_itself : (k : Key) → is_at (key_cmp k) k ≡ true
at_itself k = ap is_eq (tied_itself keys_total k)

no_part : (a : AssetRow) → (is_none a.params && is_none a.holding) ≡ true → a ≡ no_asset
no_part a e = let parts = and_parts (is_none a.params) (is_none a.holding) e in λ i. record { params = none_is a.params parts.0 i; holding = none_is a.holding parts.1 i }

-- what is read back: a row without a part is none
asset_kept : (a : AssetRow) → asset_in (unless_zero (row.Asset a)) ≡ a
unfolding is_zero
asset_kept a = by_test (is_none a.params && is_none a.holding) refl
  where
    by_test : (b : Bool) → (is_none a.params && is_none a.holding) ≡ b → asset_in (if b then None else Some (row.Asset a)) ≡ a
    by_test true e = sym (no_part a e)
    by_test false e = refl

-- ---- what it weighs

pub held_weighs : (i : ℕ) (who : Address) (id : ℕ) (o : Option Row) → weight (holding_of i) (key.Resource who id) o ≡ (if nat_eq id i then amount_in (asset_in o).holding else 0)
held_weighs i who id None = sym (either (nat_eq id i) 0 refl)
held_weighs i who id (Some (row.Account r)) = sym (either (nat_eq id i) 0 refl)
held_weighs i who id (Some (row.Asset a)) = refl
held_weighs i who id (Some (row.App a)) = sym (either (nat_eq id i) 0 refl)
held_weighs i who id (Some (row.Box b)) = sym (either (nat_eq id i) 0 refl)

issued_weighs : (i : ℕ) (who : Address) (id : ℕ) (o : Option Row) → weight (issued_of i) (key.Resource who id) o ≡ (if nat_eq id i then total_in (asset_in o).params else 0)
issued_weighs i who id None = sym (either (nat_eq id i) 0 refl)
issued_weighs i who id (Some (row.Account r)) = sym (either (nat_eq id i) 0 refl)
issued_weighs i who id (Some (row.Asset a)) = refl
issued_weighs i who id (Some (row.App a)) = sym (either (nat_eq id i) 0 refl)
issued_weighs i who id (Some (row.Box b)) = sym (either (nat_eq id i) 0 refl)

-- sums that move with one row still differ by the debt
settled : (b : Bool) (held held_new issued issued_new amount amount_new part part_new debt later : ℕ)
    → held_new + (if b then amount else 0) ≡ held + (if b then amount_new else 0)
    → issued_new + (if b then part else 0) ≡ issued + (if b then part_new else 0)
    → amount_new + later + part ≡ amount + debt + part_new
    → held + (if b then debt else 0) ≡ issued → held_new + (if b then later else 0) ≡ issued_new
settled true held held_new issued issued_new amount amount_new part part_new debt later h i u e = omega arith
settled false held held_new issued issued_new amount amount_new part part_new debt later h i u e = omega arith

module _ (level : ℕ) (who : Address) (id : ℕ) (a : AssetRow) (m n : RowMap) (put : Put level who id (row.Asset a) m n) where
  here_is : asset n who id ≡ a
  here_is = at_put level who id (row.Asset a) m n put (λ o. asset_in o ≡ a) who id (λ _. asset_kept a) (λ e. absurd (true≢false (sym (at_itself (key.Resource who id)) ∙ e)))

  others_are : (b : Address) → (b ≡ who → ⊥) → asset n b id ≡ asset m b id
  others_are b apart = at_put level who id (row.Asset a) m n put (λ o. asset_in o ≡ asset m b id) b id (λ e. absurd (apart (sym (owner_is who b id id e)))) (λ _. refl)

  there_after : (counter : ℕ) → IsThere counter id m → IsThere counter id n
  there_after counter there = record { low = there.low; kinds = λ b r e. by_origin b r (origin level who id (row.Asset a) m n put b id r e) }
    where
      by_origin : (b : Address) (r : Row) → IsPut who id (row.Asset a) b id r ⊎ (get m (key.Resource b id) ≡ Some r) → IsAsset r
      by_origin b r (inl p) = subst IsAsset (sym p.2) tt
      by_origin b r (inr e) = there.kinds b r e

  held_moves : (i : ℕ) → total (holding_of i) n + (if nat_eq id i then amount_in (asset m who id).holding else 0) ≡ total (holding_of i) m + (if nat_eq id i then amount_in a.holding else 0)
  held_moves i =
      ap (λ z. total (holding_of i) n + z) (sym (held_weighs i who id (get m (key.Resource who id))))
      ∙ put.sums (holding_of i) (λ _ _. refl)
      ∙ ap (λ z. total (holding_of i) m + z) (held_weighs i who id (unless_zero (row.Asset a)) ∙ ap (λ (c : AssetRow). if nat_eq id i then amount_in c.holding else 0) (asset_kept a))

  issued_moves : (i : ℕ) → total (issued_of i) n + (if nat_eq id i then total_in (asset m who id).params else 0) ≡ total (issued_of i) m + (if nat_eq id i then total_in a.params else 0)
  issued_moves i =
      ap (λ z. total (issued_of i) n + z) (sym (issued_weighs i who id (get m (key.Resource who id))))
      ∙ put.sums (issued_of i) (λ _ _. refl)
      ∙ ap (λ z. total (issued_of i) m + z) (issued_weighs i who id (unless_zero (row.Asset a)) ∙ ap (λ (c : AssetRow). if nat_eq id i then total_in c.params else 0) (asset_kept a))

  after : (special : Option Special) (start : RowMap) (old counter debt later : ℕ) → old ≤ counter → Owing level special start old id debt m → IsThere counter id m → MaySet id debt later who a m → After level special start counter id later who a m n
  after special start old counter debt later more o there may = record {
    rows = record {
      bases = put.bases o.bases;
      ranges = put.ranges;
      resources = agree_put level who id (row.Asset a) m n put old counter more there.low (may.params, may.holding) o.resources (λ b s e. asset_kind a s (there.kinds b s e)) may.creators;
      holdings = λ i. settled (nat_eq id i) (total (holding_of i) m) (total (holding_of i) n) (total (issued_of i) m) (total (issued_of i) n) (amount_in (asset m who id).holding) (amount_in a.holding) (total_in (asset m who id).params) (total_in a.params) debt later (held_moves i) (issued_moves i) may.units (o.holdings i);
      counts = put.counts;
      sink = some_more (λ s. (account m s.sink).status ≡ NotParticipating) (λ s. (account n s.sink).status ≡ NotParticipating) special (λ s h. put.statuses s.sink ∙ h) o.sink;
      pool = some_more (λ s. (account m s.pool).status ≡ NotParticipating) (λ s. (account n s.pool).status ≡ NotParticipating) special (λ s h. put.statuses s.pool ∙ h) o.pool;
      most = omega (arith, put.same, o.most);
      same = put.same ∙ o.same;
      no_less = some_more (λ s. (account start s.pool).balance ≤ (account m s.pool).balance) (λ s. (account start s.pool).balance ≤ (account n s.pool).balance) special (λ s h. omega (arith, put.balances s.pool, h)) o.no_less;
    };
    there = there_after counter there;
    here = here_is;
    others = others_are;
  }

-- an account's row of an asset is set
pub set_ends : (level : ℕ) (special : Option Special) (start : RowMap) (old counter id debt later : ℕ) (who : Address) (a : AssetRow) (m : RowMap) → old ≤ counter → Owing level special start old id debt m → IsThere counter id m → MaySet id debt later who a m
    → Ends (After level special start counter id later who a m) (set_asset who id a m)
set_ends level special start old counter id debt later who a m more o there may = ends_as (Put level who id (row.Asset a) m) (After level special start counter id later who a m) (set_asset who id a m)
    (λ n put. after level who id a m n put special start old counter debt later more o there may)
    (put_ends level who id (row.Asset a) m o.ranges o.counts (may.params, may.holding))
