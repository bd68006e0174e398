-- Applications that are created, set, removed, opted in to and out of: the rows stay sound.
use Rattle.std.proofs.Common.{◌≡◌, ◌≤◌, ◌+◌, ℕ, refl, sym, ap, ◌∙◌, subst, arith, Bool, true, false, true≢false, is_some, Option, Some, None, Result, List, length}
use Rattle.std.specs.FinMap.{get}
use Rattle.al_base.specs.declared.account.Special.{Special}
use Rattle.al_base.specs.declared.account.Status.TheVariants.{NotParticipating}
use Rattle.al_base.specs.declared.address.Address.{Address}
use Rattle.al_base.specs.declared.key.Key.{Key}
use Rattle.al_base.specs.declared.key.Key.TheVariants as key
use Rattle.al_rows.specs.declared.row.AppParams.{AppParams}
use Rattle.al_rows.specs.declared.row.AppRow.{AppRow}
use Rattle.al_rows.specs.declared.row.Local.{Local}
use Rattle.al_rows.specs.declared.row.Row.{Row}
use Rattle.al_rows.specs.declared.row.Row.TheVariants as row
use Rattle.al_rows.specs.Finite.{total, weight}
use Rattle.al_rows.specs.Rows.{LocalInRange, ParamsInRange, RowMap, account, creator_of, has_params, unless_zero}
use Rattle.al_overlay.specs.Rules.{then_do}
use Rattle.al_overlay.specs.declared.rule.Rule.{Rule}
use Rattle.al_resources.specs.Effects.{app, app_created, app_in, app_opted, app_opted_out, app_removed, local_from, local_set, made, made_by, made_from, no_app, opted_from, opted_out_from, set_app, state_set}
use Rattle.al_resources.specs.Finds.{AppInRange}
use Rattle.al_resources.specs.Kept.{Ends, Kept}
use Rattle.al_resources.specs.Sound.{FieldsInRange, ResourcesAgree, holding_of, issued_of, same_kind}
use Rattle.al_resources.specs.declared.app.Made.{Made}
use Rattle.al_resources.proofs.Puts.{Put, agree_put, kept_is, put_ends}
use Rattle.al_resources.proofs.Recounts.{AllInRange, IsForOthers}
use Rattle.al_resources.proofs.Steps.{ends_as, some_more}

-- ---- an application that there is

-- a row that has a part
app_row : (f : AppRow → Bool) → f no_app ≡ false → (o : Option Row) → f (app_in o) ≡ true → (a : AppRow) × (o ≡ Some (row.App a))
app_row f none None h = absurd (true≢false (sym h ∙ none))
app_row f none (Some (row.Account r)) h = absurd (true≢false (sym h ∙ none))
app_row f none (Some (row.Asset a)) h = absurd (true≢false (sym h ∙ none))
app_row f none (Some (row.App a)) h = (a, refl)
app_row f none (Some (row.Box b)) h = absurd (true≢false (sym h ∙ none))

-- what is done with an application that there is, its creator having the parameters
pub made_then : (P : RowMap → Type 0) (id : ℕ) (m : RowMap) (f : Made → Result RowMap Rule) → ((a : Made) → (app m a.creator id).params ≡ Some a.params → Ends P (f a)) → Ends P (then_do (made id m) f)
unfolding made
made_then P id m f h = by_creator (creator_of m id)
  where
    by_params : (who : Address) (o : Option AppParams) → (app m who id).params ≡ o → Ends P (then_do (made_by id who o) f)
    by_params who None e = omega arith
    by_params who (Some p) e = h (record { creator = who; params = p }) e

    by_creator : (o : Option Address) → Ends P (then_do (made_from id m o) f)
    by_creator None = omega arith
    by_creator (Some who) = by_params who (app m who id).params refl

-- to be of an application's kind asks nothing of its parts
app_kind : (x a : AppRow) (s : Row) → same_kind (row.App x) s ≡ true → same_kind (row.App a) s ≡ true
app_kind x a (row.Account r) h = h
app_kind x a (row.Asset b) h = h
app_kind x a (row.App b) h = refl
app_kind x a (row.Box b) h = h

-- an id that was given, and all rows of it are of the kind of an application's
record IsApp (counter id : ℕ) (m : RowMap) : Type 0 where
  low : id ≤ counter
  kinds : (a : AppRow) (b : Address) (s : Row) → get m (key.Resource b id) ≡ Some s → same_kind (row.App a) s ≡ true

-- an application of which an account has a part
app_by : (counter : ℕ) (m : RowMap) (f : AppRow → Bool) → f no_app ≡ false → ResourcesAgree counter m → (who : Address) (id : ℕ) → f (app m who id) ≡ true → IsApp counter id m
app_by counter m f none agree who id h =
    let x = app_row f none (get m (key.Resource who id)) h in
    record {
      low = agree.given who id (row.App x.0) x.1;
      kinds = λ a b s e. app_kind x.0 a s (agree.kinds who b id (row.App x.0) s x.1 e);
    }

app_made : (counter id : ℕ) (m : RowMap) → ResourcesAgree counter m → (a : Made) → (app m a.creator id).params ≡ Some a.params → IsApp counter id m
app_made counter id m agree a is = app_by counter m (λ (x : AppRow). is_some x.params) refl agree a.creator id (ap is_some is)

-- its number was given
pub made_given : (counter id : ℕ) (m : RowMap) → ResourcesAgree counter m → (a : Made) → (app m a.creator id).params ≡ Some a.params → id ≤ counter
made_given counter id m agree a is = (app_made counter id m agree a is).low

-- no other account has parameters of an id
abbrev IsSole : RowMap → Address → ℕ → Type 0
IsSole m who id = (b : Address) (s : Row) → get m (key.Resource b id) ≡ Some s → has_params s ≡ true → b ≡ who

-- where an account has the parameters no other one has
one_maker : (counter : ℕ) (m : RowMap) (who : Address) (id : ℕ) → ResourcesAgree counter m → is_some (app m who id).params ≡ true → IsSole m who id
one_maker counter m who id agree some b s e has =
    let x = app_row (λ (x : AppRow). is_some x.params) refl (get m (key.Resource who id)) some in
    agree.creators b who id s (row.App x.0) e x.1 has (ap (λ o. is_some (app_in o).params) (sym x.1) ∙ some)

app_ranged : (m : RowMap) (who : Address) (id : ℕ) → AllInRange m → AppInRange (app m who id)
app_ranged m who id all = by_row (get m (key.Resource who id)) (all (key.Resource who id))
  where
    by_row : (o : Option Row) → ((r : Row) → o ≡ Some r → FieldsInRange (key.Resource who id) r) → AppInRange (app_in o)
    by_row None h = (tt, tt)
    by_row (Some (row.Account r)) h = (tt, tt)
    by_row (Some (row.Asset a)) h = (tt, tt)
    by_row (Some (row.App a)) h = h (row.App a) refl
    by_row (Some (row.Box b)) h = (tt, tt)

-- ---- a row is put

-- a weight that is 0 on rows of applications is 0 on what stands there of that kind
no_weight : (w : Key → Row → ℕ) (k : Key) → ((a : AppRow) → w k (row.App a) ≡ 0) → (a : AppRow) (o : Option Row) → ((s : Row) → o ≡ Some s → same_kind (row.App a) s ≡ true) → weight w k o ≡ 0
no_weight w k zero a None h = refl
no_weight w k zero a (Some (row.Account r)) h = absurd (true≢false (sym (h (row.Account r) refl)))
no_weight w k zero a (Some (row.Asset b)) h = absurd (true≢false (sym (h (row.Asset b) refl)))
no_weight w k zero a (Some (row.App b)) h = zero b
no_weight w k zero a (Some (row.Box b)) h = absurd (true≢false (sym (h (row.Box b) refl)))

module _ (level : ℕ) (who : Address) (id : ℕ) (a : AppRow) (m n : RowMap) (put : Put level who id (row.App a) m n) (counter : ℕ) (there : IsApp counter id m) where
  -- no units of an asset are held or issued in an application's row
  units_stay : (w : Key → Row → ℕ) → IsForOthers w → ((b : AppRow) → w (key.Resource who id) (row.App b) ≡ 0) → total w n ≡ total w m
  units_stay w others zero =
      let k = key.Resource who id in
      let old : weight w k (get m k) ≡ 0 = no_weight w k zero a (get m k) (there.kinds a who) in
      let new : weight w k (unless_zero (row.App a)) ≡ 0 = no_weight w k zero a (unless_zero (row.App a)) (λ s e. ap (same_kind (row.App a)) (kept_is (row.App a) s e)) in
      omega (arith, put.sums w others, old, new)

  put_kept : (special : Option Special) (start : RowMap) (old : ℕ) → old ≤ counter → AppInRange a → (is_some a.params ≡ true → IsSole m who id)
      → Kept level special start old m → Kept level special start counter n
  put_kept special start old more fits one k = record {
    rows = record {
      money = omega (arith, put.same, k.rows.money);
      bases = put.bases k.rows.bases;
      ranges = put.ranges;
      resources = agree_put level who id (row.App a) m n put old counter more there.low fits k.rows.resources (there.kinds a) one;
      holdings = λ i. units_stay (holding_of i) (λ _ _. refl) (λ _. refl) ∙ k.rows.holdings i ∙ sym (units_stay (issued_of i) (λ _ _. refl) (λ _. refl));
      counts = put.counts;
      sink = some_more (λ s. (account m s.sink).status ≡ NotParticipating) (λ s. (account n s.sink).status ≡ NotParticipating) special (λ s h. put.statuses s.sink ∙ h) k.rows.sink;
      pool = some_more (λ s. (account m s.pool).status ≡ NotParticipating) (λ s. (account n s.pool).status ≡ NotParticipating) special (λ s h. put.statuses s.pool ∙ h) k.rows.pool;
    };
    money = put.same ∙ k.money;
    pool = some_more (λ s. (account start s.pool).balance ≤ (account m s.pool).balance) (λ s. (account start s.pool).balance ≤ (account n s.pool).balance) special (λ s h. omega (arith, put.balances s.pool, h)) k.pool;
  }

module _ (level : ℕ) (special : Option Special) (start : RowMap) where
  -- an account's row of an application is set
  sets : (old counter : ℕ) (who : Address) (id : ℕ) (a : AppRow) (m : RowMap) → old ≤ counter → IsApp counter id m → AppInRange a → (is_some a.params ≡ true → IsSole m who id)
      → Kept level special start old m → Ends (Kept level special start counter) (set_app who id a m)
  sets old counter who id a m more there fits one k =
      ends_as (Put level who id (row.App a) m) (Kept level special start counter) (set_app who id a m)
      (λ n put. put_kept level who id a m n put counter there special start old more fits one k)
      (put_ends level who id (row.App a) m k.rows.ranges k.rows.counts fits)

module _ (level : ℕ) (special : Option Special) (start : RowMap) (counter : ℕ) where
  abbrev Stays : RowMap → Type 0
  Stays m = Kept level special start counter m

  -- ---- parameters

  -- one is created, with the next number
  pub created_kept : (size : ℕ) (who : Address) (p : AppParams) → 1 ≤ size → ParamsInRange (Some p) → (m : RowMap) → Stays m → Ends (Kept level special start (counter + size)) (app_created who (counter + 1) p m)
  unfolding app_created
  created_kept size who p some fits m k =
      let next : ℕ = counter + 1 in
      let low : next ≤ counter + size = omega arith in
      let more : counter ≤ counter + size = omega arith in
      let fresh : (b : Address) (s : Row) → get m (key.Resource b next) ≡ Some s → ⊥ = λ b s e. omega (arith, k.rows.resources.given b next s e) in
      sets level special start counter (counter + size) who next (record { params = Some p; local = None }) m more (record { low = low; kinds = λ _ b s e. absurd (fresh b s e) }) (fits, tt) (λ _ b s e _. absurd (fresh b s e)) k

  sets_params : (id : ℕ) (m : RowMap) → Stays m → (a : Made) → (app m a.creator id).params ≡ Some a.params → (new : Option AppParams) → ParamsInRange new → Ends Stays (set_app a.creator id (record (app m a.creator id) { params = new }) m)
  sets_params id m k a is new fits =
      let same : counter ≤ counter = omega arith in
      sets level special start counter counter a.creator id (record (app m a.creator id) { params = new }) m same (app_made counter id m k.rows.resources a is) (fits, (app_ranged m a.creator id k.rows.ranges).1)
      (λ _. one_maker counter m a.creator id k.rows.resources (ap is_some is)) k

  made_ranged : (id : ℕ) (m : RowMap) → Stays m → (a : Made) → (app m a.creator id).params ≡ Some a.params → ParamsInRange (Some a.params)
  made_ranged id m k a is = subst ParamsInRange is (app_ranged m a.creator id k.rows.ranges).0

  pub state_set_kept : (id : ℕ) (state : List ℕ) → length state ≤ 8192 → (m : RowMap) → Stays m → Ends Stays (state_set id state m)
  unfolding state_set
  state_set_kept id state short m k = made_then Stays id m (λ a. set_app a.creator id (record (app m a.creator id) { params = Some (record a.params { state = state }) }) m)
      (λ a is. let old = made_ranged id m k a is in sets_params id m k a is (Some (record a.params { state = state })) (old.0, old.1, old.2, old.3, old.4, short))

  pub removed_kept : (id : ℕ) → (m : RowMap) → Stays m → Ends Stays (app_removed id m)
  unfolding app_removed
  removed_kept id m k = made_then Stays id m (λ a. set_app a.creator id (record (app m a.creator id) { params = None }) m) (λ a is. sets_params id m k a is None tt)

  -- ---- local states

  sets_local : (who : Address) (id : ℕ) (m : RowMap) → Stays m → IsApp counter id m → (new : Option Local) → LocalInRange new → Ends Stays (set_app who id (record (app m who id) { local = new }) m)
  sets_local who id m k there new fits =
      let same : counter ≤ counter = omega arith in
      sets level special start counter counter who id (record (app m who id) { local = new }) m same there ((app_ranged m who id k.rows.ranges).0, fits) (one_maker counter m who id k.rows.resources) k

  pub opted_kept : (who : Address) (id : ℕ) (state : List ℕ) → length state ≤ 8192 → (m : RowMap) → Stays m → Ends Stays (app_opted who id state m)
  unfolding app_opted
  opted_kept who id state short m k = made_then Stays id m (λ a. opted_from who id state a.params (app m who id) (app m who id).local m) (λ a is. by_local a is (app m who id).local)
    where
      by_local : (a : Made) → (app m a.creator id).params ≡ Some a.params → (o : Option Local) → Ends Stays (opted_from who id state a.params (app m who id) o m)
      by_local a is None =
          let old = made_ranged id m k a is in
          sets_local who id m k (app_made counter id m k.rows.resources a is) (Some (record { uints = a.params.local_uints; slices = a.params.local_slices; state = state })) (old.2, old.3, short)
      by_local a is (Some l) = omega arith

  pub local_set_kept : (who : Address) (id : ℕ) (state : List ℕ) → length state ≤ 8192 → (m : RowMap) → Stays m → Ends Stays (local_set who id state m)
  unfolding local_set
  local_set_kept who id state short m k = made_then Stays id m (λ _. local_from who id state (app m who id) (app m who id).local m) (λ a is. by_local (app_made counter id m k.rows.resources a is) (app m who id).local refl)
    where
      by_local : IsApp counter id m → (o : Option Local) → (app m who id).local ≡ o → Ends Stays (local_from who id state (app m who id) o m)
      by_local there None e = omega arith
      by_local there (Some l) e =
          let old : LocalInRange (Some l) = subst LocalInRange e (app_ranged m who id k.rows.ranges).1 in
          sets_local who id m k there (Some (record l { state = state })) (old.0, old.1, short)

  pub opted_out_kept : (who : Address) (id : ℕ) → (m : RowMap) → Stays m → Ends Stays (app_opted_out who id m)
  unfolding app_opted_out
  opted_out_kept who id m k = by_local (app m who id).local refl
    where
      by_local : (o : Option Local) → (app m who id).local ≡ o → Ends Stays (opted_out_from who id (app m who id) o m)
      by_local None e = omega arith
      by_local (Some l) e = sets_local who id m k (app_by counter m (λ (x : AppRow). is_some x.local) refl k.rows.resources who id (ap is_some e)) None tt
