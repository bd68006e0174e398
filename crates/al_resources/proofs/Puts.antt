-- What changes where an account's row of an asset or an application is put, and the counts of the account follow.
use Rattle.std.proofs.Common.{◌≡◌, ◌≤◌, ◌+◌, ◌⊎◌, inl, inr, ℕ, refl, sym, ap, ◌∙◌, subst, arith, Bool, true, false, cond, true≢false, is_none, Option, Some, None, Result, Ok, Err}
use Rattle.std.specs.BTreeMap.{is_at}
use Rattle.std.specs.FinMap.{get}
use Rattle.al_base.specs.declared.address.Address.{Address}
use Rattle.al_base.specs.declared.key.Key.{Key}
use Rattle.al_base.specs.declared.key.Key.TheVariants as key
use Rattle.al_base.specs.Keys.{key_cmp}
use Rattle.al_rewards.specs.Pending.{is_apart}
use Rattle.al_rows.specs.declared.row.Row.{Row}
use Rattle.al_rows.specs.declared.row.Row.TheVariants as row
use Rattle.al_rows.specs.Finite.{set_at, total, weight}
use Rattle.al_rows.specs.Rows.{RowMap, account, account_in, has_params, is_zero, unless_zero}
use Rattle.al_rows.proofs.Keys.{keys_total, exact_keys}
use Rattle.al_rows.proofs.Maps.{total-set_at}
use Rattle.al_overlay.specs.declared.rule.Rule.{Rule}
use Rattle.al_overlay.specs.Rules.{then_do}
use Rattle.al_moves.specs.Money.{money, worth}
use Rattle.al_moves.specs.Resources.{CountsAgree, counts_at, put_counted, put_over, put_resource, recount}
use Rattle.al_moves.proofs.Follows.{counts_follow}
use Rattle.al_overlay.proofs.Overlays.{get-set, same_key}
use Rattle.al_resources.specs.Kept.{Ends}
use Rattle.al_resources.specs.Sound.{FieldsInRange, ResourcesAgree, same_kind}
use Rattle.al_resources.proofs.Recounts.{Alike, AllBased, AllInRange, IsForOthers, at_set, is_row, recount_alike}

pub none_is : {A : Type 0} (o : Option A) → is_none o ≡ true → o ≡ None
none_is None e = refl
none_is (Some x) e = absurd (true≢false (sym e))

-- ---- the row

-- the row that stands after a row was put is that one
pub kept_is : (r s : Row) → unless_zero r ≡ Some s → s ≡ r
kept_is r s e = sym (is_row (is_zero r) r s e)

-- and fits where that one does
kept_fits : (k : Key) (r : Row) → FieldsInRange k r → (s : Row) → unless_zero r ≡ Some s → FieldsInRange k s
kept_fits k r fits s e = subst (λ x. FieldsInRange k x) (sym (kept_is r s e)) fits

-- ---- what it is worth

abbrev each : ℕ → Key → Row → ℕ
each level k r = worth level r

worthless : (level : ℕ) (who : Address) (id : ℕ) (o : Option Row) → ((r : Row) → o ≡ Some r → FieldsInRange (key.Resource who id) r) → weight (each level) (key.Resource who id) o ≡ 0
worthless level who id None h = refl
worthless level who id (Some (row.Account r)) h = absurd (h (row.Account r) refl)
worthless level who id (Some (row.Asset a)) h = refl
worthless level who id (Some (row.App a)) h = refl
worthless level who id (Some (row.Box b)) h = refl

money_put : (level : ℕ) (who : Address) (id : ℕ) (r : Row) (m mid : RowMap) → Alike level m mid → AllInRange m → FieldsInRange (key.Resource who id) r → money level (set_at mid (key.Resource who id) (unless_zero r)) ≡ money level m
unfolding money
money_put level who id r m mid alike all fits =
    let k = key.Resource who id in
    let now = unless_zero r in
    let old : weight (each level) k (get mid k) ≡ 0 = ap (weight (each level) k) (alike.resources who id) ∙ worthless level who id (get m k) (all k) in
    let new : weight (each level) k now ≡ 0 = worthless level who id now (kept_fits k r fits) in
    let sums : total (each level) (set_at mid k now) + weight (each level) k (get mid k) ≡ total (each level) mid + weight (each level) k now = total-set_at keys_total exact_keys (each level) mid k now in
    let same : total (each level) mid ≡ total (each level) m = alike.same in
    omega (arith, old, new, sums, same)

-- ---- the put

-- rows in which an account's row of an asset or an application was put
pub record Put (level : ℕ) (who : Address) (id : ℕ) (r : Row) (m n : RowMap) : Type 0 where
  pub at : (b : Address) (i : ℕ) → get n (key.Resource b i) ≡ cond (is_at (key_cmp (key.Resource who id)) (key.Resource b i)) (unless_zero r) (get m (key.Resource b i))
  pub sums : (w : Key → Row → ℕ) → IsForOthers w → total w n + weight w (key.Resource who id) (get m (key.Resource who id)) ≡ total w m + weight w (key.Resource who id) (unless_zero r)
  pub same : money level n ≡ money level m
  pub bases : AllBased level m → AllBased level n
  pub ranges : AllInRange n
  pub counts : (b : Address) → CountsAgree n b
  pub statuses : (b : Address) → (account n b).status ≡ (account m b).status
  pub balances : (b : Address) → (account n b).balance ≡ (account m b).balance

put_row : (level : ℕ) (who : Address) (id : ℕ) (r : Row) (m mid : RowMap) → Alike level m mid → AllInRange m → FieldsInRange (key.Resource who id) r → ((b : Address) → CountsAgree (set_at mid (key.Resource who id) (unless_zero r)) b)
    → Put level who id r m (set_at mid (key.Resource who id) (unless_zero r))
put_row level who id r m mid alike all fits agree =
    let k = key.Resource who id in
    let now = unless_zero r in
    record {
      at = λ b i. get-set mid k now (key.Resource b i) ∙ ap (λ o. cond (is_at (key_cmp k) (key.Resource b i)) now o) (alike.resources b i);
      sums = λ w h. omega (arith, total-set_at keys_total exact_keys w mid k now, alike.sums w h, ap (weight w k) (alike.resources who id));
      same = money_put level who id r m mid alike all fits;
      bases = λ based q s. at_set (λ p. p ≡ Some (row.Account s) → is_apart s.status ≡ false → s.base ≤ level) mid k now q (λ _ e. absurd (kept_fits k r fits (row.Account s) e)) (λ _. alike.bases based q s);
      ranges = λ q s. at_set (λ p. p ≡ Some s → FieldsInRange q s) mid k now q (λ e is. subst (λ x. FieldsInRange x s) e (kept_fits k r fits s is)) (λ _. alike.ranges all q s);
      counts = agree;
      statuses = λ b. ap (λ o. (account_in o).status) (get-set mid k now (key.Account b)) ∙ alike.statuses b;
      balances = λ b. ap (λ o. (account_in o).balance) (get-set mid k now (key.Account b)) ∙ alike.balances b;
    }

-- the counts move, and then the row stands there
abbrev moved_counts : Address → ℕ → Row → RowMap → Result RowMap Rule
moved_counts who id r m = recount who (counts_at (key.Resource who id) (get m (key.Resource who id))) (counts_at (key.Resource who id) (unless_zero r)) m

abbrev with_row : Address → ℕ → Row → RowMap → Result RowMap Rule
with_row who id r mid = Ok (set_at mid (key.Resource who id) (unless_zero r))

put_is : (who : Address) (id : ℕ) (r : Row) (m : RowMap) → put_resource who id (Some r) m ≡ then_do (moved_counts who id r m) (with_row who id r)
unfolding put_counted put_over
put_is who id r m = refl

pub put_ends : (level : ℕ) (who : Address) (id : ℕ) (r : Row) (m : RowMap) → AllInRange m → ((b : Address) → CountsAgree m b) → FieldsInRange (key.Resource who id) r → Ends (Put level who id r m) (put_resource who id (Some r) m)
put_ends level who id r m all agree fits = subst (Ends (Put level who id r m)) (sym (put_is who id r m)) (by_result (moved_counts who id r m) refl (recount_alike level who (counts_at (key.Resource who id) (get m (key.Resource who id))) (counts_at (key.Resource who id) (unless_zero r)) m))
  where
    by_result : (due : Result RowMap Rule) → moved_counts who id r m ≡ due → Ends (Alike level m) due → Ends (Put level who id r m) (then_do due (with_row who id r))
    by_result (Ok mid) e h = put_row level who id r m mid h all fits
        (counts_follow.resources who id (Some r) m (set_at mid (key.Resource who id) (unless_zero r)) agree (put_is who id r m ∙ ap (λ (due : Result RowMap Rule). then_do due (with_row who id r)) e))
    by_result (Err x) e h = h

-- ---- the rows of all accounts

pub owner_is : (a b : Address) (i j : ℕ) → key.Resource a i ≡ key.Resource b j → a ≡ b
owner_is a b i j e = cc

id_is : (a b : Address) (i j : ℕ) → key.Resource a i ≡ key.Resource b j → i ≡ j
id_is a b i j e = cc

-- the row that was put
abbrev pub IsPut : Address → ℕ → Row → Address → ℕ → Row → Type 0
IsPut who id r b i s = (b ≡ who) × (i ≡ id) × (s ≡ r)

kind_itself : (who : Address) (id : ℕ) (r : Row) → FieldsInRange (key.Resource who id) r → same_kind r r ≡ true
kind_itself who id (row.Account r) h = absurd h
kind_itself who id (row.Asset a) h = refl
kind_itself who id (row.App a) h = refl
kind_itself who id (row.Box b) h = absurd h

kind_turned : (r s : Row) → same_kind r s ≡ true → same_kind s r ≡ true
kind_turned (row.Account r) s h = absurd (true≢false (sym h))
kind_turned (row.Asset a) (row.Account s) h = absurd (true≢false (sym h))
kind_turned (row.Asset a) (row.Asset b) h = refl
kind_turned (row.Asset a) (row.App b) h = absurd (true≢false (sym h))
kind_turned (row.Asset a) (row.Box b) h = absurd (true≢false (sym h))
kind_turned (row.App a) (row.Account s) h = absurd (true≢false (sym h))
kind_turned (row.App a) (row.Asset b) h = absurd (true≢false (sym h))
kind_turned (row.App a) (row.App b) h = refl
kind_turned (row.App a) (row.Box b) h = absurd (true≢false (sym h))
kind_turned (row.Box b) s h = absurd (true≢false (sym h))

module _ (level : ℕ) (who : Address) (id : ℕ) (r : Row) (m n : RowMap) (put : Put level who id r m n) where
  pub at_put : (Q : Option Row → Type 0) (b : Address) (i : ℕ) → (key.Resource who id ≡ key.Resource b i → Q (unless_zero r)) → (is_at (key_cmp (key.Resource who id)) (key.Resource b i) ≡ false → Q (get m (key.Resource b i))) → Q (get n (key.Resource b i))
  at_put Q b i h g = subst Q (sym (put.at b i)) (by_test (is_at (key_cmp (key.Resource who id)) (key.Resource b i)) refl)
    where
      by_test : (t : Bool) → is_at (key_cmp (key.Resource who id)) (key.Resource b i) ≡ t → Q (cond t (unless_zero r) (get m (key.Resource b i)))
      by_test true e = h (same_key (key.Resource who id) (key.Resource b i) e)
      by_test false e = g e

  -- a row is the one that was put, or stood there before
  pub origin : (b : Address) (i : ℕ) (s : Row) → get n (key.Resource b i) ≡ Some s → IsPut who id r b i s ⊎ (get m (key.Resource b i) ≡ Some s)
  origin b i s = at_put (λ o. o ≡ Some s → IsPut who id r b i s ⊎ (get m (key.Resource b i) ≡ Some s)) b i
      (λ e is. inl (sym (owner_is who b id i e), sym (id_is who b id i e), kept_is r s is))
      (λ _ is. inr is)

  -- a row is put under an id that was given, of the kind of all rows of it, and has parameters where nobody else has
  pub agree_put : (old counter : ℕ) → old ≤ counter → id ≤ counter → FieldsInRange (key.Resource who id) r → ResourcesAgree old m → ((b : Address) (s : Row) → get m (key.Resource b id) ≡ Some s → same_kind r s ≡ true)
      → (has_params r ≡ true → (b : Address) (s : Row) → get m (key.Resource b id) ≡ Some s → has_params s ≡ true → b ≡ who) → ResourcesAgree counter n
  agree_put old counter more low fits agree kind one = record {
    given = λ b i s e. given_by b i s (origin b i s e);
    kinds = λ x y i s t p q. kinds_by x y i s t (origin x i s p) (origin y i t q);
    creators = λ x y i s t p q h g. creators_by x y i s t h g (origin x i s p) (origin y i t q);
  }
    where
      given_by : (b : Address) (i : ℕ) (s : Row) → IsPut who id r b i s ⊎ (get m (key.Resource b i) ≡ Some s) → i ≤ counter
      given_by b i s (inl p) = omega (arith, p.1, low)
      given_by b i s (inr e) = omega (arith, agree.given b i s e)

      -- the row that was put and one of the same id
      alike : (x y : Address) (i : ℕ) (s t : Row) → IsPut who id r x i s → get m (key.Resource y i) ≡ Some t → same_kind s t ≡ true
      alike x y i s t p f = subst (λ z. same_kind z t ≡ true) (sym p.2) (kind y t (subst (λ j. get m (key.Resource y j) ≡ Some t) p.1 f))

      kinds_by : (x y : Address) (i : ℕ) (s t : Row) → IsPut who id r x i s ⊎ (get m (key.Resource x i) ≡ Some s) → IsPut who id r y i t ⊎ (get m (key.Resource y i) ≡ Some t) → same_kind s t ≡ true
      kinds_by x y i s t (inl p) (inl q) = ap (λ z. same_kind z t) p.2 ∙ ap (λ z. same_kind r z) q.2 ∙ kind_itself who id r fits
      kinds_by x y i s t (inl p) (inr f) = alike x y i s t p f
      kinds_by x y i s t (inr e) (inl q) = kind_turned t s (alike y x i t s q e)
      kinds_by x y i s t (inr e) (inr f) = agree.kinds x y i s t e f

      -- where the row that was put has parameters, no other account has
      other : (x y : Address) (i : ℕ) (s t : Row) → has_params s ≡ true → has_params t ≡ true → IsPut who id r x i s → get m (key.Resource y i) ≡ Some t → y ≡ x
      other x y i s t h g p f = one (subst (λ z. has_params z ≡ true) p.2 h) y t (subst (λ j. get m (key.Resource y j) ≡ Some t) p.1 f) g ∙ sym p.0

      creators_by : (x y : Address) (i : ℕ) (s t : Row) → has_params s ≡ true → has_params t ≡ true → IsPut who id r x i s ⊎ (get m (key.Resource x i) ≡ Some s) → IsPut who id r y i t ⊎ (get m (key.Resource y i) ≡ Some t) → x ≡ y
      creators_by x y i s t h g (inl p) (inl q) = p.0 ∙ sym q.0
      creators_by x y i s t h g (inl p) (inr f) = sym (other x y i s t h g p f)
      creators_by x y i s t h g (inr e) (inl q) = other y x i t s g h q e
      creators_by x y i s t h g (inr e) (inr f) = agree.creators x y i s t e f h g
