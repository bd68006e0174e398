-- What was issued of an asset, and who has its parameters.
use Rattle.std.proofs.Common.{◌≡◌, ◌≢◌, ◌≤◌, ◌*◌, ◌⊎◌, inl, inr, ℕ, zero, suc, refl, sym, ap, ◌∙◌, subst, arith, Bool, true, false, if◌then◌else◌, nat_eq, eqb-true, true≢false, is_some, Option, Some, None, Result, List, [], ◌∷◌, sum_by, zero-mul}
use Rattle.std.proofs.lemmas.List.Sums.{sum_by-cons}
use Rattle.std.specs.BTreeMap.{is_at}
use Rattle.std.specs.FinMap.{entries, entries_sorted, find, get, get-entries}
use Rattle.std.specs.List.{AllByRecursion}
use Rattle.al_base.specs.declared.address.Address.{Address}
use Rattle.al_base.specs.declared.asset.AssetParams.{AssetParams}
use Rattle.al_base.specs.declared.key.Key.{Key}
use Rattle.al_base.specs.declared.key.Key.TheVariants as key
use Rattle.al_base.specs.Keys.{key_cmp}
use Rattle.al_rows.specs.declared.row.AssetRow.{AssetRow}
use Rattle.al_rows.specs.declared.row.Holding.{Holding}
use Rattle.al_rows.specs.declared.row.Row.{Row}
use Rattle.al_rows.specs.declared.row.Row.TheVariants as row
use Rattle.al_rows.specs.Finite.{set_at, total, weight}
use Rattle.al_rows.specs.Rows.{AssetParamsInRange, HoldingInRange, RowMap, creator_of, has_params}
use Rattle.al_rows.proofs.Keys.{exact_keys, keys_total}
use Rattle.al_rows.proofs.Maps.{entries_found, total-same, total-set_at, total-times}
use Rattle.al_overlay.specs.Rules.{then_do}
use Rattle.al_overlay.specs.declared.rule.Rule.{Rule}
use Rattle.al_resources.specs.Assets.{asset, asset_in, issued, issued_by, issued_from, max_units}
use Rattle.al_resources.specs.Kept.{Ends}
use Rattle.al_resources.specs.Sound.{FieldsInRange, ResourcesAgree, issued_of, total_in}
use Rattle.al_resources.specs.declared.asset.Issued.{Issued}
use Rattle.al_resources.proofs.Owings.{IsThere, at_itself, some_row, there_by}
use Rattle.al_resources.proofs.Recounts.{AllInRange, at_set, none_some}

-- ---- sums in which one row weighs

-- none of them weighs, or one does
heavy : {A : Type 0} (f : A → ℕ) (P : A → Type 0) (xs : List A) → AllByRecursion P xs → (sum_by f xs ≡ 0) ⊎ ((x : A) × P x × (f x ≢ 0))
heavy f P [] h = inl refl
heavy {A} f P (x ∷ xs) h = by_first (f x) refl (heavy f P xs h.1)
  where
    by_first : (n : ℕ) → f x ≡ n → (sum_by f xs ≡ 0) ⊎ ((x : A) × P x × (f x ≢ 0)) → (sum_by f (x ∷ xs) ≡ 0) ⊎ ((x : A) × P x × (f x ≢ 0))
    by_first zero e (inl z) = inl (omega (arith, sum_by-cons f x xs))
    by_first zero e (inr y) = inr y
    by_first (suc n) e rest = inr (x, h.0, omega arith)

-- no row weighs
none_weigh : (w : Key → Row → ℕ) (m : RowMap) → ((k : Key) (r : Row) → get m k ≡ Some r → w k r ≡ 0) → total w m ≡ 0
none_weigh w m h = total-same keys_total w (λ k r. 0 * w k r) m (λ k r is. h k r is ∙ sym (zero-mul (w k r))) ∙ total-times keys_total 0 w m ∙ zero-mul (total w m)

not_other : (n : ℕ) → (n ≢ 0 → ⊥) → n ≡ 0
not_other zero h = refl
not_other (suc n) h = absurd (h (omega arith))

-- where one row alone weighs, all weigh as much
one_weighs : (w : Key → Row → ℕ) (most : ℕ) (m : RowMap) → ((k : Key) (r : Row) → get m k ≡ Some r → w k r ≤ most)
    → ((k q : Key) (r s : Row) → get m k ≡ Some r → get m q ≡ Some s → w k r ≢ 0 → w q s ≢ 0 → k ≡ q) → total w m ≤ most
one_weighs w most m few one = by_heavy (heavy (λ (e : Key × Row). w e.0 e.1) (λ (e : Key × Row). find key_cmp e.0 (entries m) ≡ Some e.1) (entries m) (entries_found keys_total (entries m) (entries_sorted m)))
  where
    rest : (k : Key) (r : Row) → get m k ≡ Some r → w k r ≢ 0 → total w (set_at m k None) ≡ 0
    rest k r is some = none_weigh w (set_at m k None) (λ q s. at_set (λ o. o ≡ Some s → w q s ≡ 0) m k None q
        (λ _ e. absurd (none_some s e))
        (λ apart e. not_other (w q s) (λ other. true≢false (sym (at_itself k) ∙ ap (is_at (key_cmp k)) (one k q r s is e some other) ∙ apart))))

    by_heavy : (sum_by (λ (e : Key × Row). w e.0 e.1) (entries m) ≡ 0) ⊎ ((e : Key × Row) × (find key_cmp e.0 (entries m) ≡ Some e.1) × (w e.0 e.1 ≢ 0)) → total w m ≤ most
    by_heavy (inl z) = omega arith
    by_heavy (inr x) =
        let k : Key = x.0.0 in
        let r : Row = x.0.1 in
        let is : get m k ≡ Some r = get-entries m k ∙ x.1 in
        omega (arith, total-set_at keys_total exact_keys w m k None, ap (weight w k) is, rest k r is x.2, few k r is)

-- ---- what was issued

total_few : (o : Option AssetParams) → AssetParamsInRange o → total_in o ≤ max_units
total_few None h = omega arith
total_few (Some p) h = omega (arith, h.0)

issued_few : (id : ℕ) (k : Key) (r : Row) → FieldsInRange k r → issued_of id k r ≤ max_units
issued_few id (key.Account who) r h = omega arith
issued_few id (key.Box app name) r h = omega arith
issued_few id (key.Resource who i) (row.Account s) h = omega arith
issued_few id (key.Resource who i) (row.App a) h = omega arith
issued_few id (key.Resource who i) (row.Box b) h = omega arith
issued_few id (key.Resource who i) (row.Asset a) h = by_test (nat_eq i id)
  where
    by_test : (b : Bool) → (if b then total_in a.params else 0) ≤ max_units
    by_test true = total_few a.params h.0
    by_test false = omega arith

-- what issues units of an asset is a creator's row
issues : (id : ℕ) (k : Key) (r : Row) → issued_of id k r ≢ 0 → (who : Address) × (k ≡ key.Resource who id) × (has_params r ≡ true)
issues id (key.Account who) r h = absurd (h refl)
issues id (key.Box app name) r h = absurd (h refl)
issues id (key.Resource who i) (row.Account s) h = absurd (h refl)
issues id (key.Resource who i) (row.App a) h = absurd (h refl)
issues id (key.Resource who i) (row.Box b) h = absurd (h refl)
issues id (key.Resource who i) (row.Asset a) h = by_test (nat_eq i id) refl h
  where
    has : (o : Option AssetParams) → total_in o ≢ 0 → is_some o ≡ true
    has None h = absurd (h refl)
    has (Some p) h = refl

    by_test : (b : Bool) → nat_eq i id ≡ b → (if b then total_in a.params else 0) ≢ 0 → (x : Address) × (key.Resource who i ≡ key.Resource x id) × (is_some a.params ≡ true)
    by_test true e h = (who, ap (λ j. key.Resource who j) (eqb-true i id e), has a.params h)
    by_test false e h = absurd (h refl)

-- one account issues an asset, and its units have 64 bits
pub issued_most : (counter id : ℕ) (m : RowMap) → AllInRange m → ResourcesAgree counter m → total (issued_of id) m ≤ max_units
issued_most counter id m all agree = one_weighs (issued_of id) max_units m (λ k r is. issued_few id k r (all k r is)) one
  where
    one : (k q : Key) (r s : Row) → get m k ≡ Some r → get m q ≡ Some s → issued_of id k r ≢ 0 → issued_of id q s ≢ 0 → k ≡ q
    one k q r s p e h g =
        let x = issues id k r h in
        let y = issues id q s g in
        let same : x.0 ≡ y.0 = agree.creators x.0 y.0 id r s (subst (λ z. get m z ≡ Some r) x.1 p) (subst (λ z. get m z ≡ Some s) y.1 e) x.2 y.2 in
        x.1 ∙ ap (λ b. key.Resource b id) same ∙ sym y.1

-- ---- who has the parameters

-- what is done with an asset that there is, its creator having the parameters
pub issued_then : (P : RowMap → Type 0) (id : ℕ) (m : RowMap) (f : Issued → Result RowMap Rule) → ((a : Issued) → (asset m a.creator id).params ≡ Some a.params → Ends P (f a)) → Ends P (then_do (issued id m) f)
unfolding issued
issued_then P id m f h = by_creator (creator_of m id)
  where
    by_params : (who : Address) (o : Option AssetParams) → (asset m who id).params ≡ o → Ends P (then_do (issued_by id who o) f)
    by_params who None e = omega arith
    by_params who (Some p) e = h (record { creator = who; params = p }) e

    by_creator : (o : Option Address) → Ends P (then_do (issued_from id m o) f)
    by_creator None = omega arith
    by_creator (Some who) = by_params who (asset m who id).params refl

pub there_issued : (counter id : ℕ) (m : RowMap) → ResourcesAgree counter m → (a : Issued) → (asset m a.creator id).params ≡ Some a.params → IsThere counter id m
there_issued counter id m agree a is = there_by counter m (λ (x : AssetRow). is_some x.params) refl agree a.creator id (ap is_some is)

pub there_held : (counter id : ℕ) (m : RowMap) → ResourcesAgree counter m → (who : Address) (h : Holding) → (asset m who id).holding ≡ Some h → IsThere counter id m
there_held counter id m agree who h is = there_by counter m (λ (x : AssetRow). is_some x.holding) refl agree who id (ap is_some is)

-- where an account has the parameters no other one has
pub one_creator : (counter : ℕ) (m : RowMap) (who : Address) (id : ℕ) → ResourcesAgree counter m → is_some (asset m who id).params ≡ true → (b : Address) (s : Row) → get m (key.Resource b id) ≡ Some s → has_params s ≡ true → b ≡ who
one_creator counter m who id agree some b s e has =
    let x = some_row (λ (x : AssetRow). is_some x.params) refl (get m (key.Resource who id)) some in
    agree.creators b who id s (row.Asset x.0) e x.1 has (ap (λ o. is_some (asset_in o).params) (sym x.1) ∙ some)

-- ---- ranges

pub params_ranged : (m : RowMap) (who : Address) (id : ℕ) → AllInRange m → AssetParamsInRange (asset m who id).params
params_ranged m who id all = by_row (get m (key.Resource who id)) (all (key.Resource who id))
  where
    by_row : (o : Option Row) → ((r : Row) → o ≡ Some r → FieldsInRange (key.Resource who id) r) → AssetParamsInRange (asset_in o).params
    by_row None h = tt
    by_row (Some (row.Account r)) h = tt
    by_row (Some (row.Asset a)) h = (h (row.Asset a) refl).0
    by_row (Some (row.App a)) h = tt
    by_row (Some (row.Box b)) h = tt

pub holding_ranged : (m : RowMap) (who : Address) (id : ℕ) → AllInRange m → HoldingInRange (asset m who id).holding
holding_ranged m who id all = by_row (get m (key.Resource who id)) (all (key.Resource who id))
  where
    by_row : (o : Option Row) → ((r : Row) → o ≡ Some r → FieldsInRange (key.Resource who id) r) → HoldingInRange (asset_in o).holding
    by_row None h = tt
    by_row (Some (row.Account r)) h = tt
    by_row (Some (row.Asset a)) h = (h (row.Asset a) refl).1
    by_row (Some (row.App a)) h = tt
    by_row (Some (row.Box b)) h = tt
