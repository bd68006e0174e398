-- Assets, applications and boxes while a generated chain runs: what was made is there, and what comes next is not yet.
use Rattle.std.proofs.Common.{◌≡◌, ◌≢◌, ◌∙◌, ◌≤◌, ◌<◌, ◌+◌, ℕ, zero, suc, refl, sym, ap, ap₂, subst, arith, Option, Some, None, true, true≢false, is_some, IfSome, replicate, ◌⊎◌, inl, inr}
use Rattle.std.specs.Prelude.{⊤}
use Rattle.std.specs.FinMap.{get}
use Rattle.al_base.specs.declared.address.Address.{Address}
use Rattle.al_base.specs.declared.key.Key.{Key}
use Rattle.al_base.specs.declared.key.Key.TheVariants as key
use Rattle.al_base.specs.declared.name.BoxName.{BoxName}
use Rattle.al_generator.specs.Items.{box_name}
use Rattle.al_rows.specs.declared.row.Row.{Row}
use Rattle.al_rows.specs.declared.row.Row.TheVariants as row
use Rattle.al_rows.specs.Finite.{set_at}
use Rattle.al_rows.specs.Rows.{RowMap, has_params, set_account, unless_zero}
use Rattle.al_moves.specs.Resources.{one_if}
use Rattle.al_overlay.proofs.Overlays.{itself_at}
use Rattle.al_resources.proofs.Owings.{IsAsset}
use Rattle.al_resources.proofs.Recounts.{at_set, none_some, some_same}
use Rattle.al_taken.proofs.Standings.{IsCalm}

abbrev pub IsApp : Row → Type 0
IsApp (row.Account r) = ⊥
IsApp (row.Asset a) = ⊥
IsApp (row.App a) = ⊤
IsApp (row.Box b) = ⊥

-- all rows of a number that was given are of one kind, and one has the parameters
pub record IsHere (Kind : Row → Type 0) (id count : ℕ) (m : RowMap) : Type 0 where
  pub some : 1 ≤ id
  pub low : id ≤ count
  pub kinds : (a : Address) (r : Row) → get m (key.Resource a id) ≡ Some r → Kind r
  pub owner : Address
  pub held : Row
  pub is : get m (key.Resource owner id) ≡ Some held
  pub has : has_params held ≡ true

-- the value of each box
abbrev pub full : Row
full = row.Box (record { value = replicate 32 42 })

-- how many of the first n boxes an application has
abbrev pub used_of : ℕ → RowMap → ℕ → ℕ
used_of app m zero = 0
used_of app m (suc n) = used_of app m n + one_if (is_some (get m (key.Box app (box_name n))))

abbrev pub used : Option ℕ → RowMap → ℕ
used None m = 0
used (Some app) m = used_of app m 16

-- the transactions so far, the asset and the application that were created last, and the application once its account was paid
pub record Known : Type 0 where
  pub count : ℕ
  pub asset : Option ℕ
  pub made : Option ℕ
  pub app : Option ℕ

-- what is there of all this
pub record AllHere (k : Known) (boxes : ℕ) (m : RowMap) : Type 0 where
  pub fresh : (a : Address) (id : ℕ) → k.count < id → get m (key.Resource a id) ≡ None
  pub asset : IfSome k.asset (λ id. IsHere IsAsset id k.count m)
  pub made : IfSome k.made (λ id. IsHere IsApp id k.count m)
  pub full : (app : ℕ) (name : BoxName) (r : Row) → get m (key.Box app name) ≡ Some r → r ≡ full
  pub used : boxes ≤ used k.app m

-- ---- rows with the same resources and boxes

here_as : (Kind : Row → Type 0) (id count : ℕ) (m n : RowMap) → ((a : Address) → get n (key.Resource a id) ≡ get m (key.Resource a id)) → IsHere Kind id count m → IsHere Kind id count n
here_as Kind id count m n same h = record {
  some = h.some;
  low = h.low;
  kinds = λ a r e. h.kinds a r (sym (same a) ∙ e);
  owner = h.owner;
  held = h.held;
  is = same h.owner ∙ h.is;
  has = h.has;
}

used_as : (app : ℕ) (m n : RowMap) → ((i : ℕ) → get n (key.Box app (box_name i)) ≡ get m (key.Box app (box_name i))) → (i : ℕ) → used_of app n i ≡ used_of app m i
used_as app m n same zero = refl
used_as app m n same (suc i) = ap₂ (λ (x : ℕ) (o : Option Row). x + one_if (is_some o)) (used_as app m n same i) (same i)

if_some : (o : Option ℕ) (P Q : ℕ → Type 0) → ((id : ℕ) → P id → Q id) → IfSome o P → IfSome o Q
if_some None P Q f h = tt
if_some (Some id) P Q f h = f id h

any_used : (o : Option ℕ) (m n : RowMap) → ((app : ℕ) (name : BoxName) → get n (key.Box app name) ≡ get m (key.Box app name)) → used o n ≡ used o m
any_used None m n same = refl
any_used (Some app) m n same = used_as app m n (λ i. same app (box_name i)) 16

pub all_here_as : (k : Known) (boxes : ℕ) (m n : RowMap) → ((a : Address) (id : ℕ) → get n (key.Resource a id) ≡ get m (key.Resource a id)) → ((app : ℕ) (name : BoxName) → get n (key.Box app name) ≡ get m (key.Box app name)) → AllHere k boxes m → AllHere k boxes n
all_here_as k boxes m n resources others h = record {
  fresh = λ a id l. resources a id ∙ h.fresh a id l;
  asset = if_some k.asset _ _ (λ id. here_as IsAsset id k.count m n (λ a. resources a id)) h.asset;
  made = if_some k.made _ _ (λ id. here_as IsApp id k.count m n (λ a. resources a id)) h.made;
  full = λ app name r e. h.full app name r (sym (others app name) ∙ e);
  used = subst (λ x. boxes ≤ x) (sym (any_used k.app m n others)) h.used;
}

-- a row is set under another key
pub away : (m : RowMap) (k : Key) (o : Option Row) (q : Key) → (k ≡ q → ⊥) → get (set_at m k o) q ≡ get m q
away m k o q h = at_set (λ p. p ≡ get m q) m k o q (λ e. absurd (h e)) (λ _. refl)

pub under : (m : RowMap) (k : Key) (o : Option Row) → get (set_at m k o) k ≡ o
under m k o = at_set (λ p. p ≡ o) m k o k (λ _. refl) (λ e. absurd (true≢false (sym (itself_at k) ∙ e)))

pub no_resource : (a b : Address) (id : ℕ) → key.Account a ≡ key.Resource b id → ⊥
no_resource a b id e = cc

pub no_box : (a : Address) (app : ℕ) (name : BoxName) → key.Account a ≡ key.Box app name → ⊥
no_box a app name e = cc

resource_no_box : (a : Address) (id app : ℕ) (name : BoxName) → key.Resource a id ≡ key.Box app name → ⊥
resource_no_box a id app name e = cc

pub all_here_calm : (k : Known) (boxes : ℕ) → IsCalm (AllHere k boxes)
all_here_calm k boxes m who r h = all_here_as k boxes m (set_account m who r)
    (λ a id. away m (key.Account who) (unless_zero (row.Account r)) (key.Resource a id) (no_resource who a id))
    (λ app name. away m (key.Account who) (unless_zero (row.Account r)) (key.Box app name) (no_box who app name)) h

-- ---- a resource row is set

other_id : (a b : Address) (i j : ℕ) → key.Resource a i ≡ key.Resource b j → i ≡ j
other_id a b i j e = cc

module _ (m : RowMap) (who : Address) (id : ℕ) (r : Row) where
  abbrev put : RowMap
  put = set_at m (key.Resource who id) (Some r)

  -- of another number
  here_apart : (Kind : Row → Type 0) (i count : ℕ) → id ≢ i → IsHere Kind i count m → IsHere Kind i count put
  here_apart Kind i count apart h = here_as Kind i count m put (λ a. away m (key.Resource who id) (Some r) (key.Resource a i) (λ e. apart (other_id who a id i e))) h

  more_here : (Kind : Row → Type 0) (i count more : ℕ) → count ≤ more → IsHere Kind i count m → IsHere Kind i more m
  more_here Kind i count more l h = record { some = h.some; low = omega (arith, h.low); kinds = h.kinds; owner = h.owner; held = h.held; is = h.is; has = h.has }

  -- a row that is put over one of this kind has the parameters if that has
  pub here_over : (Kind : Row → Type 0) (count : ℕ) → Kind r → ((old : Row) → get m (key.Resource who id) ≡ Some old → has_params old ≡ true → has_params r ≡ true) → IsHere Kind id count m → IsHere Kind id count put
  here_over Kind count kind keeps h =
      let owned : (x : Row) × (get put (key.Resource h.owner id) ≡ Some x) × (has_params x ≡ true) = at_set (λ o. (x : Row) × (o ≡ Some x) × (has_params x ≡ true)) m (key.Resource who id) (Some r) (key.Resource h.owner id)
      (λ e. (r, refl, keeps h.held (ap (get m) e ∙ h.is) h.has)) (λ _. (h.held, h.is, h.has)) in
      record {
        some = h.some;
        low = h.low;
        kinds = λ a x. at_set (λ o. o ≡ Some x → Kind x) m (key.Resource who id) (Some r) (key.Resource a id) (λ _ e. subst Kind (some_same r x e) kind) (λ _ e. h.kinds a x e);
        owner = h.owner;
        held = owned.0;
        is = owned.1;
        has = owned.2;
      }

  -- the first row of a number
  pub here_first : (Kind : Row → Type 0) → 1 ≤ id → Kind r → has_params r ≡ true → ((a : Address) → get m (key.Resource a id) ≡ None) → IsHere Kind id id put
  here_first Kind some kind has none = record {
    some = some;
    low = omega arith;
    kinds = λ a x. at_set (λ o. o ≡ Some x → Kind x) m (key.Resource who id) (Some r) (key.Resource a id) (λ _ e. subst Kind (some_same r x e) kind) (λ _ e. absurd (none_some x (sym (none a) ∙ e)));
    owner = who;
    held = r;
    is = under m (key.Resource who id) (Some r);
    has = has;
  }

  boxes_stay : (app : ℕ) (name : BoxName) → get put (key.Box app name) ≡ get m (key.Box app name)
  boxes_stay app name = away m (key.Resource who id) (Some r) (key.Box app name) (resource_no_box who id app name)

  -- a transaction more, of which the row has a number that was given
  pub all_here_over : (k : Known) (boxes : ℕ) → id ≤ k.count → k.asset ≡ Some id → ((i : ℕ) → k.made ≡ Some i → id ≢ i) → IsAsset r → ((old : Row) → get m (key.Resource who id) ≡ Some old → has_params old ≡ true → has_params r ≡ true) → AllHere k boxes m → AllHere (record k { count = k.count + 1 }) boxes put
  all_here_over k boxes low is apart kind keeps h = record {
    fresh = λ a i l. away m (key.Resource who id) (Some r) (key.Resource a i) (λ e. absurd (let same : id ≡ i = other_id who a id i e in omega arith)) ∙ h.fresh a i (omega arith);
    asset = by_asset k.asset is h.asset;
    made = by_made k.made apart h.made;
    full = λ app name x e. h.full app name x (sym (boxes_stay app name) ∙ e);
    used = subst (λ x. boxes ≤ x) (sym (any_used k.app m put boxes_stay)) h.used;
  }
    where
      next_here : (Kind : Row → Type 0) (i : ℕ) → IsHere Kind i k.count put → IsHere Kind i (k.count + 1) put
      next_here Kind i h = record { some = h.some; low = omega (arith, h.low); kinds = h.kinds; owner = h.owner; held = h.held; is = h.is; has = h.has }

      by_asset : (o : Option ℕ) → o ≡ Some id → IfSome o (λ i. IsHere IsAsset i k.count m) → IfSome o (λ i. IsHere IsAsset i (k.count + 1) put)
      by_asset None e h = tt
      by_asset (Some i) e h =
          let same : i ≡ id = some_same i id e in
          subst (λ j. IsHere IsAsset j (k.count + 1) put) (sym same) (next_here IsAsset id (here_over IsAsset k.count kind keeps (subst (λ j. IsHere IsAsset j k.count m) same h)))

      by_made : (o : Option ℕ) → ((i : ℕ) → o ≡ Some i → id ≢ i) → IfSome o (λ i. IsHere IsApp i k.count m) → IfSome o (λ i. IsHere IsApp i (k.count + 1) put)
      by_made None e h = tt
      by_made (Some i) e h = next_here IsApp i (here_apart IsApp i k.count (e i refl) h)

  -- a transaction more, of which the row has the number
  kept_here : (Kind : Row → Type 0) (k : Known) (o : Option ℕ) → id ≡ k.count + 1 → IfSome o (λ i. IsHere Kind i k.count m) → IfSome o (λ i. IsHere Kind i (k.count + 1) put)
  kept_here Kind k None next h = tt
  kept_here Kind k (Some i) next h =
      let g = here_apart Kind i k.count (λ e. absurd (omega (arith, h.low))) h in
      record { some = g.some; low = omega (arith, g.low); kinds = g.kinds; owner = g.owner; held = g.held; is = g.is; has = g.has }

  fresh_next : (k : Known) (boxes : ℕ) → id ≡ k.count + 1 → AllHere k boxes m → (a : Address) (i : ℕ) → k.count + 1 < i → get put (key.Resource a i) ≡ None
  fresh_next k boxes next h a i l = away m (key.Resource who id) (Some r) (key.Resource a i) (λ e. absurd (let same : id ≡ i = other_id who a id i e in omega arith)) ∙ h.fresh a i (omega arith)

  none_yet : (k : Known) (boxes : ℕ) → id ≡ k.count + 1 → AllHere k boxes m → (a : Address) → get m (key.Resource a id) ≡ None
  none_yet k boxes next h a = h.fresh a id (omega arith)

  pub all_here_asset : (k : Known) (boxes : ℕ) → id ≡ k.count + 1 → IsAsset r → has_params r ≡ true → AllHere k boxes m → AllHere (record k { count = k.count + 1; asset = Some id }) boxes put
  all_here_asset k boxes next kind has h = record {
    fresh = fresh_next k boxes next h;
    asset = subst (λ n. IsHere IsAsset id n put) next (here_first IsAsset (omega arith) kind has (none_yet k boxes next h));
    made = kept_here IsApp k k.made next h.made;
    full = λ app name x e. h.full app name x (sym (boxes_stay app name) ∙ e);
    used = subst (λ x. boxes ≤ x) (sym (any_used k.app m put boxes_stay)) h.used;
  }

  pub all_here_app : (k : Known) (boxes : ℕ) → id ≡ k.count + 1 → IsApp r → has_params r ≡ true → AllHere k boxes m → AllHere (record k { count = k.count + 1; made = Some id }) boxes put
  all_here_app k boxes next kind has h = record {
    fresh = fresh_next k boxes next h;
    asset = kept_here IsAsset k k.asset next h.asset;
    made = subst (λ n. IsHere IsApp id n put) next (here_first IsApp (omega arith) kind has (none_yet k boxes next h));
    full = λ app name x e. h.full app name x (sym (boxes_stay app name) ∙ e);
    used = subst (λ x. boxes ≤ x) (sym (any_used k.app m put boxes_stay)) h.used;
  }

-- ---- a box is put

module _ (m : RowMap) (app : ℕ) (i : ℕ) where
  abbrev with_box : RowMap
  with_box = set_at m (key.Box app (box_name i)) (Some full)

  one_most : (o : Option Row) → one_if (is_some o) ≤ 1
  one_most None = omega arith
  one_most (Some r) = omega arith

  one_grows : (q : Key) → one_if (is_some (get m q)) ≤ one_if (is_some (get with_box q))
  one_grows q = at_set (λ o. one_if (is_some (get m q)) ≤ one_if (is_some o)) m (key.Box app (box_name i)) (Some full) q (λ _. one_most (get m q)) (λ _. omega arith)

  pub used_grows : (n : ℕ) → used_of app m n ≤ used_of app with_box n
  used_grows zero = omega arith
  used_grows (suc n) = omega (arith, used_grows n, one_grows (key.Box app (box_name n)))

  one_new : get m (key.Box app (box_name i)) ≡ None → one_if (is_some (get m (key.Box app (box_name i)))) + 1 ≤ one_if (is_some (get with_box (key.Box app (box_name i))))
  one_new none = omega (arith, ap (λ (o : Option Row). one_if (is_some o)) none, ap (λ (o : Option Row). one_if (is_some o)) (under m (key.Box app (box_name i)) (Some full)))

  pub used_more : (n : ℕ) → i < n → get m (key.Box app (box_name i)) ≡ None → used_of app m n + 1 ≤ used_of app with_box n
  used_more zero l none = absurd (omega arith)
  used_more (suc n) l none = by_place (used_more n) (le_split i n (omega arith))
    where
      le_split : (a b : ℕ) → a ≤ b → (a < b) ⊎ (a ≡ b)
      le_split a b l = grind arith

      by_place : (i < n → get m (key.Box app (box_name i)) ≡ None → used_of app m n + 1 ≤ used_of app with_box n) → (i < n) ⊎ (i ≡ n) → used_of app m n + one_if (is_some (get m (key.Box app (box_name n)))) + 1 ≤ used_of app with_box n + one_if (is_some (get with_box (key.Box app (box_name n))))
      by_place later (inl less) = omega (arith, later less none, one_grows (key.Box app (box_name n)))
      by_place later (inr same) = subst (λ v. used_of app m n + one_if (is_some (get m (key.Box app (box_name v)))) + 1 ≤ used_of app with_box n + one_if (is_some (get with_box (key.Box app (box_name v))))) same (omega (arith, used_grows n, one_new none))

  -- with as many boxes as before, or one more where it was not there
  pub all_here_box : (k : Known) (boxes more : ℕ) → k.app ≡ Some app → (boxes ≤ used_of app m 16 → more ≤ used_of app with_box 16) → AllHere k boxes m → AllHere k more with_box
  all_here_box k boxes more is grows h =
      let resources : (a : Address) (id : ℕ) → get with_box (key.Resource a id) ≡ get m (key.Resource a id) = λ a id. away m (key.Box app (box_name i)) (Some full) (key.Resource a id) (λ e. resource_no_box a id app (box_name i) (sym e)) in
      record {
        fresh = λ a id l. resources a id ∙ h.fresh a id l;
        asset = if_some k.asset _ _ (λ id. here_as IsAsset id k.count m with_box (λ a. resources a id)) h.asset;
        made = if_some k.made _ _ (λ id. here_as IsApp id k.count m with_box (λ a. resources a id)) h.made;
        full = λ a name r. at_set (λ o. o ≡ Some r → r ≡ full) m (key.Box app (box_name i)) (Some full) (key.Box a name) (λ _ e. sym (some_same full r e)) (λ _ e. h.full a name r e);
        used = subst (λ (o : Option ℕ). more ≤ used o with_box) (sym is) (grows (subst (λ (o : Option ℕ). boxes ≤ used o m) is h.used));
      }

pub used_most : (app : ℕ) (m : RowMap) (n : ℕ) → used_of app m n ≤ n
used_most app m zero = omega arith
used_most app m (suc n) = omega (arith, used_most app m n, one_least (get m (key.Box app (box_name n))))
  where
    one_least : (o : Option Row) → one_if (is_some o) ≤ 1
    one_least None = omega arith
    one_least (Some r) = omega arith

pub boxes_most : (k : Known) (boxes : ℕ) (m : RowMap) → AllHere k boxes m → boxes ≤ 16
boxes_most k boxes m h = by_app k.app h.used
  where
    by_app : (o : Option ℕ) → boxes ≤ used o m → boxes ≤ 16
    by_app None l = omega arith
    by_app (Some app) l = omega (arith, l, used_most app m 16)

-- ---- a transaction more, which makes nothing

pub all_here_more : (k : Known) (app : Option ℕ) (boxes : ℕ) (m : RowMap) → boxes ≤ used app m → AllHere k boxes m → AllHere (record k { count = k.count + 1; app = app }) boxes m
all_here_more k app boxes m used h = record {
  fresh = λ a id l. h.fresh a id (omega arith);
  asset = if_some k.asset _ _ (λ id. later IsAsset id) h.asset;
  made = if_some k.made _ _ (λ id. later IsApp id) h.made;
  full = h.full;
  used = used;
}
  where
    later : (Kind : Row → Type 0) (id : ℕ) → IsHere Kind id k.count m → IsHere Kind id (k.count + 1) m
    later Kind id h = record { some = h.some; low = omega (arith, h.low); kinds = h.kinds; owner = h.owner; held = h.held; is = h.is; has = h.has }
