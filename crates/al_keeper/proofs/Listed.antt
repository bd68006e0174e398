-- Rows as a list: the first ones above a key, in the order of keys.
use Rattle.std.proofs.Common.{◌≡◌, ℕ, refl, sym, ap, subst, ◌∙◌, List, [], ◌∷◌, map, take, filter, Option, Some, None, Bool, true, false, cond, T, IfSome, IfOk, Ok, Err, Result}
use Rattle.std.specs.FinMap.{is_sorted}
use Rattle.std.specs.BTreeMap.Range.{entries_between}
use Rattle.std.specs.declared.ops.Bound.{Bound}
use Rattle.std.specs.declared.ops.Bound.TheVariants.{Unbounded}
use Rattle.al_base.specs.declared.key.Key.{Key}
use Rattle.al_base.specs.Keys.{key_cmp}
use Rattle.al_rows.specs.Above.{AreRows, IsStored, bound_of, is_above, keyed_of, rows_above}
use Rattle.al_rows.specs.declared.stored.Keyed.{Keyed}
use Rattle.al_rows.specs.declared.stored.Stored.{Stored}
use Rattle.al_rows.proofs.Above.{between, rows_are}
use Rattle.al_rows.proofs.Keys.{keys_total, exact_keys}
use Rattle.al_keeper.specs.Rooms.{live, and_live}
use Rattle.al_keeper.specs.Slots.{RowList, AreKept, rows_in}
use Rattle.al_keeper.proofs.Lives.{entries-live, get-live}

-- ---- a filter over live entries

module _ {X : Type 0} (p : Key → Bool) where
  filter-and_live : (k : Key) (v : Option X) (es : List (Key × X)) → filter (λ (e : Key × X). p e.0) (and_live k v es) ≡ cond (p k) (and_live k v (filter (λ (e : Key × X). p e.0) es)) (filter (λ (e : Key × X). p e.0) es)
  filter-and_live k None es = elim (p k) as (λ b. filter (λ (e : Key × X). p e.0) es ≡ cond b (filter (λ (e : Key × X). p e.0) es) (filter (λ (e : Key × X). p e.0) es)) [ true ↦ refl | false ↦ refl ]
  filter-and_live k (Some x) es = refl

  live-filter : (es : List (Key × Option X)) → live (filter (λ (e : Key × Option X). p e.0) es) ≡ filter (λ (e : Key × X). p e.0) (live es)
  live-filter [] = refl
  live-filter (e ∷ es) =
      elim (p e.0) as (λ b. live (cond b (e ∷ filter (λ (e : Key × Option X). p e.0) es) (filter (λ (e : Key × Option X). p e.0) es)) ≡ cond b (and_live e.0 e.1 (live (filter (λ (e : Key × Option X). p e.0) es))) (live (filter (λ (e : Key × Option X). p e.0) es))) [ true ↦ refl | false ↦ refl ]
      ∙ ap (λ (fs : List (Key × X)). cond (p e.0) (and_live e.0 e.1 fs) fs) (live-filter es)
      ∙ sym (filter-and_live e.0 e.1 (live es))

-- what the loop copies is what is owed
above_is : (after : Option Key) (most : ℕ) (m : RowList) → T (is_sorted key_cmp m) → map keyed_of (take most (live (entries_between key_cmp (bound_of after) Unbounded m))) ≡ rows_above after most (rows_in m)
above_is after most m h = ap (λ (es : List (Key × Stored)). map keyed_of (take most es)) (ap live (between after m) ∙ live-filter (is_above after) m ∙ ap (filter (λ (e : Key × Stored). is_above after e.0)) (sym (entries-live keys_total exact_keys m h)))

pub rows_given : {E : Type 0} (r : Result (List Keyed) E) (after : Option Key) (from : Bound Key) (most : ℕ) (m : RowList) → T (is_sorted key_cmp m) → from ≡ bound_of after → IfOk r (λ rows. rows ≡ map keyed_of (take most (live (entries_between key_cmp from Unbounded m)))) → IfOk r (λ rows. rows ≡ rows_above after most (rows_in m))
rows_given (Ok rows) after from most m h is v = v ∙ ap (λ (b : Bound Key). map keyed_of (take most (live (entries_between key_cmp b Unbounded m)))) is ∙ above_is after most m h
rows_given (Err e) after from most m h is v = tt

-- what they say of every keeper's rows
pub rows_fit : {E : Type 0} (r : Result (List Keyed) E) (after : Option Key) (from : Bound Key) (most : ℕ) (m : RowList) → T (is_sorted key_cmp m) → AreKept m → from ≡ bound_of after → IfOk r (λ rows. rows ≡ map keyed_of (take most (live (entries_between key_cmp from Unbounded m)))) → IfOk r (AreRows after most)
rows_fit (Ok rows) after from most m h kept is v =
    subst (AreRows after most) (sym (rows_given {E = Unit {0}} (Ok rows) after from most m h is v))
    (rows_are after most (rows_in m) (λ q. subst (λ o. IfSome o (IsStored q)) (sym (get-live keys_total exact_keys m q h)) (kept q)))
rows_fit (Err e) after from most m h kept is v = tt
