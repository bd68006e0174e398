-- Rows whose entries may stand empty, in the order of keys.
use Rattle.std.proofs.Common.{◌≡◌, sym, subst, ◌∙◌, List, [], ◌∷◌, map, reverse, Ordering, Option, Some, None, Ok, Err, Result, T, IsSome, IfSome, IfOk, OnOk, All}
use Rattle.std.specs.Map.{lookup}
use Rattle.std.specs.BTreeMap.{is_at}
use Rattle.std.specs.List.Sorted.{IsStrictlySortedBy}
use Rattle.std.specs.FinMap.{is_sorted, get}
use Rattle.al_base.specs.declared.key.Key.{Key}
use Rattle.al_base.specs.contracts.key.KeyOrd.TheImpl as derived
use Rattle.al_base.specs.Keys.{key_cmp}
use Rattle.al_rows.specs.declared.stored.Stored.{Stored}
use Rattle.al_rows.specs.Finite.{or_below, overlaid}
use Rattle.al_rows.proofs.Keys.{keys_total, exact_keys, derived_order}
use Rattle.al_rows.proofs.Views.{ranged-get}
use Rattle.al_keeper.specs.Rooms.{live_at, slot_at}
use Rattle.al_keeper.specs.Slots.{RowList, AreKept, HasRow, rows_in}
use Rattle.std.specs.List.{AllByRecursion}
use Rattle.std.proofs.lemmas.List.Sorted.{All-permutation, IsPermutation-reverse}
use Rattle.std.proofs.lemmas.List.Elements.{recursion_from_All, All-from_recursion}
use Rattle.al_rows.specs.declared.stored.Keyed.{Keyed}
use Rattle.al_tables.specs.declared.batch.BatchRow.{BatchRow}
use Rattle.al_rows.specs.Above.{IsStored}
use Rattle.al_tables.specs.Tables.{row_of, staged_of}
use Rattle.al_keeper.proofs.Lives.{sorted, stays, changes, get-live}

-- the derived order
abbrev pub D : Key → Key → Ordering
D = (derived.cmp-value).it

abbrev pub InOrder : RowList → Type 0
InOrder m = IsStrictlySortedBy D (map (λ e. e.0) m)

pub in_order : (m : RowList) → InOrder m → T (is_sorted key_cmp m)
in_order m h = sorted key_cmp m (subst (λ (R : Key → Key → Ordering). IsStrictlySortedBy R (map (λ (e : Key × Option Stored). e.0) m)) derived_order h)

pub by_keys : (old new : RowList) → ((q : Key) → live_at D new q ≡ live_at D old q) → (q : Key) → live_at key_cmp new q ≡ live_at key_cmp old q
by_keys old new h = subst (λ (R : Key → Key → Ordering). (q : Key) → live_at R new q ≡ live_at R old q) derived_order h

changed_keys : (old new cs : RowList) → ((q : Key) → live_at D new q ≡ or_below (lookup (is_at (D q)) cs) (live_at D old q)) → (q : Key) → live_at key_cmp new q ≡ or_below (lookup (is_at (key_cmp q)) cs) (live_at key_cmp old q)
changed_keys old new cs h = subst (λ (R : Key → Key → Ordering). (q : Key) → live_at R new q ≡ or_below (lookup (is_at (R q)) cs) (live_at R old q)) derived_order h

pub rows_stay : (old new : RowList) → InOrder old → InOrder new → ((q : Key) → live_at D new q ≡ live_at D old q) → rows_in new ≡ rows_in old
rows_stay old new p q h = stays keys_total exact_keys old new (in_order old p) (in_order new q) (by_keys old new h)

pub rows_stay_by : (old new : RowList) → InOrder old → InOrder new → ((q : Key) → live_at key_cmp new q ≡ live_at key_cmp old q) → rows_in new ≡ rows_in old
rows_stay_by old new p q h = stays keys_total exact_keys old new (in_order old p) (in_order new q) h

pub kept_stays_by : (old new : RowList) → AreKept old → ((q : Key) → live_at key_cmp new q ≡ live_at key_cmp old q) → AreKept new
kept_stays_by old new k h q = subst (λ o. IfSome o (IsStored q)) (sym (h q)) (k q)

pub rows_change : (old new cs : RowList) → InOrder old → InOrder new → ((q : Key) → live_at D new q ≡ or_below (lookup (is_at (D q)) cs) (live_at D old q)) → rows_in new ≡ overlaid cs (rows_in old)
rows_change old new cs p q h = changes keys_total exact_keys old new cs (in_order old p) (in_order new q) (changed_keys old new cs h)

pub kept_stays : (old new : RowList) → AreKept old → ((q : Key) → live_at D new q ≡ live_at D old q) → AreKept new
kept_stays old new k h q = subst (λ o. IfSome o (IsStored q)) (sym (by_keys old new h q)) (k q)

below_kept : (q : Key) (o : Option (Option Stored)) (f : Option Stored) → IfSome o (λ x. IfSome x (IsStored q)) → IfSome f (IsStored q) → IfSome (or_below o f) (IsStored q)
below_kept q None f h g = g
below_kept q (Some x) f h g = h

pub kept_changes : (old new cs : RowList) → AreKept old → All (λ c. IfSome c.1 (IsStored c.0)) cs → ((q : Key) → live_at D new q ≡ or_below (lookup (is_at (D q)) cs) (live_at D old q)) → AreKept new
kept_changes old new cs k ks h q = subst (λ o. IfSome o (IsStored q)) (sym (changed_keys old new cs h q))
    (below_kept q (lookup (is_at (key_cmp q)) cs) (live_at key_cmp old q) (ranged-get (λ k (x : Option Stored). IfSome x (IsStored k)) cs q ks) (k q))

pub rooms_ok : {E : Type 0} (r : Result (Unit {0}) E) (m cs : RowList) → OnOk r (All (λ c. IsSome (slot_at D m c.0)) cs) → OnOk r (All (λ c. HasRow m c.0) cs)
rooms_ok r m cs h = subst (λ (R : Key → Key → Ordering). OnOk r (All (λ (c : Key × Option Stored). IsSome (slot_at R m c.0)) cs)) derived_order h

pub rooms_back : (m cs : RowList) → All (λ c. HasRow m c.0) cs → All (λ c. IsSome (slot_at D m c.0)) cs
rooms_back m cs h = subst (λ (R : Key → Key → Ordering). All (λ (c : Key × Option Stored). IsSome (slot_at R m c.0)) cs) (sym derived_order) h

pub row_is : {E : Type 0} (r : Result (Option Stored) E) (m : RowList) (q : Key) → InOrder m → IfOk r (λ s. s ≡ live_at key_cmp m q) → IfOk r (λ s. s ≡ get (rows_in m) q)
row_is (Ok s) m q p h = h ∙ sym (get-live keys_total exact_keys m q (in_order m p))
row_is (Err e) m q p h = tt

pub row_kept : {E : Type 0} (r : Result (Option Stored) E) (m : RowList) (q : Key) → AreKept m → IfOk r (λ s. s ≡ live_at key_cmp m q) → IfOk r (λ s. IfSome s (IsStored q))
row_kept (Ok s) m q k h = subst (λ o. IfSome o (IsStored q)) (sym h) (k q)
row_kept (Err e) m q k h = tt

kept_rows_by : (rows : List BatchRow) → AllByRecursion (λ r. IfSome r.stored (IsStored r.key)) rows → AllByRecursion (λ (c : Key × Option Stored). IfSome c.1 (IsStored c.0)) (map row_of rows)
kept_rows_by [] h = tt
kept_rows_by (r ∷ rows) h = (h.0, kept_rows_by rows h.1)

pub kept_rows : (rows : List BatchRow) (items : RowList) → items ≡ map row_of rows → All (λ r. IfSome r.stored (IsStored r.key)) rows → All (λ c. IfSome c.1 (IsStored c.0)) items
kept_rows rows items is h = subst (All (λ (c : Key × Option Stored). IfSome c.1 (IsStored c.0))) (sym is) (All-from_recursion (λ (c : Key × Option Stored). IfSome c.1 (IsStored c.0)) (map row_of rows) (kept_rows_by rows (recursion_from_All (λ (r : BatchRow). IfSome r.stored (IsStored r.key)) rows h)))

kept_staged_by : (rows : List Keyed) → AllByRecursion (λ r. IsStored r.key r.stored) rows → AllByRecursion (λ (c : Key × Option Stored). IfSome c.1 (IsStored c.0)) (map staged_of rows)
kept_staged_by [] h = tt
kept_staged_by (r ∷ rows) h = (h.0, kept_staged_by rows h.1)

pub kept_staged : (rows : List Keyed) (items : RowList) → items ≡ reverse (map staged_of rows) → All (λ r. IsStored r.key r.stored) rows → All (λ c. IfSome c.1 (IsStored c.0)) items
kept_staged rows items is h = subst (All (λ (c : Key × Option Stored). IfSome c.1 (IsStored c.0))) (sym is) (All-permutation (λ (c : Key × Option Stored). IfSome c.1 (IsStored c.0)) (map staged_of rows) (reverse (map staged_of rows)) (IsPermutation-reverse (map staged_of rows)) (All-from_recursion (λ (c : Key × Option Stored). IfSome c.1 (IsStored c.0)) (map staged_of rows) (kept_staged_by rows (recursion_from_All (λ (r : Keyed). IsStored r.key r.stored) rows h))))
