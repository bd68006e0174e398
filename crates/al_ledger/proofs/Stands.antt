-- What is shown after a round is what stands after its blocks.
use Rattle.std.proofs.Common.{◌≡◌, ◌-◌, ℕ, List, refl, sym, ap, ◌∙◌, arith, Result, Ok, Err, Option, Some, None, IfOk, option_map}
use Rattle.std.proofs.lemmas.List.{take_all}
use Rattle.std.specs.FinMap.{get}
use Rattle.al_base.specs.declared.address.Address.{Address}
use Rattle.al_base.specs.declared.key.Key.{Key}
use Rattle.al_deltas.specs.declared.delta.RoundDelta.{RoundDelta}
use Rattle.al_deltas.specs.Net.{creators_after}
use Rattle.al_deltas.specs.Queue.{Queue, last_change, last_creator, left_by, rows_after, stored_at, top, up_to}
use Rattle.al_deltas.proofs.Nets.{creators_are}
use Rattle.al_deltas.proofs.Queues.{rows_are}
use Rattle.al_rows.specs.Finite.{or_below}
use Rattle.al_rows.specs.Rows.{bare, creator_of}
use Rattle.al_rows.specs.declared.row.Row.{Row}
use Rattle.al_rows.specs.declared.stored.Stored.{Stored}
use Rattle.al_rows.proofs.Keys.{exact_keys}
use Rattle.al_rows.proofs.Maps.{get-map_entries}
use Rattle.al_tables.specs.Tables.{CreatorMap, StoredMap}
use Rattle.al_ledger.specs.Creators.{AreCreatorsOf}

-- ---- rows

plain : (round : ℕ) (row : Option Row) → option_map (λ s. s.row) (stored_at round row) ≡ row
plain round None = refl
plain round (Some r) = refl

row_is : (ds : List RoundDelta) (m : StoredMap) (key : Key) (o : Option (ℕ × Option Row)) → o ≡ last_change key ds
    → option_map (λ s. s.row) (or_below (option_map left_by o) (get m key)) ≡ option_map (λ s. s.row) (get (rows_after ds m) key)
row_is ds m key o found =
    ap (λ x. option_map (λ (s : Stored). s.row) (or_below (option_map left_by x) (get m key))) found
    ∙ sym (ap (option_map (λ (s : Stored). s.row)) (rows_are ds m key))

-- a row that was changed is what its last change left
pub row_changed : (ds : List RoundDelta) (m : StoredMap) (key : Key) (round : ℕ) (row : Option Row) → Some (round, row) ≡ last_change key ds → row ≡ option_map (λ s. s.row) (get (rows_after ds m) key)
row_changed ds m key round row found = sym (plain round row) ∙ row_is ds m key (Some (round, row)) found

-- another is as below
pub row_left : {E : Type 0} (ds : List RoundDelta) (m : StoredMap) (key : Key) (r : Result (Option Row) E) → None ≡ last_change key ds → IfOk r (λ row. row ≡ option_map (λ s. s.row) (get m key))
    → IfOk r (λ row. row ≡ option_map (λ s. s.row) (get (rows_after ds m) key))
row_left ds m key (Ok row) found is = is ∙ row_is ds m key None found
row_left ds m key (Err e) found is = tt

-- ---- creators

creator_is : (ds : List RoundDelta) (m : CreatorMap) (id : ℕ) (o : Option (Option Address)) → o ≡ last_creator id ds → or_below o (get m id) ≡ get (creators_after ds m) id
creator_is ds m id o found = ap (λ x. or_below x (get m id)) found ∙ sym (creators_are ds m id)

pub creator_changed : (ds : List RoundDelta) (m : CreatorMap) (id : ℕ) (who : Option Address) → Some who ≡ last_creator id ds → who ≡ get (creators_after ds m) id
creator_changed ds m id who found = creator_is ds m id (Some who) found

pub creator_left : {E : Type 0} (ds : List RoundDelta) (m : CreatorMap) (id : ℕ) (r : Result (Option Address) E) → None ≡ last_creator id ds → IfOk r (λ who. who ≡ get m id) → IfOk r (λ who. who ≡ get (creators_after ds m) id)
creator_left ds m id (Ok who) found is = is ∙ creator_is ds m id None found
creator_left ds m id (Err e) found is = tt

-- ---- the last round

-- up to the last round are all changes
pub all_up_to : (q : Queue) → up_to (top q) q ≡ q.deltas
all_up_to q = take_all (top q - q.base) q.deltas (omega arith)

pub row_on_top : {E : Type 0} (q : Queue) (at : ℕ) (m t : StoredMap) (key : Key) (r : Result (Option Row) E) → at ≡ top q → t ≡ m → IfOk r (λ row. row ≡ option_map (λ s. s.row) (get (rows_after (up_to at q) t) key)) → IfOk r (λ row. row ≡ get (bare (rows_after q.deltas m)) key)
row_on_top q at m t key (Ok row) at_is same is =
    is
    ∙ ap (λ n. option_map (λ (s : Stored). s.row) (get (rows_after (up_to n q) t) key)) at_is
    ∙ ap (λ (x : StoredMap). option_map (λ (s : Stored). s.row) (get (rows_after (up_to (top q) q) x) key)) same
    ∙ ap (λ ds. option_map (λ (s : Stored). s.row) (get (rows_after ds m) key)) (all_up_to q)
    ∙ sym (get-map_entries exact_keys (λ k (s : Stored). s.row) (rows_after q.deltas m) key)
row_on_top q at m t key (Err e) at_is same is = tt

pub creator_on_top : {E : Type 0} (q : Queue) (at : ℕ) (rows : StoredMap) (m t : CreatorMap) (id : ℕ) (r : Result (Option Address) E) → at ≡ top q → t ≡ m → AreCreatorsOf (rows_after q.deltas rows) (creators_after q.deltas m) → IfOk r (λ who. who ≡ get (creators_after (up_to at q) t) id) → IfOk r (λ who. who ≡ creator_of (bare (rows_after q.deltas rows)) id)
creator_on_top q at rows m t id (Ok who) at_is same are is =
    is
    ∙ ap (λ n. get (creators_after (up_to n q) t) id) at_is
    ∙ ap (λ (x : CreatorMap). get (creators_after (up_to (top q) q) x) id) same
    ∙ ap (λ ds. get (creators_after ds m) id) (all_up_to q)
    ∙ are id
creator_on_top q at rows m t id (Err e) at_is same are is = tt
