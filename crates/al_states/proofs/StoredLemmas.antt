-- What stands in the rows may be stored: at the origin, and after each block.
use Rattle.std.proofs.Common.{◌≡◌, ◌≤◌, ◌^◌, ℕ, List, [], ◌∷◌, arith, refl, sym, subst, All, IfSome, Option, Some, None, Bool, true, false, cond, if◌then◌else◌, option_map}
use Rattle.std.specs.FinMap.{from_entries, get, get-from_entries}
use Rattle.std.specs.List.{AllByRecursion}
use Rattle.std.specs.Ordering.{eq_by_cmp}
use Rattle.std.proofs.lemmas.List.Elements.{recursion_from_All}
use Rattle.al_base.specs.Keys.{key_cmp}
use Rattle.al_base.specs.declared.key.Key.{Key}
use Rattle.al_base.specs.declared.key.Key.TheVariants.{Account}
use Rattle.al_block.specs.Block.{IsBlock}
use Rattle.al_deltas.specs.declared.delta.RoundDelta.{RoundDelta}
use Rattle.al_tables.specs.Tables.{StoredMap}
use Rattle.al_deltas.specs.Queue.{IsKeptDelta, after_delta, changed_in, rows_after, stored_at}
use Rattle.al_deltas.proofs.Searches.{equal}
use Rattle.al_deltas.proofs.Queues.{change_kept, get-after_delta}
use Rattle.al_eval.specs.Start.{start_rows, with_account, with_accounts}
use Rattle.al_eval.specs.State.{State}
use Rattle.al_genesis.specs.declared.genesis.GenesisRow.{GenesisRow}
use Rattle.al_rows.specs.Above.{IsStored}
use Rattle.al_rows.specs.Finite.{or_below, set_at}
use Rattle.al_rows.specs.Rows.{AccountInRange, IsKept, is_zero, unless_zero}
use Rattle.al_rows.specs.declared.row.Row.{Row}
use Rattle.al_rows.specs.declared.row.Row.TheVariants as row
use Rattle.al_rows.specs.declared.stored.Stored.{Stored}
use Rattle.al_rows.proofs.Keys.{exact_keys, keys_total}
use Rattle.al_rows.proofs.Maps.{get-set_at}
use Rattle.al_states.proofs.SoundLemmas.{round_within}
use Rattle.al_states.specs.declared.keeping.KeptBlock.{KeptBlock}
use Rattle.al_states.specs.Keeping.{Follows, blocks_of}

-- each row of a map may be stored
abbrev pub AreStored : StoredMap → Type 0
AreStored m = (q : Key) → IfSome (get m q) (IsStored q)

-- ---- the origin

left_stored : (k : Key) (round : ℕ) (r : Option Row) → round ≤ 2 ^ 62 → IfSome r (IsKept k) → IfSome (stored_at round r) (IsStored k)
left_stored k round None few is = tt
left_stored k round (Some r) few is = (is, few)

first_kept : (a : GenesisRow) → AccountInRange a.row → IfSome (unless_zero (row.Account a.row)) (IsKept (Account a.address))
first_kept a fits = by_test (is_zero (row.Account a.row)) refl
  where
    by_test : (b : Bool) → is_zero (row.Account a.row) ≡ b → IfSome (if b then None else Some (row.Account a.row)) (IsKept (Account a.address))
    by_test true e = tt
    by_test false e = (fits, e)

-- what is set at one key of such rows
set_stored : (m : StoredMap) (k : Key) (o : Option Stored) → AreStored m → IfSome o (IsStored k) → AreStored (set_at m k o)
set_stored m k o are is q = subst (λ x. IfSome x (IsStored q)) (sym (get-set_at keys_total m k o q)) (by_test (eq_by_cmp key_cmp q k) refl)
  where
    by_test : (b : Bool) → eq_by_cmp key_cmp q k ≡ b → IfSome (cond b o (get m q)) (IsStored q)
    by_test true e = subst (λ x. IfSome o (IsStored x)) (sym (exact_keys q k (equal (key_cmp q k) e))) is
    by_test false e = are q

all_stored : (m : StoredMap) (accounts : List GenesisRow) → AreStored m → AllByRecursion (λ a. AccountInRange a.row) accounts → AreStored (with_accounts m accounts)
all_stored m [] are fits = are
all_stored m (a ∷ more) are fits = all_stored (with_account m a) more (set_stored m (Account a.address) (stored_at 0 (unless_zero (row.Account a.row))) are (left_stored (Account a.address) 0 (unless_zero (row.Account a.row)) (omega arith) (first_kept a fits.0))) fits.1

none_stored : AreStored (from_entries [])
none_stored q = subst (λ x. IfSome x (IsStored q)) (sym (get-from_entries keys_total [] q)) tt

-- the rows of a genesis whose accounts are in their ranges
pub start_stored : (accounts : List GenesisRow) → All (λ a. AccountInRange a.row) accounts → AreStored (start_rows accounts)
start_stored accounts fits = all_stored (from_entries []) accounts none_stored (recursion_from_All (λ (a : GenesisRow). AccountInRange a.row) accounts fits)

-- ---- after blocks

-- what a block of a round leaves under a key
put_stored : (q : Key) (d : RoundDelta) (below : Option Stored) (changed : Option (Option Row)) → changed_in q d.changes ≡ changed → IsKeptDelta d → d.round ≤ 2 ^ 62 → IfSome below (IsStored q) → IfSome (or_below (option_map (stored_at d.round) changed) below) (IsStored q)
put_stored q d below None e kept few is = is
put_stored q d below (Some r) e kept few is = left_stored q d.round r few (change_kept q d r kept e)

delta_stored : (d : RoundDelta) (m : StoredMap) → IsKeptDelta d → d.round ≤ 2 ^ 62 → AreStored m → AreStored (after_delta d m)
delta_stored d m kept few are q = subst (λ x. IfSome x (IsStored q)) (sym (get-after_delta d m q)) (put_stored q d (get m q) (changed_in q d.changes) refl kept few (are q))

deltas_stored : (s last : State) (kept : List KeptBlock) (ds : List RoundDelta) (m : StoredMap) → Follows s (blocks_of kept) ds last → AllByRecursion (λ k. IsBlock k.bytes.items k.block) kept → AllByRecursion IsKeptDelta ds → AreStored m → AreStored (rows_after ds m)
deltas_stored s last [] [] m f spelled changes are = are
deltas_stored s last [] (d ∷ ds) m f spelled changes are = absurd f
deltas_stored s last (k ∷ kept) [] m f spelled changes are = absurd f
deltas_stored s last (k ∷ kept) (d ∷ ds) m (n, x, rest) spelled changes are =
    let few : d.round ≤ 2 ^ 62 = subst (λ r. r ≤ 2 ^ 62) (sym x.is_of.round) (round_within k.bytes.items k.block spelled.0) in
    deltas_stored n last kept ds (after_delta d m) rest spelled.1 changes.1 (delta_stored d m changes.0 few are)

-- the rows after the blocks that are held
pub rows_stored : (s last : State) (kept : List KeptBlock) (ds : List RoundDelta) (m : StoredMap) → Follows s (blocks_of kept) ds last → All (λ k. IsBlock k.bytes.items k.block) kept → All IsKeptDelta ds → AreStored m → AreStored (rows_after ds m)
rows_stored s last kept ds m f spelled changes are = deltas_stored s last kept ds m f (recursion_from_All (λ (k : KeptBlock). IsBlock k.bytes.items k.block) kept spelled) (recursion_from_All IsKeptDelta ds changes) are
