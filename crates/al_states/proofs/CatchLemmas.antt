-- What a catchpoint is written from: the newest rows, and the bytes of the blocks.
use Rattle.std.proofs.Common.{◌≡◌, ◌≤◌, ◌<◌, ◌-◌, ◌^◌, ◌∙◌, ℕ, zero, suc, List, [], ◌∷◌, length, get_or, slice_get, option_map, nat_le, arith, refl, sym, ap, subst, Bool, true, false, Result, Ok, Err, IfOk, Option, Some, None}
use Rattle.std.proofs.lemmas.Bool.{leb-true}
use Rattle.std.proofs.lemmas.List.{length-map}
use Rattle.std.proofs.lemmas.Option.{slice_get_read}
use Rattle.al_base.specs.declared.key.Key.{Key}
use Rattle.al_block.specs.Block.{IsBlock, block, most_bytes}
use Rattle.al_block.specs.declared.block.Block.{Block}
use Rattle.al_eval.specs.State.{State, counts_in}
use Rattle.al_msgpack.proofs.Canonical.{spells_only}
use Rattle.al_msgpack.specs.declared.val.Val.{out-Val}
use Rattle.al_msgpack.specs.declared.val.Val.TheVariants as values
use Rattle.al_record.specs.declared.fault.Fault.{Fault}
use Rattle.al_record.specs.Columns.{first_of, member_open, unless_range}
use Rattle.al_rows.specs.Above.{AreRows, rows_above}
use Rattle.al_rows.specs.declared.stored.Keyed.{Keyed}
use Rattle.al_rows.proofs.Above.{rows_are}
use Rattle.al_states.specs.declared.keeping.KeptBlock.{KeptBlock}
use Rattle.al_states.specs.declared.states.States.{States}
use Rattle.al_states.specs.Keeping.{IsNewest, IsStates, blocks_of, held, origin_of}
use Rattle.al_states.specs.Spellings.{block_string, spelling_at, string_of}
use Rattle.al_states.proofs.KeepLemmas.{last_state}
use Rattle.al_states.proofs.MakeLemmas.{LeadsHere, it_is_last}
use Rattle.al_states.proofs.StoredLemmas.{rows_stored}

-- ---- rows

-- the newest rows are those after the last block
pub newest_rows : (s : States) (k : IsStates s) (t : State) → IsNewest s → LeadsHere s t → s.newest ≡ t.rows
newest_rows s k t newest e = newest ∙ ap (λ (x : State). x.rows) (it_is_last s k t e)

-- the first of them above a key may come there
pub newest_are : (s : States) (k : IsStates s) (after : Option Key) (most : ℕ) → IsNewest s → AreRows after most (rows_above after most s.newest)
newest_are s k after most newest =
    subst (λ m. AreRows after most (rows_above after most m)) (sym newest) (rows_are after most _ (rows_stored (origin_of s.before.chain s.first s.base) (last_state s k) s.kept.items s.deltas.deltas s.base k.follows k.spelled k.changes k.since))

pub rows_given : {E : Type 0} (s : States) (k : IsStates s) (after : Option Key) (most : ℕ) (r : Result (List Keyed) E) → IsNewest s → IfOk r (λ rows. rows ≡ rows_above after most s.newest) → IfOk r (λ rows. (t : State) → LeadsHere s t → rows ≡ rows_above after most t.rows)
rows_given s k after most (Ok rows) newest is = λ t e. is ∙ ap (rows_above after most) (newest_rows s k t newest e)
rows_given s k after most (Err e) newest is = tt

pub rows_kept : {E : Type 0} (s : States) (k : IsStates s) (after : Option Key) (most : ℕ) (r : Result (List Keyed) E) → IsNewest s → IfOk r (λ rows. rows ≡ rows_above after most s.newest) → IfOk r (AreRows after most)
rows_kept s k after most (Ok rows) newest is = subst (AreRows after most) (sym is) (newest_are s k after most newest)
rows_kept s k after most (Err e) newest is = tt

pub totals_here : (s : States) (k : IsStates s) (t : State) → LeadsHere s t → s.before.totals ≡ counts_in t
totals_here s k t e = k.totals_are ∙ ap counts_in (it_is_last s k t e)

-- ---- bytes

got_mapped : (xs : List KeptBlock) (n : ℕ) → slice_get (blocks_of xs) n ≡ option_map (λ k. k.block) (slice_get xs n)
got_mapped [] n = refl
got_mapped (x ∷ xs) zero = refl
got_mapped (x ∷ xs) (suc n) = got_mapped xs n

got_none : {A : Type 0} (xs : List A) (n : ℕ) → length xs ≤ n → slice_get xs n ≡ None
got_none [] n h = refl
got_none (x ∷ xs) zero h = absurd (omega (arith, h))
got_none (x ∷ xs) (suc n) h = got_none xs n (omega (arith, h))

before : (n : ℕ) → 0 < n → suc (n - 1) ≡ n
before n h = omega (arith, h)

-- what is at a place of the kept blocks spells the block of the round behind it
pub bytes_at : (s : States) (round : ℕ) (o : Option KeptBlock) → 0 < round → slice_get s.kept.items (round - 1) ≡ o → spelling_at (held s).blocks round ≡ string_of (option_map (λ k. k.block) o)
bytes_at s round o some at =
    ap (spelling_at (held s).blocks) (sym (before round some)) ∙ ap string_of (got_mapped s.kept.items (round - 1) ∙ ap (option_map (λ (k : KeptBlock). k.block)) at)

-- bytes that spell a block are its spelling
pub block_spelled : (bytes : List ℕ) (b : Block) → IsBlock bytes b → bytes ≡ block_string b
block_spelled bytes b is = sym (spells_only 16 (values.Map (block.write b)) bytes is.spells)

last_none : (a b : Option Fault) → first_of a b ≡ None → b ≡ None
last_none None b e = e
last_none (Some f) b e = cc

passed : (ok : Bool) (name : List ℕ) → unless_range ok name ≡ None → ok ≡ true
passed true name e = refl
passed false name e = cc

-- there are not too many of them
pub block_short : (bytes : List ℕ) (b : Block) → IsBlock bytes b → length bytes < 2 ^ 31
block_short bytes b is =
    let v = values.Map (block.write b) in
    let small : length bytes ≤ most_bytes = leb-true (length bytes) most_bytes (passed (nat_le (length bytes) most_bytes) _ (last_none (member_open block.fault (out-Val v)) (unless_range (nat_le (length bytes) most_bytes) _) is.sound)) in
    omega (arith, small)

module _ (s : States) (k : IsStates s) (round : ℕ) (some : 0 < round) where
  module _ (kept : KeptBlock) (within : round ≤ length (held s).blocks) (at : kept ≡ get_or s.kept.items (round - 1) kept) where
    inside : round - 1 < length s.kept.items
    inside = omega (arith, some, within, length-map s.kept.items (λ (x : KeptBlock). x.block))

    spelled_at : IsBlock kept.bytes.items kept.block
    spelled_at = subst (λ (x : KeptBlock). IsBlock x.bytes.items x.block) (sym at) (k.spelled (round - 1) kept inside)

    pub bytes_are : kept.bytes.items ≡ spelling_at (held s).blocks round
    bytes_are = block_spelled kept.bytes.items kept.block spelled_at ∙ sym (bytes_at s round (Some kept) some (slice_get_read s.kept.items (length s.kept.items) (round - 1) kept refl inside at))

    pub bytes_few : length kept.bytes.items < 2 ^ 31
    bytes_few = block_short kept.bytes.items kept.block spelled_at

  pub bytes_none : length (held s).blocks < round → ◌≡◌ {A = List ℕ} [] (spelling_at (held s).blocks round)
  bytes_none above = sym (bytes_at s round None some (got_none s.kept.items (round - 1) (omega (arith, some, above, length-map s.kept.items (λ (x : KeptBlock). x.block)))))
