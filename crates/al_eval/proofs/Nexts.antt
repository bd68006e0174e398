-- The rows after a block are those before with what it changes put over them.
use Rattle.std.proofs.Common.{◌≡◌, ℕ, refl, sym, ap, ◌∙◌, subst, Option, Some, None, Bool, true, false, option_map, if◌then◌else◌, map}
use Rattle.std.specs.FinMap.{FinMap, get, same_map}
use Rattle.al_base.specs.Keys.{key_cmp}
use Rattle.al_deltas.specs.declared.delta.RoundDelta.{RoundDelta}
use Rattle.al_deltas.specs.Queue.{after_delta, stored_at}
use Rattle.al_deltas.proofs.Queues.{get-after_delta}
use Rattle.al_rows.specs.declared.row.Row.{Row}
use Rattle.al_rows.specs.declared.stored.Stored.{Stored}
use Rattle.al_rows.specs.Finite.{or_below}
use Rattle.al_rows.specs.Rows.{RowMap, bare, row_eq, same_row}
use Rattle.al_rows.proofs.Keys.{keys_total, exact_keys}
use Rattle.al_rows.proofs.Maps.{get-map_entries}
use Rattle.al_rows.proofs.Sames.{row_true}
use Rattle.al_moves.specs.Changes.{AreChanges, change_of}
use Rattle.al_eval.specs.Sound.{RowsFollow}
use Rattle.al_eval.specs.State.{State, stamp, stamped, step}
use Rattle.al_eval.proofs.Chains.{bare_stamped, step_ok}
use Rattle.al_eval.proofs.Sounds.{due_of}

-- what a change leaves under one key is the row now, with the round of its last change
one : (round : ℕ) (o : Option Stored) (r : Option Row) → or_below (option_map (stored_at round) (if same_row (option_map (λ s. s.row) o) r then None else Some r)) o ≡ option_map (λ x. record { row = x; changed = stamp round o x }) r
one round None None = refl
one round None (Some r) = refl
one round (Some s) None = refl
one round (Some s) (Some r) = by_test (row_eq s.row r) refl
  where
    by_test : (b : Bool) → row_eq s.row r ≡ b → or_below (option_map (stored_at round) (if b then None else Some (Some r))) (Some s) ≡ Some (record { row = r; changed = if b then s.changed else round })
    by_test true e = ap (λ (x : Row). Some (record { row = x; changed = s.changed })) (row_true s.row r e)
    by_test false e = refl

-- the changes from the rows before to those now lead to the rows now, with their rounds
stamps : (d : RoundDelta) (m : FinMap key_cmp Stored) (n : RowMap) → AreChanges (bare m) n (map change_of d.changes) → after_delta d m ≡ stamped d.round m n
stamps d m n h = same_map keys_total exact_keys (after_delta d m) (stamped d.round m n) (λ q.
    get-after_delta d m q
    ∙ ap (λ o. or_below (option_map (stored_at d.round) o) (get m q)) (h.each q ∙ ap (λ o. if same_row o (get n q) then None else Some (get n q)) (get-map_entries exact_keys (λ k (s : Stored). s.row) m q))
    ∙ one d.round (get m q) (get n q)
    ∙ sym (get-map_entries exact_keys (λ k (x : Row). record { row = x; changed = stamp d.round (get m k) x }) n q))

pub rows_follow : RowsFollow
unfolding step
rows_follow s t b d is leads =
    let o = step_ok s t b (due_of s b) leads.stepped in
    let rows : t.rows ≡ stamped b.header.round s.rows o.0 = ap (λ (u : State). u.rows) (sym o.2) in
    let now : bare t.rows ≡ o.0 = ap bare rows ∙ bare_stamped b.header.round s.rows o.0 in
    rows
    ∙ ap (λ r. stamped r s.rows o.0) (sym is.round)
    ∙ sym (stamps d s.rows o.0 (subst (λ (m : RowMap). AreChanges (bare s.rows) m (map change_of d.changes)) now leads.rows))
