-- What a block's changes lead to, that its transactions make or lose no money, and how it comes to what is due.
use Rattle.std.proofs.Common.{◌≡◌, refl, sym, ap, ◌∙◌, ℕ, ◌++◌, Result, Ok, Err, Option, Some, None, Bool, true, false, if◌then◌else◌, option_map, map}
use Rattle.std.specs.FinMap.{FinMap, get, same_map}
use Rattle.al_base.specs.Keys.{key_cmp}
use Rattle.al_block.specs.declared.block.Block.{Block}
use Rattle.al_rewards.specs.Totals.{all_units}
use Rattle.al_rows.specs.declared.row.Row.{Row}
use Rattle.al_rows.specs.declared.stored.Stored.{Stored}
use Rattle.al_rows.specs.Finite.{overlaid, or_below}
use Rattle.al_rows.specs.Rows.{RowMap, same_row, bare}
use Rattle.al_rows.proofs.Keys.{keys_total, exact_keys}
use Rattle.al_rows.proofs.Maps.{get-map_entries}
use Rattle.al_rows.proofs.Sames.{same_true}
use Rattle.al_overlay.specs.Rules.{then_do}
use Rattle.al_overlay.proofs.Overlays.{get-now}
use Rattle.al_tail.specs.Past.{entry_of}
use Rattle.al_eval.specs.Refusals.{Refusal}
use Rattle.al_eval.specs.Steps.{block_rows}
use Rattle.al_eval.specs.State.{State, before_of, counts_in, after, stamp, stamped, step, ChangesLead}

-- ---- the changes lead to the new rows

under : (b : Bool) (o p : Option Row) → (b ≡ true → o ≡ p) → or_below (if b then None else Some p) o ≡ p
under true o p h = h refl
under false o p h = refl

pub changes_lead : ChangesLead
changes_lead m n cs h = same_map keys_total exact_keys (overlaid cs m) n (λ q.
    get-now cs m q ∙ ap (λ o. or_below o (get m q)) (h.each q) ∙ under (same_row (get m q) (get n q)) (get m q) (get n q) (same_true (get m q) (get n q)))

rows_back : (o : Option Row) (f : Row → Stored) → ((r : Row) → (f r).row ≡ r) → option_map (λ s. s.row) (option_map f o) ≡ o
rows_back None f h = refl
rows_back (Some r) f h = ap Some (h r)

-- the rows of the new state are those
pub bare_stamped : (round : ℕ) (old : FinMap key_cmp Stored) (now : RowMap) → bare (stamped round old now) ≡ now
bare_stamped round old now = same_map keys_total exact_keys (bare (stamped round old now)) now (λ q.
    get-map_entries exact_keys (λ k (s : Stored). s.row) (stamped round old now) q
    ∙ ap (option_map (λ (s : Stored). s.row)) (get-map_entries exact_keys (λ k (r : Row). record { row = r; changed = stamp round (get old k) r }) now q)
    ∙ rows_back (get now q) (λ r. record { row = r; changed = stamp round (get old q) r }) (λ _. refl))

-- ---- steps

-- a step that is taken, or refused, is that of its rows
pub step_ok : (s t : State) (b : Block) (due : Result RowMap Refusal) → then_do due (λ m. Ok (after s b m)) ≡ Ok t → (n : RowMap) × (due ≡ Ok n) × (after s b n ≡ t)
step_ok s t b (Ok n) e = (n, refl, (let x : ◌≡◌ {A = Result State Refusal} (Ok (after s b n)) (Ok t) = e in let y : after s b n ≡ t = cc in y))
step_ok s t b (Err r) e = absurd (let x : ◌≡◌ {A = Result State Refusal} (Err r) (Ok t) = e in cc)

pub step_err : (s : State) (b : Block) (due : Result RowMap Refusal) (r : Refusal) → then_do due (λ m. Ok (after s b m)) ≡ Err r → due ≡ Err r
step_err s b (Ok n) r e = absurd (let x : ◌≡◌ {A = Result State Refusal} (Ok (after s b n)) (Err r) = e in cc)
step_err s b (Err q) r e = let x : ◌≡◌ {A = Result State Refusal} (Err q) (Err r) = e in let y : q ≡ r = cc in ap Err y

-- what else a block leaves
pub after_step : (s t : State) (b : Block) → step s b ≡ Ok t → (t.header ≡ b.header) × (t.chain ≡ s.chain) × (t.past ≡ s.past ++ map (λ i. i.txn) b.items)
unfolding step
after_step s t b e =
    let h = step_ok s t b (block_rows (before_of s) (all_units (counts_in s)) (map entry_of s.past) b (bare s.rows)) e in
    (ap (λ (u : State). u.header) (sym h.2), ap (λ (u : State). u.chain) (sym h.2), ap (λ (u : State). u.past) (sym h.2))
