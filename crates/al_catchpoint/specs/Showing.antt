-- What the states of a ledger show at a round.
use Rattle.std.specs.Prelude.{ℕ, zero, suc, List, [], map, take, refl, slice_get, Option, Some, None, Result, Ok, Err}
use Rattle.std.specs.Coded.{Coded, code_by, coded×, coded_ℕ, coded_list}
use Rattle.std.specs.FinMap as fin
use Rattle.al_base.specs.Keys.{key_cmp}
use Rattle.al_base.specs.contracts.key.Key as key
use Rattle.al_catch.specs.Catching.{Shown}
use Rattle.al_eval.specs.State.{State, counts_in, replay}
use Rattle.al_rewards.specs.Totals.{no_totals}
use Rattle.al_rewards.specs.contracts.totals.Totals as totals
use Rattle.al_rewards.specs.declared.totals.Totals.{Totals}
use Rattle.al_rows.specs.contracts.stored.Stored as stored
use Rattle.al_rows.specs.declared.stored.Stored.{Stored}
use Rattle.al_states.specs.Held.{Held}
use Rattle.al_states.specs.Spellings.{block_string}

-- the states that a catchpoint is written from: the rows and the totals after a round, the spellings of all blocks, and how often the round was overtaken
pub record Standing : Type 0 where
  pub rows : fin.FinMap key_cmp Stored
  pub totals : Totals
  pub blocks : List (List ℕ)
  pub round : ℕ
  pub overtaken : ℕ

-- how they are told apart
abbrev pub standing_code : Coded Standing
standing_code =
    code_by (fin.FinMap key_cmp Stored × (Totals × (List (List ℕ) × (ℕ × ℕ))))
    (coded× (fin.code key.the_row.coded stored.the_row.coded) (coded× totals.the_row.coded (coded× (coded_list (coded_list coded_ℕ)) (coded× coded_ℕ coded_ℕ))))
    (λ s. (s.rows, (s.totals, (s.blocks, (s.round, s.overtaken)))))
    (λ p. record { rows = p.0; totals = p.1.0; blocks = p.1.1.0; round = p.1.1.1.0; overtaken = p.1.1.1.1 })
    (λ _. refl)

-- the rows after a replay, none where it fails
abbrev pub rows_in : {F : Type 0} → Result State F → fin.FinMap key_cmp Stored
rows_in (Ok s) = s.rows
rows_in (Err e) = fin.empty

-- the totals after a replay
abbrev pub totals_in : {F : Type 0} → Result State F → Totals
totals_in (Ok s) = counts_in s
totals_in (Err e) = no_totals 0

-- the states at a round, which was overtaken so often
abbrev pub standing_at : Held → ℕ → ℕ → Standing
standing_at h round overtaken = record {
  rows = rows_in (replay h.origin (take round h.blocks));
  totals = totals_in (replay h.origin (take round h.blocks));
  blocks = map block_string h.blocks;
  round = round;
  overtaken = overtaken;
}

abbrev pub or_none : Option (List ℕ) → List ℕ
or_none None = []
or_none (Some bytes) = bytes

-- the spelling of the block of a round, from 1 on; no bytes where there is none
abbrev pub string_at : List (List ℕ) → ℕ → List ℕ
string_at blocks zero = []
string_at blocks (suc n) = or_none (slice_get blocks n)

-- what is known at the round
abbrev pub shown : Standing → Shown
shown s = record { rows = s.rows; totals = s.totals; block = λ round. string_at s.blocks round }
