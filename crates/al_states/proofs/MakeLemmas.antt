-- The block that comes next is made of the state after the last one.
use Rattle.std.proofs.Common.{◌≡◌, ◌+◌, ◌-◌, ◌≤◌, ◌<◌, ◌^◌, ℕ, List, [], length, min, take, sym, ap, ap₂, ◌∙◌, arith, Ok, Result, Option, option_map}
use Rattle.std.specs.FinMap.{get}
use Rattle.std.proofs.lemmas.List.{take_all}
use Rattle.al_base.specs.declared.address.Address.{Address}
use Rattle.al_base.specs.declared.account.Status.TheVariants.{Offline, Online}
use Rattle.al_base.specs.declared.key.Key.TheVariants as keys
use Rattle.al_block.specs.declared.block.Block.{Block}
use Rattle.al_block.specs.Hashes.{header_hash_of, payset_hash_of}
use Rattle.al_eval.specs.Pool.{rewards_of}
use Rattle.al_eval.specs.State.{State, counts_in, replay, row_at, row_in}
use Rattle.al_eval.specs.Steps.{Refusal}
use Rattle.al_moves.specs.Money.{money}
use Rattle.al_moves.specs.Totals.{counts}
use Rattle.al_moves.proofs.Counts.{money_by, money_counted, total-le, units_by, units_within}
use Rattle.al_rewards.specs.Next.{next_rewards}
use Rattle.al_rewards.specs.Totals.{all_units}
use Rattle.al_rewards.specs.declared.state.RewardsState.{RewardsState}
use Rattle.al_rewards.specs.declared.totals.Totals.{Totals}
use Rattle.al_rows.specs.declared.row.Row.{Row}
use Rattle.al_rows.specs.declared.stored.Stored.{Stored}
use Rattle.al_rows.specs.Limits.{max_balance}
use Rattle.al_rows.specs.Rows.{RowMap, account, account_in, bare}
use Rattle.al_rows.proofs.Maps.{get-map_entries}
use Rattle.al_rows.proofs.Keys.{exact_keys}
use Rattle.al_txn.specs.declared.txn.Item.{Item}
use Rattle.al_states.specs.declared.states.States.{States}
use Rattle.al_states.specs.Due.{due_block, next_due}
use Rattle.al_states.specs.Keeping.{IsStates, held}
use Rattle.al_states.proofs.KeepLemmas.{last_state, led_to_last}
use Rattle.al_states.proofs.SoundLemmas.{last_consistent}

-- the blocks that are held lead to one state
abbrev pub LeadsHere : States → State → Type 0
LeadsHere s t = replay (held s).origin (held s).blocks ≡ Ok t

one_ok : (s t : State) (r : Result State Refusal) → r ≡ Ok s → r ≡ Ok t → s ≡ t
one_ok s t r a b = (let e : ◌≡◌ {A = Result State Refusal} (Ok s) (Ok t) = sym a ∙ b in cc)

pub it_is_last : (s : States) (k : IsStates s) (t : State) → LeadsHere s t → last_state s k ≡ t
it_is_last s k t e = one_ok (last_state s k) t (replay (held s).origin (held s).blocks) (led_to_last s k) e

-- ---- the pool

bare_row : (t : State) (who : Address) → get (bare t.rows) (keys.Account who) ≡ option_map (λ (x : Stored). x.row) (get t.rows (keys.Account who))
bare_row t who = get-map_entries exact_keys (λ k (x : Stored). x.row) t.rows (keys.Account who)

-- the row of the pool after the last block has its balance
pub pool_is : (s : States) (k : IsStates s) (n : ℕ) (row : Option Row) (t : State) → n ≡ length (held s).blocks
    → row ≡ option_map (λ x. x.row) (row_at (held s).origin (held s).blocks n (keys.Account s.before.chain.special.pool)) → LeadsHere s t
    → (account_in row).balance ≡ (account (bare t.rows) t.chain.special.pool).balance
pool_is s k n row t at found e =
    let pool = s.before.chain.special.pool in
    let bs = (held s).blocks in
    let whole : take n bs ≡ bs = ap (λ m. take m bs) at ∙ take_all (length bs) bs (omega arith) in
    let then : row_at (held s).origin bs n (keys.Account pool) ≡ get t.rows (keys.Account pool) = ap (λ xs. row_in (keys.Account pool) (replay (held s).origin xs)) whole ∙ ap (row_in (keys.Account pool)) e in
    ap (λ r. (account_in r).balance) (found ∙ ap (option_map (λ (x : Stored). x.row)) then ∙ sym (bare_row t pool))
    ∙ ap (λ (x : State). (account (bare t.rows) x.chain.special.pool).balance) (it_is_last s k t e)

-- ---- the units

few_units : (level : ℕ) (m : RowMap) → money level m ≤ max_balance → min (all_units (counts level m)) (2 ^ 64 - 1) ≡ all_units (counts level m)
unfolding counts
few_units level m l =
    let online = total-le (units_by Online) (money_by level Online) m (λ k r. units_within level Online r) in
    let offline = total-le (units_by Offline) (money_by level Offline) m (λ k r. units_within level Offline r) in
    omega (arith, money_counted level m)

units_are : (s : States) (k : IsStates s) → min (all_units s.before.totals) (2 ^ 64 - 1) ≡ all_units (counts_in (last_state s k))
units_are s k = ap (λ (t : Totals). min (all_units t) (2 ^ 64 - 1)) k.totals_are ∙ few_units s.before.header.level (bare (last_state s k).rows) (last_consistent s k).money

-- the rewards that are due, by the units and the pool's balance
pub due_is : (s : States) (k : IsStates s) (units pool : ℕ) (r : RewardsState) (t : State) → units ≡ min (all_units s.before.totals) (2 ^ 64 - 1) → ((u : State) → LeadsHere s u → pool ≡ (account (bare u.rows) u.chain.special.pool).balance)
    → r ≡ next_rewards (rewards_of s.before.header) (s.before.header.round + 1) s.before.chain.interval pool units → LeadsHere s t → r ≡ next_due t
due_is s k units pool r t u p e at =
    let last = last_state s k in
    let due : ℕ → ℕ → RewardsState = λ n m. next_rewards (rewards_of s.before.header) (s.before.header.round + 1) s.before.chain.interval m n in
    e ∙ ap (λ n. due n pool) (u ∙ units_are s k) ∙ ap (due (all_units (counts_in last))) (p last (led_to_last s k)) ∙ ap next_due (it_is_last s k t at)

-- ---- the header

-- it is the last state's
pub few_rounds : (s : States) (k : IsStates s) → ((t : State) → LeadsHere s t → t.header.round < 2 ^ 62) → s.before.header.round < 2 ^ 62
few_rounds s k h = h (last_state s k) (led_to_last s k)

-- what is due over the last state is due over the state that the blocks lead to
pub block_is : (s : States) (k : IsStates s) (ts len : ℕ) (items : List Item) (due : RewardsState) (payset : List ℕ) (expired : List Address) (t : State) → ((u : State) → LeadsHere s u → due ≡ next_due u) → len ≡ length items → payset ≡ payset_hash_of items → expired ≡ [] → LeadsHere s t
    → ◌≡◌ {A = Block} (record {
      header = record {
        round = s.before.header.round + 1;
        prev = s.before.hash;
        ts = ts;
        genesis_hash = s.before.chain.hash;
        sink = s.before.chain.special.sink;
        pool = s.before.chain.special.pool;
        level = due.level;
        rate = due.rate;
        residue = due.residue;
        recalc = due.recalc;
        counter = s.before.header.counter + len;
        payset = payset;
        expired = expired;
      };
      items = items;
    }) (due_block t ts items)
block_is s k ts len items due payset expired t d n p none at =
    let last = last_state s k in
    let make : List ℕ → RewardsState → ℕ → List ℕ → List Address → Block = λ prev r m h x. record {
      header = record {
        round = s.before.header.round + 1;
        prev = prev;
        ts = ts;
        genesis_hash = s.before.chain.hash;
        sink = s.before.chain.special.sink;
        pool = s.before.chain.special.pool;
        level = r.level;
        rate = r.rate;
        residue = r.residue;
        recalc = r.recalc;
        counter = s.before.header.counter + m;
        payset = h;
        expired = x;
      };
      items = items;
    } in
    ap (λ x. make x due len payset expired) k.hash_is
    ∙ ap (λ x. make (header_hash_of s.before.header) x len payset expired) (d last (led_to_last s k))
    ∙ ap₂ (λ m h. make (header_hash_of s.before.header) (next_due last) m h expired) n p
    ∙ ap (make (header_hash_of s.before.header) (next_due last) (length items) (payset_hash_of items)) none
    ∙ ap (λ x. due_block x ts items) (it_is_last s k t at)
