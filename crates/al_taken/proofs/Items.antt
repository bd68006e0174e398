-- A generated transaction passes over the rows behind those before it.
use Rattle.std.proofs.Common.{◌≡◌, ◌∙◌, ◌≤◌, ◌+◌, ℕ, refl, sym, ap, subst, arith, List, Option, Some, None, Bool, true, false, ◌||◌, if◌then◌else◌, true≢false, inl, inr, nat_lt, le-ltb}
use Rattle.std.specs.Option.{option_or}
use Rattle.al_base.specs.declared.account.Special.{Special}
use Rattle.al_base.specs.declared.address.Address.{Address}
use Rattle.al_generator.specs.Items.{body_of, effects_of, item_of, payment, txn_of}
use Rattle.al_generator.specs.declared.turns.Action.{Action}
use Rattle.al_generator.specs.declared.turns.Action.TheVariants as acts
use Rattle.al_generator.specs.declared.turns.Made.{Made}
use Rattle.al_rows.specs.Rows.{RowMap}
use Rattle.al_txn.specs.Ids.{txid_of}
use Rattle.al_txn.specs.declared.chain.Chain.{Chain}
use Rattle.al_overlay.specs.declared.rule.Rule.{Rule}
use Rattle.al_overlay.specs.Rules.{plain_rule, then_do, unless_refused}
use Rattle.al_overlay.specs.Accounts.{moved, same_address}
use Rattle.al_moves.specs.Minimum.{checked}
use Rattle.al_moves.specs.Pay.{paid, rekeyed}
use Rattle.al_moves.specs.Resources.{app_account}
use Rattle.al_moves.proofs.Monies.{same_itself}
use Rattle.al_tail.specs.declared.tail.Entry.{Entry}
use Rattle.al_tail.specs.Past.{entry_of, has_id}
use Rattle.al_eval.specs.Body.{Context, done_by}
use Rattle.al_eval.specs.Items.{applied, id_fault, item_fault, lease_fault, transacted, window_fault}
use Rattle.al_taken.proofs.Standings.{Passes, is_special, is_user, moved_passes, passes_then}
use Rattle.al_taken.proofs.Minimums.{checked_passes}
use Rattle.al_taken.proofs.AllHere.{AllHere, Known, boxes_most, all_here_calm}
use Rattle.al_taken.proofs.Bodies.{Fits, Ready, charged, create_asset, few_at, go_offline, go_online, later, most, pay_user}
use Rattle.al_taken.proofs.Calls.{create_app, opts, pay_app, puts_box}
use Rattle.al_taken.proofs.Events.{Asks, Makes, next_known}

-- ---- before it changes anything

two_none : {A : Type 0} (o p : Option A) → o ≡ None → p ≡ None → option_or o p ≡ None
two_none o p e f = ap (λ x. option_or x p) e ∙ f

window_none : (round : ℕ) → (if nat_lt round round then Some (plain_rule 32) else if nat_lt (round + 10) round then Some (plain_rule 33) else None) ≡ None
window_none round =
    ap (λ (b : Bool). if b then Some (plain_rule 32) else if nat_lt (round + 10) round then Some (plain_rule 33) else None) (le-ltb round round (omega arith))
    ∙ ap (λ (b : Bool). if b then Some (plain_rule 33) else None) (le-ltb (round + 10) round (omega arith))

item_none : (round : ℕ) (hash : List ℕ) (past : List Entry) (m : Made) → has_id round (txid_of (txn_of round hash m)) past ≡ false → item_fault round past (item_of round hash m) ≡ None
unfolding item_fault
item_none round hash past m fresh =
    two_none (window_fault round (txn_of round hash m)) (option_or (id_fault round past (entry_of (txn_of round hash m))) (lease_fault round past (entry_of (txn_of round hash m)))) (window_none round)
    (two_none (id_fault round past (entry_of (txn_of round hash m))) (lease_fault round past (entry_of (txn_of round hash m))) (ap (λ (b : Bool). if b then Some (plain_rule 30) else None) fresh) refl)

-- ---- the transaction

-- sink and pool are no users
pub record IsOurs (c : Chain) : Type 0 where
  pub sink : is_user c.special.sink ≡ false
  pub pool : is_user c.special.pool ≡ false

sink_special : (s : Special) → is_special s s.sink ≡ true
sink_special s = ap (λ (b : Bool). b || same_address s.sink s.pool) (same_itself s.sink)

-- what its body does
body_passes : (s : Special) (k : Known) (boxes : ℕ) (few : k.count + 1 ≤ 800000) (level round : ℕ) (hash : List ℕ) (made : Made) (action : Action) (m : RowMap) → is_user made.sender ≡ true → Asks k action
    → ((app : ℕ) → app ≤ k.count + 1 → is_special s (app_account app) ≡ false) → Ready s k boxes few m
    → Passes (Fits s (next_known k action)) (done_by (body_of round made.sender action) (record { level = level; round = round; next = k.count + 1; item = record { txn = txn_of round hash made; effects = effects_of action } }) m)
body_passes s k boxes few level round hash made (acts.Pay receiver amount) m is (inl a) apart h = pay_user s k boxes few level made.sender receiver amount m is a.0 a.1 a.2 h
body_passes s k boxes few level round hash made (acts.Pay receiver amount) m is (inr a) apart h =
    subst (λ (r : Address). Passes (Fits s (next_known k (acts.Pay receiver amount))) (paid level made.sender (payment r amount) m)) (sym a.4)
    (subst (λ (n : ℕ). Passes (Fits s (next_known k (acts.Pay receiver amount))) (paid level made.sender (payment (app_account a.0) n) m)) (sym a.5)
    (pay_app s k boxes few level made.sender a.0 m is a.2 a.3 h))
body_passes s k boxes few level round hash made acts.CreateAsset m is a apart h = create_asset s k boxes few made.sender m is h
body_passes s k boxes few level round hash made (acts.OptIn asset) m is a apart h = opts s k boxes few made.sender asset m is a.2 h
body_passes s k boxes few level round hash made acts.GoOnline m is a apart h = go_online s k boxes few round made.sender m is h
body_passes s k boxes few level round hash made acts.GoOffline m is a apart h = go_offline s k boxes few round made.sender m is h
body_passes s k boxes few level round hash made acts.CreateApp m is a apart h = create_app s k boxes few level made.sender m is h
body_passes s k boxes few level round hash made (acts.PutBox app name) m is a apart h = puts_box s k boxes few level made.sender app name m a.2 a.3 a.4 (apart app (omega (arith, a.1))) h

pub next_count : (k : Known) (a : Action) → (next_known k a).count ≡ k.count + 1
next_count k (acts.Pay receiver amount) = refl
next_count k acts.CreateAsset = refl
next_count k (acts.OptIn asset) = refl
next_count k acts.GoOnline = refl
next_count k acts.GoOffline = refl
next_count k acts.CreateApp = refl
next_count k (acts.PutBox app name) = refl

module _ (c : Chain) (ours : IsOurs c) (k : Known) (few : k.count + 1 ≤ 800000) (level round : ℕ) (made : Made) (makes : Makes k made) (apart : (app : ℕ) → app ≤ k.count + 1 → is_special c.special (app_account app) ≡ false) where
  abbrev here : Context
  here = record { level = level; round = round; next = k.count + 1; item = item_of round c.hash made }

  applied_passes : (m : RowMap) → Fits c.special k m → Passes (Fits c.special (next_known k made.action)) (applied c here m)
  unfolding applied rekeyed
  applied_passes m fits =
      let s = c.special in
      let R : RowMap → Type 0 = Ready s k fits.boxes few in
      let P : RowMap → Type 0 = Fits s (next_known k made.action) in
      let n = next_count k made.action in
      passes_then R P (moved level made.sender s.sink 1000 m) (λ a. then_do (done_by (body_of round made.sender made.action) here a) (λ d. checked level s m d))
      (moved_passes s k.app (AllHere k fits.boxes) (all_here_calm k fits.boxes) (most k fits.boxes) level made.sender s.sink 1000 m makes.sender
      (few_at (later k) (charged s k fits.boxes few) few (omega arith) (omega arith) (boxes_most k fits.boxes m fits.all_here))
      (λ _ off. absurd (true≢false (sym (sink_special s) ∙ off))) (fits.stands, fits.all_here))
      (λ a ready. passes_then P P (done_by (body_of round made.sender made.action) here a) (λ d. checked level s m d)
      (body_passes s k fits.boxes few level round c.hash made made.action a makes.sender makes.asks apart ready)
      (λ d f. checked_passes s (next_known k made.action).app (most (next_known k made.action) f.boxes) P level m d
      (few_at (next_known k made.action) (most (next_known k made.action) f.boxes) (omega (arith, n)) (omega arith) (omega arith) (boxes_most (next_known k made.action) f.boxes d f.all_here)) f.stands f))

  pub transacted_passes : (past : List Entry) (m : RowMap) → has_id round (txid_of (txn_of round c.hash made)) past ≡ false → Fits c.special k m → Passes (Fits c.special (next_known k made.action)) (transacted c past here m)
  unfolding transacted
  transacted_passes past m fresh fits =
      subst (λ (o : Option Rule). Passes (Fits c.special (next_known k made.action)) (then_do (unless_refused o m) (λ n. applied c here n))) (sym (item_none round c.hash past made fresh)) (applied_passes m fits)
