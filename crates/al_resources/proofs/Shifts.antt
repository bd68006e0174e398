-- Units that move, holdings that come and go: the rows stay sound, and no holding passes the most.
use Rattle.std.proofs.Common.{◌≡◌, ◌≤◌, ◌<◌, ◌+◌, ◌-◌, ◌^◌, ℕ, refl, sym, ap, ◌∙◌, subst, arith, Bool, true, false, not, ◌&&◌, if◌then◌else◌, nat_eq, nat_lt, eqb-true, eq-eqb, ltb-true, ltb-false, true≢false, is_none, Option, Some, None, Ok, Err}
use Rattle.std.proofs.lemmas.Bool.{and_parts}
use Rattle.std.specs.Cmp.{nat_eq_equiv}
use Rattle.std.specs.Cmp.Lexicographic.{nat_list_eq_equiv}
use Rattle.std.specs.FinMap.{get}
use Rattle.al_base.specs.declared.account.Special.{Special}
use Rattle.al_base.specs.declared.address.Address.{Address}
use Rattle.al_base.specs.declared.key.Key.TheVariants as key
use Rattle.al_rows.specs.declared.row.AssetRow.{AssetRow}
use Rattle.al_rows.specs.declared.row.Holding.{Holding}
use Rattle.al_rows.specs.Finite.{weight}
use Rattle.al_rows.specs.Rows.{HoldingInRange, RowMap, creator_of, no_address}
use Rattle.al_rows.proofs.Keys.{exact_keys, keys_total}
use Rattle.al_rows.proofs.Maps.{weight-le-total}
use Rattle.al_bodies.specs.declared.body.AssetMove.{AssetMove}
use Rattle.al_bodies.specs.declared.body.Freeze.{Freeze}
use Rattle.al_overlay.specs.Accounts.{same_address}
use Rattle.al_overlay.specs.Rules.{of_account, plain_rule, then_do, too_few}
use Rattle.al_resources.specs.Assets.{amount_in, asset, clawed_back, closed_from, closed_units, controls, frozen, frozen_as, give_units, given_from, is_creator, issued, max_units, moved_units, opted, opted_in, opts_in, sent, set_asset, take_units, taken_by, transferred, without_holding}
use Rattle.al_resources.specs.Kept.{Ends}
use Rattle.al_resources.specs.Sound.{holding_of}
use Rattle.al_resources.specs.declared.asset.Issued.{Issued}
use Rattle.al_resources.proofs.Issues.{holding_ranged, issued_most, issued_then, one_creator, params_ranged, there_held, there_issued}
use Rattle.al_resources.proofs.Owings.{After, IsThere, Owing, held_weighs, set_ends}
use Rattle.al_resources.proofs.Puts.{none_is}
use Rattle.al_resources.proofs.Steps.{ends_as, ends_if, ends_then}

-- what a move of units keeps and changes: the giver has less by the amount, unless it is the receiver
pub record Moved (counter id : ℕ) (from to : Address) (amount : ℕ) (m n : RowMap) : Type 0 where
  pub there : IsThere counter id m → IsThere counter id n
  pub left : (from ≡ to → amount ≡ 0) → amount_in (asset n from id).holding ≡ amount_in (asset m from id).holding - amount

at_id : (id n : ℕ) → (if nat_eq id id then n else 0) ≡ n
at_id id n = ap (λ b. if b then n else 0) (nat_eq_equiv.refl id)

-- a move to oneself that is not refused moves nothing
nothing_moves : (amount : ℕ) (who to : Address) → (not (nat_eq amount 0) && same_address to who) ≡ false → who ≡ to → amount ≡ 0
nothing_moves amount who to apart same = by_test (nat_eq amount 0) refl apart
  where
    by_test : (b : Bool) → nat_eq amount 0 ≡ b → (not b && same_address to who) ≡ false → amount ≡ 0
    by_test true e h = eqb-true amount 0 e
    by_test false e h = absurd (true≢false (sym (ap (λ (a : Address). same_address a who) (sym same) ∙ nat_list_eq_equiv.refl who.0) ∙ h))

module _ (level : ℕ) (special : Option Special) (start : RowMap) (counter id : ℕ) where
  abbrev Owes : ℕ → RowMap → Type 0
  Owes debt m = Owing level special start counter id debt m

  -- an account's holding is set
  holding_ends : (debt later : ℕ) (who : Address) (new : Option Holding) (m : RowMap) → Owes debt m → IsThere counter id m → HoldingInRange new → amount_in new + later ≡ amount_in (asset m who id).holding + debt
      → Ends (After level special start counter id later who (record (asset m who id) { holding = new }) m) (set_asset who id (record (asset m who id) { holding = new }) m)
  holding_ends debt later who new m rows there fits units =
      let low : counter ≤ counter = omega arith in
      set_ends level special start counter counter id debt later who (record (asset m who id) { holding = new }) m low rows there (record {
        params = params_ranged m who id rows.ranges;
        holding = fits;
        creators = one_creator counter m who id rows.resources;
        units = omega arith;
      })

  -- a holding and what is on its way are less than all that was issued
  held_few : (debt : ℕ) (who : Address) (m : RowMap) → Owes debt m → amount_in (asset m who id).holding + debt ≤ max_units
  held_few debt who m rows =
      let held : amount_in (asset m who id).holding ≡ weight (holding_of id) (key.Resource who id) (get m (key.Resource who id)) = sym (held_weighs id who id (get m (key.Resource who id)) ∙ at_id id (amount_in (asset m who id).holding)) in
      omega (arith, held, weight-le-total keys_total exact_keys (holding_of id) m (key.Resource who id), rows.holdings id, at_id id debt, issued_most counter id m rows.ranges rows.resources)

  -- ---- a move of units

  abbrev Given : Address → ℕ → RowMap → RowMap → Type 0
  Given from amount m n = Owes amount n × IsThere counter id n × (amount_in (asset n from id).holding ≡ amount_in (asset m from id).holding - amount)

  gives : (thawed : Bool) (from : Address) (amount : ℕ) (m : RowMap) → Owes 0 m → Ends (Given from amount m) (give_units thawed id from amount m)
  unfolding give_units
  gives thawed from amount m rows = by_holding (asset m from id).holding refl
    where
      less : (h : Holding) → (asset m from id).holding ≡ Some h → amount ≤ h.amount
          → Ends (Given from amount m) (set_asset from id (record (asset m from id) { holding = Some (record h { amount = h.amount - amount }) }) m)
      less h e few =
          let had : amount_in (asset m from id).holding ≡ h.amount = ap amount_in e in
          let old : h.amount < 2 ^ 64 = subst HoldingInRange e (holding_ranged m from id rows.ranges) in
          let new : Option Holding = Some (record h { amount = h.amount - amount }) in
          ends_as (After level special start counter id amount from (record (asset m from id) { holding = new }) m) (Given from amount m) (set_asset from id (record (asset m from id) { holding = new }) m)
          (λ n after. (after.rows, after.there, ap (λ (x : AssetRow). amount_in x.holding) after.here ∙ ap (λ z. z - amount) (sym had)))
          (holding_ends 0 amount from new m rows (there_held counter id m rows.resources from h e) (omega arith) (omega arith))

      by_holding : (o : Option Holding) → (asset m from id).holding ≡ o → Ends (Given from amount m) (given_from thawed id from amount (asset m from id) o m)
      by_holding None e = omega arith
      by_holding (Some h) e =
          ends_if (Given from amount m) (not thawed && h.frozen) (Err (of_account 51 from)) _ (λ _. omega arith)
          (λ _. ends_if (Given from amount m) (nat_lt h.amount amount) (Err (too_few 52 h.amount amount)) _ (λ _. omega arith)
          (λ t. less h e (ltb-false h.amount amount t)))

  abbrev Taken : Address → RowMap → RowMap → Type 0
  Taken to m n = Owes 0 n × IsThere counter id n × ((b : Address) → (b ≡ to → ⊥) → asset n b id ≡ asset m b id)

  takes : (thawed : Bool) (to : Address) (amount : ℕ) (m : RowMap) → Owes amount m → Ends (Taken to m) (take_units thawed id to amount m)
  unfolding take_units
  takes thawed to amount m rows = by_holding (asset m to id).holding refl
    where
      most : (h : Holding) → (asset m to id).holding ≡ Some h → h.amount + amount ≤ max_units
      most h e = let had : amount_in (asset m to id).holding ≡ h.amount = ap amount_in e in omega (arith, held_few amount to m rows)

      more : (h : Holding) → (asset m to id).holding ≡ Some h
          → Ends (Taken to m) (set_asset to id (record (asset m to id) { holding = Some (record h { amount = h.amount + amount }) }) m)
      more h e =
          let had : amount_in (asset m to id).holding ≡ h.amount = ap amount_in e in
          let few : h.amount + amount < 2 ^ 64 = omega (arith, most h e) in
          let new : Option Holding = Some (record h { amount = h.amount + amount }) in
          ends_as (After level special start counter id 0 to (record (asset m to id) { holding = new }) m) (Taken to m) (set_asset to id (record (asset m to id) { holding = new }) m)
          (λ n after. (after.rows, after.there, after.others))
          (holding_ends amount 0 to new m rows (there_held counter id m rows.resources to h e) few (omega arith))

      by_holding : (o : Option Holding) → (asset m to id).holding ≡ o → Ends (Taken to m) (taken_by thawed id to amount (asset m to id) o m)
      by_holding None e = omega arith
      by_holding (Some h) e =
          ends_if (Taken to m) (not thawed && h.frozen) (Err (of_account 51 to)) _ (λ _. omega arith)
          (λ _. ends_if (Taken to m) (nat_lt max_units (h.amount + amount)) (Err (of_account 53 to)) _
          (λ t. absurd (let over : max_units < h.amount + amount = ltb-true max_units (h.amount + amount) t in omega (arith, most h e)))
          (λ _. more h e))

  abbrev Moves : Address → Address → ℕ → RowMap → RowMap → Type 0
  Moves from to amount m n = Owes 0 n × Moved counter id from to amount m n

  moves_on : (from to : Address) (amount : ℕ) (m k n : RowMap) → nat_eq amount 0 ≡ false → Given from amount m k → Taken to k n → Moves from to amount m n
  moves_on from to amount m k n some given taken = (
    taken.0,
    record {
      there = λ _. taken.1;
      left = λ apart. ap (λ (x : AssetRow). amount_in x.holding) (taken.2 from (λ same. true≢false (sym (eq-eqb amount 0 (apart same)) ∙ some))) ∙ given.2;
    },
  )

  moves : (thawed : Bool) (from to : Address) (amount : ℕ) (m : RowMap) → Owes 0 m → Ends (Moves from to amount m) (moved_units thawed id from to amount m)
  unfolding moved_units
  moves thawed from to amount m rows =
      ends_if (Moves from to amount m) (nat_eq amount 0) (Ok m) (then_do (give_units thawed id from amount m) (λ n. take_units thawed id to amount n))
      (λ e. let none : amount ≡ 0 = eqb-true amount 0 e in (rows, record { there = λ h. h; left = λ _. omega arith }))
      (λ e. ends_then (Given from amount m) (Moves from to amount m) (give_units thawed id from amount m) (λ n. take_units thawed id to amount n) (gives thawed from amount m rows)
      (λ k given. ends_as (Taken to k) (Moves from to amount m) (take_units thawed id to amount k) (λ n taken. moves_on from to amount m k n e given taken) (takes thawed to amount k given.0)))

  -- ---- holdings that come and go

  drops : (who : Address) (m : RowMap) → Owes 0 m → IsThere counter id m → amount_in (asset m who id).holding ≡ 0 → Ends (Owes 0) (without_holding who id m)
  unfolding without_holding
  drops who m rows there none = ends_as (After level special start counter id 0 who (record (asset m who id) { holding = None }) m) (Owes 0) (set_asset who id (record (asset m who id) { holding = None }) m) (λ n after. after.rows)
      (holding_ends 0 0 who None m rows there tt (omega arith))

  closes : (who to : Address) (m : RowMap) → Owes 0 m → Ends (Owes 0) (closed_from who id to (asset m who id).holding m)
  closes who to m rows = by_holding (asset m who id).holding refl
    where
      closed : (h : Holding) → (asset m who id).holding ≡ Some h → (who ≡ to → h.amount ≡ 0) → Ends (Owes 0) (then_do (moved_units (is_creator to (creator_of m id)) id who to h.amount m) (λ n. without_holding who id n))
      closed h e apart =
          let had : amount_in (asset m who id).holding ≡ h.amount = ap amount_in e in
          ends_then (Moves who to h.amount m) (Owes 0) (moved_units (is_creator to (creator_of m id)) id who to h.amount m) (λ n. without_holding who id n)
          (moves (is_creator to (creator_of m id)) who to h.amount m rows)
          (λ n moved. drops who n moved.0 (moved.1.there (there_held counter id m rows.resources who h e)) (omega (arith, moved.1.left apart)))

      by_holding : (o : Option Holding) → (asset m who id).holding ≡ o → Ends (Owes 0) (closed_from who id to o m)
      by_holding None e = omega arith
      by_holding (Some h) e =
          ends_if (Owes 0) (is_creator who (creator_of m id)) (Err (plain_rule 54)) _ (λ _. omega arith)
          (λ _. ends_if (Owes 0) (not (nat_eq h.amount 0) && same_address to who) (Err (plain_rule 54)) _ (λ _. omega arith)
          (λ t. closed h e (nothing_moves h.amount who to t)))

  opens : (who : Address) (a : Issued) (m : RowMap) → Owes 0 m → IsThere counter id m → is_none (asset m who id).holding ≡ true → Ends (Owes 0) (opted who id a m)
  unfolding opted
  opens who a m rows there none =
      let nothing : Option Holding = Some (record { amount = 0; frozen = a.params.default_frozen }) in
      let had : amount_in (asset m who id).holding ≡ 0 = ap amount_in (none_is (asset m who id).holding none) in
      ends_as (After level special start counter id 0 who (record (asset m who id) { holding = nothing }) m) (Owes 0) (set_asset who id (record (asset m who id) { holding = nothing }) m) (λ n after. after.rows)
      (holding_ends 0 0 who nothing m rows there (omega arith) (omega arith))

  freezes : (who : Address) (frozen : Bool) (h : Holding) (m : RowMap) → Owes 0 m → (asset m who id).holding ≡ Some h
      → Ends (Owes 0) (set_asset who id (record (asset m who id) { holding = Some (record h { frozen = frozen }) }) m)
  freezes who frozen h m rows e =
      let new : Option Holding = Some (record h { frozen = frozen }) in
      let had : amount_in (asset m who id).holding ≡ h.amount = ap amount_in e in
      let few : h.amount < 2 ^ 64 = subst HoldingInRange e (holding_ranged m who id rows.ranges) in
      ends_as (After level special start counter id 0 who (record (asset m who id) { holding = new }) m) (Owes 0) (set_asset who id (record (asset m who id) { holding = new }) m) (λ n after. after.rows)
      (holding_ends 0 0 who new m rows (there_held counter id m rows.resources who h e) few (omega arith))

-- ---- transfers

module _ (level : ℕ) (special : Option Special) (start : RowMap) (counter : ℕ) (who : Address) (t : AssetMove) where
  abbrev Stays : RowMap → Type 0
  Stays m = Owing level special start counter t.asset 0 m

  opts : (m : RowMap) → Stays m → Ends Stays (opted_in who t m)
  unfolding opted_in
  opts m rows =
      ends_if Stays (opts_in who t m) (then_do (issued t.asset m) (λ a. opted who t.asset a m)) (Ok m)
      (λ e. issued_then Stays t.asset m (λ a. opted who t.asset a m)
      (λ a is. opens level special start counter t.asset who a m rows (there_issued counter t.asset m rows.resources a is) (and_parts (nat_eq t.amount 0 && same_address t.receiver who) (is_none (asset m who t.asset).holding) e).1))
      (λ _. rows)

  moves_units : (thawed : Bool) (from to : Address) (m : RowMap) → Stays m → Ends Stays (moved_units thawed t.asset from to t.amount m)
  moves_units thawed from to m rows = ends_as (λ n. Stays n × Moved counter t.asset from to t.amount m n) Stays (moved_units thawed t.asset from to t.amount m) (λ n moved. moved.0)
      (moves level special start counter t.asset thawed from to t.amount m rows)

  closes_units : (m : RowMap) → Stays m → Ends Stays (closed_units who t m)
  unfolding closed_units
  closes_units m rows = ends_if Stays (same_address t.close no_address) (Ok m) (closed_from who t.asset t.close (asset m who t.asset).holding m) (λ _. rows) (λ _. closes level special start counter t.asset who t.close m rows)

  sends : (m : RowMap) → Stays m → Ends Stays (sent who t m)
  unfolding sent
  sends m rows =
      ends_then Stays Stays (opted_in who t m) (λ n. then_do (moved_units false t.asset who t.receiver t.amount n) (λ k. closed_units who t k)) (opts m rows)
      (λ n opted. ends_then Stays Stays (moved_units false t.asset who t.receiver t.amount n) (λ k. closed_units who t k) (moves_units false who t.receiver n opted)
      (λ k moved. closes_units k moved))

  claws : (m : RowMap) → Stays m → Ends Stays (clawed_back who t m)
  unfolding clawed_back
  claws m rows = issued_then Stays t.asset m (λ a. if controls who a.params.clawback then moved_units true t.asset t.source t.receiver t.amount m else Err (plain_rule 49))
      (λ a _. ends_if Stays (controls who a.params.clawback) (moved_units true t.asset t.source t.receiver t.amount m) (Err (plain_rule 49)) (λ _. moves_units true t.source t.receiver m rows) (λ _. omega arith))

  pub transfers : (m : RowMap) → Stays m → Ends Stays (transferred who t m)
  unfolding transferred
  transfers m rows = ends_if Stays (same_address t.source no_address) (sent who t m) (clawed_back who t m) (λ _. sends m rows) (λ _. claws m rows)

-- ---- freezes

module _ (level : ℕ) (special : Option Special) (start : RowMap) (counter : ℕ) (who : Address) (f : Freeze) where
  abbrev Holds : RowMap → Type 0
  Holds m = Owing level special start counter f.asset 0 m

  freezes_as : (m : RowMap) → Holds m → (o : Option Holding) → (asset m f.account f.asset).holding ≡ o → Ends Holds (frozen_as f (asset m f.account f.asset) o m)
  freezes_as m rows None e = omega arith
  freezes_as m rows (Some h) e = freezes level special start counter f.asset f.account f.frozen h m rows e

  pub freezes_holding : (m : RowMap) → Holds m → Ends Holds (frozen who f m)
  unfolding frozen
  freezes_holding m rows = issued_then Holds f.asset m (λ a. if controls who a.params.freeze then frozen_as f (asset m f.account f.asset) (asset m f.account f.asset).holding m else Err (plain_rule 55))
      (λ a _. ends_if Holds (controls who a.params.freeze) (frozen_as f (asset m f.account f.asset) (asset m f.account f.asset).holding m) (Err (plain_rule 55))
      (λ _. freezes_as m rows (asset m f.account f.asset).holding refl) (λ _. omega arith))
