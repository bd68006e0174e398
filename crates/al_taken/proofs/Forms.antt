-- A generated transaction, in no group, breaks no rule of form and pays its fee.
use Rattle.std.proofs.Common.{◌≡◌, ◌∙◌, ◌≤◌, ◌+◌, ◌-◌, ◌*◌, ℕ, refl, sym, ap, subst, arith, List, [], ◌∷◌, length, Option, Some, None, Bool, true, false, not, ◌&&◌, ◌||◌, if◌then◌else◌, true≢false, nat_eq, nat_lt, sum_by, le-ltb}
use Rattle.std.specs.Option.{option_map, option_or}
use Rattle.std.specs.Cmp.Lexicographic.{nat_list_eq_equiv}
use Rattle.al_base.specs.Keys.{number_bytes}
use Rattle.al_base.specs.declared.address.Address.{Address}
use Rattle.al_base.proofs.KeyLemmas.{length-number_bytes}
use Rattle.al_generator.specs.Items.{body_of, effects_of, item_of, txn_of}
use Rattle.al_generator.specs.declared.turns.Action.{Action}
use Rattle.al_generator.specs.declared.turns.Action.TheVariants as acts
use Rattle.al_generator.specs.declared.turns.Made.{Made}
use Rattle.al_rows.specs.Rows.{no_address}
use Rattle.al_txn.specs.Form.{address_eq, body_tests, call_tests, common_tests, config_tests, first_broken, form_fault, keyreg_tests, move_tests, tests_of}
use Rattle.al_txn.specs.declared.chain.Chain.{Chain}
use Rattle.al_txn.specs.declared.txn.Item.{Item}
use Rattle.al_overlay.specs.Rules.{plain_rule, too_few}
use Rattle.al_rewards.specs.Totals.{capped}
use Rattle.al_overlay.specs.declared.rule.Rule.{Rule}
use Rattle.al_eval.specs.Groups.{entered, first_at, group_fault, pool_fault, size_of}
use Rattle.al_bodies.specs.Effect.{inner_in}
use Rattle.al_taken.proofs.Standings.{is_user}
use Rattle.al_taken.proofs.AllHere.{Known}
use Rattle.al_taken.proofs.Events.{Asks, Makes}
use Rattle.al_taken.proofs.Items.{IsOurs}
use Rattle.std.specs.Cmp.Lexicographic.{same_text}

-- a user is nobody else
apart_from : (a b : Address) → is_user a ≡ true → is_user b ≡ false → address_eq a b ≡ false
apart_from a b is off = by_test (address_eq a b) refl
  where
    by_test : (t : Bool) → address_eq a b ≡ t → t ≡ false
    by_test false e = refl
    by_test true e = absurd (true≢false (sym is ∙ ap is_user (let same : a ≡ b = ap (λ (x : List ℕ). record { 0 = x }) (same_text a.0 b.0 (sym e)) in same) ∙ off))

nobody : is_user no_address ≡ false
unfolding is_user
nobody = refl

apart_to : (a b : Address) → is_user a ≡ false → is_user b ≡ true → address_eq a b ≡ false
apart_to a b off is = by_test (address_eq a b) refl
  where
    by_test : (t : Bool) → address_eq a b ≡ t → t ≡ false
    by_test false e = refl
    by_test true e = absurd (true≢false (sym is ∙ sym (ap is_user (let same : a ≡ b = ap (λ (x : List ℕ). record { 0 = x }) (same_text a.0 b.0 (sym e)) in same)) ∙ off))

-- ---- tests that pass

abbrev AllPass : List (ℕ × Bool) → Type 0
AllPass [] = Unit {0}
AllPass (t ∷ ts) = (t.1 ≡ false) × AllPass ts

none_broken : (ts : List (ℕ × Bool)) → AllPass ts → first_broken ts ≡ None
none_broken [] h = refl
none_broken (t ∷ ts) h = ap (λ (b : Bool). if b then Some t.0 else first_broken ts) h.0 ∙ none_broken ts h.1

first_off : (a b : Bool) → a ≡ false → (a && b) ≡ false
first_off true b e = absurd (true≢false e)
first_off false b e = refl

both_off : (a b : Bool) → a ≡ false → b ≡ false → (a || b) ≡ false
both_off true b e f = absurd (true≢false e)
both_off false b e f = f

some_number : (n : ℕ) → 1 ≤ n → nat_eq n 0 ≡ false
some_number n l = grind arith

module _ (c : Chain) (ours : IsOurs c) (k : Known) (round : ℕ) (made : Made) (makes : Makes k made) where
  common_pass : AllPass (common_tests (txn_of round c.hash made) c)
  unfolding common_tests
  common_pass = (
    apart_from made.sender no_address makes.sender nobody,
    (
      apart_from made.sender c.special.pool makes.sender ours.pool,
      (
        le-ltb (round + 10) round (omega arith),
        (
          le-ltb 1000 (round + 10 - round) (omega arith),
          (
            le-ltb 1024 (length (number_bytes made.number)) (omega (arith, length-number_bytes made.number)),
            (
              ap not (nat_list_eq_equiv.refl c.hash),
              (
                refl,
                (first_off _ _ (apart_from made.sender c.special.sink makes.sender ours.sink), tt),
              ),
            ),
          ),
        ),
      ),
    ),
  )

  body_pass : (action : Action) → Asks k action → AllPass (tests_of (record { txn = txn_of round c.hash made; effects = effects_of action }) (body_of round made.sender action))
  unfolding keyreg_tests config_tests move_tests call_tests
  body_pass (acts.Pay receiver amount) a = (apart_to no_address made.sender nobody makes.sender, tt)
  body_pass acts.CreateAsset a = (refl, (refl, (refl, (refl, tt))))
  body_pass (acts.OptIn asset) a = (some_number asset a.0, (refl, tt))
  body_pass acts.GoOnline a = (both_off _ _ (le-ltb (round + 1000) round (omega arith)) (le-ltb 16777215 (round + 1000 - round) (omega arith)), (refl, (refl, (refl, (le-ltb (round + 10 + 1) round (omega arith), tt)))))
  body_pass acts.GoOffline a = (refl, (refl, (refl, (refl, (refl, tt)))))
  body_pass acts.CreateApp a = (refl, (refl, tt))
  body_pass (acts.PutBox app name) a = (first_off _ _ (some_number app a.0), (refl, tt))

  formed : form_fault (item_of round c.hash made) c ≡ None
  unfolding body_tests
  formed = ap (λ o. option_or o (first_broken (body_tests (item_of round c.hash made)))) (none_broken (common_tests (txn_of round c.hash made) c) common_pass) ∙ none_broken (body_tests (item_of round c.hash made)) (body_pass made.action makes.asks)

  -- it is one transaction
  one_size : (action : Action) → 1 + sum_by inner_in (effects_of action) ≡ 1
  one_size (acts.Pay receiver amount) = refl
  one_size acts.CreateAsset = refl
  one_size (acts.OptIn asset) = refl
  one_size acts.GoOnline = refl
  one_size acts.GoOffline = refl
  one_size acts.CreateApp = refl
  one_size (acts.PutBox app name) = refl

  pub size_is : size_of (item_of round c.hash made) ≡ 1
  size_is = one_size made.action

  paid_for : pool_fault (item_of round c.hash made ∷ []) ≡ None
  paid_for = subst (λ (n : ℕ). (if nat_lt 1000 (capped (1000 * (0 + n))) then Some (too_few 36 1000 (capped (1000 * (0 + n)))) else None) ≡ None) (sym size_is) refl

  pub enters : (place : ℕ) (is : List Item) → entered c place 0 (item_of round c.hash made ∷ is) ≡ None
  unfolding group_fault
  enters place is =
      ap (λ (o : Option ℕ). option_or (first_at place (option_map plain_rule o) None) (first_at place (pool_fault (item_of round c.hash made ∷ [])) None)) formed
      ∙ ap (λ (o : Option Rule). first_at place o None) paid_for
