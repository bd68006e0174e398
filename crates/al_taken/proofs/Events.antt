-- What the turns of the generator make, one transaction after another: what each asks of those before, and what is known behind it.
use Rattle.std.proofs.Common.{◌≡◌, ◌≤◌, ◌<◌, ◌+◌, ◌*◌, ◌%◌, ◌==◌, ℕ, zero, suc, refl, sym, subst, arith, List, [], ◌∷◌, ◌++◌, Bool, true, false, if◌then◌else◌, nat_le, nat_lt, ◌⊎◌, inl, inr, Option, Some, None, IfSome, le-leb}
use Rattle.al_generator.specs.Draws.{after_draw, after_hand, drawn, hand, next, user}
use Rattle.al_generator.specs.Turns.{Turn, act, block, called, created, opted, paid, registered, single, turn, turns}
use Rattle.al_generator.specs.declared.progress.Hand.{Hand}
use Rattle.al_generator.specs.declared.progress.Progress.{Progress}
use Rattle.al_generator.specs.declared.turns.Action.{Action}
use Rattle.al_generator.specs.declared.turns.Action.TheVariants as acts
use Rattle.al_generator.specs.declared.turns.Made.{Made}
use Rattle.al_moves.specs.Resources.{app_account}
use Rattle.al_moves.proofs.Monies.{same_itself}
use Rattle.al_taken.proofs.Standings.{is_user}
use Rattle.al_taken.proofs.Counts.{and_both}
use Rattle.al_taken.proofs.AllHere.{Known}
use Rattle.al_taken.proofs.Bodies.{later}

-- what is known behind a transaction
abbrev pub next_known : Known → Action → Known
next_known k (acts.Pay receiver amount) = record k { count = k.count + 1; app = k.made }
next_known k acts.CreateAsset = record k { count = k.count + 1; asset = Some (k.count + 1) }
next_known k (acts.OptIn asset) = later k
next_known k acts.GoOnline = later k
next_known k acts.GoOffline = later k
next_known k acts.CreateApp = record k { count = k.count + 1; made = Some (k.count + 1) }
next_known k (acts.PutBox app name) = later k

-- what it asks: a payment is to a user, or to the application that was created and not yet paid
abbrev pub Asks : Known → Action → Type 0
Asks k (acts.Pay receiver amount) =
    ((is_user receiver ≡ true) × (amount ≤ 1000000) × (k.app ≡ k.made))
    ⊎ ((id : ℕ) × (id ≤ k.count) × (k.made ≡ Some id) × (k.app ≡ None) × (receiver ≡ app_account id) × (amount ≡ 1000000))
Asks k acts.CreateAsset = Unit {0}
Asks k (acts.OptIn asset) = (1 ≤ asset) × (asset ≤ k.count) × (k.asset ≡ Some asset)
Asks k acts.GoOnline = Unit {0}
Asks k acts.GoOffline = Unit {0}
Asks k acts.CreateApp = Unit {0}
Asks k (acts.PutBox app name) = (1 ≤ app) × (app ≤ k.count) × (name < 16) × (k.made ≡ Some app) × (k.app ≡ Some app)

pub record Makes (k : Known) (m : Made) : Type 0 where
  pub number : m.number ≡ k.count + 1
  pub sender : is_user m.sender ≡ true
  pub asks : Asks k m.action

-- one after another
abbrev pub Runs : Known → List Made → Known → Type 0
Runs k [] l = k ≡ l
Runs k (m ∷ ms) l = Makes k m × Runs (next_known k m.action) ms l

pub runs_on : (k l j : Known) (ms ns : List Made) → Runs k ms l → Runs l ns j → Runs k (ms ++ ns) j
runs_on k l j [] ns h g = subst (λ (x : Known). Runs x ns j) (sym h) g
runs_on k l j (m ∷ ms) ns h g = (h.0, runs_on (next_known k m.action) l j ms ns h.1 g)

-- ---- turns

abbrev pub known_of : Progress → Known
known_of g = record { count = g.count; asset = g.asset; made = g.app; app = g.app }

abbrev pub IsGiven : ℕ → ℕ → Type 0
IsGiven count id = (1 ≤ id) × (id ≤ count)

-- what was created has a number that was given
pub record IsLow (g : Progress) : Type 0 where
  pub asset : IfSome g.asset (IsGiven g.count)
  pub app : IfSome g.app (IsGiven g.count)

pub record Ran (most : ℕ) (g : Progress) (t : Turn) : Type 0 where
  pub runs : Runs (known_of g) t.0 (known_of t.1)
  pub low : IsLow t.1
  pub few : t.1.count ≤ g.count + most

record IsHand (h : Hand) : Type 0 where
  sender : is_user h.sender ≡ true
  receiver : is_user h.receiver ≡ true
  value : h.value < 1000

pub user_is : (i : ℕ) → i < 32 → is_user (user i) ≡ true
unfolding is_user
user_is i l = and_both (nat_le 16 (16 + i)) _ (le-leb 16 (16 + i) (omega arith)) (and_both (nat_lt (16 + i) 48) _ (grind arith) (same_itself (user i)))

hand_is : (x : ℕ) → IsHand (hand x)
hand_is x = record {
  sender = user_is (drawn (next (next x)) % 32) (omega arith);
  receiver = user_is (drawn (next (next (next x))) % 32) (omega arith);
  value = omega arith;
}

low_later : (o : Option ℕ) (n : ℕ) → IfSome o (IsGiven n) → IfSome o (IsGiven (n + 1))
low_later None n h = tt
low_later (Some id) n h = (h.0, omega (arith, h.1))

low_more : (g : Progress) → IsLow g → IsLow (record g { count = g.count + 1 })
low_more g h = record { asset = low_later g.asset g.count h.asset; app = low_later g.app g.count h.app }

module _ (g : Progress) (h : Hand) (drawn_is : IsHand h) (low : IsLow g) where
  paid_ran : Ran 2 g (paid g h)
  paid_ran = record {
    runs = (record { number = refl; sender = drawn_is.sender; asks = inl (drawn_is.receiver, omega (arith, drawn_is.value), refl) }, refl);
    low = low_more g low;
    few = omega arith;
  }

  created_ran : Ran 2 g (created g h.sender)
  created_ran = record {
    runs = (record { number = refl; sender = drawn_is.sender; asks = tt }, refl);
    low = record { asset = (omega arith, omega arith); app = (low_more g low).app };
    few = omega arith;
  }

  opted_ran : (o : Option ℕ) → g.asset ≡ o → IfSome o (IsGiven g.count) → Ran 2 g (opted o g h)
  opted_ran None e l = paid_ran
  opted_ran (Some asset) e l = record {
    runs = (record { number = refl; sender = drawn_is.sender; asks = (l.0, l.1, e) }, refl);
    low = low_more g low;
    few = omega arith;
  }

  registered_ran : Ran 2 g (registered g h)
  registered_ran = by_test (h.value % 2 == 0)
    where
      by_test : (b : Bool) → Ran 2 g (if b then single g h.sender acts.GoOnline else single g h.sender acts.GoOffline)
      by_test true = record { runs = (record { number = refl; sender = drawn_is.sender; asks = tt }, refl); low = low_more g low; few = omega arith }
      by_test false = record { runs = (record { number = refl; sender = drawn_is.sender; asks = tt }, refl); low = low_more g low; few = omega arith }

  called_ran : (o : Option ℕ) → g.app ≡ o → IfSome o (IsGiven g.count) → Ran 2 g (called o g h)
  called_ran None e l = record {
    runs = (record { number = refl; sender = drawn_is.sender; asks = tt }, (record { number = refl; sender = drawn_is.sender; asks = inr (g.count + 1, omega arith, refl, e, refl, refl) }, refl));
    low = record { asset = low_later g.asset (g.count + 1) (low_later g.asset g.count low.asset); app = (omega arith, omega arith) };
    few = omega arith;
  }
  called_ran (Some app) e l = record {
    runs = (record { number = refl; sender = drawn_is.sender; asks = (l.0, l.1, omega arith, e, e) }, refl);
    low = low_more g low;
    few = omega arith;
  }

  act_ran : Ran 2 g (act g h)
  act_ran = by_kind (nat_lt h.kind 4) (h.kind == 4) (h.kind == 5) (h.kind == 6)
    where
      by_kind : (a b c d : Bool) → Ran 2 g (if a then paid g h else if b then created g h.sender else if c then opted g.asset g h else if d then registered g h else called g.app g h)
      by_kind true b c d = paid_ran
      by_kind false true c d = created_ran
      by_kind false false true d = opted_ran g.asset refl low.asset
      by_kind false false false true = registered_ran
      by_kind false false false false = called_ran g.app refl low.app

turn_ran : (g : Progress) → IsLow g → Ran 2 g (turn g)
turn_ran g low =
    let r = act_ran (after_hand g) (hand g.x) (hand_is g.x) (record { asset = low.asset; app = low.app }) in
    record { runs = r.runs; low = r.low; few = r.few }

turns_ran : (n : ℕ) (g : Progress) → IsLow g → Ran (2 * n) g (turns n g)
unfolding turns
turns_ran zero g low = record { runs = refl; low = low; few = omega arith }
turns_ran (suc n) g low =
    let one = turn_ran g low in
    let more = turns_ran n (turn g).1 one.low in
    record {
      runs = runs_on (known_of g) (known_of (turn g).1) (known_of (turns n (turn g).1).1) (turn g).0 (turns n (turn g).1).0 one.runs more.runs;
      low = more.low;
      few = omega (arith, one.few, more.few);
    }

pub block_ran : (g : Progress) → IsLow g → Ran 8 g (block g)
block_ran g low =
    let r = turns_ran (1 + drawn (next g.x) % 4) (after_draw g) (record { asset = low.asset; app = low.app }) in
    record { runs = r.runs; low = r.low; few = omega (arith, r.few) }
