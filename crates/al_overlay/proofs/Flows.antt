-- An amount that flows out of an account or into it: what it makes of the row, and of what is held.
use Rattle.std.proofs.Common.{◌≡◌, ℕ, ◌+◌, ◌-◌, ◌≤◌, refl, sym, ap, ◌∙◌, subst, List, Option, Some, None, Bool, true, false, cond, if◌then◌else◌, ◌&&◌, nat_eq, eqb-true, nat_lt, ltb-false, Result, Ok, Err, OnOk, IfSome, option_map}
use Rattle.std.specs.BTreeMap.{is_at}
use Rattle.std.specs.FinMap.{get}
use Rattle.al_base.specs.declared.account.Status.TheVariants.{Offline}
use Rattle.al_base.specs.declared.address.Address.{Address}
use Rattle.al_base.specs.declared.key.Key.{Key}
use Rattle.al_base.specs.declared.key.Key.TheVariants as key
use Rattle.al_base.specs.Keys.{key_cmp}
use Rattle.al_rewards.specs.Pending.{is_apart, pending}
use Rattle.al_rows.specs.declared.account.AccountRow.{AccountRow}
use Rattle.al_rows.specs.declared.row.Row.{Row}
use Rattle.al_rows.specs.declared.row.Row.TheVariants as row
use Rattle.al_rows.specs.Finite.{overlaid, set_at}
use Rattle.al_rows.specs.Limits.{max_balance}
use Rattle.al_rows.specs.Rows.{AccountInRange, CountsInRange, InRange, IsKept, RowMap, account, account_in, is_zero, is_zero_account, same_row, same_status, set_account, unless_zero}
use Rattle.al_overlay.specs.declared.flow.Flow.{Flow}
use Rattle.al_overlay.specs.declared.flow.Flow.TheVariants.{Out, In}
use Rattle.al_overlay.specs.declared.held.Held.{Held}
use Rattle.al_overlay.specs.declared.rule.Rule.{Rule}
use Rattle.al_overlay.specs.declared.rule.Stop.{Stop}
use Rattle.al_overlay.specs.declared.rule.Stop.TheVariants as stop
use Rattle.al_overlay.specs.Accounts.{credited, give, put_account, share_of, take_in}
use Rattle.al_overlay.specs.Flows.{IsFlow, after_flow, balance_after, credited_share, flowed, with_balance, within}
use Rattle.al_overlay.specs.Held.{IsWork, at, nows, put_first, with_row}
use Rattle.al_overlay.specs.Rules.{of_account, then_do, too_little}
use Rattle.al_overlay.specs.Work.{Gives}
use Rattle.al_overlay.proofs.Holds.{held-range, replaced-now, replaced-start, replaced-work}
use Rattle.al_overlay.proofs.Overlays.{IsWork-hold, at-nows, none-now, now_below, now_changed}

-- ---- one step after another

then_same : {A B E : Type 0} (p : Result A E) (g h : A → Result B E) → ((x : A) → g x ≡ h x) → then_do p g ≡ then_do p h
then_same (Ok x) g h same = same x
then_same (Err e) g h same = refl

then_then : {A B C E : Type 0} (p : Result A E) (g : A → B) (h : B → Result C E) → then_do (then_do p (λ x. Ok (g x))) h ≡ then_do p (λ x. h (g x))
then_then (Ok x) g h = refl
then_then (Err e) g h = refl

unless : {A B E : Type 0} (t : Bool) (e : E) (p : Result A E) (q : Result B E) (g : A → Result B E) → q ≡ then_do p g → (if t then Err e else q) ≡ then_do (if t then Err e else p) g
unless true e p q g h = refl
unless false e p q g h = h

ok_is : {A E : Type 0} (x y : A) → ◌≡◌ {A = Result A E} (Ok x) (Ok y) → x ≡ y
ok_is x y e = cc

not_ok : {A E : Type 0} (e : E) (x : A) → ◌≡◌ {A = Result A E} (Err e) (Ok x) → ⊥
not_ok e x h = cc

-- ---- the account

abbrev holding : AccountRow → ℕ → AccountRow
holding r b = record r { balance = b }

abbrev put : RowMap → Address → AccountRow → Result RowMap Rule
put m who r = Ok (set_account m who r)

abbrev set : RowMap → Address → Option Row → Result RowMap Rule
set m who o = Ok (set_at m (key.Account who) o)

module _ (level : ℕ) where
  credited_balance : (r : AccountRow) → (credited level r).balance ≡ (credited_share level (share_of r)).balance
  credited_balance r = elim (is_apart r.status) as (λ t. (let c : AccountRow = if t then r else record r { balance = r.balance + pending level (share_of r); base = level } in c.balance) ≡ (let s = share_of r in let c = if t then s else record s { balance = r.balance + pending level s; base = level } in c.balance)) [ true ↦ refl | false ↦ refl ]

  credited_with : (r : AccountRow) (b : ℕ) → holding (credited level r) b ≡ record r { balance = b; base = (credited_share level (share_of r)).base }
  credited_with r b = elim (is_apart r.status) as (λ t. holding (if t then r else record r { balance = r.balance + pending level (share_of r); base = level }) b ≡ record r { balance = b; base = (let s = share_of r in let c = if t then s else record s { balance = r.balance + pending level s; base = level } in c.base) }) [ true ↦ refl | false ↦ refl ]

module _ (level : ℕ) (who : Address) where
  put_then : (m : RowMap) (c : AccountRow) (b : ℕ) → put_account m who (holding c b) ≡ then_do (within who b) (λ x. put m who (holding c x))
  put_then m c b = unless (nat_lt max_balance b) (of_account 41 who) (Ok b) (put m who (holding c b)) (λ x. put m who (holding c x)) refl

  -- a flow is a step to the balance after it
  flow_given : (f : Flow) (m : RowMap) → after_flow level who f m ≡ then_do (balance_after who f (credited level (account m who)).balance) (λ x. put m who (holding (credited level (account m who)) x))
  unfolding give take_in
  flow_given (Out amount) m =
      let c = credited level (account m who) in
      unless (nat_lt c.balance amount) (too_little 40 c.balance amount who) (within who (c.balance - amount)) (put_account m who (holding c (c.balance - amount))) (λ x. put m who (holding c x)) (put_then m c (c.balance - amount))
  flow_given (In amount) m = let c = credited level (account m who) in put_then m c (c.balance + amount)

  -- over the rows, a flow is what it makes of the row of the account
  pub flow_is : (f : Flow) (m : RowMap) → after_flow level who f m ≡ then_do (flowed level who f (get m (key.Account who))) (λ o. set m who o)
  flow_is f m =
      let o = get m (key.Account who) in
      let r = account_in o in
      let s = credited_share level (share_of r) in
      flow_given f m
      ∙ ap (λ z. then_do (balance_after who f z) (λ x. put m who (holding (credited level r) x))) (credited_balance level r)
      ∙ then_same (balance_after who f s.balance) (λ x. put m who (holding (credited level r) x)) (λ x. set m who (with_balance x s.base o)) (λ x. ap (put m who) (credited_with level r x))
      ∙ sym (then_then (balance_after who f s.balance) (λ x. with_balance x s.base o) (λ o. set m who o))

  -- ---- its row

  most : (b x : ℕ) → within who b ≡ Ok x → x ≤ max_balance
  most b x e = by_test (nat_lt max_balance b) refl e
    where
      by_test : (t : Bool) → nat_lt max_balance b ≡ t → (if t then Err (of_account 41 who) else Ok b) ≡ Ok x → x ≤ max_balance
      by_test true is e = absurd (not_ok (of_account 41 who) x e)
      by_test false is e = subst (λ z. z ≤ max_balance) (ok_is {E = Rule} b x e) (ltb-false max_balance b is)

  after_most : (f : Flow) (has x : ℕ) → balance_after who f has ≡ Ok x → x ≤ max_balance
  after_most (Out amount) has x e = by_test (nat_lt has amount) e
    where
      by_test : (t : Bool) → (if t then Err (too_little 40 has amount who) else within who (has - amount)) ≡ Ok x → x ≤ max_balance
      by_test true e = absurd (not_ok (too_little 40 has amount who) x e)
      by_test false e = most (has - amount) x e
  after_most (In amount) has x e = most (has + amount) x e

  kept_account : (r : AccountRow) → AccountInRange r → IfSome (unless_zero (row.Account r)) (IsKept (key.Account who))
  kept_account r h = by_test (is_zero (row.Account r)) refl
    where
      by_test : (t : Bool) → is_zero (row.Account r) ≡ t → IfSome (if t then None else Some (row.Account r)) (IsKept (key.Account who))
      by_test true is = tt
      by_test false is = (h, is)

  same_counts : (r : AccountRow) (balance base : ℕ) → CountsInRange r → CountsInRange (record r { balance = balance; base = base })
  same_counts r balance base h = record {
    assets_held = h.assets_held;
    assets_created = h.assets_created;
    apps_created = h.apps_created;
    apps_opted = h.apps_opted;
    extra_pages = h.extra_pages;
    uints = h.uints;
    byte_slices = h.byte_slices;
    boxes = h.boxes;
    box_bytes = h.box_bytes;
  }

  -- the row after a flow may be kept
  pub flowed_kept : (f : Flow) (o now : Option Row) → IfSome o (InRange (key.Account who)) → flowed level who f o ≡ Ok now → IfSome now (IsKept (key.Account who))
  flowed_kept f o now range e =
      let s = credited_share level (share_of (account_in o)) in
      by_balance s.base (balance_after who f s.balance) (after_most f s.balance) e
    where
      by_balance : (base : ℕ) (p : Result ℕ Rule) → ((x : ℕ) → p ≡ Ok x → x ≤ max_balance) → then_do p (λ b. Ok (with_balance b base o)) ≡ Ok now → IfSome now (IsKept (key.Account who))
      by_balance base (Ok b) low e =
          subst (λ z. IfSome z (IsKept (key.Account who))) (ok_is {E = Rule} (with_balance b base o) now e)
          (kept_account (record (account_in o) { balance = b; base = base }) (low b refl, same_counts (account_in o) b base (held-range who o range).1))
      by_balance base (Err z) low e = absurd (not_ok z now e)

-- an account that has a balance is no zero row
false_second : (a b c : Bool) → b ≡ false → false ≡ (a && (b && c))
false_second true b c e = sym (ap (λ z. z && c) e)
false_second false b c e = refl

pub zero_balance : (r : AccountRow) → (r.balance ≡ 0 → ⊥) → nat_eq r.balance 0 ≡ is_zero (row.Account r)
unfolding is_zero is_zero_account
zero_balance r h = by_test (nat_eq r.balance 0) refl
  where
    by_test : (b : Bool) → nat_eq r.balance 0 ≡ b → nat_eq r.balance 0 ≡ is_zero (row.Account r)
    by_test true e = absurd (h (eqb-true r.balance 0 e))
    by_test false e = e ∙ false_second (same_status r.status Offline) (nat_eq r.balance 0) _ e

-- ---- what is held

module _ (level : ℕ) (who : Address) (f : Flow) where
  -- the rows after a flow, by the row of the account
  flow_ok : (m n : RowMap) (old now : Option Row) → old ≡ get m (key.Account who) → flowed level who f old ≡ Ok now → n ≡ set_at m (key.Account who) now → after_flow level who f m ≡ Ok n
  flow_ok m n old now is e set_is =
      flow_is level who f m
      ∙ ap (λ o. then_do (flowed level who f o) (λ o. set m who o)) (sym is)
      ∙ ap (λ p. then_do p (λ o. set m who o)) e
      ∙ ap Ok (sym set_is)

  flow_err : (m : RowMap) (old : Option Row) (r : Rule) → old ≡ get m (key.Account who) → flowed level who f old ≡ Err r → after_flow level who f m ≡ Err r
  flow_err m old r is e =
      flow_is level who f m
      ∙ ap (λ o. then_do (flowed level who f o) (λ o. set m who o)) (sym is)
      ∙ ap (λ p. then_do p (λ o. set m who o)) e

  module _ (es fs : List (Key × Held)) (ss ts : List (Key × Option Row)) where
    module _ {F : Type 0} (r : Result (Unit {0}) (Stop F)) (h : IsFlow level who f es fs ss ts r) where
      held_row : option_map (λ x. x.row) (at es (key.Account who)) ≡ Some h.was.row
      held_row = sym (ap (option_map (λ x. x.row)) h.there)

      with_now : Some h.now ≡ option_map (with_row h.now.row) (at es (key.Account who))
      with_now = ap (λ (b : Option Row). let x : Held = record { block = b; row = h.now.row } in Some x) h.block ∙ ap (option_map (with_row h.now.row)) h.there

      replaces : (q : Key) → at fs q ≡ cond (is_at (key_cmp (key.Account who)) q) (option_map (with_row h.now.row) (at es (key.Account who))) (at es q)
      replaces q = h.updates q ∙ ap (λ o. cond (is_at (key_cmp (key.Account who)) q) o (at es q)) with_now

      held_here : (P : Held → Type 0) → IfSome (at es (key.Account who)) P → P h.was
      held_here P x = subst (λ o. IfSome o P) (sym h.there) x

    pub flow_work : {F : Type 0} (r : Result (Unit {0}) (Stop F)) → IsFlow level who f es fs ss ts r → (t : Bool) (m : RowMap) → IsWork t m es ss → IsWork t m fs ts
    flow_work (Ok x) h t m w =
        let good = flowed_kept level who f h.was.row h.now.row (held_here (Ok x) h (λ y. IfSome y.row (InRange (key.Account who))) (w.ranged (key.Account who))) h.gives in
        subst (IsWork t m fs) (sym (h.kept w.ordered)) (replaced-work es fs ss (key.Account who) h.now.row h.was.row (replaces (Ok x) h) (held_row (Ok x) h) t m w good)
    flow_work (Err e) h t m w =
        let k = key.Account who in
        let same : Some h.now ≡ Some h.was = ap (λ (b : Option Row). let x : Held = record { block = b; row = h.now.row } in Some x) h.block ∙ ap (λ (o : Option Row). let x : Held = record { block = h.was.block; row = o } in Some x) h.stays.0 in
        subst (IsWork t m fs) (sym h.stays.1) (IsWork-hold fs k h.was w
        (λ told. held_here (Err e) h (λ x. x.block ≡ get m k) (w.told told k))
        (held_here (Err e) h (λ x. IfSome x.row (InRange k)) (w.ranged k))
        (held_here (Err e) h (λ x. same_row x.block x.row ≡ false → IfSome x.row (IsKept k)) (w.kept k))
        (λ q. h.updates q ∙ ap (λ o. cond (is_at (key_cmp k) q) o (at es q)) same))

    pub flow_gives : {F : Type 0} (r : Result (Unit {0}) (Stop F)) → IsFlow level who f es fs ss ts r → (m : RowMap) → Gives (after_flow level who f (overlaid (nows es) m)) r (overlaid (nows fs) m)
    flow_gives (Ok x) h m = flow_ok (overlaid (nows es) m) (overlaid (nows fs) m) h.was.row h.now.row
        (now_changed (nows es) m (key.Account who) h.was.row (sym (at-nows es (key.Account who) ∙ held_row (Ok x) h))) h.gives
        (replaced-now es fs ss (key.Account who) h.now.row h.was.row (replaces (Ok x) h) (held_row (Ok x) h) m)
    flow_gives (Err (stop.Rule e)) h m = flow_err (overlaid (nows es) m) h.was.row e
        (now_changed (nows es) m (key.Account who) h.was.row (sym (at-nows es (key.Account who) ∙ held_row (Err (stop.Rule e)) h))) h.gives
    flow_gives (Err (stop.View v)) h m = tt
    flow_gives (Err stop.Memory) h m = tt

    pub flow_start : {F : Type 0} (r : Result (Unit {0}) (Stop F)) → IsFlow level who f es fs ss ts r → OnOk r ((t : Bool) (m : RowMap) → IsWork t m es ss → overlaid ts (overlaid (nows fs) m) ≡ overlaid ss (overlaid (nows es) m))
    flow_start (Ok x) h = λ t m w.
        ap (λ xs. overlaid xs (overlaid (nows fs) m)) (h.kept w.ordered)
        ∙ replaced-start es fs ss (key.Account who) h.now.row h.was.row (replaces (Ok x) h) (held_row (Ok x) h) t m w
    flow_start (Err e) h = tt

  -- an account that is not held
  pub new_gives : (es : List (Key × Held)) (m n : RowMap) (old now : Option Row) → at es (key.Account who) ≡ None → old ≡ get m (key.Account who) → Ok now ≡ flowed level who f old → n ≡ set_at (overlaid (nows es) m) (key.Account who) now → after_flow level who f (overlaid (nows es) m) ≡ Ok n
  new_gives es m n old now none is e set_is = flow_ok (overlaid (nows es) m) n old now (is ∙ now_below (nows es) m (key.Account who) (none-now es (key.Account who) none)) (sym e) set_is

  pub new_refused : (es : List (Key × Held)) (m : RowMap) (old : Option Row) (r : Rule) → at es (key.Account who) ≡ None → old ≡ get m (key.Account who) → Err r ≡ flowed level who f old → after_flow level who f (overlaid (nows es) m) ≡ Err r
  new_refused es m old r none is e = flow_err (overlaid (nows es) m) old r (is ∙ now_below (nows es) m (key.Account who) (none-now es (key.Account who) none)) (sym e)
