-- A row set among what is held.
use Rattle.std.proofs.Common.{◌≡◌, refl, sym, ap, ◌∙◌, List, [], Option, Some, None, Bool, true, cond, IsSome, is_some, true≢false, arith, IfSome, option_map}
use Rattle.std.specs.Option.{unwrap_or}
use Rattle.std.specs.BTreeMap.{is_at}
use Rattle.std.specs.FinMap.{get}
use Rattle.al_base.specs.declared.address.Address.{Address}
use Rattle.al_base.specs.declared.key.Key.{Key}
use Rattle.al_base.specs.declared.key.Key.TheVariants as key
use Rattle.al_base.specs.Keys.{key_cmp}
use Rattle.al_rows.specs.declared.account.AccountRow.{AccountRow}
use Rattle.al_rows.specs.declared.row.Row.{Row}
use Rattle.al_rows.specs.declared.row.Row.TheVariants as row
use Rattle.al_rows.specs.Finite.{or_below, overlaid, set_at}
use Rattle.al_rows.specs.Rows.{AccountInRange, InRange, IsKept, RowMap, account, account_in}
use Rattle.al_rows.proofs.Sames.{same_itself}
use Rattle.al_overlay.specs.declared.held.Held.{Held}
use Rattle.al_overlay.specs.Held.{at, IsWork, nows, put_first, with_row}
use Rattle.al_overlay.proofs.Firsts.{sorted}
use Rattle.al_overlay.proofs.Overlays.{IsWork-hold, IsWork-replace, IsWork-start, at-nows, at-put_first, get-now, is_there, itself_at, none-now, now_below, now_changed, nows-put, overlaid-put, set-same, start-kept, still_some}

row-with : (o : Option Held) (row old : Option Row) → option_map (λ h. h.row) o ≡ Some old → option_map (λ h. h.row) (option_map (with_row row) o) ≡ Some row
row-with None row old e = absurd (true≢false (sym (ap is_some e)))
row-with (Some x) row old e = refl

some-held : (o : Option Held) (old : Option Row) → option_map (λ h. h.row) o ≡ Some old → IsSome o
some-held None old e = absurd (true≢false (sym (ap is_some e)))
some-held (Some x) old e = refl

module _ (es fs : List (Key × Held)) (ss : List (Key × Option Row)) (k : Key) (row old : Option Row)
    (updates : (q : Key) → at fs q ≡ cond (is_at (key_cmp k) q) (option_map (with_row row) (at es k)) (at es q)) (was : option_map (λ h. h.row) (at es k) ≡ Some old) where
  rows-replaced : (q : Key) → at (nows fs) q ≡ cond (is_at (key_cmp k) q) (Some row) (at (nows es) q)
  rows-replaced = nows-put es fs k (option_map (with_row row) (at es k)) row updates (row-with (at es k) row old was)

  pub replaced-now : (m : RowMap) → overlaid (nows fs) m ≡ set_at (overlaid (nows es) m) k row
  replaced-now m = overlaid-put (nows es) (nows fs) m k row rows-replaced

  there : IsSome (at fs k)
  there = rw (updates k, itself_at k) (still_some (at es k) row (some-held (at es k) old was))

  pub replaced-work : (t : Bool) (m : RowMap) → IsWork t m es ss → IfSome row (IsKept k) → IsWork t m fs (put_first k old ss)
  replaced-work t m w good = IsWork-start k old (IsWork-replace fs k row w good updates) there

  pub replaced-start : (t : Bool) (m : RowMap) → IsWork t m es ss → overlaid (put_first k old ss) (overlaid (nows fs) m) ≡ overlaid ss (overlaid (nows es) m)
  replaced-start t m w =
      ap (overlaid (put_first k old ss)) (replaced-now m)
      ∙ start-kept ss (put_first k old ss) (overlaid (nows es) m) k row old (at-put_first k old ss (sorted ss w.ordered)) (now_changed (nows es) m k old (sym (at-nows es k ∙ was)))

module _ (es fs : List (Key × Held)) (ss : List (Key × Option Row)) (k : Key) (block row : Option Row)
    (updates : (q : Key) → at fs q ≡ cond (is_at (key_cmp k) q) (Some (record { block = block; row = row })) (at es q)) where
  pub added-now : (m : RowMap) → overlaid (nows fs) m ≡ set_at (overlaid (nows es) m) k row
  added-now m = overlaid-put (nows es) (nows fs) m k row (nows-put es fs k (Some (record { block = block; row = row })) row updates refl)

  pub added-work : (t : Bool) (m : RowMap) → IsWork t m es ss → (t ≡ true → block ≡ get m k) → IfSome row (IsKept k) → IsWork t m fs ss
  added-work t m w told good = IsWork-hold fs k (record { block = block; row = row }) w told (in_range row good) (λ _. good) updates
    where
      in_range : (o : Option Row) → IfSome o (IsKept k) → IfSome o (InRange k)
      in_range None h = tt
      in_range (Some x) h = h.0

  pub added-started : (t : Bool) (m : RowMap) (old : Option Row) → IsWork t m es ss → (t ≡ true → block ≡ get m k) → IfSome row (IsKept k) → IsWork t m fs (put_first k old ss)
  added-started t m old w told good = IsWork-start k old (added-work t m w told good) (is_there es fs k (record { block = block; row = row }) updates)

  pub added-start : (t : Bool) (m : RowMap) (old : Option Row) → IsWork t m es ss → at es k ≡ None → old ≡ get m k → overlaid (put_first k old ss) (overlaid (nows fs) m) ≡ overlaid ss (overlaid (nows es) m)
  added-start t m old w none is =
      ap (overlaid (put_first k old ss)) (added-now m)
      ∙ start-kept ss (put_first k old ss) (overlaid (nows es) m) k row old (at-put_first k old ss (sorted ss w.ordered)) (is ∙ now_below (nows es) m k (none-now es k none))

module _ (es fs : List (Key × Held)) (ss : List (Key × Option Row)) (k : Key) (row : Option Row)
    (updates : (q : Key) → at fs q ≡ cond (is_at (key_cmp k) q) (Some (record { block = row; row = row })) (at es q)) where
  pub held-now : (m : RowMap) → at es k ≡ None → row ≡ get m k → overlaid (nows fs) m ≡ overlaid (nows es) m
  held-now m none is = added-now es fs [] k row row updates m ∙ set-same (overlaid (nows es) m) k row (is ∙ now_below (nows es) m k (none-now es k none))

  pub held-work : (t : Bool) (m : RowMap) → IsWork t m es ss → (t ≡ true → row ≡ get m k) → IfSome row (InRange k) → IsWork t m fs ss
  held-work t m w told range = IsWork-hold fs k (record { block = row; row = row }) w told range (λ e. absurd (true≢false (sym (same_itself row) ∙ e))) updates

-- an account that is held is that of the rows now
pub account-held : (rs : List (Key × Option Row)) (m : RowMap) (who : Address) (r : AccountRow) → Some r ≡ option_map account_in (at rs (key.Account who)) → r ≡ account (overlaid rs m) who
account-held rs m who r is = by_change (at rs (key.Account who)) (get m (key.Account who)) is ∙ ap account_in (sym (get-now rs m (key.Account who)))
  where
    by_change : (o : Option (Option Row)) (below : Option Row) → Some r ≡ option_map account_in o → r ≡ account_in (or_below o below)
    by_change None below e = absurd (true≢false (ap is_some e))
    by_change (Some x) below e = ap (λ o. unwrap_or o r) e

pub not-held : (es : List (Key × Held)) (who : Address) → None ≡ option_map account_in (at (nows es) (key.Account who)) → at es (key.Account who) ≡ None
not-held es who e = by_held (at es (key.Account who)) (e ∙ ap (option_map account_in) (at-nows es (key.Account who)))
  where
    by_held : (o : Option Held) → None ≡ option_map account_in (option_map (λ h. h.row) o) → o ≡ None
    by_held None h = refl
    by_held (Some x) h = absurd (true≢false (sym (ap is_some h)))

no_range : AccountInRange (account_in None)
no_range = (omega arith, record { assets_held = omega arith; assets_created = omega arith; apps_created = omega arith; apps_opted = omega arith; extra_pages = omega arith; uints = omega arith; byte_slices = omega arith; boxes = omega arith; box_bytes = omega arith })

pub held-range : (who : Address) (o : Option Row) → IfSome o (InRange (key.Account who)) → AccountInRange (account_in o)
held-range who None h = no_range
held-range who (Some (row.Account r)) h = h
held-range who (Some (row.Asset a)) h = absurd h
held-range who (Some (row.App a)) h = absurd h
held-range who (Some (row.Box b)) h = absurd h

-- what a function gives of a row that is held, and of one that is not
pub held-as : {A : Type 0} (f : Option Row → A) (rs : List (Key × Option Row)) (m : RowMap) (k : Key) (x : A) → Some x ≡ option_map f (at rs k) → x ≡ f (get (overlaid rs m) k)
held-as f rs m k x is = by_change (at rs k) is ∙ ap f (sym (get-now rs m k))
  where
    by_change : (o : Option (Option Row)) → Some x ≡ option_map f o → x ≡ f (or_below o (get m k))
    by_change None e = absurd (true≢false (ap is_some e))
    by_change (Some y) e = ap (λ o. unwrap_or o x) e

pub viewed-as : {A : Type 0} (f : Option Row → A) (rs : List (Key × Option Row)) (m : RowMap) (k : Key) → None ≡ option_map f (at rs k) → get m k ≡ get (overlaid rs m) k
viewed-as f rs m k is = now_below rs m k (by_held (at rs k) is)
  where
    by_held : (o : Option (Option Row)) → None ≡ option_map f o → None ≡ o
    by_held None e = refl
    by_held (Some y) e = absurd (true≢false (sym (ap is_some e)))
