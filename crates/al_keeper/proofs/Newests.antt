-- One version more that may replace others, and the versions that are kept.
use Rattle.std.proofs.Common.{◌≡◌, ℕ, ◌+◌, ◌<◌, refl, sym, ap, ap₂, ◌∙◌, List, [], ◌∷◌, ◌++◌, append-nil, length, take, get_or, filter, not, Option, Some, None, Bool, true, false, cond, ◌&&◌, ◌||◌, nat_le, nat_lt, Ok, Err, Result, IfOk, arith}
use Rattle.std.proofs.lemmas.Bool.Decides.{nat_tests}
use Rattle.std.specs.BTreeMap.{is_at}
use Rattle.std.specs.Cmp.{eq_by_cmp_equiv}
use Rattle.std.proofs.lemmas.Cmp.{nat_list_cmp_total}
use Rattle.std.specs.Cmp.Lexicographic.{texts_ties, same_text}
use Rattle.std.proofs.lemmas.List.Elements.{filter_more}
use Rattle.std.specs.List.{list_any}
use Rattle.al_base.specs.declared.address.Address.{Address}
use Rattle.al_base.specs.declared.online.Version.{Version}
use Rattle.al_base.specs.Keys.{address_cmp}
use Rattle.al_rows.specs.Rows.{same_bytes}
use Rattle.al_tables.specs.Tables.{replaces, kept_versions}
use Rattle.al_keeper.specs.Newest.{NewestTree, Outdates, is_below, is_current, is_over, is_settled}

tied : (a b : Address) → is_at (address_cmp a) b ≡ same_bytes b.0 a.0
tied a b = (eq_by_cmp_equiv nat_list_cmp_total).symm a.0 b.0 ∙ sym (texts_ties b.0 a.0)

or_false : (b : Bool) → b ≡ (b || false)
or_false true = refl
or_false false = refl

-- below the later of two rounds is below one of them
later_of : (old : Option ℕ) (n r : ℕ) → is_over old n ≡ true → nat_lt r n ≡ (is_below old r || nat_lt r n)
later_of None n r h = refl
later_of (Some m) n r h = by_test (nat_lt r m) refl
  where
    by_test : (b : Bool) → nat_lt r m ≡ b → nat_lt r n ≡ (b || nat_lt r n)
    by_test true e = grind (arith, nat_tests)
    by_test false e = refl

and_true : (a : Bool) → a ≡ (a && true)
and_true true = refl
and_true false = refl

module _ (to : ℕ) (w : Version) (old now : Address → Option ℕ) where
  -- a settled version that is above what stands under its address takes that place
  pub replaced : is_settled to w ≡ true → is_over (old w.address) w.round ≡ true
      → ((a : Address) → now a ≡ cond (is_at (address_cmp w.address) a) (Some w.round) (old a))
      → (v : Version) → is_below (now v.address) v.round ≡ (is_below (old v.address) v.round || replaces to v w)
  replaced settled over is v = ap (λ o. is_below o v.round) (is v.address ∙ ap (λ b. cond b (Some w.round) (old v.address)) (tied w.address v.address)) ∙ by_test (same_bytes v.address.0 w.address.0) refl
    where
      by_test : (b : Bool) → same_bytes v.address.0 w.address.0 ≡ b → is_below (cond b (Some w.round) (old v.address)) v.round ≡ (is_below (old v.address) v.round || (b && (nat_lt v.round w.round && nat_le (w.round + 320) to)))
      by_test false e = or_false (is_below (old v.address) v.round)
      by_test true e =
          later_of (old v.address) w.round v.round (ap (λ (n : List ℕ). is_over (old (record { 0 = n })) w.round) (same_text v.address.0 w.address.0 (sym e)) ∙ over)
          ∙ ap (λ c. is_below (old v.address) v.round || c) (and_true (nat_lt v.round w.round) ∙ ap (λ c. nat_lt v.round w.round && c) (sym settled))

same_filter : {A : Type 0} (p q : A → Bool) (xs : List A) → ((x : A) → p x ≡ q x) → filter p xs ≡ filter q xs
same_filter p q [] h = refl
same_filter p q (x ∷ xs) h = ap₂ (λ b ys. cond b (x ∷ ys) ys) (h x) (same_filter p q xs h)

-- the versions that nothing replaces are those that are kept
pub kept_are : {E : Type 0} (r : Result (List Version) E) (to : ℕ) (vs : List Version) (m : NewestTree) → Outdates to vs m → IfOk r (λ out. out ≡ filter (is_current m) vs) → IfOk r (λ out. out ≡ kept_versions to vs)
kept_are (Ok out) to vs m h is = is ∙ same_filter (is_current m) (λ v. not (list_any (replaces to v) vs)) vs (λ v. ap not (h v))
kept_are (Err e) to vs m h is = tt

-- ---- one step of a loop that picks

module _ {A : Type 0} (p : A → Bool) (xs : List A) (i : ℕ) (d : A) (out now : List A) (low : i < length xs) (before : out ≡ filter p (take i xs)) where
  pub picked : p (get_or xs i d) ≡ true → now ≡ out ++ get_or xs i d ∷ [] → now ≡ filter p (take (i + 1) xs)
  picked yes_it e =
      e
      ∙ ap₂ (λ (o : List A) b. o ++ cond b (get_or xs i d ∷ []) []) before (sym yes_it)
      ∙ sym (filter_more p xs i d low)

  pub passed : p (get_or xs i d) ≡ false → now ≡ out → now ≡ filter p (take (i + 1) xs)
  passed no_it e =
      e
      ∙ before
      ∙ sym (append-nil (filter p (take i xs)))
      ∙ ap (λ b. filter p (take i xs) ++ cond b (get_or xs i d ∷ []) []) (sym no_it)
      ∙ sym (filter_more p xs i d low)
