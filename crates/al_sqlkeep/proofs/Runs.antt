-- Rows whose keys rise from above a key, one more at a time.
use Rattle.std.proofs.Common.{◌≡◌, ◌<◌, ℕ, refl, ap, List, [], ◌∷◌, ◌++◌, map, length, Option, Some, None, true, is_lt, Ordering, Less, Equal, Greater, arith, length-append}
use Rattle.std.specs.List.{AllByRecursion}
use Rattle.std.specs.List.Sorted.{IsStrictlySortedBy}
use Rattle.std.proofs.lemmas.List.Elements.{All-nil, All-push}
use Rattle.al_base.specs.declared.key.Key.{Key}
use Rattle.al_base.specs.Keys.{key_cmp}
use Rattle.al_rows.specs.declared.stored.Keyed.{Keyed}
use Rattle.al_rows.specs.Above.{AreRows, IsStored, is_above}
use Rattle.al_rows.proofs.Keys.{keys_total}

less : (r : Ordering) → is_lt r ≡ true → r ≡ Less
less Less p = refl
less Equal p = cc
less Greater p = cc

abbrev keys : List Keyed → List Key
keys rows = map (λ r. r.key) rows

-- each key is below this one
abbrev AreBelow : Key → List Keyed → Type 0
AreBelow key rows = AllByRecursion (λ k. key_cmp k key ≡ Less) (keys rows)

-- what may come above `last` may come behind the rows
pub record IsRun (after : Option Key) (most : ℕ) (last : Option Key) (rows : List Keyed) : Type 0 where
  pub are : AreRows after most rows
  pub next : (key : Key) → is_above last key ≡ true → (is_above after key ≡ true) × AreBelow key rows

pushed : (P : Key → Type 0) (rows : List Keyed) (r : Keyed) → AllByRecursion P (keys rows) → P r.key → AllByRecursion P (keys (rows ++ r ∷ []))
pushed P [] r h p = (p, tt)
pushed P (x ∷ rows) r h p = (h.0, pushed P rows r h.1 p)

rises : (rows : List Keyed) (r : Keyed) → IsStrictlySortedBy key_cmp (keys rows) → AreBelow r.key rows → IsStrictlySortedBy key_cmp (keys (rows ++ r ∷ []))
unfolding IsStrictlySortedBy
rises [] r s b = (tt, tt)
rises (x ∷ rows) r s b = (pushed (λ y. key_cmp x.key y ≡ Less) rows r s.0 b.0, rises rows r s.1 b.1)

below : (rows : List Keyed) (k key : Key) → key_cmp k key ≡ Less → AreBelow k rows → AreBelow key rows
below [] k key l b = tt
below (x ∷ rows) k key l b = (keys_total.trans x.key k key b.0 l, below rows k key l b.1)

above : (after : Option Key) (k key : Key) → key_cmp k key ≡ Less → is_above after k ≡ true → is_above after key ≡ true
above None k key l a = refl
above (Some first) k key l a = ap is_lt (keys_total.trans first k key (less (key_cmp first k) a) l)

none_rise : IsStrictlySortedBy key_cmp []
unfolding IsStrictlySortedBy
none_rise = tt

pub no_run : (after : Option Key) (most : ℕ) → IsRun after most after []
no_run after most = record {
  are = record { few = omega arith; rising = none_rise; above = All-nil _; kept = All-nil _ };
  next = λ key a. (a, tt);
}

pub longer_run : (after : Option Key) (most : ℕ) (last : Option Key) (rows : List Keyed) (r : Keyed) → IsRun after most last rows → length rows < most → is_above last r.key ≡ true → IsStored r.key r.stored → IsRun after most (Some r.key) (rows ++ r ∷ [])
longer_run after most last rows r run short a stored =
    let behind = run.next r.key a in record {
      are = record {
        few = omega (arith, length-append rows (r ∷ []), short);
        rising = rises rows r run.are.rising behind.1;
        above = All-push (λ x. is_above after x.key ≡ true) rows r run.are.above behind.0;
        kept = All-push (λ x. IsStored x.key x.stored) rows r run.are.kept stored;
      };
      next = λ key l. (above after r.key key (less (key_cmp r.key key) l) behind.0, pushed (λ k. key_cmp k key ≡ Less) rows r (below rows r.key key (less (key_cmp r.key key) l) behind.1) (less (key_cmp r.key key) l));
    }
