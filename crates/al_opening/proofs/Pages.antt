-- The pages of the rows, one after another, are all rows.
use Rattle.std.proofs.Common.{◌≡◌, ℕ, zero, suc, ◌<◌, refl, sym, ap, ap₂, subst, ◌∙◌, List, [], ◌∷◌, ◌++◌, append_assoc, map, take, drop, filter, length, Ordering, Less, Equal, Greater, Option, Some, None, Bool, true, false, cond, T, is_lt, ◌&&◌, arith}
use Rattle.std.specs.Ordering.{ordering_reverse}
use Rattle.std.specs.Cmp.{tied_itself}
use Rattle.std.specs.FinMap.{FinMap, entries, entries_sorted, is_sorted}
use Rattle.std.specs.FinMap.Entries.{below_all}
use Rattle.std.proofs.lemmas.List.{length-map, take-append-drop, map-append}
use Rattle.al_base.specs.declared.key.Key.{Key}
use Rattle.al_base.specs.Keys.{key_cmp}
use Rattle.al_rewards.specs.declared.totals.Totals.{Totals}
use Rattle.al_rewards.specs.Totals.{capped_totals, no_totals}
use Rattle.al_moves.specs.Totals.{counts}
use Rattle.al_rows.specs.declared.stored.Keyed.{Keyed}
use Rattle.al_rows.specs.declared.stored.Stored.{Stored}
use Rattle.al_rows.specs.Above.{entries_above, is_above, keyed_of, rows_above}
use Rattle.al_rows.specs.Rows.{bare}
use Rattle.al_rows.proofs.Keys.{keys_total}
use Rattle.al_tables.specs.Tables.{Tables}
use Rattle.al_opening.specs.Counting.{AddsPage, EndsAt, and_rows}
use Rattle.al_opening.proofs.CountLemmas.{all_counted}

abbrev Entry : Type 0
Entry = Key × Stored

lt_true : (r : Ordering) → T (is_lt r) → r ≡ Less
lt_true Less h = refl
lt_true Equal h = absurd h
lt_true Greater h = absurd h

both_first : (a b : Bool) → T (a && b) → T a
both_first true b p = tt
both_first false b p = p

both_second : (a b : Bool) → T (a && b) → T b
both_second true b p = p
both_second false b p = absurd p

all_above : (k : Key) (es : List Entry) → T (below_all key_cmp k es) → filter (λ e. is_above (Some k) e.0) es ≡ es
all_above k [] h = refl
all_above k (e ∷ es) h =
    ap₂ (λ r t. cond (is_lt r) (e ∷ t) t) (lt_true (key_cmp k e.0) (both_first (is_lt (key_cmp k e.0)) (below_all key_cmp k es) h)) (all_above k es (both_second (is_lt (key_cmp k e.0)) (below_all key_cmp k es) h))

below_member : (k : Key) (front : List Entry) (e : Entry) (behind : List Entry) → T (below_all key_cmp k (front ++ e ∷ behind)) → key_cmp k e.0 ≡ Less
below_member k [] e behind h = lt_true (key_cmp k e.0) (both_first (is_lt (key_cmp k e.0)) (below_all key_cmp k behind) h)
below_member k (f ∷ front) e behind h = below_member k front e behind (both_second (is_lt (key_cmp k f.0)) (below_all key_cmp k (front ++ e ∷ behind)) h)

-- above the key of an entry are those behind it
behind_it : (front : List Entry) (e : Entry) (behind : List Entry) → T (is_sorted key_cmp (front ++ e ∷ behind)) → filter (λ x. is_above (Some e.0) x.0) (front ++ e ∷ behind) ≡ behind
behind_it [] e behind h =
    ap (λ r. cond (is_lt r) (e ∷ filter (λ (x : Entry). is_above (Some e.0) x.0) behind) (filter (λ (x : Entry). is_above (Some e.0) x.0) behind)) (tied_itself keys_total e.0)
    ∙ all_above e.0 behind (both_first (below_all key_cmp e.0 behind) (is_sorted key_cmp behind) h)
behind_it (f ∷ front) e behind h =
    let less = below_member f.0 front e behind (both_first (below_all key_cmp f.0 (front ++ e ∷ behind)) (is_sorted key_cmp (front ++ e ∷ behind)) h) in
    let more : key_cmp e.0 f.0 ≡ Greater = keys_total.antisymm e.0 f.0 ∙ ap ordering_reverse less in
    ap₂ (λ r t. cond (is_lt r) (f ∷ t) t) more (behind_it front e behind (both_second (below_all key_cmp f.0 (front ++ e ∷ behind)) (is_sorted key_cmp (front ++ e ∷ behind)) h))

-- of what is all entries up to those above a key, the shares are in totals, and the others are still to come
pub record Counted (level : ℕ) (m : FinMap key_cmp Stored) (after : Option Key) (t : Totals) : Type 0 where
  pub front : List Entry
  pub split : entries m ≡ front ++ entries_above after m
  pub all : and_rows t (map keyed_of (entries_above after m)) ≡ and_rows (no_totals level) (map keyed_of (entries m))

all_pass : (es : List Entry) → filter (λ (e : Entry). true) es ≡ es
all_pass [] = refl
all_pass (e ∷ es) = ap (λ t. e ∷ t) (all_pass es)

pub counted_none : (level : ℕ) (m : FinMap key_cmp Stored) (t : Totals) → t ≡ no_totals level → Counted level m None t
counted_none level m t is = record { front = []; split = sym (all_pass (entries m)); all = ap₂ (λ u es. and_rows u (map keyed_of es)) is (all_pass (entries m)) }

-- the entries that end some rows
record Ends (es : List Entry) (k : Key) : Type 0 where
  pub front : List Entry
  pub last : Entry
  pub split : es ≡ front ++ last ∷ []
  pub key : last.0 ≡ k

not_none : {A : Type 0} (xs : List A) (x : A) → [] ≡ xs ++ x ∷ [] → ⊥
not_none [] x e = cc
not_none (y ∷ xs) x e = cc

ends : (es : List Entry) (k : Key) → EndsAt (map keyed_of es) (Some k) → Ends es k
ends [] k (front, last, split, key) = absurd (not_none front last split)
ends (e ∷ []) k ([], last, split, key) = record { front = []; last = e; split = refl; key = ap (λ (rs : List Keyed). first_key rs k) split ∙ key }
  where
    first_key : List Keyed → Key → Key
    first_key [] k = k
    first_key (r ∷ rs) k = r.key
ends (e ∷ []) k (f ∷ front, last, split, key) = absurd (not_none front last (ap rest split))
  where
    rest : List Keyed → List Keyed
    rest [] = []
    rest (r ∷ rs) = rs
ends (e ∷ f ∷ es) k ([], last, split, key) = absurd (gone split)
  where
    gone : keyed_of e ∷ keyed_of f ∷ map keyed_of es ≡ last ∷ [] → ⊥
    gone h = cc
ends (e ∷ f ∷ es) k (r ∷ front, last, split, key) =
    let more = ends (f ∷ es) k (front, last, ap rest split, key) in
    record { front = e ∷ more.front; last = more.last; split = ap (λ t. e ∷ t) more.split; key = more.key }
  where
    rest : List Keyed → List Keyed
    rest [] = []
    rest (r ∷ rs) = rs

joined : {A : Type 0} (a b c : List A) (x : A) (d : List A) → b ≡ c ++ x ∷ [] → a ++ (b ++ d) ≡ (a ++ c) ++ x ∷ d
joined a b c x d e = ap (λ t. a ++ (t ++ d)) e ∙ ap (λ t. a ++ t) (append_assoc c (x ∷ []) d) ∙ sym (append_assoc a c (x ∷ d))

rows_then : (xs ys : List Keyed) (t : Totals) → and_rows t (xs ++ ys) ≡ and_rows (and_rows t xs) ys
rows_then [] ys t = refl
rows_then (x ∷ xs) ys t = rows_then xs ys _

-- the last key of a full page
counted_more : (level : ℕ) (m : FinMap key_cmp Stored) (after : Option Key) (n : ℕ) (k : Key) (old new : Totals) → Counted level m after old → new ≡ and_rows old (rows_above after n m) → EndsAt (rows_above after n m) (Some k) → Counted level m (Some k) new
counted_more level m after n k old new g is end =
    let es = entries_above after m in
    let x = ends (take n es) k end in
    let parts : take n es ++ drop n es ≡ es = take-append-drop n es in
    let split : entries m ≡ (g.front ++ x.front) ++ x.last ∷ drop n es = g.split ∙ ap (λ t. g.front ++ t) (sym parts) ∙ joined g.front (take n es) x.front x.last (drop n es) x.split in
    let rest : entries_above (Some k) m ≡ drop n es =
    ap₂ (λ q (t : List Entry). filter (λ e. is_above (Some q) e.0) t) (sym x.key) split ∙ behind_it (g.front ++ x.front) x.last (drop n es) (subst (λ t. T (is_sorted key_cmp t)) split (entries_sorted m)) in
    record {
      front = (g.front ++ x.front) ++ x.last ∷ [];
      split = split ∙ ap (λ t. (g.front ++ x.front) ++ x.last ∷ t) (sym rest) ∙ sym (append_assoc (g.front ++ x.front) (x.last ∷ []) (entries_above (Some k) m));
      all = ap₂ (λ s t. and_rows s (map keyed_of t)) is rest
          ∙ sym (rows_then (map keyed_of (take n es)) (map keyed_of (drop n es)) old)
          ∙ ap (and_rows old) (sym (map-append keyed_of (take n es) (drop n es)))
          ∙ ap (λ t. and_rows old (map keyed_of t)) parts
          ∙ g.all;
    }

-- where a page is not full it is the last
few_taken : {A : Type 0} (n : ℕ) (xs : List A) → length (take n xs) < n → take n xs ≡ xs
few_taken zero xs h = absurd (omega arith)
few_taken (suc n) [] h = refl
few_taken (suc n) (x ∷ xs) h = ap (λ t. x ∷ t) (few_taken n xs (omega arith))

counted_last : (level : ℕ) (m : FinMap key_cmp Stored) (after : Option Key) (old new : Totals) → Counted level m after old → new ≡ and_rows old (rows_above after 512 m) → EndsAt (rows_above after 512 m) None → new ≡ capped_totals (counts level (bare m))
counted_last level m after old new g is end =
    let es = entries_above after m in
    let few : take 512 es ≡ es = few_taken 512 es (omega (arith, end, length-map (take 512 es) keyed_of)) in
    is ∙ ap (λ t. and_rows old (map keyed_of t)) few ∙ g.all ∙ all_counted level m

-- ---- what a page leads to

-- a page of these tables
here : (seen now : Tables) (a after : Option Key) (o last : Option Key) (old new : Totals) → seen ≡ now → a ≡ after → o ≡ last → AddsPage seen.rows a old o new → AddsPage now.rows after old last new
here seen now a after o last old new p q r x =
    subst (λ (s : Tables). AddsPage s.rows after old last new) p
    (subst (λ b. AddsPage seen.rows b old last new) q (subst (λ c. AddsPage seen.rows a old c new) r x))

pub page_more : (level : ℕ) (seen now : Tables) (a after o : Option Key) (k : Key) (old new : Totals) → Counted level now.rows after old → seen ≡ now → a ≡ after → o ≡ Some k → AddsPage seen.rows a old o new → Counted level now.rows (Some k) new
page_more level seen now a after o k old new g p q r x =
    let y = here seen now a after o (Some k) old new p q r x in
    counted_more level now.rows after 512 k old new g y.added y.ends

pub page_last : (level : ℕ) (seen now : Tables) (a after o : Option Key) (old new : Totals) → Counted level now.rows after old → seen ≡ now → a ≡ after → o ≡ None → AddsPage seen.rows a old o new → new ≡ capped_totals (counts level (bare now.rows))
page_last level seen now a after o old new g p q r x =
    let y = here seen now a after o None old new p q r x in
    counted_last level now.rows after old new g y.added y.ends
