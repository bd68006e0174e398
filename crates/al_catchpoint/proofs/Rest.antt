-- The rows above the last of some that were taken are those behind it.
use Rattle.std.proofs.Common.{◌≡◌, ℕ, suc, ◌<◌, refl, sym, ap, ap₂, subst, ◌∙◌, List, [], ◌∷◌, ◌++◌, append_assoc, length-append, map, take, drop, filter, length, Ordering, Less, Equal, Greater, Option, Some, None, Bool, true, false, cond, T, is_lt, ◌&&◌, arith}
use Rattle.std.specs.Ordering.{ordering_reverse}
use Rattle.std.specs.Cmp.{tied_itself}
use Rattle.std.specs.FinMap as fin
use Rattle.std.specs.FinMap.{FinMap, entries, entries_sorted, is_sorted}
use Rattle.std.specs.FinMap.Entries.{below_all}
use Rattle.std.proofs.lemmas.List.{take-append-drop}
use Rattle.al_base.specs.declared.key.Key.{Key}
use Rattle.al_base.specs.Keys.{key_cmp}
use Rattle.al_rows.specs.declared.stored.Keyed.{Keyed}
use Rattle.al_rows.specs.declared.stored.Stored.{Stored}
use Rattle.al_rows.specs.Above.{entries_above, is_above, keyed_of, rows_above}
use Rattle.al_rows.proofs.Keys.{keys_total}
use Rattle.al_trie.specs.Tries.{Elements}
use Rattle.al_catchpoint.specs.Gathering.{EndsAt, with_rows}
use Rattle.al_catchpoint.proofs.Gathered.{with_append}

abbrev Entry : Type 0
Entry = Key × Stored

lt_true : (r : Ordering) → T (is_lt r) → r ≡ Less
lt_true Less h = refl
lt_true Equal h = absurd h
lt_true Greater h = absurd h

both_first : (a b : Bool) → T (a && b) → T a
both_first true b p = tt
both_first false b p = p

both_second : (a b : Bool) → T (a && b) → T b
both_second true b p = p
both_second false b p = absurd p

all_above : (k : Key) (es : List Entry) → T (below_all key_cmp k es) → filter (λ e. is_above (Some k) e.0) es ≡ es
all_above k [] h = refl
all_above k (e ∷ es) h =
    ap₂ (λ r t. cond (is_lt r) (e ∷ t) t) (lt_true (key_cmp k e.0) (both_first (is_lt (key_cmp k e.0)) (below_all key_cmp k es) h)) (all_above k es (both_second (is_lt (key_cmp k e.0)) (below_all key_cmp k es) h))

below_member : (k : Key) (front : List Entry) (e : Entry) (behind : List Entry) → T (below_all key_cmp k (front ++ e ∷ behind)) → key_cmp k e.0 ≡ Less
below_member k [] e behind h = lt_true (key_cmp k e.0) (both_first (is_lt (key_cmp k e.0)) (below_all key_cmp k behind) h)
below_member k (f ∷ front) e behind h = below_member k front e behind (both_second (is_lt (key_cmp k f.0)) (below_all key_cmp k (front ++ e ∷ behind)) h)

-- above the key of an entry are those behind it
pub behind_it : (front : List Entry) (e : Entry) (behind : List Entry) → T (is_sorted key_cmp (front ++ e ∷ behind)) → filter (λ x. is_above (Some e.0) x.0) (front ++ e ∷ behind) ≡ behind
behind_it [] e behind h =
    ap (λ r. cond (is_lt r) (e ∷ filter (λ (x : Entry). is_above (Some e.0) x.0) behind) (filter (λ (x : Entry). is_above (Some e.0) x.0) behind)) (tied_itself keys_total e.0)
    ∙ all_above e.0 behind (both_first (below_all key_cmp e.0 behind) (is_sorted key_cmp behind) h)
behind_it (f ∷ front) e behind h =
    let less = below_member f.0 front e behind (both_first (below_all key_cmp f.0 (front ++ e ∷ behind)) (is_sorted key_cmp (front ++ e ∷ behind)) h) in
    let more : key_cmp e.0 f.0 ≡ Greater = keys_total.antisymm e.0 f.0 ∙ ap ordering_reverse less in
    ap₂ (λ r t. cond (is_lt r) (f ∷ t) t) more (behind_it front e behind (both_second (below_all key_cmp f.0 (front ++ e ∷ behind)) (is_sorted key_cmp (front ++ e ∷ behind)) h))

-- of what is all entries up to those above a key, these elements stand in a set, and the others are still to come
pub record Gathered (m : FinMap key_cmp Stored) (after : Option Key) (elements : Elements) : Type 0 where
  pub front : List Entry
  pub split : entries m ≡ front ++ entries_above after m
  pub all : with_rows elements (map keyed_of (entries_above after m)) ≡ with_rows fin.empty (map keyed_of (entries m))

all_pass : (es : List Entry) → filter (λ (e : Entry). true) es ≡ es
all_pass [] = refl
all_pass (e ∷ es) = ap (λ t. e ∷ t) (all_pass es)

pub gathered_none : (m : FinMap key_cmp Stored) (s : Elements) → s ≡ fin.empty → Gathered m None s
gathered_none m s is = record { front = []; split = sym (all_pass (entries m)); all = ap₂ (λ t es. with_rows t (map keyed_of es)) is (all_pass (entries m)) }

-- the entries that end some rows
record Ends (es : List Entry) (k : Key) : Type 0 where
  pub front : List Entry
  pub last : Entry
  pub split : es ≡ front ++ last ∷ []
  pub key : last.0 ≡ k

not_none : {A : Type 0} (xs : List A) (x : A) → [] ≡ xs ++ x ∷ [] → ⊥
not_none [] x e = cc
not_none (y ∷ xs) x e = cc

ends : (es : List Entry) (k : Key) → EndsAt (map keyed_of es) (Some k) → Ends es k
ends [] k (front, last, split, key) = absurd (not_none front last split)
ends (e ∷ []) k ([], last, split, key) = record { front = []; last = e; split = refl; key = ap (λ (rs : List Keyed). first_key rs k) split ∙ key }
  where
    first_key : List Keyed → Key → Key
    first_key [] k = k
    first_key (r ∷ rs) k = r.key
ends (e ∷ []) k (f ∷ front, last, split, key) = absurd (not_none front last (ap rest split))
  where
    rest : List Keyed → List Keyed
    rest [] = []
    rest (r ∷ rs) = rs
ends (e ∷ f ∷ es) k ([], last, split, key) = absurd (gone split)
  where
    gone : keyed_of e ∷ keyed_of f ∷ map keyed_of es ≡ last ∷ [] → ⊥
    gone h = cc
ends (e ∷ f ∷ es) k (r ∷ front, last, split, key) =
    let more = ends (f ∷ es) k (front, last, ap rest split, key) in
    record { front = e ∷ more.front; last = more.last; split = ap (λ t. e ∷ t) more.split; key = more.key }
  where
    rest : List Keyed → List Keyed
    rest [] = []
    rest (r ∷ rs) = rs

abbrev above : Option Key → FinMap key_cmp Stored → List Entry
above after m = entries_above after m

-- what is above the last of the first rows above a key
pub record Next (m : FinMap key_cmp Stored) (after : Option Key) (k : Key) (new : Elements) : Type 0 where
  pub gathered : Gathered m (Some k) new
  pub fewer : length (entries_above (Some k) m) < length (entries_above after m)

joined : {A : Type 0} (a b c : List A) (x : A) (d : List A) → b ≡ c ++ x ∷ [] → a ++ (b ++ d) ≡ (a ++ c) ++ x ∷ d
joined a b c x d e = ap (λ t. a ++ (t ++ d)) e ∙ ap (λ t. a ++ t) (append_assoc c (x ∷ []) d) ∙ sym (append_assoc a c (x ∷ d))

map-append : (xs ys : List Entry) → map keyed_of (xs ++ ys) ≡ map keyed_of xs ++ map keyed_of ys
map-append [] ys = refl
map-append (x ∷ xs) ys = ap (λ t. keyed_of x ∷ t) (map-append xs ys)

pub gathered_more : (m : FinMap key_cmp Stored) (after : Option Key) (n : ℕ) (k : Key) (old new : Elements) → Gathered m after old → new ≡ with_rows old (rows_above after n m) → EndsAt (rows_above after n m) (Some k) → Next m after k new
gathered_more m after n k old new g is end =
    let es = entries_above after m in
    let x = ends (take n es) k end in
    let parts : take n es ++ drop n es ≡ es = take-append-drop n es in
    let whole : entries m ≡ (g.front ++ x.front) ++ x.last ∷ drop n es = g.split ∙ ap (λ t. g.front ++ t) (sym parts) ∙ joined g.front (take n es) x.front x.last (drop n es) x.split in
    let rest : entries_above (Some k) m ≡ drop n es =
    ap₂ (λ q (t : List Entry). filter (λ e. is_above (Some q) e.0) t) (sym x.key) whole ∙ behind_it (g.front ++ x.front) x.last (drop n es) (subst (λ t. T (is_sorted key_cmp t)) whole (entries_sorted m)) in
    record {
      gathered = record {
        front = (g.front ++ x.front) ++ x.last ∷ [];
        split = whole ∙ ap (λ t. (g.front ++ x.front) ++ x.last ∷ t) (sym rest) ∙ sym (append_assoc (g.front ++ x.front) (x.last ∷ []) (entries_above (Some k) m));
        all = ap₂ (λ s t. with_rows s (map keyed_of t)) is rest
            ∙ sym (with_append (map keyed_of (take n es)) (map keyed_of (drop n es)) old)
            ∙ ap (with_rows old) (sym (map-append (take n es) (drop n es)))
            ∙ ap (λ t. with_rows old (map keyed_of t)) parts
            ∙ g.all;
      };
      fewer = shorter es (take n es) x.front x.last (drop n es) (entries_above (Some k) m) parts x.split rest;
    }
  where
    shorter : (es a front : List Entry) (last : Entry) (b c : List Entry) → a ++ b ≡ es → a ≡ front ++ last ∷ [] → c ≡ b → length c < length es
    shorter es a front last b c p q r = omega (arith, ap length (sym p) ∙ length-append a b, ap length q ∙ length-append front (last ∷ []), ap length r)

-- where no row is left all elements are there
pub gathered_all : (m : FinMap key_cmp Stored) (after : Option Key) (n : ℕ) (old new : Elements) → Gathered m after old → new ≡ with_rows old (rows_above after (suc n) m) → EndsAt (rows_above after (suc n) m) None → new ≡ with_rows fin.empty (map keyed_of (entries m))
gathered_all m after n old new g is end =
    is ∙ ap (with_rows old) (end ∙ sym (ap (map keyed_of) (no_taken n (entries_above after m) end))) ∙ g.all
  where
    no_taken : (n : ℕ) (es : List Entry) → map keyed_of (take (suc n) es) ≡ [] → es ≡ []
    no_taken n [] h = refl
    no_taken n (e ∷ es) h = cc
