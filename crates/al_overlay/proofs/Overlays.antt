-- Changed rows over other rows.
use Rattle.std.proofs.Common.{◌≡◌, refl, sym, ap, ◌∙◌, subst, List, [], ◌∷◌, Option, Some, None, Bool, true, false, cond, IsSome, ap₂, Ordering, Less, Equal, Greater, is_eq, is_lt, T, map, true≢false, IfSome, ◌⊎◌, inl, inr, is_some, option_map}
use Rattle.std.specs.Ordering.{eq_by_cmp}
use Rattle.std.specs.Cmp.{eq_by_cmp_equiv}
use Rattle.std.specs.BTreeMap.{is_at}
use Rattle.std.specs.List.Sorted.{IsStrictlySortedBy}
use Rattle.std.specs.FinMap.{get, same_map, find, is_sorted}
use Rattle.std.specs.FinMap.{put as put_at}
use Rattle.std.specs.FinMap.Entries.{below_all, by_order, find-put, is_sorted-put}
use Rattle.al_base.specs.declared.key.Key.{Key}
use Rattle.al_rows.specs.declared.row.Row.{Row}
use Rattle.al_base.specs.Keys.{key_cmp}
use Rattle.al_rows.specs.Finite.{set_at, overlaid, or_below}
use Rattle.al_rows.specs.Rows.{RowMap, InRange, IsKept, same_row}
use Rattle.al_rows.proofs.Keys.{keys_total, exact_keys}
use Rattle.al_rows.proofs.Maps.{get-overlaid, get-set_at, find-lookup}
use Rattle.al_overlay.specs.declared.held.Held.{Held}
use Rattle.al_overlay.specs.Held.{at, befores, IsWork, nows, put_first, with_row}
use Rattle.al_overlay.proofs.Firsts.{first_of, less, second_of, sorted, strictly}

pub get-now : (es : List (Key × Option Row)) (m : RowMap) (q : Key) → get (overlaid es m) q ≡ or_below (at es q) (get m q)
get-now es m q = get-overlaid keys_total es m q ∙ ap (λ z. or_below z (get m q)) (find-lookup keys_total es q)

pub now_changed : (es : List (Key × Option Row)) (m : RowMap) (q : Key) (row : Option Row) → Some row ≡ at es q → row ≡ get (overlaid es m) q
now_changed es m q row h = ap (λ z. or_below z (get m q)) h ∙ sym (get-now es m q)

pub now_below : (es : List (Key × Option Row)) (m : RowMap) (q : Key) → None ≡ at es q → get m q ≡ get (overlaid es m) q
now_below es m q h = ap (λ z. or_below z (get m q)) h ∙ sym (get-now es m q)

-- whether k is the key q, asked the other way round
pub turned_at : (k q : Key) → eq_by_cmp key_cmp q k ≡ is_at (key_cmp k) q
turned_at k q = (eq_by_cmp_equiv keys_total).symm q k

pub get-set : (m : RowMap) (k : Key) (v : Option Row) (q : Key) → get (set_at m k v) q ≡ cond (is_at (key_cmp k) q) v (get m q)
get-set m k v q = get-set_at keys_total m k v q ∙ ap (λ b. cond b v (get m q)) (turned_at k q)

equal : (r : Ordering) → is_eq r ≡ true → r ≡ Equal
equal Less p = cc
equal Equal p = refl
equal Greater p = cc

pub same_key : (k q : Key) → is_at (key_cmp k) q ≡ true → k ≡ q
same_key k q e = exact_keys k q (equal (key_cmp k q) e)

chosen : (b : Bool) (v below : Option Row) (c : Option (Option Row)) → or_below (cond b (Some v) c) below ≡ cond b v (or_below c below)
chosen true v below c = refl
chosen false v below c = refl

-- to put a row into the changes is to set it
pub overlaid-put : (es fs : List (Key × Option Row)) (m : RowMap) (k : Key) (v : Option Row) → ((q : Key) → at fs q ≡ cond (is_at (key_cmp k) q) (Some v) (at es q)) → overlaid fs m ≡ set_at (overlaid es m) k v
overlaid-put es fs m k v h = same_map keys_total exact_keys (overlaid fs m) (set_at (overlaid es m) k v) (λ q.
    get-now fs m q
    ∙ ap (λ z. or_below z (get m q)) (h q)
    ∙ chosen (is_at (key_cmp k) q) v (get m q) (at es q)
    ∙ ap (cond (is_at (key_cmp k) q) v) (sym (get-now es m q))
    ∙ sym (get-set (overlaid es m) k v q))

-- the rows before the transaction stay where a key without a row there takes the one that it has now
stays : (b : Bool) (old v : Option Row) (c d : Option (Option Row)) (now : Option Row) → (b ≡ true → (c ≡ d) × (old ≡ now)) → or_below (cond b (Some (or_below d old)) c) (cond b v now) ≡ or_below c now
stays true old v c d now h = ap₂ or_below (sym (h refl).0) (h refl).1
stays false old v c d now h = refl

pub start-kept : (ss ts : List (Key × Option Row)) (now : RowMap) (k : Key) (v old : Option Row) → ((q : Key) → at ts q ≡ cond (is_at (key_cmp k) q) (Some (or_below (at ss k) old)) (at ss q)) → old ≡ get now k → overlaid ts (set_at now k v) ≡ overlaid ss now
start-kept ss ts now k v old h is = same_map keys_total exact_keys (overlaid ts (set_at now k v)) (overlaid ss now) (λ q.
    get-now ts (set_at now k v) q
    ∙ ap₂ or_below (h q) (get-set now k v q)
    ∙ stays (is_at (key_cmp k) q) old v (at ss q) (at ss k) (get now q) (λ e. let same = same_key k q e in (ap (at ss) (sym same), is ∙ ap (get now) same))
    ∙ sym (get-now ss now q))

-- what holds under k of the new value, and under each other key of the old one, holds under each key
pub at_each : {Y : Type 0} (P : Key → Option Y → Type 0) (es fs : List (Key × Y)) (k : Key) (y : Y) → ((q : Key) → at fs q ≡ cond (is_at (key_cmp k) q) (Some y) (at es q)) → P k (Some y) → ((q : Key) → P q (at es q)) → (q : Key) → P q (at fs q)
at_each P es fs k y h here there q = subst (P q) (sym (h q)) (by_test (is_at (key_cmp k) q) refl)
  where
    by_test : (b : Bool) → is_at (key_cmp k) q ≡ b → P q (cond b (Some y) (at es q))
    by_test true e = subst (λ x. P x (Some y)) (same_key k q e) here
    by_test false e = there q

pub has : {Y : Type 0} (c : Option Y) → (c ≡ None) ⊎ IsSome c
has None = inl refl
has (Some x) = inr refl

-- ---- what is held

pub ranged : (k : Key) (row : Option Row) → IfSome row (IsKept k) → IfSome row (InRange k)
ranged k None h = tt
ranged k (Some row) h = h.0

pub at-nows : (es : List (Key × Held)) (q : Key) → at (nows es) q ≡ option_map (λ h. h.row) (at es q)
at-nows [] q = refl
at-nows (e ∷ es) q = elim (is_at (key_cmp q) e.0) as (λ b. cond b (Some e.1.row) (at (nows es) q) ≡ option_map (λ h. h.row) (cond b (Some e.1) (at es q))) [ true ↦ refl | false ↦ at-nows es q ]

pub at-befores : (es : List (Key × Held)) (q : Key) → at (befores es) q ≡ option_map (λ h. h.block) (at es q)
at-befores [] q = refl
at-befores (e ∷ es) q = elim (is_at (key_cmp q) e.0) as (λ b. cond b (Some e.1.block) (at (befores es) q) ≡ option_map (λ h. h.block) (cond b (Some e.1) (at es q))) [ true ↦ refl | false ↦ at-befores es q ]

keys-nows : (es : List (Key × Held)) → map (λ e. e.0) (nows es) ≡ map (λ e. e.0) es
keys-nows [] = refl
keys-nows (e ∷ es) = ap (λ ks. e.0 ∷ ks) (keys-nows es)

pub nows-ordered : (es : List (Key × Held)) → IsStrictlySortedBy key_cmp (map (λ e. e.0) es) → IsStrictlySortedBy key_cmp (map (λ e. e.0) (nows es))
nows-ordered es h = subst (IsStrictlySortedBy key_cmp) (sym (keys-nows es)) h

pub some-now : (es : List (Key × Held)) (q : Key) → IsSome (at es q) → IsSome (at (nows es) q)
some-now es q h = subst IsSome (sym (at-nows es q)) (mapped (at es q) h)
  where
    mapped : (o : Option Held) → IsSome o → IsSome (option_map (λ h. h.row) o)
    mapped None h = h
    mapped (Some x) h = refl

pub now-there : (es : List (Key × Held)) (q : Key) → is_some (at es q) ≡ is_some (at (nows es) q)
now-there es q = mapped (at es q) ∙ ap is_some (sym (at-nows es q))
  where
    mapped : (o : Option Held) → is_some o ≡ is_some (option_map (λ h. h.row) o)
    mapped None = refl
    mapped (Some x) = refl

pub some-before : (es : List (Key × Held)) (q : Key) → IsSome (at (nows es) q) → IsSome (at (befores es) q)
some-before es q h = subst IsSome (sym (at-befores es q)) (mapped (at es q) (subst IsSome (at-nows es q) h))
  where
    mapped : (o : Option Held) → IsSome (option_map (λ h. h.row) o) → IsSome (option_map (λ h. h.block) o)
    mapped None h = h
    mapped (Some x) h = refl

pub told-before : (es : List (Key × Held)) (m : RowMap) (q : Key) → IfSome (at es q) (λ h. h.block ≡ get m q) → IfSome (at (befores es) q) (λ old. old ≡ get m q)
told-before es m q h = subst (λ o. IfSome o (λ old. old ≡ get m q)) (sym (at-befores es q)) (mapped (at es q) h)
  where
    mapped : (o : Option Held) → IfSome o (λ h. h.block ≡ get m q) → IfSome (option_map (λ h. h.block) o) (λ old. old ≡ get m q)
    mapped None h = tt
    mapped (Some x) h = h

-- where nothing is held, nothing changed
pub none-now : (es : List (Key × Held)) (q : Key) → at es q ≡ None → None ≡ at (nows es) q
none-now es q h = sym (at-nows es q ∙ ap (option_map (λ h. h.row)) h)

-- what the rows now are, where one of what is held changed
put_row : (b : Bool) (o c : Option Held) → option_map (λ h. h.row) (cond b o c) ≡ cond b (option_map (λ h. h.row) o) (option_map (λ h. h.row) c)
put_row true o c = refl
put_row false o c = refl

pub nows-put : (es fs : List (Key × Held)) (k : Key) (o : Option Held) (row : Option Row) → ((q : Key) → at fs q ≡ cond (is_at (key_cmp k) q) o (at es q)) → option_map (λ h. h.row) o ≡ Some row → (q : Key) → at (nows fs) q ≡ cond (is_at (key_cmp k) q) (Some row) (at (nows es) q)
nows-put es fs k o row h is q =
    at-nows fs q
    ∙ ap (option_map (λ h. h.row)) (h q)
    ∙ put_row (is_at (key_cmp k) q) o (at es q)
    ∙ ap₂ (cond (is_at (key_cmp k) q)) is (sym (at-nows es q))

-- what holds under k of the new value, and under each other key of the old one, holds under each key
pub at_one : {Y : Type 0} (P : Key → Option Y → Type 0) (es fs : List (Key × Y)) (k : Key) (o : Option Y) → ((q : Key) → at fs q ≡ cond (is_at (key_cmp k) q) o (at es q)) → P k o → ((q : Key) → P q (at es q)) → (q : Key) → P q (at fs q)
at_one P es fs k o h here there q = subst (P q) (sym (h q)) (by_test (is_at (key_cmp k) q) refl)
  where
    by_test : (b : Bool) → is_at (key_cmp k) q ≡ b → P q (cond b o (at es q))
    by_test true e = subst (λ x. P x o) (same_key k q e) here
    by_test false e = there q

-- a row in place of one that is held
same_block : (o : Option Held) (row below : Option Row) → IfSome o (λ h. h.block ≡ below) → IfSome (option_map (with_row row) o) (λ h. h.block ≡ below)
same_block None row below h = tt
same_block (Some x) row below h = h

new_row : (P : Option Row → Option Row → Type 0) (o : Option Held) (row : Option Row) → ((old : Option Row) → P old row) → IfSome (option_map (with_row row) o) (λ h. P h.block h.row)
new_row P None row h = tt
new_row P (Some x) row h = h x.block

pub still_some : (o : Option Held) (row : Option Row) → IsSome o → IsSome (option_map (with_row row) o)
still_some None row h = h
still_some (Some x) row h = refl

pub IsWork-replace : {t : Bool} {m : RowMap} {es : List (Key × Held)} {ss : List (Key × Option Row)} (fs : List (Key × Held)) (k : Key) (row : Option Row) → IsWork t m es ss → IfSome row (IsKept k)
    → ((q : Key) → at fs q ≡ cond (is_at (key_cmp k) q) (option_map (with_row row) (at es k)) (at es q)) → IsWork t m fs ss
IsWork-replace {t} {m} {es} {ss} fs k row w good h = record {
  told = λ e. at_one (λ q o. IfSome o (λ x. x.block ≡ get m q)) es fs k _ h (same_block (at es k) row (get m k) (w.told e k)) (w.told e);
  ranged = at_one (λ q o. IfSome o (λ x. IfSome x.row (InRange q))) es fs k _ h (new_row (λ old now. IfSome now (InRange k)) (at es k) row (λ _. ranged k row good)) w.ranged;
  kept = at_one (λ q o. IfSome o (λ x. same_row x.block x.row ≡ false → IfSome x.row (IsKept q))) es fs k _ h (new_row (λ old now. same_row old now ≡ false → IfSome now (IsKept k)) (at es k) row (λ _ _. good)) w.kept;
  has_row = λ q s. subst IsSome (sym (h q)) (there q (w.has_row q s));
  ordered = w.ordered;
}
  where
    there : (q : Key) → IsSome (at es q) → IsSome (cond (is_at (key_cmp k) q) (option_map (with_row row) (at es k)) (at es q))
    there q s = by_test (is_at (key_cmp k) q) refl
      where
        by_test : (b : Bool) → is_at (key_cmp k) q ≡ b → IsSome (cond b (option_map (with_row row) (at es k)) (at es q))
        by_test true e = still_some (at es k) row (subst (λ x. IsSome (at es x)) (sym (same_key k q e)) s)
        by_test false e = s

-- what is held anew
pub IsWork-hold : {t : Bool} {m : RowMap} {es : List (Key × Held)} {ss : List (Key × Option Row)} (fs : List (Key × Held)) (k : Key) (x : Held) → IsWork t m es ss → (t ≡ true → x.block ≡ get m k) → IfSome x.row (InRange k) → (same_row x.block x.row ≡ false → IfSome x.row (IsKept k))
    → ((q : Key) → at fs q ≡ cond (is_at (key_cmp k) q) (Some x) (at es q)) → IsWork t m fs ss
IsWork-hold {t} {m} {es} {ss} fs k x w told range good h = record {
  told = λ e. at_one (λ q o. IfSome o (λ x. x.block ≡ get m q)) es fs k (Some x) h (told e) (w.told e);
  ranged = at_one (λ q o. IfSome o (λ x. IfSome x.row (InRange q))) es fs k (Some x) h range w.ranged;
  kept = at_one (λ q o. IfSome o (λ x. same_row x.block x.row ≡ false → IfSome x.row (IsKept q))) es fs k (Some x) h good w.kept;
  has_row = at_one (λ q o. IsSome (at ss q) → IsSome o) es fs k (Some x) h (λ _. refl) w.has_row;
  ordered = w.ordered;
}

-- a view that tells the same rows
pub IsWork-view : {t : Bool} {m : RowMap} {es : List (Key × Held)} {ss : List (Key × Option Row)} (n : RowMap) → IsWork t m es ss → (t ≡ true → n ≡ m) → IsWork t n es ss
IsWork-view {t} {m} {es} {ss} n w same = record {
  told = λ e q. subst (λ (x : RowMap). IfSome (at es q) (λ h. h.block ≡ get x q)) (sym (same e)) (w.told e q);
  ranged = w.ranged;
  kept = w.kept;
  has_row = w.has_row;
  ordered = w.ordered;
}

-- ---- what changed since the start

-- a work that holds nothing
pub IsWork-new : (t : Bool) (m : RowMap) (es : List (Key × Held)) (ss : List (Key × Option Row)) → es ≡ [] → ss ≡ [] → IsWork t m es ss
IsWork-new t m es ss none nothing = subst (λ (xs : List (Key × Held)). IsWork t m xs ss) (sym none) (subst (IsWork t m []) (sym nothing) (record {
  told = λ e q. tt;
  ranged = λ q. tt;
  kept = λ q. tt;
  has_row = λ q h. absurd (true≢false (sym h));
  ordered = strictly {X = Option Row} [] tt;
}))

-- the start of a transaction
pub IsWork-begin : {t : Bool} {m : RowMap} {es : List (Key × Held)} {ss : List (Key × Option Row)} (ts : List (Key × Option Row)) → IsWork t m es ss → ts ≡ [] → IsWork t m es ts
IsWork-begin {t} {m} {es} {ss} ts w none = subst (IsWork t m es) (sym none) (record {
  told = w.told;
  ranged = w.ranged;
  kept = w.kept;
  has_row = λ q h. absurd (true≢false (sym h));
  ordered = strictly {X = Option Row} [] tt;
})

later_below : (k x : Key) (es : List (Key × Option Row)) → key_cmp k x ≡ Less → T (below_all key_cmp x es) → find key_cmp k es ≡ None
later_below k x [] l h = refl
later_below k x (e ∷ es) l h =
    let next : key_cmp x e.0 ≡ Less = less _ (first_of _ (below_all key_cmp x es) h) in
    ap (λ r. cond (is_eq r) (Some e.1) (find key_cmp k es)) (keys_total.trans k x e.0 l next)
    ∙ later_below k x es l (second_of (is_lt (key_cmp x e.0)) _ h)

cond_more : (e : Key × Option Row) (b : Bool) (xs ys : List (Key × Option Row)) → e ∷ cond b xs ys ≡ cond b (e ∷ xs) (e ∷ ys)
cond_more e true xs ys = refl
cond_more e false xs ys = refl

pub put_first-is : (k : Key) (v : Option Row) (es : List (Key × Option Row)) → T (is_sorted key_cmp es) → put_first k v es ≡ cond (is_some (find key_cmp k es)) es (put_at key_cmp k v es)
put_first-is k v [] h = refl
put_first-is k v (e ∷ es) h =
    elim (key_cmp k e.0) as (λ r. key_cmp k e.0 ≡ r → by_order r ((k, v) ∷ e ∷ es) (e ∷ es) (e ∷ put_first k v es) ≡ cond (is_some (cond (is_eq r) (Some e.1) (find key_cmp k es))) (e ∷ es) (by_order r ((k, v) ∷ e ∷ es) ((e.0, v) ∷ es) (e ∷ put_at key_cmp k v es))) [
      | Less ↦ λ p. ap (λ (o : Option (Option Row)). cond (is_some o) (e ∷ es) ((k, v) ∷ e ∷ es)) (sym (later_below k e.0 es p (first_of _ (is_sorted key_cmp es) h)))
      | Equal ↦ λ p. refl
      | Greater ↦ λ p. ap (λ xs. e ∷ xs) (put_first-is k v es (second_of (below_all key_cmp e.0 es) _ h)) ∙ cond_more e (is_some (find key_cmp k es)) es (put_at key_cmp k v es)
    ] refl

pub put_first-sorted : (k : Key) (v : Option Row) (es : List (Key × Option Row)) → T (is_sorted key_cmp es) → T (is_sorted key_cmp (put_first k v es))
put_first-sorted k v es h = subst (λ xs. T (is_sorted key_cmp xs)) (sym (put_first-is k v es h)) (by_test (is_some (find key_cmp k es)))
  where
    by_test : (b : Bool) → T (is_sorted key_cmp (cond b es (put_at key_cmp k v es)))
    by_test true = h
    by_test false = is_sorted-put key_cmp keys_total k v es h

there_or : (c : Option (Option Row)) (v : Option Row) → is_some c ≡ true → c ≡ Some (or_below c v)
there_or None v h = absurd (true≢false (sym h))
there_or (Some x) v h = refl

none_or : (c : Option (Option Row)) (v : Option Row) → is_some c ≡ false → v ≡ or_below c v
none_or None v h = refl
none_or (Some x) v h = absurd (true≢false h)

pub at-put_first : (k : Key) (v : Option Row) (es : List (Key × Option Row)) → T (is_sorted key_cmp es) → (q : Key) → at (put_first k v es) q ≡ cond (is_at (key_cmp k) q) (Some (or_below (at es k) v)) (at es q)
at-put_first k v es h q =
    sym (find-lookup keys_total (put_first k v es) q)
    ∙ ap (find key_cmp q) (put_first-is k v es h)
    ∙ by_test (is_some (find key_cmp k es)) refl
    ∙ ap₂ (λ c d. cond (is_at (key_cmp k) q) (Some (or_below c v)) d) (find-lookup keys_total es k) (find-lookup keys_total es q)
  where
    by_key : (b : Bool) → is_at (key_cmp k) q ≡ b → is_some (find key_cmp k es) ≡ true → find key_cmp q es ≡ cond b (Some (or_below (find key_cmp k es) v)) (find key_cmp q es)
    by_key true e s = ap (λ x. find key_cmp x es) (sym (same_key k q e)) ∙ there_or (find key_cmp k es) v s
    by_key false e s = refl

    by_test : (b : Bool) → is_some (find key_cmp k es) ≡ b → find key_cmp q (cond b es (put_at key_cmp k v es)) ≡ cond (is_at (key_cmp k) q) (Some (or_below (find key_cmp k es) v)) (find key_cmp q es)
    by_test true s = by_key (is_at (key_cmp k) q) refl s
    by_test false s = find-put key_cmp keys_total q k v es
        ∙ ap₂ (λ b x. cond b (Some x) (find key_cmp q es)) (turned_at k q) (none_or (find key_cmp k es) v s)

pub IsWork-start : {t : Bool} {m : RowMap} {es : List (Key × Held)} {ss : List (Key × Option Row)} (k : Key) (old : Option Row) → IsWork t m es ss → IsSome (at es k) → IsWork t m es (put_first k old ss)
IsWork-start {t} {m} {es} {ss} k old w had = record {
  told = w.told;
  ranged = w.ranged;
  kept = w.kept;
  has_row = at_one (λ q o. IsSome o → IsSome (at es q)) ss (put_first k old ss) k _ (at-put_first k old ss (sorted ss w.ordered)) (λ _. had) w.has_row;
  ordered = strictly (put_first k old ss) (put_first-sorted k old ss (sorted ss w.ordered));
}

-- the rows where nothing was set
pub set-same : (m : RowMap) (k : Key) (o : Option Row) → o ≡ get m k → set_at m k o ≡ m
set-same m k o is = same_map keys_total exact_keys (set_at m k o) m (λ q. get-set m k o q ∙ by_test q (is_at (key_cmp k) q) refl)
  where
    by_test : (q : Key) (b : Bool) → is_at (key_cmp k) q ≡ b → cond b o (get m q) ≡ get m q
    by_test q true e = is ∙ ap (get m) (same_key k q e)
    by_test q false e = refl

pub itself_at : (k : Key) → is_at (key_cmp k) k ≡ true
itself_at k = (eq_by_cmp_equiv keys_total).refl k

-- a key that was put is there
pub is_there : {Y : Type 0} (es fs : List (Key × Y)) (k : Key) (y : Y) → ((q : Key) → at fs q ≡ cond (is_at (key_cmp k) q) (Some y) (at es q)) → IsSome (at fs k)
is_there es fs k y h = rw (h k, itself_at k) refl
