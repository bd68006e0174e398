-- A queue over rows.
use Rattle.std.proofs.Common.{◌≡◌, ℕ, zero, suc, ◌+◌, ◌-◌, ◌^◌, ◌≤◌, refl, sym, ap, ◌∙◌, subst, List, [], ◌∷◌, ◌++◌, map, take, drop, length, length-append, Option, Some, None, Bool, true, false, cond, option_map, All, IfSome, arith}
use Rattle.std.specs.List.{AllByRecursion}
use Rattle.std.proofs.lemmas.List.Elements.{All-push, All-from_recursion, recursion_from_All}
use Rattle.std.specs.Option.{option_or}
use Rattle.std.specs.FinMap.{get}
use Rattle.std.specs.Map.{lookup}
use Rattle.std.specs.BTreeMap.{is_at}
use Rattle.al_base.specs.declared.address.Address.{Address}
use Rattle.al_base.specs.declared.key.Key.{Key}
use Rattle.al_base.specs.Keys.{key_cmp}
use Rattle.al_deltas.specs.declared.delta.RoundDelta.{RoundDelta}
use Rattle.al_rewards.specs.declared.totals.Totals.{Totals}
use Rattle.al_rows.specs.declared.change.Change.{Change}
use Rattle.al_rows.specs.declared.row.Row.{Row}
use Rattle.al_rows.specs.declared.stored.Stored.{Stored}
use Rattle.al_rows.specs.Finite.{or_below}
use Rattle.al_rows.specs.Rows.{IsKept}
use Rattle.al_rows.proofs.Keys.{keys_total, exact_keys}
use Rattle.al_rows.proofs.Maps.{find-lookup, get-overlaid}
use Rattle.al_deltas.proofs.Searches.{equal}
use Rattle.al_tables.specs.Tables.{StoredMap}
use Rattle.al_deltas.specs.Queue.{Queue, IsQueue, IsKeptDelta, AreRounds, and_delta, top, left_of, stored_at, left_by, changed_in, creator_in, last_change, last_creator, last_of, after_delta, rows_after, totals_after, level_after, up_to, from_round}

pub at_left : (round : ℕ) (cs : List Change) (q : Key) → lookup (is_at (key_cmp q)) (map (left_of round) cs) ≡ option_map (stored_at round) (changed_in q cs)
at_left round [] q = refl
at_left round (c ∷ cs) q = elim (is_at (key_cmp q) c.key) as (λ b. cond b (Some (stored_at round c.row)) (lookup (is_at (key_cmp q)) (map (left_of round) cs)) ≡ option_map (stored_at round) (cond b (Some c.row) (changed_in q cs))) [ true ↦ refl | false ↦ at_left round cs q ]

pub get-after_delta : (d : RoundDelta) (m : StoredMap) (q : Key) → get (after_delta d m) q ≡ or_below (option_map (stored_at d.round) (changed_in q d.changes)) (get m q)
get-after_delta d m q = get-overlaid keys_total (map (left_of d.round) d.changes) m q ∙ ap (λ f. or_below f (get m q)) (find-lookup keys_total (map (left_of d.round) d.changes) q ∙ at_left d.round d.changes q)

two : (round : ℕ) (late : Option (ℕ × Option Row)) (here : Option (Option Row)) (below : Option Stored) → or_below (option_map left_by late) (or_below (option_map (stored_at round) here) below) ≡ or_below (option_map left_by (option_or late (option_map (λ row. (round, row)) here))) below
two round None None below = refl
two round None (Some r) below = refl
two round (Some c) here below = refl

pub rows_are : (ds : List RoundDelta) (m : StoredMap) (q : Key) → get (rows_after ds m) q ≡ or_below (option_map left_by (last_change q ds)) (get m q)
rows_are [] m q = refl
rows_are (d ∷ ds) m q =
    rows_are ds (after_delta d m) q
    ∙ ap (or_below (option_map left_by (last_change q ds))) (get-after_delta d m q)
    ∙ two d.round (last_change q ds) (changed_in q d.changes) (get m q)

-- ---- from a round on

pub rows_then : (ds es : List RoundDelta) (m : StoredMap) → rows_after (ds ++ es) m ≡ rows_after es (rows_after ds m)
rows_then [] es m = refl
rows_then (d ∷ ds) es m = rows_then ds es (after_delta d m)

take_none : {A : Type 0} (n : ℕ) → ◌≡◌ {A = List A} (take n []) []
take_none zero = refl
take_none (suc n) = refl

pub take_parts : {A : Type 0} (n k : ℕ) (xs : List A) → take n xs ++ take k (drop n xs) ≡ take (n + k) xs
take_parts zero k xs = ap (λ j. take j xs) (let e : k ≡ zero + k = omega arith in e)
take_parts (suc n) k [] = take_none k ∙ sym (take_none (suc n + k))
take_parts (suc n) k (x ∷ xs) = ap (λ ys. x ∷ ys) (take_parts n k xs) ∙ ap (λ j. take j (x ∷ xs)) (let e : suc (n + k) ≡ suc n + k = omega arith in e)

pub goes_on : (q : Queue) (m : StoredMap) (at to : ℕ) → q.base ≤ at → at ≤ to → rows_after (up_to to (from_round at q)) (rows_after (up_to at q) m) ≡ rows_after (up_to to q) m
goes_on q m at to low high =
    let n = at - q.base in
    let k = to - at in
    let sum : n + k ≡ to - q.base = omega arith in
    sym (rows_then (take n q.deltas) (take k (drop n q.deltas)) m)
    ∙ ap (λ ds. rows_after ds m) (take_parts n k q.deltas ∙ ap (λ j. take j q.deltas) sum)

-- ---- the last of a list

pub or_assoc : {A : Type 0} (a b c : Option A) → option_or (option_or a b) c ≡ option_or a (option_or b c)
or_assoc None b c = refl
or_assoc (Some x) b c = refl

or_none : {A : Type 0} (a : Option A) → option_or a None ≡ a
or_none None = refl
or_none (Some x) = refl

pub last_more : (q : Key) (ds : List RoundDelta) (d : RoundDelta) → last_change q (ds ++ d ∷ []) ≡ option_or (option_map (λ row. (d.round, row)) (changed_in q d.changes)) (last_change q ds)
last_more q [] d = sym (or_none (option_map (λ row. (d.round, row)) (changed_in q d.changes)))
last_more q (x ∷ ds) d =
    ap (λ o. option_or o (option_map (λ row. (x.round, row)) (changed_in q x.changes))) (last_more q ds d)
    ∙ or_assoc (option_map (λ row. (d.round, row)) (changed_in q d.changes)) (last_change q ds) (option_map (λ row. (x.round, row)) (changed_in q x.changes))

pub find_step : (q : Key) (xs : List RoundDelta) (d : RoundDelta) (left : List RoundDelta) → left ≡ xs ++ d ∷ [] → changed_in q d.changes ≡ None → last_change q xs ≡ last_change q left
find_step q xs d left is none = ap (λ o. option_or (option_map (λ row. (d.round, row)) o) (last_change q xs)) (sym none) ∙ sym (last_more q xs d) ∙ ap (last_change q) (sym is)

pub find_here : (q : Key) (xs : List RoundDelta) (d : RoundDelta) (left : List RoundDelta) (row : Option Row) → left ≡ xs ++ d ∷ [] → changed_in q d.changes ≡ Some row → Some (d.round, row) ≡ last_change q left
find_here q xs d left row is some = ap (λ o. option_or (option_map (λ r. (d.round, r)) o) (last_change q xs)) (sym some) ∙ sym (last_more q xs d) ∙ ap (last_change q) (sym is)

-- ---- the last change of a creator

pub creator_more : (id : ℕ) (ds : List RoundDelta) (d : RoundDelta) → last_creator id (ds ++ d ∷ []) ≡ option_or (creator_in id d.creators) (last_creator id ds)
creator_more id [] d = sym (or_none (creator_in id d.creators))
creator_more id (x ∷ ds) d = ap (λ o. option_or o (creator_in id x.creators)) (creator_more id ds d) ∙ or_assoc (creator_in id d.creators) (last_creator id ds) (creator_in id x.creators)

pub creator_step : (id : ℕ) (xs : List RoundDelta) (d : RoundDelta) (left : List RoundDelta) → left ≡ xs ++ d ∷ [] → creator_in id d.creators ≡ None → last_creator id xs ≡ last_creator id left
creator_step id xs d left is none = ap (λ o. option_or o (last_creator id xs)) (sym none) ∙ sym (creator_more id xs d) ∙ ap (last_creator id) (sym is)

pub creator_here : (id : ℕ) (xs : List RoundDelta) (d : RoundDelta) (left : List RoundDelta) (creator : Option Address) → left ≡ xs ++ d ∷ [] → creator_in id d.creators ≡ Some creator → Some creator ≡ last_creator id left
creator_here id xs d left creator is some = ap (λ o. option_or o (last_creator id xs)) (sym some) ∙ sym (creator_more id xs d) ∙ ap (last_creator id) (sym is)

-- ---- one round more

rounds_more : (base : ℕ) (ds : List RoundDelta) (d : RoundDelta) → AreRounds base ds → d.round ≡ suc (base + length ds) → AreRounds base (ds ++ d ∷ [])
rounds_more base [] d h e = (e ∙ (let s : suc (base + 0) ≡ suc base = omega arith in s), tt)
rounds_more base (x ∷ ds) d h e = (h.0, rounds_more (suc base) ds d h.1 (e ∙ (let s : suc (base + suc (length ds)) ≡ suc (suc base + length ds) = omega arith in s)))

pub queue_more : (q : Queue) (d : RoundDelta) → IsQueue q → d.round ≡ suc (top q) → d.round ≤ 2 ^ 62 → IsKeptDelta d → IsQueue (and_delta d q)
queue_more q d h next most kept = record {
  rounds = rounds_more q.base q.deltas d h.rounds next;
  last = (let long = length-append q.deltas (d ∷ []) in omega (arith, long, next, most));
  kept = All-push IsKeptDelta q.deltas d h.kept kept;
}

pub queue_pushed : (q : Queue) (d : RoundDelta) (ds : List RoundDelta) (spare : ℕ) → IsQueue q → d.round ≡ suc (top q) → d.round ≤ 2 ^ 62 → IsKeptDelta d → ds ≡ q.deltas ++ d ∷ [] → IsQueue (record { base = q.base; deltas = ds; totals = q.totals; spare = spare })
queue_pushed q d ds spare h next most kept is =
    let x = queue_more q d h next most kept in
    subst (λ es. IsQueue (record { base = q.base; deltas = es; totals = q.totals; spare = spare })) (sym is) (record { rounds = x.rounds; last = x.last; kept = x.kept })

-- ---- the last round

pub last_pushed : {A : Type 0} (xs : List A) (x : A) → last_of (xs ++ x ∷ []) ≡ Some x
last_pushed [] x = refl
last_pushed (y ∷ []) x = refl
last_pushed (y ∷ z ∷ xs) x = last_pushed (z ∷ xs) x

pub totals_more : (ds : List RoundDelta) (d : RoundDelta) (t : Totals) → totals_after (ds ++ d ∷ []) t ≡ d.totals
totals_more [] d t = refl
totals_more (x ∷ ds) d t = totals_more ds d x.totals

pub level_more : (ds : List RoundDelta) (d : RoundDelta) (level : ℕ) → level_after (ds ++ d ∷ []) level ≡ d.header.level
level_more [] d level = refl
level_more (x ∷ ds) d level = level_more ds d x.header.level

-- ---- what is found may be kept

pub found_kept : (q : Key) (cs : List Change) → AllByRecursion (λ c. IfSome c.row (IsKept c.key)) cs → IfSome (changed_in q cs) (λ r. IfSome r (IsKept q))
found_kept q [] h = tt
found_kept q (c ∷ cs) h = by_test (is_at (key_cmp q) c.key) refl (found_kept q cs h.1)
  where
    by_test : (b : Bool) → is_at (key_cmp q) c.key ≡ b → IfSome (changed_in q cs) (λ r. IfSome r (IsKept q)) → IfSome (cond b (Some c.row) (changed_in q cs)) (λ r. IfSome r (IsKept q))
    by_test true e rest = subst (λ k. IfSome c.row (IsKept k)) (sym (exact_keys q c.key (equal (key_cmp q c.key) e))) h.0
    by_test false e rest = rest

pub change_kept : (q : Key) (d : RoundDelta) (row : Option Row) → IsKeptDelta d → changed_in q d.changes ≡ Some row → IfSome row (IsKept q)
change_kept q d row kept is = subst (λ o. IfSome o (λ r. IfSome r (IsKept q))) is (found_kept q d.changes (recursion_from_All (λ (c : Change). IfSome c.row (IsKept c.key)) d.changes kept.kept))

-- the last of a list that is kept, and the others
pub split_kept : (xs : List RoundDelta) (d : RoundDelta) (left : List RoundDelta) → left ≡ xs ++ d ∷ [] → All IsKeptDelta left → All IsKeptDelta xs × IsKeptDelta d
split_kept xs d left is h =
    let r = recursion_from_All IsKeptDelta (xs ++ d ∷ []) (subst (All IsKeptDelta) is h) in
    let s = parts xs r in
    (All-from_recursion IsKeptDelta xs s.0, s.1)
  where
    parts : (xs : List RoundDelta) → AllByRecursion IsKeptDelta (xs ++ d ∷ []) → AllByRecursion IsKeptDelta xs × IsKeptDelta d
    parts [] h = (tt, h.0)
    parts (x ∷ xs) h = let s = parts xs h.1 in ((h.0, s.0), s.1)
