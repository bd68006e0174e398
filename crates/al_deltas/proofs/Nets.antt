-- The last changes of blocks together.
use Rattle.std.proofs.Common.{◌≡◌, ℕ, zero, suc, ◌+◌, ◌-◌, ◌^◌, ◌≤◌, refl, sym, ap, ◌∙◌, subst, List, [], ◌∷◌, ◌++◌, append_assoc, map, take, drop, length, length-drop, Option, Some, None, Bool, true, false, cond, is_some, option_map, All, IfSome, Ordering, Result, Ok, Err, IfOk, arith}
use Rattle.std.specs.Cmp.{IsTotalOrder, eq_by_cmp_equiv}
use Rattle.std.specs.List.{AllByRecursion}
use Rattle.std.specs.List.Sorted.{IsStrictlySortedBy}
use Rattle.std.proofs.lemmas.Cmp.{nat_cmp_total}
use Rattle.std.proofs.lemmas.List.Elements.{All-from_recursion, recursion_from_All}
use Rattle.std.specs.Option.{option_or}
use Rattle.std.specs.FinMap.{IsAntisymmetric, get, nat_cmp-IsAntisymmetric, same_map}
use Rattle.std.specs.Map.{lookup}
use Rattle.std.specs.BTreeMap.{BTreeMap, IsOrdered, is_at}
use Rattle.al_base.specs.declared.address.Address.{Address}
use Rattle.al_base.specs.declared.key.CreatorChange.{CreatorChange}
use Rattle.al_base.specs.declared.key.Key.{Key}
use Rattle.al_base.specs.declared.online.LevelAt.{LevelAt}
use Rattle.al_base.specs.declared.online.OnlineChange.{OnlineChange}
use Rattle.al_base.specs.declared.online.Version.{Version}
use Rattle.al_base.specs.Keys.{key_cmp}
use Rattle.al_deltas.specs.declared.delta.RoundDelta.{RoundDelta}
use Rattle.al_rewards.specs.declared.totals.Totals.{Totals}
use Rattle.al_rows.specs.declared.change.Change.{Change}
use Rattle.al_rows.specs.declared.row.Row.{Row}
use Rattle.al_rows.specs.declared.stored.Stored.{Stored}
use Rattle.al_rows.specs.Above.{IsStored}
use Rattle.al_rows.specs.Finite.{or_below, overlaid}
use Rattle.al_rows.specs.Rows.{IsKept}
use Rattle.al_rows.proofs.Keys.{keys_total, exact_keys}
use Rattle.al_rows.proofs.Maps.{entries_found, find-lookup, get-overlaid}
use Rattle.al_rows.proofs.Views.{sorted}
use Rattle.al_tables.specs.declared.batch.Batch.{Batch}
use Rattle.al_tables.specs.declared.batch.BatchRow.{BatchRow}
use Rattle.al_tables.specs.Tables.{CreatorMap, StoredMap, Tables, begun_from, added, committed, creator_pair, kept_levels, kept_versions, row_of}
use Rattle.al_deltas.specs.Net.{AreNet, AreNetCreators, IsBatchOf, creators_after, levels_of, tables_after, version_of, versions_of}
use Rattle.al_deltas.specs.Queue.{Queue, IsQueue, IsKeptDelta, AreRounds, top, left_of, stored_at, left_by, changed_in, creator_in, last_change, last_creator, rows_after, up_to, from_round}
use Rattle.al_deltas.proofs.Queues.{at_left, creator_more, found_kept, last_more, or_assoc, rows_are, take_parts}
use Rattle.al_deltas.proofs.Searches.{equal}

-- ---- changes put from the latest on, each where nothing is put yet

module _ {K X : Type 0} {cmp : K → K → Ordering} (total : IsTotalOrder cmp) (exact : IsAntisymmetric cmp) where
  -- a key at which something is put
  pub put_over : (k : K) (x : X) (f : K → Option X) → is_some (f k) ≡ true → (q : K) → f q ≡ option_or (f q) (cond (is_at (cmp k) q) (Some x) None)
  put_over k x f there q = by_test (is_at (cmp k) q) refl
    where
      over : (o : Option X) → is_some o ≡ true → o ≡ option_or o (Some x)
      over None e = cc
      over (Some y) e = refl

      bare : (o : Option X) → o ≡ option_or o None
      bare None = refl
      bare (Some y) = refl

      by_test : (b : Bool) → is_at (cmp k) q ≡ b → f q ≡ option_or (f q) (cond b (Some x) None)
      by_test true e = over (f q) (ap (λ y. is_some (f y)) (sym (exact k q (equal (cmp k q) e))) ∙ there)
      by_test false e = bare (f q)

  -- a key at which nothing is put
  pub put_new : (k : K) (x : X) (f g : K → Option X) → is_some (f k) ≡ false → ((q : K) → g q ≡ cond (is_at (cmp k) q) (Some x) (f q)) → (q : K) → g q ≡ option_or (f q) (cond (is_at (cmp k) q) (Some x) None)
  put_new k x f g absent is q = is q ∙ by_test (is_at (cmp k) q) refl
    where
      new : (o : Option X) → is_some o ≡ false → Some x ≡ option_or o (Some x)
      new None e = refl
      new (Some y) e = cc

      bare : (o : Option X) → o ≡ option_or o None
      bare None = refl
      bare (Some y) = refl

      by_test : (b : Bool) → is_at (cmp k) q ≡ b → cond b (Some x) (f q) ≡ option_or (f q) (cond b (Some x) None)
      by_test true e = new (f q) (ap (λ y. is_some (f y)) (sym (exact k q (equal (cmp k q) e))) ∙ absent)
      by_test false e = bare (f q)

  -- to put the first of the changes leaves the others to do
  pub put_one : (k : K) (x : X) (es : List (K × X)) (f g : K → Option X) → ((q : K) → g q ≡ option_or (f q) (cond (is_at (cmp k) q) (Some x) None)) → (q : K) → option_or (g q) (lookup (is_at (cmp q)) es) ≡ option_or (f q) (lookup (is_at (cmp q)) ((k, x) ∷ es))
  put_one k x es f g is q =
      ap (λ o. option_or o (lookup (is_at (cmp q)) es)) (is q ∙ ap (λ b. option_or (f q) (cond b (Some x) None)) ((eq_by_cmp_equiv total).symm k q))
      ∙ or_assoc (f q) (cond (is_at (cmp q) k) (Some x) None) (lookup (is_at (cmp q)) es)
      ∙ ap (option_or (f q)) (one_or (is_at (cmp q) k))
    where
      one_or : (b : Bool) → option_or (cond b (Some x) None) (lookup (is_at (cmp q)) es) ≡ cond b (Some x) (lookup (is_at (cmp q)) es)
      one_or true = refl
      one_or false = refl

-- the latest block's changes, put where nothing is put yet
pub net_less : (before left : List RoundDelta) (d : RoundDelta) (f g : Key → Option (Option Stored)) → left ≡ before ++ d ∷ [] → ((q : Key) → g q ≡ option_or (f q) (lookup (is_at (key_cmp q)) (map (left_of d.round) d.changes)))
    → (q : Key) → option_or (g q) (option_map left_by (last_change q before)) ≡ option_or (f q) (option_map left_by (last_change q left))
net_less before left d f g split is q =
    ap (λ o. option_or o (option_map left_by (last_change q before))) (is q)
    ∙ or_assoc (f q) (lookup (is_at (key_cmp q)) (map (left_of d.round) d.changes)) (option_map left_by (last_change q before))
    ∙ ap (λ o. option_or (f q) (option_or o (option_map left_by (last_change q before)))) (at_left d.round d.changes q)
    ∙ ap (option_or (f q)) (joined (changed_in q d.changes) (last_change q before) ∙ ap (option_map left_by) (sym (last_more q before d) ∙ ap (last_change q) (sym split)))
  where
    joined : (here : Option (Option Row)) (rest : Option (ℕ × Option Row)) → option_or (option_map (stored_at d.round) here) (option_map left_by rest) ≡ option_map left_by (option_or (option_map (λ row. (d.round, row)) here) rest)
    joined None rest = refl
    joined (Some r) rest = refl

pub creators_less : (before left : List RoundDelta) (d : RoundDelta) (f g : ℕ → Option (Option Address)) → left ≡ before ++ d ∷ [] → ((id : ℕ) → g id ≡ option_or (f id) (creator_in id d.creators))
    → (id : ℕ) → option_or (g id) (last_creator id before) ≡ option_or (f id) (last_creator id left)
creators_less before left d f g split is id =
    ap (λ o. option_or o (last_creator id before)) (is id)
    ∙ or_assoc (f id) (creator_in id d.creators) (last_creator id before)
    ∙ ap (option_or (f id)) (sym (creator_more id before d) ∙ ap (last_creator id) (sym split))

-- ---- the rows of a batch may be stored

module _ {X : Type 0} (P : X → Type 0) where
  pub either_kept : (o p : Option X) → IfSome o P → IfSome p P → IfSome (option_or o p) P
  either_kept None p h k = k
  either_kept (Some x) p h k = h

stored_left : (q : Key) (round : ℕ) (o : Option (Option Row)) → round ≤ 2 ^ 62 → IfSome o (λ r. IfSome r (IsKept q)) → IfSome (option_map (λ row. (round, row)) o) (λ c. IfSome (left_by c) (IsStored q))
stored_left q round None low h = tt
stored_left q round (Some None) low h = tt
stored_left q round (Some (Some r)) low h = (h, low)

stored_last : (q : Key) (ds : List RoundDelta) → AllByRecursion IsKeptDelta ds → AllByRecursion (λ d. d.round ≤ 2 ^ 62) ds → IfSome (last_change q ds) (λ c. IfSome (left_by c) (IsStored q))
stored_last q [] h low = tt
stored_last q (d ∷ ds) h low =
    either_kept (λ c. IfSome (left_by c) (IsStored q)) (last_change q ds) (option_map (λ row. (d.round, row)) (changed_in q d.changes)) (stored_last q ds h.1 low.1)
    (stored_left q d.round (changed_in q d.changes) low.0 (found_kept q d.changes (recursion_from_All (λ (c : Change). IfSome c.row (IsKept c.key)) d.changes h.0.kept)))

stored_found : (q : Key) (o : Option (ℕ × Option Row)) (s : Option Stored) → IfSome o (λ c. IfSome (left_by c) (IsStored q)) → option_map left_by o ≡ Some s → IfSome s (IsStored q)
stored_found q None s h e = cc
stored_found q (Some c) s h e = let same : left_by c ≡ s = cc in subst (λ t. IfSome t (IsStored q)) same h

-- each of entries in the order of keys that are the last changes may be stored
entries_stored : (ds : List RoundDelta) (es : List (Key × Option Stored)) → AllByRecursion IsKeptDelta ds → AllByRecursion (λ d. d.round ≤ 2 ^ 62) ds → IsStrictlySortedBy key_cmp (map (λ e. e.0) es) → AreNet ds es → AllByRecursion (λ e. IfSome e.1 (IsStored e.0)) es
entries_stored ds es kept low ordered net = all_more es (λ e is. stored_found e.0 (last_change e.0 ds) e.1 (stored_last e.0 ds kept low) (sym (net e.0) ∙ sym (find-lookup keys_total es e.0) ∙ is)) (entries_found keys_total es (sorted es ordered))
  where
    all_more : {A : Type 0} {P Q : A → Type 0} (xs : List A) → ((x : A) → P x → Q x) → AllByRecursion P xs → AllByRecursion Q xs
    all_more [] f h = tt
    all_more (x ∷ xs) f h = (f x h.0, all_more xs f h.1)

rows_stored : (rows : List BatchRow) → AllByRecursion (λ (e : Key × Option Stored). IfSome e.1 (IsStored e.0)) (map row_of rows) → AllByRecursion (λ r. IfSome r.stored (IsStored r.key)) rows
rows_stored [] h = tt
rows_stored (r ∷ rows) h = (h.0, rows_stored rows h.1)

pub stored_if : {E : Type 0} (r : Result (List BatchRow) E) (ds : List RoundDelta) (net : BTreeMap Key (Option Stored)) → All IsKeptDelta ds → All (λ d. d.round ≤ 2 ^ 62) ds → IsOrdered key_cmp net → AreNet ds net.entries → IfOk r (λ rows. map row_of rows ≡ net.entries) → IfOk r (λ rows. All (λ r. IfSome r.stored (IsStored r.key)) rows)
stored_if (Err e) ds net kept low ordered last is = tt
stored_if (Ok rows) ds net kept low ordered last is =
    All-from_recursion (λ (r : BatchRow). IfSome r.stored (IsStored r.key)) rows (rows_stored rows (subst (AllByRecursion (λ (e : Key × Option Stored). IfSome e.1 (IsStored e.0))) (sym is)
    (entries_stored ds net.entries (recursion_from_All IsKeptDelta ds kept) (recursion_from_All (λ (d : RoundDelta). d.round ≤ 2 ^ 62) ds low) ordered last)))

-- ---- no round is above 2^62

versions_low : (ds : List RoundDelta) → AllByRecursion (λ d. d.round ≤ 2 ^ 62) ds → AllByRecursion (λ (v : Version). v.round ≤ 2 ^ 62) (versions_of ds)
versions_low [] h = tt
versions_low (d ∷ ds) h = both d.online (versions_low ds h.1)
  where
    both : (cs : List OnlineChange) → AllByRecursion (λ (v : Version). v.round ≤ 2 ^ 62) (versions_of ds) → AllByRecursion (λ (v : Version). v.round ≤ 2 ^ 62) (map (version_of d.round) cs ++ versions_of ds)
    both [] rest = rest
    both (c ∷ cs) rest = (h.0, both cs rest)

levels_low : (ds : List RoundDelta) → AllByRecursion (λ d. d.round ≤ 2 ^ 62) ds → AllByRecursion (λ (l : LevelAt). l.round ≤ 2 ^ 62) (levels_of ds)
levels_low [] h = tt
levels_low (d ∷ ds) h = (h.0, levels_low ds h.1)

pub history_low : (ds : List RoundDelta) (vs : List Version) → vs ≡ versions_of ds → All (λ d. d.round ≤ 2 ^ 62) ds → All (λ v. v.round ≤ 2 ^ 62) vs
history_low ds vs is low = subst (All (λ (v : Version). v.round ≤ 2 ^ 62)) (sym is) (All-from_recursion (λ (v : Version). v.round ≤ 2 ^ 62) (versions_of ds) (versions_low ds (recursion_from_All (λ (d : RoundDelta). d.round ≤ 2 ^ 62) ds low)))

pub all_levels_low : (ds : List RoundDelta) (ls : List LevelAt) → ls ≡ levels_of ds → All (λ d. d.round ≤ 2 ^ 62) ds → All (λ l. l.round ≤ 2 ^ 62) ls
all_levels_low ds ls is low = subst (All (λ (l : LevelAt). l.round ≤ 2 ^ 62)) (sym is) (All-from_recursion (λ (l : LevelAt). l.round ≤ 2 ^ 62) (levels_of ds) (levels_low ds (recursion_from_All (λ (d : RoundDelta). d.round ≤ 2 ^ 62) ds low)))

rounds_low : (base most : ℕ) (ds : List RoundDelta) → AreRounds base ds → base + length ds ≤ most → AllByRecursion (λ d. d.round ≤ most) ds
rounds_low base most [] h m = tt
rounds_low base most (d ∷ ds) h m = (let e = h.0 in omega (arith, m, e), rounds_low (suc base) most ds h.1 (omega (arith, m)))

front : {A : Type 0} (P : A → Type 0) (n : ℕ) (xs : List A) → AllByRecursion P xs → AllByRecursion P (take n xs)
front P zero xs h = tt
front P (suc n) [] h = tt
front P (suc n) (x ∷ xs) h = (h.0, front P n xs h.1)

pub kept_up_to : (q : Queue) (to : ℕ) → IsQueue q → All IsKeptDelta (up_to to q)
kept_up_to q to h = All-from_recursion IsKeptDelta (up_to to q) (front IsKeptDelta (to - q.base) q.deltas (recursion_from_All IsKeptDelta q.deltas h.kept))

pub low_up_to : (q : Queue) (to : ℕ) → IsQueue q → All (λ d. d.round ≤ 2 ^ 62) (up_to to q)
low_up_to q to h = All-from_recursion (λ (d : RoundDelta). d.round ≤ 2 ^ 62) (up_to to q) (front (λ (d : RoundDelta). d.round ≤ 2 ^ 62) (to - q.base) q.deltas (rounds_low q.base (2 ^ 62) q.deltas h.rounds h.last))

-- ---- the base rises

rounds_from : (n base : ℕ) (ds : List RoundDelta) → AreRounds base ds → n ≤ length ds → AreRounds (base + n) (drop n ds)
rounds_from zero base ds h m = subst (λ b. AreRounds b ds) (let e : base ≡ base + 0 = omega arith in e) h
rounds_from (suc n) base [] h m = absurd (omega (arith, m))
rounds_from (suc n) base (d ∷ ds) h m = subst (λ b. AreRounds b (drop n ds)) (let e : suc base + n ≡ base + suc n = omega arith in e) (rounds_from n (suc base) ds h.1 (omega (arith, m)))

back : {A : Type 0} (P : A → Type 0) (n : ℕ) (xs : List A) → AllByRecursion P xs → AllByRecursion P (drop n xs)
back P zero xs h = h
back P (suc n) [] h = tt
back P (suc n) (x ∷ xs) h = back P n xs h.1

long_back : {A : Type 0} (n : ℕ) (xs : List A) → n ≤ length xs → n + length (drop n xs) ≡ length xs
long_back zero xs h = let e : 0 + length xs ≡ length xs = omega arith in e
long_back (suc n) [] h = absurd (omega (arith, h))
long_back (suc n) (x ∷ xs) h = (let r = long_back n xs (omega (arith, h)) in omega (arith, r))

pub queue_from : (q : Queue) (to : ℕ) → IsQueue q → q.base ≤ to → to ≤ top q → IsQueue (from_round to q)
queue_from q to h low high =
    let n = to - q.base in
    let at : q.base + n ≡ to = omega arith in
    let few : n ≤ length q.deltas = omega (arith, high) in
    record {
      rounds = subst (λ b. AreRounds b (drop n q.deltas)) at (rounds_from n q.base q.deltas h.rounds few);
      last = (let long = long_back n q.deltas few in let most = h.last in omega (arith, long, most, at));
      kept = All-from_recursion IsKeptDelta (drop n q.deltas) (back IsKeptDelta n q.deltas (recursion_from_All IsKeptDelta q.deltas h.kept));
    }

-- the others alone, with the totals after those that were dropped
pub queue_dropped : (q : Queue) (to : ℕ) (totals : Totals) (ds : List RoundDelta) → IsQueue q → q.base ≤ to → to ≤ top q → ds ≡ drop (to - q.base) q.deltas → IsQueue (record { base = to; deltas = ds; totals = totals; spare = q.spare })
queue_dropped q to totals ds h low high is =
    let x = queue_from q to h low high in
    subst (λ es. IsQueue (record { base = to; deltas = es; totals = totals; spare = q.spare })) (sym is) (record { rounds = x.rounds; last = x.last; kept = x.kept })

pub shorter : {A : Type 0} (n : ℕ) (xs ys : List A) → ys ≡ drop n xs → length ys ≤ length xs
shorter n xs ys is = let less = length-drop n xs in let same = ap length is in omega (arith, less, same)

-- ---- what is put together leads to the tables after the blocks

pub net_is : (ds : List RoundDelta) (es : List (Key × Option Stored)) (m : StoredMap) → AreNet ds es → overlaid es m ≡ rows_after ds m
net_is ds es m net = same_map keys_total exact_keys (overlaid es m) (rows_after ds m) (λ q.
    get-overlaid keys_total es m q
    ∙ ap (λ f. or_below f (get m q)) (find-lookup keys_total es q ∙ net q)
    ∙ sym (rows_are ds m q))

creators_over : (cs : List CreatorChange) (m : CreatorMap) (id : ℕ) → get (overlaid (map creator_pair cs) m) id ≡ or_below (creator_in id cs) (get m id)
creators_over cs m id = get-overlaid nat_cmp_total (map creator_pair cs) m id ∙ ap (λ f. or_below f (get m id)) (find-lookup nat_cmp_total (map creator_pair cs) id)

below_both : {X : Type 0} (late here : Option X) (below : X) → or_below late (or_below here below) ≡ or_below (option_or late here) below
below_both None here below = refl
below_both (Some x) here below = refl

pub creators_are : (ds : List RoundDelta) (m : CreatorMap) (id : ℕ) → get (creators_after ds m) id ≡ or_below (last_creator id ds) (get m id)
creators_are [] m id = refl
creators_are (d ∷ ds) m id =
    creators_are ds (overlaid (map creator_pair d.creators) m) id
    ∙ ap (or_below (last_creator id ds)) (creators_over d.creators m id)
    ∙ below_both (last_creator id ds) (creator_in id d.creators) (get m id)

pub net_creators_are : (ds : List RoundDelta) (es : List (ℕ × Option Address)) (m : CreatorMap) → AreNetCreators ds es → overlaid es m ≡ creators_after ds m
net_creators_are ds es m net = same_map nat_cmp_total nat_cmp-IsAntisymmetric (overlaid es m) (creators_after ds m) (λ id.
    get-overlaid nat_cmp_total es m id
    ∙ ap (λ f. or_below f (get m id)) (find-lookup nat_cmp_total es id ∙ net id)
    ∙ sym (creators_are ds m id))

creators_then : (ds es : List RoundDelta) (m : CreatorMap) → creators_after (ds ++ es) m ≡ creators_after es (creators_after ds m)
creators_then [] es m = refl
creators_then (d ∷ ds) es m = creators_then ds es (overlaid (map creator_pair d.creators) m)

pub creators_from : (q : Queue) (m : CreatorMap) (at to : ℕ) → q.base ≤ at → at ≤ to → creators_after (up_to to (from_round at q)) (creators_after (up_to at q) m) ≡ creators_after (up_to to q) m
creators_from q m at to low high =
    let n = at - q.base in
    let k = to - at in
    let sum : n + k ≡ to - q.base = omega arith in
    sym (creators_then (take n q.deltas) (take k (drop n q.deltas)) m)
    ∙ ap (λ ds. creators_after ds m) (take_parts n k q.deltas ∙ ap (λ j. take j q.deltas) sum)

pub batch_leads : (q : Queue) (to : ℕ) (b : Batch) (t : Tables) → IsBatchOf to q b → committed b t ≡ tables_after to q t
batch_leads q to b t x =
    ap (λ o. added b (begun_from o t)) x.from_is
    ∙ (λ i. record {
      round = Some (x.to_is i);
      rows = net_is (up_to to q) (map row_of b.rows) t.rows x.rows i;
      creators = net_creators_are (up_to to q) (map creator_pair b.creators) t.creators x.creators i;
      history = kept_versions (x.to_is i) (t.history ++ x.history i);
      levels = kept_levels (x.to_is i) (t.levels ++ x.levels i);
      stage = t.stage;
    })

-- ---- versions, one block more

pub versions_step : (out new : List Version) (all : List RoundDelta) (d : RoundDelta) (rest : List RoundDelta) → all ≡ d ∷ rest → new ≡ out ++ map (version_of d.round) d.online → new ++ versions_of rest ≡ out ++ versions_of all
versions_step out new all d rest split is =
    ap (λ vs. vs ++ versions_of rest) is
    ∙ append_assoc out (map (version_of d.round) d.online) (versions_of rest)
    ∙ ap (λ ds. out ++ versions_of ds) (sym split)
