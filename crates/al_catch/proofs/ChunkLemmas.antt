-- The rows above the last key of a chunk are those behind it.
use Rattle.std.proofs.Common.{◌≡◌, ◌≤◌, ◌<◌, ◌+◌, ◌-◌, ◌*◌, ℕ, zero, suc, List, [], ◌∷◌, length, map, take, drop, filter, get_or, refl, sym, ap, ◌∙◌, subst, arith, Ordering, Less, Equal, Greater, Bool, true, false, cond, T, is_lt, ◌&&◌, length-drop, Option, Some, None, is_some}
use Rattle.std.proofs.lemmas.Cmp.{tied_itself}
use Rattle.std.proofs.lemmas.List.{drop-drop, length-take, length-map}
use Rattle.std.proofs.lemmas.Simd.{map-map}
use Rattle.std.specs.Cmp.{IsTotalOrder}
use Rattle.std.specs.FinMap.{FinMap, is_sorted, entries, entries_sorted}
use Rattle.std.specs.FinMap.Entries.{below_all}
use Rattle.std.specs.Ordering.{ordering_reverse}
use Rattle.al_base.specs.declared.key.Key.{Key}
use Rattle.al_base.specs.Keys.{key_cmp}
use Rattle.al_rows.specs.declared.stored.Keyed.{Keyed}
use Rattle.al_rows.specs.declared.stored.Stored.{Stored}
use Rattle.al_rows.specs.Above.{entries_above, keyed_of, rows_above}
use Rattle.al_rows.proofs.Keys.{keys_total}
use Rattle.al_msgpack.specs.Spelled.{spelled}
use Rattle.al_msgpack.specs.declared.val.Val.TheVariants as values
use Rattle.al_catch.specs.Catching.{Shown, chunk_at, chunk_bytes, chunk_count}
use Rattle.al_catch.specs.Records.{chunk}
use Rattle.al_catch.specs.declared.chunk.Chunk.{Chunk}
use Rattle.al_catch.specs.Steps.{EndsAt, chunk_of, row_of}

first_true : (a b : Bool) → T (a && b) → T a
first_true true b p = tt
first_true false b p = p

second_true : (a b : Bool) → T (a && b) → T b
second_true true b p = p
second_true false b p = absurd p

is_true : (b : Bool) → T b → b ≡ true
is_true true h = refl
is_true false h = absurd h

-- of two keys that differ only the lower is below the other
not_back : (r s : Ordering) → s ≡ ordering_reverse r → T (is_lt r) → is_lt s ≡ false
not_back Less s e h = ap is_lt e
not_back Equal s e h = absurd h
not_back Greater s e h = absurd h

below_at : (k : Key) (es rest : List (Key × Stored)) (x : Key × Stored) (i : ℕ) → T (below_all key_cmp k es) → drop i es ≡ x ∷ rest → T (is_lt (key_cmp k x.0))
below_at k [] rest x zero h e = absurd cc
below_at k [] rest x (suc i) h e = absurd cc
below_at k (y ∷ es) rest x zero h e = subst (λ (z : Key × Stored). T (is_lt (key_cmp k z.0))) same (first_true (is_lt (key_cmp k y.0)) (below_all key_cmp k es) h)
  where
    same : y ≡ x
    same = cc
below_at k (y ∷ es) rest x (suc i) h e = below_at k es rest x i (second_true (is_lt (key_cmp k y.0)) (below_all key_cmp k es) h) e

-- every entry behind a key that is below all
all_above : (k : Key) (es : List (Key × Stored)) → T (below_all key_cmp k es) → filter (λ e. is_lt (key_cmp k e.0)) es ≡ es
all_above k [] h = refl
all_above k (e ∷ es) h =
    ap (λ (b : Bool). cond b (e ∷ filter (λ (e : Key × Stored). is_lt (key_cmp k e.0)) es) (filter (λ (e : Key × Stored). is_lt (key_cmp k e.0)) es)) (is_true (is_lt (key_cmp k e.0)) (first_true (is_lt (key_cmp k e.0)) (below_all key_cmp k es) h))
    ∙ ap (λ (t : List (Key × Stored)). e ∷ t) (all_above k es (second_true (is_lt (key_cmp k e.0)) (below_all key_cmp k es) h))

left_out : (k : Key) (e : Key × Stored) (es : List (Key × Stored)) → is_lt (key_cmp k e.0) ≡ false → filter (λ e. is_lt (key_cmp k e.0)) (e ∷ es) ≡ filter (λ e. is_lt (key_cmp k e.0)) es
left_out k e es h = ap (λ (b : Bool). cond b (e ∷ filter (λ (e : Key × Stored). is_lt (key_cmp k e.0)) es) (filter (λ (e : Key × Stored). is_lt (key_cmp k e.0)) es)) h

-- those above one of sorted entries are those behind it
above_one : (es rest : List (Key × Stored)) (x : Key × Stored) (i : ℕ) → T (is_sorted key_cmp es) → drop i es ≡ x ∷ rest → filter (λ e. is_lt (key_cmp x.0 e.0)) es ≡ rest
above_one [] rest x zero s e = absurd cc
above_one [] rest x (suc i) s e = absurd cc
above_one (y ∷ es) rest x zero s e =
    left_out x.0 y es (subst (λ (z : Key × Stored). is_lt (key_cmp x.0 z.0) ≡ false) (sym same) (ap is_lt (tied_itself keys_total x.0)))
    ∙ all_above x.0 es (subst (λ (z : Key × Stored). T (below_all key_cmp z.0 es)) same (first_true (below_all key_cmp y.0 es) (is_sorted key_cmp es) s))
    ∙ behind
  where
    same : y ≡ x
    same = cc

    behind : es ≡ rest
    behind = cc
above_one (y ∷ es) rest x (suc i) s e =
    left_out x.0 y es (not_back (key_cmp y.0 x.0) (key_cmp x.0 y.0) (IsTotalOrder.antisymm keys_total x.0 y.0) (below_at y.0 es rest x i (first_true (below_all key_cmp y.0 es) (is_sorted key_cmp es) s) e))
    ∙ above_one es rest x i (second_true (below_all key_cmp y.0 es) (is_sorted key_cmp es) s) e

-- the row at the last place of those that are taken
at_place : (m : ℕ) (rest : List (Key × Stored)) (q : Key) → m < length rest → q ≡ get_or (map (λ (r : Keyed). r.key) (map keyed_of (take (suc m) rest))) m q → (x : Key × Stored) × (drop m rest ≡ x ∷ drop (suc m) rest) × (x.0 ≡ q)
at_place m [] q l is = absurd (omega (arith, l))
at_place zero (e ∷ es) q l is = (e, refl, sym is)
at_place (suc m) (e ∷ es) q l is = at_place m es q (omega (arith, l)) is

above_place : (m n : ℕ) (es : List (Key × Stored)) (q : Key) → T (is_sorted key_cmp es) → m < length (drop n es) → q ≡ get_or (map (λ (r : Keyed). r.key) (map keyed_of (take (suc m) (drop n es)))) m q → filter (λ e. is_lt (key_cmp q e.0)) es ≡ drop (n + suc m) es
above_place m n es q s l is =
    let (x, here, same) = at_place m (drop n es) q l is in
    subst (λ (k : Key). filter (λ e. is_lt (key_cmp k e.0)) es ≡ drop (n + suc m) es) same
    (above_one es (drop (n + suc m) es) x (n + m) s (sym (drop-drop m n es) ∙ here ∙ ap (λ (t : List (Key × Stored)). x ∷ t) (drop-drop (suc m) n es)))

-- every entry is there where no key is named
all_there : (es : List (Key × Stored)) → filter (λ e. true) es ≡ es
all_there [] = refl
all_there (e ∷ es) = ap (λ (t : List (Key × Stored)). e ∷ t) (all_there es)

pub rest_first : (rows : FinMap key_cmp Stored) → entries_above None rows ≡ entries rows
rest_first rows = all_there (entries rows)

-- ---- one chunk

-- how many rows there are behind the first
taken : (n : ℕ) (es : List (Key × Stored)) (part : List Keyed) → part ≡ map keyed_of (take 512 (drop n es)) → length part ≡ length (take 512 (drop n es))
taken n es part is = ap length is ∙ length-map (take 512 (drop n es)) keyed_of

pub chunk_is : (rows : FinMap key_cmp Stored) (after : Option Key) (part : List Keyed) (k : ℕ) → part ≡ rows_above after 512 rows → entries_above after rows ≡ drop (512 * k) (entries rows) → chunk_of k part ≡ chunk_at rows k
chunk_is rows after part k is rest =
    ap (λ (p : List Keyed). chunk_of k p) (is ∙ ap (λ (es : List (Key × Stored)). map keyed_of (take 512 es)) rest)
    ∙ ap (λ rs. record { number = k; rows = rs }) (map-map row_of keyed_of (take 512 (drop (512 * k) (entries rows))))

part_is : (rows : FinMap key_cmp Stored) (after : Option Key) (part : List Keyed) (k : ℕ) → part ≡ rows_above after 512 rows → entries_above after rows ≡ drop (512 * k) (entries rows) → part ≡ map keyed_of (take 512 (drop (512 * k) (entries rows)))
part_is rows after part k is rest = is ∙ ap (λ (es : List (Key × Stored)). map keyed_of (take 512 es)) rest

pub next_rest : (rows : FinMap key_cmp Stored) (after : Option Key) (part : List Keyed) (k : ℕ) (key : Key) → part ≡ rows_above after 512 rows → entries_above after rows ≡ drop (512 * k) (entries rows) → 512 ≤ length part → EndsAt part (Some key) → entries_above (Some key) rows ≡ drop (512 * (k + 1)) (entries rows)
next_rest rows after part k key is rest full (some, ends) =
    let es = entries rows in
    let whole = part_is rows after part k is rest in
    let count = taken (512 * k) es part whole in
    let few = length-take 512 (drop (512 * k) es) in
    let size : length part ≡ 512 = omega (arith, full, count, few) in
    let low : 511 < length (drop (512 * k) es) = omega (arith, full, count, few) in
    let last : key ≡ get_or (map (λ (r : Keyed). r.key) part) 511 key = ends ∙ ap (λ (n : ℕ). get_or (map (λ (r : Keyed). r.key) part) (n - 1) key) size in
    let seen : key ≡ get_or (map (λ (r : Keyed). r.key) (map keyed_of (take 512 (drop (512 * k) es)))) 511 key = last ∙ ap (λ (p : List Keyed). get_or (map (λ (r : Keyed). r.key) p) 511 key) whole in
    let more : 512 * k + 512 ≡ 512 * (k + 1) = omega arith in
    above_place 511 (512 * k) es key (entries_sorted rows) low seen ∙ ap (λ (n : ℕ). drop n es) more

pub next_room : (rows : FinMap key_cmp Stored) (after : Option Key) (part : List Keyed) (k : ℕ) → part ≡ rows_above after 512 rows → entries_above after rows ≡ drop (512 * k) (entries rows) → 512 ≤ length part → 512 * (k + 1) ≤ length (entries rows)
next_room rows after part k is rest full =
    let es = entries rows in
    let count = taken (512 * k) es part (part_is rows after part k is rest) in
    omega (arith, full, count, length-take 512 (drop (512 * k) es), length-drop (512 * k) es)

pub counted : (n k : ℕ) → 512 * k ≤ n → n ≤ 512 * k → k ≡ chunk_count n
counted n k low most = omega arith

pub counted_more : (n k m : ℕ) → n ≡ 512 * k + m → 0 < m → m ≤ 512 → k + 1 ≡ chunk_count n
counted_more n k m is some most = omega arith

pub count_over : (rows : FinMap key_cmp Stored) (after : Option Key) (part : List Keyed) (k : ℕ) → part ≡ rows_above after 512 rows → entries_above after rows ≡ drop (512 * k) (entries rows) → 512 * k ≤ length (entries rows) → length part ≡ 0 → k ≡ chunk_count (length (entries rows))
count_over rows after part k is rest room none =
    let es = entries rows in
    let count = taken (512 * k) es part (part_is rows after part k is rest) in
    counted (length es) k room (omega (arith, none, count, length-take 512 (drop (512 * k) es), length-drop (512 * k) es))

pub count_last : (rows : FinMap key_cmp Stored) (after : Option Key) (part : List Keyed) (k : ℕ) → part ≡ rows_above after 512 rows → entries_above after rows ≡ drop (512 * k) (entries rows) → 0 < length part → length part < 512 → k + 1 ≡ chunk_count (length (entries rows))
count_last rows after part k is rest some less =
    let es = entries rows in
    let count = taken (512 * k) es part (part_is rows after part k is rest) in
    let whole : length es ≡ 512 * k + length part = omega (arith, some, less, count, length-take 512 (drop (512 * k) es), length-drop (512 * k) es) in
    counted_more (length es) k (length part) whole some (omega (arith, less))

-- the same above the last key, whichever it is
pub next_above : (rows : FinMap key_cmp Stored) (after next : Option Key) (part : List Keyed) (k : ℕ) → part ≡ rows_above after 512 rows → entries_above after rows ≡ drop (512 * k) (entries rows) → 512 ≤ length part → EndsAt part next → entries_above next rows ≡ drop (512 * (k + 1)) (entries rows)
next_above rows after None part k is rest full ends = absurd (omega (arith, full, ends))
next_above rows after (Some key) part k is rest full ends = next_rest rows after part k key is rest full ends

-- where there is a last key there is a row
pub some_there : (part : List Keyed) (o : Option Key) → EndsAt part o → is_some o ≡ true → 0 < length part
some_there part None ends e = cc
some_there part (Some key) ends e = ends.0

pub part_given : (seen after : Option Key) (s now : Shown) (part : List Keyed) → part ≡ rows_above seen 512 s.rows → seen ≡ after → s ≡ now → part ≡ rows_above after 512 now.rows
part_given seen after s now part is a b = is ∙ ap (λ o. rows_above o 512 s.rows) a ∙ ap (λ (x : Shown). rows_above after 512 x.rows) b

-- the bytes of a chunk of these rows
pub bytes_given : (rows : FinMap key_cmp Stored) (after : Option Key) (part given : List Keyed) (k : ℕ) → given ≡ part → part ≡ rows_above after 512 rows → entries_above after rows ≡ drop (512 * k) (entries rows) → spelled (values.Map (chunk.write (chunk_of k given))) ≡ chunk_bytes rows k
bytes_given rows after part given k same is rest =
    let whole : ◌≡◌ {A = Chunk} (chunk_of k given) (chunk_at rows k) = ap (λ (p : List Keyed). chunk_of k p) same ∙ chunk_is rows after part k is rest in
    ap (λ (c : Chunk). spelled (values.Map (chunk.write c))) whole
