-- Each step keeps the front rule.
use Rattle.std.proofs.Common.{◌≡◌, ◌≢◌, ◌⊎◌, ℕ, zero, suc, ◌+◌, ◌%◌, ◌^◌, ◌<◌, ◌≤◌, max, List, [], ◌∷◌, ◌++◌, length, set, get_or, Bool, true, false, true≢false, refl, sym, ap, ◌∙◌, subst, inl, inr, ⊎_elim, arith, length-append, length-set, nat_lt, cond}
use mathlib.Core.Option.{none, some, some-ne-none, some-injective}
use mathlib.Core.List.{IsPrefix}
use lib.ListN.{get_elem?}
use native.Mathlib.Decide.{ℕ_discrete, dec_le}
use Rattle.std.proofs.lemmas.Bool.Decides.{nat_tests}
use Rattle.atomic_table.specs.Table.{Me, step, keeps, Allows, Splits, Joins, opening}
use Rattle.atomic_table.specs.Table.{Final, Seen}
use Rattle.atomic_table.proofs.Lists.{at_set, set_here, set_else, at_longer, at_last, set_again}
use Rattle.al_front.specs.declared.view.View.{View}
use Rattle.al_front.specs.Rule.{sitting, nobody, FloorFits, Knows, ViewRule, FrontRule, Holds, longer, settled, looked, as_main, as_store, note_of, met_with, joined, appended, settles, looks, raised}
use Rattle.al_front.proofs.Prefixes.{prefix_self, prefix_more, prefix_whole, prefix_length, prefix_shorter}

off : false ≡ true → ⊥
off e = true≢false (sym e)

fits_up : (base f t u : ℕ) → FloorFits base f t → t ≤ u → FloorFits base f u
fits_up base f t u h le = ⊎_elim (λ (e : f ≡ base). inl e) (λ (k : f + 4 ≤ t). inr (omega arith)) h

-- the views after one seat's change
rule_set : (base main store : ℕ) (log : List (List ℕ)) (floor : ℕ) (views : List View) (by : ℕ) (w : View)
    → ((j : ℕ) (u : View) → j ≢ by → get_elem? views j ≡ some u → ViewRule base main store log floor j u) → ViewRule base main store log floor by w
    → (j : ℕ) (u : View) → get_elem? (set views by w) j ≡ some u → ViewRule base main store log floor j u
rule_set base main store log floor views by w others mine j u e =
    ⊎_elim
    (λ (x : (j ≡ by) × (w ≡ u)). subst (λ (y : ℕ × View). ViewRule base main store log floor y.0 y.1) (λ i. (sym x.0 i, x.1 i)) mine)
    (λ (x : (j ≢ by) × (get_elem? views j ≡ some u)). others j u x.0 x.1)
    (at_set views by j w u e)

there : (views : List View) (i : ℕ) (v : View) → get_elem? views i ≡ some v → i < length views
there [] i v e = absurd (some-ne-none v (sym e))
there (x ∷ xs) zero v e = omega arith
there (x ∷ xs) (suc i) v e = let r = there xs i v e in omega arith

-- an element of a list with one more stands in the list, or is the last
place_of : (views : List View) (w u : View) (j n : ℕ) → length views ≡ n → get_elem? (views ++ w ∷ []) j ≡ some u → (get_elem? views j ≡ some u) ⊎ ((j ≡ n) × (w ≡ u))
place_of [] w u zero n is e = inr (is, some-injective w u e)
place_of [] w u (suc j) n is e = absurd (some-ne-none u (sym e))
place_of (x ∷ xs) w u zero n is e = inl e
place_of (x ∷ xs) w u (suc j) zero is e = absurd (omega arith)
place_of (x ∷ xs) w u (suc j) (suc n) is e = ⊎_elim (λ a. inl a) (λ b. inr (ap suc b.0, b.1)) (place_of xs w u j n (omega arith) e)

-- the views with one more at the end
by_place : (base main store : ℕ) (log : List (List ℕ)) (floor : ℕ) (views : List View) (n : ℕ) (w : View) → ViewRule base main store log floor n w → length views ≡ n
    → ((j : ℕ) (u : View) → get_elem? views j ≡ some u → ViewRule base main store log floor j u)
    → (j : ℕ) (u : View) → get_elem? (views ++ w ∷ []) j ≡ some u → ViewRule base main store log floor j u
by_place base main store log floor views n w mine is others j u e =
    ⊎_elim
    (λ (a : get_elem? views j ≡ some u). others j u a)
    (λ (b : (j ≡ n) × (w ≡ u)). subst (λ (y : ℕ × View). ViewRule base main store log floor y.0 y.1) (λ i. (sym b.0 i, b.1 i)) mine)
    (place_of views w u j n is e)

-- the view that stands at a place with a role still does so after a change that keeps roles
moved : (views : List View) (id : ℕ) (v w : View) (role : View → Bool) → get_elem? views id ≡ some v → role w ≡ role v → (n : ℕ) → ((u : View) × (get_elem? views n ≡ some u) × (role u ≡ true)) → (u : View) × (get_elem? (set views id w) n ≡ some u) × (role u ≡ true)
moved views id v w role at same n h = moved_by (ℕ_discrete n id)
  where
    moved_by : Dec (n ≡ id) → (u : View) × (get_elem? (set views id w) n ≡ some u) × (role u ≡ true)
    moved_by (yes e) =
        let here : get_elem? (set views id w) n ≡ some w = subst (λ (k : ℕ). get_elem? (set views id w) k ≡ some w) (sym e) (set_here views id w (there views id v at)) in
        let u_is : some h.0 ≡ some v = sym h.1 ∙ ap (λ (k : ℕ). get_elem? views k) e ∙ at in
        (w, here, same ∙ ap role (sym (some-injective h.0 v u_is)) ∙ h.2)
    moved_by (no apart) = (h.0, set_else views id n w apart ∙ h.1, h.2)

-- the greater of two floors fits where both do
max_fits : (base f g t : ℕ) → FloorFits base f t → FloorFits base g t → base ≤ f → base ≤ g → FloorFits base (max f g) t
max_fits base f g t p q lf lg =
    ⊎_elim
    (λ (e : f ≡ base). ⊎_elim (λ (d : g ≡ base). inl (omega arith)) (λ (d : g + 4 ≤ t). inr (max_by f g t (inr (e, lg, d)))) q)
    (λ (e : f + 4 ≤ t). ⊎_elim (λ (d : g ≡ base). inr (omega arith)) (λ (d : g + 4 ≤ t). inr (omega arith)) q)
    p
  where
    max_by : (f g t : ℕ) → ⊥ ⊎ ((f ≡ base) × (base ≤ g) × (g + 4 ≤ t)) → max f g + 4 ≤ t
    max_by f g t (inl a) = absurd a
    max_by f g t (inr a) = omega (arith, a.0, a.1, a.2)

up_fits : (base f up t : ℕ) → FloorFits base f t → up + 4 ≤ t → FloorFits base (max f up) t
up_fits base f up t p le = up_by (dec_le f up)
  where
    up_by : Dec (f ≤ up) → FloorFits base (max f up) t
    up_by (yes q) = inr (omega arith)
    up_by (no q) = let is : max f up ≡ f = omega arith in subst (λ (x : ℕ). FloorFits base x t) (sym is) p

pub begins : (base : ℕ) → Holds base (opening (base ∷ base ∷ []) [] (sitting true true base [] base))
begins base = (
  0,
  0,
  [],
  base,
  record {
    words_are = ap (λ n. n ∷ base ∷ []) (omega arith);
    fits = inl refl;
    main_there = (sitting true true base [] base, refl, refl);
    store_there = (sitting true true base [] base, refl, refl);
    each = one;
  },
)
  where
    mine : ViewRule base 0 0 [] base 0 (sitting true true base [] base)
    mine = record {
      main_is = λ h. (refl, refl);
      store_is = λ h. (refl, refl);
      known = λ h. record {
        base_is = refl;
        list = ([], refl);
        met = ([], refl);
        low = omega arith;
        high = omega arith;
        met_low = omega arith;
        met_high = omega arith;
        fits = inl refl;
        met_fits = inl refl;
      };
    }

    one : (by : ℕ) (v : View) → get_elem? (sitting true true base [] base ∷ []) by ≡ some v → ViewRule base 0 0 [] base by v
    one zero v e = subst (ViewRule base 0 0 [] base 0) (some-injective _ _ e) mine
    one (suc by) v e = absurd (some-ne-none v (sym e))

-- the first seat is cut in two: the main one, and the store's
pub parts : (base id : ℕ) (list : List (List ℕ)) (floor : ℕ) → Splits (Holds base) id (sitting true true base list floor) (sitting true false base list floor) (sitting false true base list floor)
parts base id list floor s h at =
    let v = sitting true true base list floor in
    let l = sitting true false base list floor in
    let r = sitting false true base list floor in
    let main = h.0 in
    let store = h.1 in
    let log = h.2 in
    let top = h.3 in
    let kept = h.4 in
    let mine = kept.each id v at in
    let now = length s.views in
    let k = mine.known refl in
    let long : length (set s.views id l) ≡ now = length-set s.views id l in
    let know : Knows base log top r = record { base_is = k.base_is; list = k.list; met = k.met; low = k.low; high = k.high; met_low = k.met_low; met_high = k.met_high; fits = k.fits; met_fits = k.met_fits } in
    let know_l : Knows base log top l = record { base_is = k.base_is; list = k.list; met = k.met; low = k.low; high = k.high; met_low = k.met_low; met_high = k.met_high; fits = k.fits; met_fits = k.met_fits } in
    let fits_l : ViewRule base id now log top id l = record { main_is = λ e. (refl, (mine.main_is refl).1); store_is = λ e. absurd (off e); known = λ e. know_l } in
    let fits_r : ViewRule base id now log top now r = record { main_is = λ e. absurd (off e); store_is = λ e. (refl, (mine.store_is refl).1); known = λ e. know } in (
      id,
      now,
      log,
      top,
      record {
        words_are = kept.words_are;
        fits = kept.fits;
        main_there = (l, at_longer (set s.views id l) (r ∷ []) id l (set_here s.views id l (there s.views id v at)), refl);
        store_there = (r, at_last (set s.views id l) r now long, refl);
        each = λ j u e. by_place base id now log top (set s.views id l) now r fits_r long
            (rule_set base id now log top s.views id l
            (λ i w apart e'. let f = kept.each i w e' in record {
              main_is = λ q. absurd (apart ((f.main_is q).0 ∙ sym (mine.main_is refl).0));
              store_is = λ q. absurd (apart ((f.store_is q).0 ∙ sym (mine.store_is refl).0));
              known = f.known;
            })
            fits_l) j u e;
      },
    )

pub parts_as : (key base id : ℕ) (v : View) → key ≡ base → v ≡ sitting true true base [] base → Splits (Holds key) id v (as_main v) (as_store v)
parts_as key base id v k is = subst (λ (y : ℕ × View). Splits (Holds y.0) id y.1 (as_main y.1) (as_store y.1)) (λ i. (sym k i, sym is i)) (parts base id [] base)

-- where one view keeps its roles and what others know stands, the rule stays
steady : (base main store : ℕ) (log : List (List ℕ)) (floor : ℕ) (words : List ℕ) (views : List View) (id : ℕ) (v w : View)
    → FrontRule base words views main store log floor → get_elem? views id ≡ some v → w.is_main ≡ v.is_main → w.is_store ≡ v.is_store → ViewRule base main store log floor id w
    → FrontRule base words (set views id w) main store log floor
steady base main store log floor words views id v w kept at m s fits = record {
  words_are = kept.words_are;
  fits = kept.fits;
  main_there = moved views id v w (λ (u : View). u.is_main) at m main kept.main_there;
  store_there = moved views id v w (λ (u : View). u.is_store) at s store kept.store_there;
  each = rule_set base main store log floor views id w (λ j u _ e. kept.each j u e) fits;
}

note_knows : (base : ℕ) (log : List (List ℕ)) (top : ℕ) (m s : Bool) (list : List (List ℕ)) (floor : ℕ) → Knows base log top (sitting m s base list floor) → Knows base log top (sitting false false base list floor)
note_knows base log top m s list floor k = record { base_is = k.base_is; list = k.list; met = k.met; low = k.low; high = k.high; met_low = k.met_low; met_high = k.met_high; fits = k.fits; met_fits = k.met_fits }

pub notes : (base id : ℕ) (m s : Bool) (list : List (List ℕ)) (floor : ℕ) → Splits (Holds base) id (sitting m s base list floor) (sitting m s base list floor) (sitting false false base list floor)
notes base id m s list floor st h at =
    let v = sitting m s base list floor in
    let r = sitting false false base list floor in
    let kept = h.4 in
    let mine = kept.each id v at in
    let same : set st.views id v ≡ st.views = set_again st.views id v at in
    let fits_r : ViewRule base h.0 h.1 h.2 h.3 (length st.views) r = record { main_is = λ e. absurd (off e); store_is = λ e. absurd (off e); known = λ e. note_knows base h.2 h.3 m s list floor (mine.known refl) } in (
      h.0,
      h.1,
      h.2,
      h.3,
      subst (λ (vs : List View). FrontRule base st.words (vs ++ r ∷ []) h.0 h.1 h.2 h.3) (sym same) (record {
        words_are = kept.words_are;
        fits = kept.fits;
        main_there = (kept.main_there.0, at_longer st.views (r ∷ []) h.0 kept.main_there.0 kept.main_there.1, kept.main_there.2);
        store_there = (kept.store_there.0, at_longer st.views (r ∷ []) h.1 kept.store_there.0 kept.store_there.1, kept.store_there.2);
        each = by_place base h.0 h.1 h.2 h.3 st.views (length st.views) r fits_r refl kept.each;
      }),
    )

pub notes_as : (key base id : ℕ) (m s : Bool) (list : List (List ℕ)) (floor : ℕ) (v : View) → key ≡ base → v ≡ sitting m s base list floor → Splits (Holds key) id v v (note_of v)
notes_as key base id m s list floor v k is = subst (λ (y : ℕ × View). Splits (Holds y.0) id y.1 y.1 (note_of y.1)) (λ i. (sym k i, sym is i)) (notes base id m s list floor)

-- what others know stands when the main list gets one entry more
grows : (base main store : ℕ) (log : List (List ℕ)) (e : List ℕ) (floor by : ℕ) (v : View) → by ≢ main → ViewRule base main store log floor by v → ViewRule base main store (log ++ e ∷ []) floor by v
grows base main store log e floor by v apart f = record {
  main_is = λ h. absurd (apart (f.main_is h).0);
  store_is = f.store_is;
  known = λ h. let k = f.known h in record {
    base_is = k.base_is;
    list = prefix_more v.list log (e ∷ []) k.list;
    met = prefix_more v.met log (e ∷ []) k.met;
    low = k.low;
    high = k.high;
    met_low = k.met_low;
    met_high = k.met_high;
    fits = k.fits;
    met_fits = k.met_fits;
  };
}

pub appends : (base slots id : ℕ) (list : List (List ℕ)) (floor : ℕ) (e : List ℕ) → base + length list < 2 ^ 62
    → Allows (Holds base) slots id (sitting true false base list floor, []) 0 (λ n. (n + 1) % 2 ^ 64) (appended e (step slots 0 1 0 none) (sitting true false base list floor, []))
appends base slots id list floor e room s h _ at _ =
    let v = sitting true false base list floor in
    let w = sitting true false base (list ++ e ∷ []) floor in
    let main = h.0 in
    let store = h.1 in
    let log = h.2 in
    let top = h.3 in
    let kept = h.4 in
    let mine = kept.each id v at in
    let is : list ≡ log = (mine.main_is refl).1 in
    let k = mine.known refl in
    let same : length list ≡ length log = ap length is in
    let more = length-append log (e ∷ []) in
    let more_l = length-append list (e ∷ []) in
    let word : ((base + length log) + 1) % 2 ^ 64 ≡ base + length (log ++ e ∷ []) = omega (arith, more, same, room) in
    let know : Knows base (log ++ e ∷ []) top w = record {
      base_is = refl;
      list = subst (λ l. IsPrefix (list ++ e ∷ []) (l ++ e ∷ [])) is (prefix_self (list ++ e ∷ []));
      met = (log ++ e ∷ [], refl);
      low = k.low;
      high = k.high;
      met_low = k.met_low;
      met_high = k.met_high;
      fits = fits_up base floor (base + max (length list) 0) (base + max (length (list ++ e ∷ [])) 0) k.fits (omega (arith, more_l));
      met_fits = inl refl;
    } in
    let fits_w : ViewRule base main store (log ++ e ∷ []) top id w = record {
      main_is = λ _. ((mine.main_is refl).0, ap (λ l. l ++ e ∷ []) is);
      store_is = λ q. absurd (off q);
      known = λ _. know;
    } in (
      w,
      keeps,
      tt,
      (
        main,
        store,
        log ++ e ∷ [],
        top,
        record {
          words_are = ap (λ ws. set ws 0 ((get_or ws 0 0 + 1) % 2 ^ 64)) kept.words_are ∙ ap (λ n. n ∷ top ∷ []) word;
          fits = fits_up base top (base + length log) (base + length (log ++ e ∷ [])) kept.fits (omega (arith, more));
          main_there = moved s.views id v w (λ (u : View). u.is_main) at refl main kept.main_there;
          store_there = moved s.views id v w (λ (u : View). u.is_store) at refl store kept.store_there;
          each = rule_set base main store (log ++ e ∷ []) top s.views id w
              (λ j u apart q. grows base main store log e top j u (λ is_main. apart (is_main ∙ sym (mine.main_is refl).0)) (kept.each j u q))
              fits_w;
        },
      ),
      refl,
    )

pub appends_as : (key base slots id : ℕ) (list : List (List ℕ)) (floor : ℕ) (e : List ℕ) (me : Me (Unit {0}) View) → key ≡ base → me ≡ (sitting true false base list floor, []) → base + length list < 2 ^ 62
    → Allows (Holds key) slots id me 0 (λ n. (n + 1) % 2 ^ 64) (appended e (step slots 0 1 0 none) me)
appends_as key base slots id list floor e me k is room =
    subst (λ (y : ℕ × Me (Unit {0}) View). Allows (Holds y.0) slots id y.1 0 (λ n. (n + 1) % 2 ^ 64) (appended e (step slots 0 1 0 none) y.1)) (λ i. (sym k i, sym is i)) (appends base slots id list floor e room)

nobody_fits : (base main store : ℕ) (log : List (List ℕ)) (top by : ℕ) → ViewRule base main store log top by nobody
nobody_fits base main store log top by = record { main_is = λ q. absurd (off q); store_is = λ q. absurd (off q); known = λ q. absurd (true≢false q) }

-- a view with no role stands at no place with one
not_there : (views : List View) (role : View → Bool) (n j : ℕ) (w : View) → ((u : View) × (get_elem? views n ≡ some u) × (role u ≡ true)) → get_elem? views j ≡ some w → role w ≡ false → n ≢ j
not_there views role n j w h at out e =
    true≢false (sym h.2 ∙ ap role (some-injective h.0 w (sym h.1 ∙ ap (λ (k : ℕ). get_elem? views k) e ∙ at)) ∙ out)

still : (views : List View) (role : View → Bool) (n j : ℕ) (w x : View) → ((u : View) × (get_elem? views n ≡ some u) × (role u ≡ true)) → get_elem? views j ≡ some w → role w ≡ false → (u : View) × (get_elem? (set views j x) n ≡ some u) × (role u ≡ true)
still views role n j w x h at out = (h.0, set_else views j n x (not_there views role n j w h at out) ∙ h.1, h.2)

pub joins : (base id : ℕ) (m s : Bool) (list : List (List ℕ)) (floor other : ℕ) (met : List (List ℕ)) (met_floor : ℕ)
    → Joins (Holds base) id (sitting m s base list floor) other (sitting false false base met met_floor) (met_with (sitting m s base list floor) (sitting false false base met met_floor)) nobody
joins base id m s list floor other met met_floor st h at apart there_w =
    let v = sitting m s base list floor in
    let w = sitting false false base met met_floor in
    let both = met_with v w in
    let kept = h.4 in
    let at_w : get_elem? st.views other ≡ some w = sym (set_else st.views id other both apart) ∙ there_w in
    let mine = kept.each id v at in
    let theirs = kept.each other w at_w in
    let k = mine.known refl in
    let t = theirs.known refl in
    let know : Knows base h.2 h.3 both = record {
      base_is = refl;
      list = k.list;
      met = t.list;
      low = k.low;
      high = k.high;
      met_low = t.low;
      met_high = t.high;
      fits = fits_up base floor (base + max (length list) 0) (base + max (length list) (length met)) k.fits (omega arith);
      met_fits = fits_up base met_floor (base + max (length met) 0) (base + max (length list) (length met)) t.fits (omega arith);
    } in
    let fits_b : ViewRule base h.0 h.1 h.2 h.3 id both = record { main_is = mine.main_is; store_is = mine.store_is; known = λ _. know } in
    let first = steady base h.0 h.1 h.2 h.3 st.words st.views id v both kept at refl refl fits_b in (
      h.0,
      h.1,
      h.2,
      h.3,
      record {
        words_are = kept.words_are;
        fits = kept.fits;
        main_there = still (set st.views id both) (λ (u : View). u.is_main) h.0 other w nobody first.main_there there_w refl;
        store_there = still (set st.views id both) (λ (u : View). u.is_store) h.1 other w nobody first.store_there there_w refl;
        each = rule_set base h.0 h.1 h.2 h.3 (set st.views id both) other nobody (λ j u _ q. first.each j u q) (nobody_fits base h.0 h.1 h.2 h.3 other);
      },
    )

-- where two lists begin one, the longer begins with both
longer_of : (xs ys zs : List (List ℕ)) (b : Bool) → nat_lt (length xs) (length ys) ≡ b → IsPrefix xs zs → IsPrefix ys zs
    → IsPrefix xs (cond b ys xs) × IsPrefix ys (cond b ys xs) × IsPrefix (cond b ys xs) zs × (length (cond b ys xs) ≡ max (length xs) (length ys))
longer_of xs ys zs true is p q = let lt : length xs < length ys = grind (arith, nat_tests) in (prefix_shorter xs ys zs p q (omega arith), prefix_self ys, q, omega arith)
longer_of xs ys zs false is p q = let le : length ys ≤ length xs = grind (arith, nat_tests) in (prefix_self xs, prefix_shorter ys xs zs q p le, p, omega arith)

-- the longer of a whole list and a beginning of it is the whole
whole_stays : (xs ys : List (List ℕ)) (b : Bool) → nat_lt (length xs) (length ys) ≡ b → IsPrefix ys xs → cond b ys xs ≡ xs
whole_stays xs ys true is q = let lt : length xs < length ys = grind (arith, nat_tests) in let le = prefix_length ys xs q in absurd (omega arith)
whole_stays xs ys false is q = refl

pub settles_step : (base slots id : ℕ) (m s : Bool) (list : List (List ℕ)) (floor : ℕ) (met : List (List ℕ)) (met_floor : ℕ)
    → Allows (Holds base) slots id (joined m s base list floor met met_floor, []) 0 (λ n. n) (settles (step slots 0 0 0 none) (joined m s base list floor met met_floor, []))
settles_step base slots id m s list floor met met_floor st h _ at _ =
    let v = joined m s base list floor met met_floor in
    let w = settled v in
    let kept = h.4 in
    let mine = kept.each id v at in
    let k = mine.known refl in
    let l = longer_of list met h.2 (nat_lt (length list) (length met)) refl k.list k.met in
    let stays : m ≡ true → longer list met ≡ list = λ q. whole_stays list met (nat_lt (length list) (length met)) refl (subst (λ ys. IsPrefix met ys) (sym (mine.main_is q).1) k.met) in
    let know : Knows base h.2 h.3 w = record {
      base_is = refl;
      list = l.2;
      met = (h.2, refl);
      low = k.low;
      high = k.high;
      met_low = k.met_low;
      met_high = k.met_high;
      fits = fits_up base floor (base + max (length list) (length met)) (base + max (length (longer list met)) 0) k.fits (omega (arith, l.3));
      met_fits = fits_up base met_floor (base + max (length list) (length met)) (base + max (length (longer list met)) 0) k.met_fits (omega (arith, l.3));
    } in
    let fits_w : ViewRule base h.0 h.1 h.2 h.3 id w = record { main_is = λ q. ((mine.main_is q).0, stays q ∙ (mine.main_is q).1); store_is = mine.store_is; known = λ _. know } in
    let word : set st.words 0 (get_or st.words 0 0) ≡ st.words = ap (λ ws. set ws 0 (get_or ws 0 0)) kept.words_are ∙ sym kept.words_are in
    let done = steady base h.0 h.1 h.2 h.3 st.words st.views id v w kept at refl refl fits_w in
    (w, keeps, tt, (h.0, h.1, h.2, h.3, subst (λ ws. FrontRule base ws (set st.views id w) h.0 h.1 h.2 h.3) (sym word) done), (refl, l.0, l.1, stays))

pub looks_step : (base slots id : ℕ) (m s : Bool) (list : List (List ℕ)) (floor met_floor : ℕ)
    → Allows (Holds base) slots id (joined m s base list floor [] met_floor, []) 1 (λ n. n) (looks (step slots 1 0 0 none) (joined m s base list floor [] met_floor, []))
looks_step base slots id m s list floor met_floor st h _ at _ =
    let v = joined m s base list floor [] met_floor in
    let w = looked v in
    let kept = h.4 in
    let mine = kept.each id v at in
    let k = mine.known refl in
    let below : s ≡ true → met_floor ≤ floor = λ q. omega (arith, (mine.store_is q).1, k.met_high) in
    let same : s ≡ true → max floor met_floor ≡ floor = λ q. omega (arith, below q) in
    let top : ℕ = base + max (length list) 0 in
    let know : Knows base h.2 h.3 w = record {
      base_is = refl;
      list = k.list;
      met = k.met;
      low = omega (arith, k.low);
      high = omega (arith, k.high, k.met_high);
      met_low = omega arith;
      met_high = omega (arith, k.low, k.high);
      fits = max_fits base floor met_floor top k.fits k.met_fits k.low k.met_low;
      met_fits = inl refl;
    } in
    let fits_w : ViewRule base h.0 h.1 h.2 h.3 id w = record { main_is = mine.main_is; store_is = λ q. ((mine.store_is q).0, same q ∙ (mine.store_is q).1); known = λ _. know } in
    let word : set st.words 1 (get_or st.words 1 0) ≡ st.words = ap (λ ws. set ws 1 (get_or ws 1 0)) kept.words_are ∙ sym kept.words_are in
    let done = steady base h.0 h.1 h.2 h.3 st.words st.views id v w kept at refl refl fits_w in
    (w, keeps, tt, (h.0, h.1, h.2, h.3, subst (λ ws. FrontRule base ws (set st.views id w) h.0 h.1 h.2 h.3) (sym word) done), (refl, below))

-- what others know stands when the floor rises
rises : (base main store : ℕ) (log : List (List ℕ)) (floor up by : ℕ) (v : View) → floor ≤ up → by ≢ store → ViewRule base main store log floor by v → ViewRule base main store log up by v
rises base main store log floor up by v le apart f = record {
  main_is = f.main_is;
  store_is = λ h. absurd (apart (f.store_is h).0);
  known = λ h. let k = f.known h in record {
    base_is = k.base_is;
    list = k.list;
    met = k.met;
    low = k.low;
    high = omega (arith, k.high, le);
    met_low = k.met_low;
    met_high = omega (arith, k.met_high, le);
    fits = k.fits;
    met_fits = k.met_fits;
  };
}

pub raises_step : (base slots id : ℕ) (list : List (List ℕ)) (floor up : ℕ) → up + 4 ≤ base + length list
    → Allows (Holds base) slots id (sitting false true base list floor, []) 1 (λ n. max n up) (raised (step slots 1 up 0 none) (sitting false true base list floor, []))
raises_step base slots id list floor up room st h _ at _ =
    let v = sitting false true base list floor in
    let w = sitting false true base list (max floor up) in
    let main = h.0 in
    let store = h.1 in
    let log = h.2 in
    let top = h.3 in
    let kept = h.4 in
    let mine = kept.each id v at in
    let k = mine.known refl in
    let is : floor ≡ top = (mine.store_is refl).1 in
    let long = prefix_length list log k.list in
    let now : ℕ = max top up in
    let know : Knows base log now w = record {
      base_is = refl;
      list = k.list;
      met = k.met;
      low = omega (arith, k.low);
      high = omega (arith, is);
      met_low = omega arith;
      met_high = omega (arith, k.low, k.high);
      fits = up_fits base floor up (base + max (length list) 0) k.fits (omega (arith, room));
      met_fits = inl refl;
    } in
    let fits_w : ViewRule base main store log now id w = record { main_is = λ q. absurd (off q); store_is = λ _. ((mine.store_is refl).0, omega (arith, is)); known = λ _. know } in (
      w,
      keeps,
      tt,
      (
        main,
        store,
        log,
        now,
        record {
          words_are = ap (λ ws. set ws 1 (max (get_or ws 1 0) up)) kept.words_are;
          fits = up_fits base top up (base + length log) kept.fits (omega (arith, room, long));
          main_there = moved st.views id v w (λ (u : View). u.is_main) at refl main kept.main_there;
          store_there = moved st.views id v w (λ (u : View). u.is_store) at refl store kept.store_there;
          each = rule_set base main store log now st.views id w
              (λ j u apart q. rises base main store log top now j u (omega arith) (λ e. apart (e ∙ sym (mine.store_is refl).0)) (kept.each j u q))
              fits_w;
        },
      ),
      refl,
    )

pub settles_as : (key base slots id : ℕ) (m s : Bool) (list : List (List ℕ)) (floor : ℕ) (met : List (List ℕ)) (met_floor : ℕ) (me : Me (Unit {0}) View) → key ≡ base → me ≡ (joined m s base list floor met met_floor, [])
    → Allows (Holds key) slots id me 0 (λ n. n) (settles (step slots 0 0 0 none) me)
settles_as key base slots id m s list floor met met_floor me k is =
    subst (λ (y : ℕ × Me (Unit {0}) View). Allows (Holds y.0) slots id y.1 0 (λ n. n) (settles (step slots 0 0 0 none) y.1)) (λ i. (sym k i, sym is i)) (settles_step base slots id m s list floor met met_floor)

pub looks_as : (key base slots id : ℕ) (m s : Bool) (list : List (List ℕ)) (floor met_floor : ℕ) (me : Me (Unit {0}) View) → key ≡ base → me ≡ (joined m s base list floor [] met_floor, [])
    → Allows (Holds key) slots id me 1 (λ n. n) (looks (step slots 1 0 0 none) me)
looks_as key base slots id m s list floor met_floor me k is =
    subst (λ (y : ℕ × Me (Unit {0}) View). Allows (Holds y.0) slots id y.1 1 (λ n. n) (looks (step slots 1 0 0 none) y.1)) (λ i. (sym k i, sym is i)) (looks_step base slots id m s list floor met_floor)

pub raises_as : (key base slots id : ℕ) (list : List (List ℕ)) (floor up : ℕ) (me : Me (Unit {0}) View) → key ≡ base → me ≡ (sitting false true base list floor, []) → up + 4 ≤ base + length list
    → Allows (Holds key) slots id me 1 (λ n. max n up) (raised (step slots 1 up 0 none) me)
raises_as key base slots id list floor up me k is room =
    subst (λ (y : ℕ × Me (Unit {0}) View). Allows (Holds y.0) slots id y.1 1 (λ n. max n up) (raised (step slots 1 up 0 none) y.1)) (λ i. (sym k i, sym is i)) (raises_step base slots id list floor up room)

pub joins_as : (key base id : ℕ) (m s : Bool) (list : List (List ℕ)) (floor other : ℕ) (met : List (List ℕ)) (met_floor : ℕ) (v w : View) → key ≡ base → v ≡ sitting m s base list floor → w ≡ sitting false false base met met_floor
    → Joins (Holds key) id v other w (met_with v w) nobody
joins_as key base id m s list floor other met met_floor v w k is was =
    subst (λ (y : ℕ × View × View). Joins (Holds y.0) id y.1 other y.2 (met_with y.1 y.2) nobody) (λ i. (sym k i, sym is i, sym was i)) (joins base id m s list floor other met met_floor)

longer_by : (xs ys : List (List ℕ)) (b : Bool) → nat_lt (length xs) (length ys) ≡ b → IsPrefix xs ys → cond b ys xs ≡ ys
longer_by xs ys true is p = refl
longer_by xs ys false is p = let le : length ys ≤ length xs = grind (arith, nat_tests) in prefix_whole xs ys p le

-- of a list and a longer one that it begins, the longer is the second
pub longer_whole : (xs ys : List (List ℕ)) → IsPrefix xs ys → longer xs ys ≡ ys
longer_whole xs ys p = longer_by xs ys (nat_lt (length xs) (length ys)) refl p

-- what the words are at the end
pub ends : (base id : ℕ) (list : List (List ℕ)) (floor a b : ℕ) (ws : List ℕ) (xs : List (Unit {0})) → Final (Seen (Holds base) id (sitting true false base list floor)) ws xs → get_elem? ws 0 ≡ some a → get_elem? ws 1 ≡ some b
    → (a ≡ base + length list) × (FloorFits base b a × (floor ≤ b))
ends base id list floor a b ws xs f at_a at_b =
    let h = f.1.0 in
    let log = h.2 in
    let top = h.3 in
    let kept = h.4 in
    let mine = kept.each id (sitting true false base list floor) f.1.1 in
    let words : ws ≡ (base + length log) ∷ top ∷ [] = sym f.2 ∙ kept.words_are in
    let a_is : base + length log ≡ a = some-injective _ _ (ap (λ l. get_elem? l 0) (sym words) ∙ at_a) in
    let b_is : top ≡ b = some-injective _ _ (ap (λ l. get_elem? l 1) (sym words) ∙ at_b) in
    let long : length list ≡ length log = ap length (mine.main_is refl).1 in
    let k = mine.known refl in
    (omega (arith, a_is, long), (subst (λ (y : ℕ × ℕ). FloorFits base y.0 y.1) (λ i. (b_is i, a_is i)) kept.fits, omega (arith, b_is, k.high)))

pub ends_as : (key base id : ℕ) (list : List (List ℕ)) (floor a b : ℕ) (ws : List ℕ) (xs : List (Unit {0})) (v : View) → key ≡ base → v ≡ sitting true false base list floor → Final (Seen (Holds key) id v) ws xs → get_elem? ws 0 ≡ some a → get_elem? ws 1 ≡ some b
    → (a ≡ base + length list) × (FloorFits base b a × (floor ≤ b))
ends_as key base id list floor a b ws xs v k is f = ends base id list floor a b ws xs (subst (λ (y : ℕ × View). Final (Seen (Holds y.0) id y.1) ws xs) (λ i. (k i, is i)) f)
