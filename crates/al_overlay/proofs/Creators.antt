-- The creator that is noted and the view's are that of the rows now.
use Rattle.std.proofs.Common.{◌≡◌, ℕ, refl, sym, ap, ap₂, ◌∙◌, subst, List, [], ◌∷◌, map, Option, Some, None, Bool, true, false, cond, IsSome, is_some, true≢false, nat_eq, eqb-true, Ordering, Less, Equal, Greater, is_eq, is_lt, ◌&&◌, T, if◌then◌else◌, option_map}
use Rattle.std.specs.Option.{option_or, unwrap_or}
use Rattle.std.specs.Ordering.{eq_by_cmp, nat_cmp, ordering_reverse, ordering_then}
use Rattle.std.specs.List.Sorted.{IsStrictlySortedBy}
use Rattle.std.specs.Cmp.{tied_itself, nat_eq_equiv, unsigned_ties}
use Rattle.std.specs.BTreeMap.{BTreeMap, is_at}
use Rattle.std.specs.BTreeMap as tree
use Rattle.std.specs.FinMap.{get, entries, entries_sorted, get-entries, find, is_sorted}
use Rattle.std.specs.FinMap.Entries.{below_all}
use Rattle.al_base.specs.declared.address.Address.{Address}
use Rattle.al_base.specs.declared.key.Key.{Key}
use Rattle.al_base.specs.declared.name.BoxName.{BoxName}
use Rattle.std.specs.Map.{lookup}
use Rattle.al_base.specs.declared.key.Key.TheVariants as key
use Rattle.al_base.specs.Keys.{address_cmp, key_cmp}
use Rattle.al_rows.specs.declared.row.Row.{Row}
use Rattle.al_rows.specs.Finite.{overlaid, or_below, first_some}
use Rattle.al_rows.specs.Rows.{RowMap, has_params, creator_at, creator_of}
use Rattle.al_rows.proofs.Keys.{keys_total, exact_keys}
use Rattle.al_rows.proofs.Maps.{find-lookup}
use Rattle.al_overlay.specs.declared.creator.First.{First}
use Rattle.al_overlay.specs.declared.held.Held.{Held}
use Rattle.al_overlay.specs.Held.{at, now_at, nows}
use Rattle.al_overlay.specs.Work.{HasOneCreator}
use Rattle.al_overlay.specs.Creators.{AreNoted, AreOthers, HasRoom, resource_of, IsFirst, IsLeast, IsNoted, IsWith, IsWithout, creates, creator_noted, lesser, shown, shows, unchanged}
use Rattle.al_overlay.proofs.Overlays.{at-nows, get-now, same_key, nows-ordered}
use Rattle.al_overlay.proofs.Firsts.{first_of, less, second_of, sorted}

none_some : {A : Type 0} (x : A) → None ≡ Some x → ⊥
none_some x e = true≢false (sym (ap is_some e))

same_some : {A : Type 0} (x y : A) → Some x ≡ Some y → x ≡ y
same_some x y e = ap (λ o. unwrap_or o x) e

not_true : (b : Bool) → (b ≡ true → ⊥) → b ≡ false
not_true true h = absurd (h refl)
not_true false h = refl

-- ---- addresses

itself : (a : Address) → address_cmp a a ≡ Equal
itself a = tied_itself keys_total (key.Account a)

address_is : (a b : Address) → key.Account a ≡ key.Account b → a ≡ b
address_is a b e = cc

less_equal : Less ≡ Equal → ⊥
less_equal e = true≢false (ap is_lt e)

greater_equal : Greater ≡ Equal → ⊥
greater_equal e = true≢false (sym (ap is_eq e))

pub less_apart : (a b : Address) → address_cmp a b ≡ Less → a ≡ b → ⊥
less_apart a b l e = less_equal (sym l ∙ ap (address_cmp a) (sym e) ∙ itself a)

pub greater_apart : (a b : Address) → address_cmp a b ≡ Greater → a ≡ b → ⊥
greater_apart a b h e = greater_equal (sym h ∙ ap (address_cmp a) (sym e) ∙ itself a)

pub same_as : (a b : Address) → address_cmp a b ≡ Equal → a ≡ b
same_as a b e = address_is a b (exact_keys (key.Account a) (key.Account b) e)

turned : (a b : Address) → address_cmp a b ≡ Greater → address_cmp b a ≡ Less
turned a b h = keys_total.antisymm (key.Account b) (key.Account a) ∙ ap ordering_reverse h

before : (a b c : Address) → address_cmp a b ≡ Less → address_cmp b c ≡ Less → address_cmp a c ≡ Less
before a b c p q = keys_total.trans (key.Account a) (key.Account b) (key.Account c) p q

by_address : {P : Type 0} (a b : Address) → (a ≡ b → P) → ((a ≡ b → ⊥) → P) → P
by_address {P} a b f g = elim (address_cmp a b) as (λ r. address_cmp a b ≡ r → P) [
  | Less ↦ λ l. g (less_apart a b l)
  | Equal ↦ λ e. f (same_as a b e)
  | Greater ↦ λ h. g (greater_apart a b h)
] refl

-- ---- the least of those that a test holds of

least_same : (p q : Address → Bool) (o : Option Address) → ((a : Address) → q a ≡ p a) → IsLeast p o → IsLeast q o
least_same p q None e h = λ a. e a ∙ h a
least_same p q (Some x) e h = (e x ∙ h.0, λ b l. e b ∙ h.1 b l)

pub first_same : (p q : Address → Bool) (o : Option First) → ((a : Address) → q a ≡ p a) → IsFirst p o → IsFirst q o
first_same p q None e h = λ a. e a ∙ h a
first_same p q (Some s) e h = (e s.who ∙ h.0, λ b l. e b ∙ h.1 b l, λ t b x. h.2 t b (sym (e b) ∙ x))

least_one : (p : Address → Bool) (o r : Option Address) → IsLeast p o → IsLeast p r → o ≡ r
least_one p None None h g = refl
least_one p None (Some b) h g = absurd (true≢false (sym g.0 ∙ h b))
least_one p (Some a) None h g = absurd (true≢false (sym h.0 ∙ g a))
least_one p (Some a) (Some b) h g = elim (address_cmp a b) as (λ r. address_cmp a b ≡ r → ◌≡◌ {A = Option Address} (Some a) (Some b)) [
  | Less ↦ λ l. absurd (true≢false (sym h.0 ∙ g.1 a l))
  | Equal ↦ λ e. ap Some (same_as a b e)
  | Greater ↦ λ r. absurd (true≢false (sym g.0 ∙ h.1 b (turned a b r)))
] refl

-- ---- one more, or one less

module _ (p q : Address → Bool) (who : Address) where
  module _ (w : IsWith p q who) where
    pub with_none : ((a : Address) → p a ≡ false) → IsFirst q (Some (record { who = who; alone = true }))
    with_none none = (w.here, λ b l. w.there b (less_apart b who l) ∙ none b, λ _ b t. by_address b who (λ e. e) (λ d. absurd (true≢false (sym t ∙ w.there b d ∙ none b))))

    pub with_less : (s : First) → IsFirst p (Some s) → address_cmp who s.who ≡ Less → IsFirst q (Some (record { who = who; alone = false }))
    with_less s h l = (w.here, λ b k. w.there b (less_apart b who k) ∙ h.1 b (before b who s.who k l), λ t. absurd (true≢false (sym t)))

    pub with_equal : (s : First) → IsFirst p (Some s) → address_cmp who s.who ≡ Equal → IsFirst q (Some s)
    with_equal s h e =
        let is = same_as who s.who e in
        (ap q (sym is) ∙ w.here, λ b k. w.there b (λ x. less_apart b s.who k (x ∙ is)) ∙ h.1 b k, λ t b x. by_address b who (λ y. y ∙ is) (λ d. h.2 t b (sym (w.there b d) ∙ x)))

    pub with_greater : (s : First) → IsFirst p (Some s) → address_cmp who s.who ≡ Greater → IsFirst q (Some (record { who = s.who; alone = false }))
    with_greater s h g =
        let l = turned who s.who g in
        (w.there s.who (less_apart s.who who l) ∙ h.0, λ b k. w.there b (less_apart b who (before b s.who who k l)) ∙ h.1 b k, λ t. absurd (true≢false (sym t)))

  module _ (w : IsWithout p q who) where
    pub without_none : ((a : Address) → p a ≡ false) → (a : Address) → q a ≡ false
    without_none none a = by_address a who (λ e. ap q e ∙ w.here) (λ d. w.there a d ∙ none a)

    pub without_other : (s : First) → IsFirst p (Some s) → (who ≡ s.who → ⊥) → IsFirst q (Some s)
    without_other s h apart =
        let here : q s.who ≡ true = w.there s.who (λ e. apart (sym e)) ∙ h.0 in
        let lower : (b : Address) → address_cmp b s.who ≡ Less → q b ≡ false = λ b l. by_address b who (λ e. ap q e ∙ w.here) (λ d. w.there b d ∙ h.1 b l) in
        let alone : s.alone ≡ true → (b : Address) → q b ≡ true → b ≡ s.who = λ t b x. by_address b who (λ e. absurd (true≢false (sym x ∙ ap q e ∙ w.here))) (λ d. h.2 t b (sym (w.there b d) ∙ x)) in
        (here, lower, alone)

    pub without_last : (s : First) → IsFirst p (Some s) → who ≡ s.who → s.alone ≡ true → (a : Address) → q a ≡ false
    without_last s h is alone a = by_address a who (λ e. ap q e ∙ w.here) (λ d. w.there a d ∙ not_true (p a) (λ t. d (h.2 alone a t ∙ sym is)))

pub least_first : (q : Address → Bool) (a : Address) → IsLeast q (Some a) → IsFirst q (Some (record { who = a; alone = false }))
least_first q a h = (h.0, h.1, λ t. absurd (true≢false (sym t)))

-- ---- the first in the order of keys is the least

none_later : {X : Type 0} (k x : Key) (es : List (Key × X)) → (r : Ordering) → key_cmp k x ≡ r → is_lt r ≡ true → T (below_all key_cmp x es) → find key_cmp k es ≡ None
none_later k x [] r e l h = refl
none_later k x (y ∷ es) r e l h =
    let next : key_cmp x y.0 ≡ Less = less _ (first_of _ (below_all key_cmp x es) h) in
    ap (λ z. cond (is_eq z) (Some y.1) (find key_cmp k es)) (keys_total.trans k x y.0 (e ∙ is_less r l) next)
    ∙ none_later k x es r e l (second_of (is_lt (key_cmp x y.0)) _ h)
  where
    is_less : (r : Ordering) → is_lt r ≡ true → r ≡ Less
    is_less Less l = refl
    is_less Equal l = absurd (true≢false (sym l))
    is_less Greater l = absurd (true≢false (sym l))

none_here : {X : Type 0} (k : Key) (es : List (Key × X)) → T (below_all key_cmp k es) → find key_cmp k es ≡ None
none_here k [] h = refl
none_here k (y ∷ es) h =
    ap (λ z. cond (is_eq z) (Some y.1) (find key_cmp k es)) (less _ (first_of _ (below_all key_cmp k es) h))
    ∙ none_here k es (second_of (is_lt (key_cmp k y.0)) _ h)

is_equal : (r : Ordering) → is_eq r ≡ true → r ≡ Equal
is_equal Less p = absurd (true≢false (sym p))
is_equal Equal p = refl
is_equal Greater p = absurd (true≢false (sym p))

then_less : (i : ℕ) (a b : Address) → address_cmp a b ≡ Less → key_cmp (key.Resource a i) (key.Resource b i) ≡ Less
then_less i a b l = ap (λ r. ordering_then r (nat_cmp i i)) l

module _ {X : Type 0} (id : ℕ) (f : Key → X → Option Address) (place : (k : Key) (x : X) (a : Address) → f k x ≡ Some a → k ≡ key.Resource a id) where
  abbrev seen_in : Address → Option X → Bool
  seen_in a None = false
  seen_in a (Some x) = is_some (f (key.Resource a id) x)

  abbrev seen : List (Key × X) → Address → Bool
  seen es a = seen_in a (find key_cmp (key.Resource a id) es)

  passed : (e : Key × X) (es : List (Key × X)) → T (is_sorted key_cmp (e ∷ es)) → f e.0 e.1 ≡ None → (a : Address) → seen (e ∷ es) a ≡ seen es a
  passed e es h none a = by_test (eq_by_cmp key_cmp (key.Resource a id) e.0) refl
    where
      by_test : (b : Bool) → eq_by_cmp key_cmp (key.Resource a id) e.0 ≡ b → seen_in a (cond b (Some e.1) (find key_cmp (key.Resource a id) es)) ≡ seen es a
      by_test true t =
          let is = exact_keys (key.Resource a id) e.0 (is_equal _ t) in
          ap (λ k. is_some (f k e.1)) is ∙ ap is_some none
          ∙ sym (ap (seen_in a) (ap (λ k. find key_cmp k es) is ∙ none_here e.0 es (first_of (below_all key_cmp e.0 es) _ h)))
      by_test false t = refl

  pub least_seen : (es : List (Key × X)) → T (is_sorted key_cmp es) → IsLeast (seen es) (first_some (λ e. f e.0 e.1) es)
  least_seen [] h = λ a. refl
  least_seen (e ∷ es) h = by_first (least_seen es (second_of (below_all key_cmp e.0 es) _ h)) (f e.0 e.1) refl
    where
      before_all : (b : Address) → key_cmp (key.Resource b id) e.0 ≡ Less → seen (e ∷ es) b ≡ false
      before_all b l = ap (λ r. seen_in b (cond (is_eq r) (Some e.1) (find key_cmp (key.Resource b id) es))) l
          ∙ ap (seen_in b) (none_later (key.Resource b id) e.0 es Less l refl (first_of (below_all key_cmp e.0 es) _ h))

      by_first : IsLeast (seen es) (first_some (λ e. f e.0 e.1) es) → (o : Option Address) → f e.0 e.1 ≡ o → IsLeast (seen (e ∷ es)) (option_or o (first_some (λ e. f e.0 e.1) es))
      by_first rest None none = least_same (seen es) (seen (e ∷ es)) (first_some (λ e. f e.0 e.1) es) (passed e es h none) rest
      by_first rest (Some a) some =
          let at = place e.0 e.1 a some in
          let here : seen (e ∷ es) a ≡ true = ap (λ r. seen_in a (cond (is_eq r) (Some e.1) (find key_cmp (key.Resource a id) es))) (ap (key_cmp (key.Resource a id)) at ∙ tied_itself keys_total (key.Resource a id)) ∙ ap (λ k. is_some (f k e.1)) (sym at) ∙ ap is_some some in
          let lower : (b : Address) → address_cmp b a ≡ Less → seen (e ∷ es) b ≡ false = λ b l. before_all b (ap (key_cmp (key.Resource b id)) at ∙ then_less id b a l) in
          (here, lower)

-- ---- what a row shows

by_tests : (id : ℕ) (a : Address) (i : ℕ) (r : Row) (x : Address) (b c : Bool) → nat_eq i id ≡ b → (if b && c then Some a else None) ≡ Some x → key.Resource a i ≡ key.Resource x id
by_tests id a i r x true true p e = ap₂ key.Resource (same_some a x e) (eqb-true i id p)
by_tests id a i r x true false p e = absurd (none_some x e)
by_tests id a i r x false c p e = absurd (none_some x e)

place_shown : (id : ℕ) (k : Key) (o : Option Row) (x : Address) → shown id k o ≡ Some x → k ≡ key.Resource x id
place_shown id k None x e = absurd (none_some x e)
place_shown id (key.Account who) (Some r) x e = absurd (none_some x e)
place_shown id (key.Box app name) (Some r) x e = absurd (none_some x e)
place_shown id (key.Resource a i) (Some r) x e = by_tests id a i r x (nat_eq i id) (has_params r) refl e

place_created : (id : ℕ) (k : Key) (r : Row) (x : Address) → creator_at id k r ≡ Some x → k ≡ key.Resource x id
place_created id k r x e = place_shown id k (Some r) x e

some_if : (a : Address) (b c : Bool) → b ≡ true → is_some (if b && c then Some a else None) ≡ c
some_if a true true e = refl
some_if a true false e = refl
some_if a false c e = absurd (true≢false (sym e))

shown_creates : (id : ℕ) (a : Address) (r : Row) → is_some (creator_at id (key.Resource a id) r) ≡ has_params r
shown_creates id a r = some_if a (nat_eq id id) (has_params r) (nat_eq_equiv.refl id)

-- the creator of an id is the least address whose row has params
creator_least : (n : RowMap) (id : ℕ) → IsLeast (λ a. creates (get n (key.Resource a id))) (creator_of n id)
unfolding creator_of
creator_least n id = least_same (seen id (creator_at id) (place_created id) (entries n)) (λ a. creates (get n (key.Resource a id))) (creator_of n id)
    (λ a. ap creates (get-entries n (key.Resource a id)) ∙ same a (find key_cmp (key.Resource a id) (entries n)))
    (least_seen id (creator_at id) (place_created id) (entries n) (entries_sorted n))
  where
    same : (a : Address) (o : Option Row) → creates o ≡ seen_in id (creator_at id) (place_created id) a o
    same a None = refl
    same a (Some r) = sym (shown_creates id a r)

-- and so it is among the rows that are held
pub least_held : (es : List (Key × Held)) (id : ℕ) → IsStrictlySortedBy key_cmp (map (λ e. e.0) es) → IsLeast (shows es id) (first_some (λ e. shown id e.0 e.1) (nows es))
least_held es id h = least_same (seen id (shown id) (place_shown id) (nows es)) (shows es id) (first_some (λ e. shown id e.0 e.1) (nows es))
    (λ a. ap (λ o. creates (or_below o None)) (sym (find-lookup keys_total (nows es) (key.Resource a id))) ∙ same a (find key_cmp (key.Resource a id) (nows es)))
    (least_seen id (shown id) (place_shown id) (nows es) (sorted (nows es) (nows-ordered es h)))
  where
    same : (a : Address) (o : Option (Option Row)) → creates (or_below o None) ≡ seen_in id (shown id) (place_shown id) a o
    same a None = refl
    same a (Some None) = refl
    same a (Some (Some r)) = sym (shown_creates id a r)

-- ---- the creator now

module _ (es : List (Key × Held)) (m : RowMap) (id : ℕ) where
  abbrev now : Address → Bool
  now a = creates (get (overlaid (nows es) m) (key.Resource a id))

  abbrev below : Address → Bool
  below a = creates (get m (key.Resource a id))

  abbrev is_there : Address → Bool
  is_there a = is_some (at (nows es) (key.Resource a id))

  chosen : (o : Option (Option Row)) (b : Option Row) → creates (or_below o b) ≡ (if is_some o then creates (or_below o None) else creates b)
  chosen None b = refl
  chosen (Some x) b = refl

  unheld : (o : Option (Option Row)) → is_some o ≡ false → creates (or_below o None) ≡ false
  unheld None h = refl
  unheld (Some x) h = absurd (true≢false h)

  now_is : (a : Address) → now a ≡ (if is_there a then shows es id a else below a)
  now_is a = ap creates (get-now (nows es) m (key.Resource a id)) ∙ chosen (at (nows es) (key.Resource a id)) (get m (key.Resource a id))

  now_shows : (a : Address) → (is_there a ≡ false → below a ≡ false) → now a ≡ shows es id a
  now_shows a h = now_is a ∙ by_test (is_there a) refl
    where
      by_test : (b : Bool) → is_there a ≡ b → (if b then shows es id a else below a) ≡ shows es id a
      by_test true e = refl
      by_test false e = h e ∙ sym (unheld (at (nows es) (key.Resource a id)) e)

  -- no row of the id is held
  none_held : ((a : Address) → at es (key.Resource a id) ≡ None) → (viewed : Option Address) → viewed ≡ creator_of m id → viewed ≡ creator_of (overlaid (nows es) m) id
  none_held none viewed is = is ∙ least_one below (creator_of m id) (creator_of (overlaid (nows es) m) id) (creator_least m id) (least_same now below (creator_of (overlaid (nows es) m) id)
      (λ a. sym (now_is a ∙ ap (λ o. if is_some o then creates (or_below o None) else below a) (at-nows es (key.Resource a id) ∙ ap (option_map (λ h. h.row)) (none a)))) (creator_least (overlaid (nows es) m) id))

  who_least : (o : Option First) → IsFirst (shows es id) o → IsLeast (shows es id) (lesser None o)
  who_least None h = h
  who_least (Some s) h = (h.0, h.1)

  all_held : (o : Option First) → IsFirst (shows es id) o → ((a : Address) → is_there a ≡ false → below a ≡ false) → lesser None o ≡ creator_of (overlaid (nows es) m) id
  all_held o h none = least_one now (lesser None o) (creator_of (overlaid (nows es) m) id) (least_same (shows es id) now (lesser None o) (λ a. now_shows a (none a)) (who_least o h)) (creator_least (overlaid (nows es) m) id)

  module _ (v : Address) (only : (a : Address) → below a ≡ true → a ≡ v) (there : below v ≡ true) (free : is_there v ≡ false) where
    now_v : now v ≡ true
    now_v = now_is v ∙ ap (λ b. if b then shows es id v else below v) free ∙ there

    now_other : (a : Address) → (a ≡ v → ⊥) → now a ≡ shows es id a
    now_other a apart = now_shows a (λ _. not_true (below a) (λ t. apart (only a t)))

    now_where : (a : Address) → shows es id a ≡ true → now a ≡ true
    now_where a t = by_address a v (λ e. ap now e ∙ now_v) (λ d. now_other a d ∙ t)

    one_free : (o : Option First) → IsFirst (shows es id) o → IsLeast now (lesser (Some v) o)
    one_free None h = (now_v, λ b l. now_other b (less_apart b v l) ∙ h b)
    one_free (Some s) h = elim (address_cmp v s.who) as (λ r. address_cmp v s.who ≡ r → IsLeast now (if is_lt r then Some v else Some s.who)) [
      | Less ↦ λ l. (now_v, λ b k. now_other b (less_apart b v k) ∙ h.1 b (before b v s.who k l))
      | Equal ↦ λ e. (now_where s.who h.0, λ b k. now_other b (less_apart b v (subst (λ x. address_cmp b x ≡ Less) (sym (same_as v s.who e)) k)) ∙ h.1 b k)
      | Greater ↦ λ g. (now_where s.who h.0, λ b k. now_other b (less_apart b v (before b s.who v k (turned v s.who g))) ∙ h.1 b k)
    ] refl

  only_below : (v : Address) → below v ≡ true → HasOneCreator m id → (a : Address) → below a ≡ true → a ≡ v
  only_below v there one a t = by_rows (get m (key.Resource a id)) (get m (key.Resource v id)) refl refl t there
    where
      by_rows : (o w : Option Row) → get m (key.Resource a id) ≡ o → get m (key.Resource v id) ≡ w → creates o ≡ true → creates w ≡ true → a ≡ v
      by_rows None w p q s u = absurd (true≢false (sym s))
      by_rows (Some r) None p q s u = absurd (true≢false (sym u))
      by_rows (Some r) (Some x) p q s u = one a v r x p q s u

  noted_some : (o : Option First) (viewed : Option Address) → IsFirst (shows es id) o → IsLeast below viewed → HasOneCreator m id → lesser (unchanged id viewed (nows es)) o ≡ creator_of (overlaid (nows es) m) id
  noted_some o None h least one = all_held o h (λ a _. least a)
  noted_some o (Some v) h least one = by_test (is_there v) refl
    where
      by_test : (b : Bool) → is_there v ≡ b → lesser (if b then None else Some v) o ≡ creator_of (overlaid (nows es) m) id
      by_test true e = all_held o h (λ a f. not_true (below a) (λ t. true≢false (sym e ∙ sym (ap is_there (only_below v least.0 one a t)) ∙ f)))
      by_test false e = least_one now (lesser (Some v) o) (creator_of (overlaid (nows es) m) id) (one_free v (only_below v least.0 one) least.0 e o h) (creator_least (overlaid (nows es) m) id)

  pub creator_is : (noted : Option (Option First)) (viewed : Option Address) → IsNoted es id noted → viewed ≡ creator_of m id → HasOneCreator m id → creator_noted id viewed noted (nows es) ≡ creator_of (overlaid (nows es) m) id
  creator_is None viewed h is one = none_held h viewed is
  creator_is (Some o) viewed h is one = noted_some o viewed h (subst (IsLeast below) (sym is) (creator_least m id)) one

-- ---- what is noted follows the rows

shows_same : (es fs : List (Key × Held)) (id : ℕ) (a : Address) → at fs (key.Resource a id) ≡ at es (key.Resource a id) → shows fs id a ≡ shows es id a
shows_same es fs id a e = ap (λ o. creates (or_below o None)) (at-nows fs (key.Resource a id) ∙ ap (option_map (λ h. h.row)) e ∙ sym (at-nows es (key.Resource a id)))

noted_same : (es fs : List (Key × Held)) (id : ℕ) (o : Option (Option First)) → ((a : Address) → at fs (key.Resource a id) ≡ at es (key.Resource a id)) → IsNoted es id o → IsNoted fs id o
noted_same es fs id None e h = λ a. e a ∙ h a
noted_same es fs id (Some o) e h = first_same (shows es id) (shows fs id) o (λ a. shows_same es fs id a (e a)) h

apart_at : (k q : Key) → (k ≡ q → ⊥) → is_at (key_cmp k) q ≡ false
apart_at k q h = not_true (is_at (key_cmp k) q) (λ t. h (same_key k q t))

pub all_noted : (es fs : List (Key × Held)) (creators : BTreeMap ℕ (Option First)) → ((a : Address) (id : ℕ) → at fs (key.Resource a id) ≡ at es (key.Resource a id)) → AreNoted es creators → AreNoted fs creators
unfolding AreNoted
all_noted es fs creators e h = λ id. noted_same es fs id (tree.get nat_cmp creators id) (λ a. e a id) (h id)

abbrev number_of : Key → ℕ
number_of (key.Account who) = 0
number_of (key.Resource who id) = id
number_of (key.Box app name) = 0

abbrev holder_of : Address → Key → Address
holder_of a (key.Account who) = a
holder_of a (key.Resource who id) = who
holder_of a (key.Box app name) = a

module _ (es fs : List (Key × Held)) (who : Address) (id : ℕ) (others : AreOthers (key.Resource who id) es fs) where
  pub other_holder : (a : Address) → (a ≡ who → ⊥) → shows fs id a ≡ shows es id a
  other_holder a apart = shows_same es fs id a (others (key.Resource a id) (apart_at (key.Resource who id) (key.Resource a id) (λ e. apart (sym (ap (holder_of who) e)))))

  other_id : (q : ℕ) → (id ≡ q → ⊥) → (a : Address) → at fs (key.Resource a q) ≡ at es (key.Resource a q)
  other_id q apart a = others (key.Resource a q) (apart_at (key.Resource who id) (key.Resource a q) (λ e. apart (ap number_of e)))

  -- what is noted of the id is put in place of what was
  pub noted_put : (creators new : BTreeMap ℕ (Option First)) (old now : Option First) → AreNoted es creators → tree.get nat_cmp creators id ≡ Some old → IsFirst (shows fs id) now
      → ((q : ℕ) → tree.get nat_cmp new q ≡ cond (nat_eq id q) (option_map (λ _. now) (tree.get nat_cmp creators id)) (tree.get nat_cmp creators q)) → AreNoted fs new
  unfolding AreNoted
  noted_put creators new old now noted was is updates = λ q. subst (IsNoted fs q) (sym (updates q ∙ ap (λ o. cond (nat_eq id q) (option_map (λ _. now) o) (tree.get nat_cmp creators q)) was)) (by_id q (nat_eq id q) refl)
    where
      by_id : (q : ℕ) (b : Bool) → nat_eq id q ≡ b → IsNoted fs q (cond b (Some now) (tree.get nat_cmp creators q))
      by_id q true e = subst (λ n. IsFirst (shows fs n) now) (eqb-true id q e) is
      by_id q false e = noted_same es fs q (tree.get nat_cmp creators q) (other_id q (λ x. true≢false (sym (sym e ∙ ap (nat_eq id) (sym x) ∙ nat_eq_equiv.refl id)))) (noted q)
      -- no other row is held of an id of which nothing is noted

pub noted_none : (es : List (Key × Held)) (id : ℕ) → ((a : Address) → at es (key.Resource a id) ≡ None) → IsFirst (shows es id) None
noted_none es id none = λ a. ap (λ o. creates (or_below o None)) (at-nows es (key.Resource a id) ∙ ap (option_map (λ h. h.row)) (none a))

-- room is made for an id
pub noted_room : (es : List (Key × Held)) (id : ℕ) (creators new : BTreeMap ℕ (Option First)) → tree.get nat_cmp creators id ≡ None → ((q : ℕ) → tree.get nat_cmp new q ≡ cond (nat_eq id q) (Some None) (tree.get nat_cmp creators q)) → AreNoted es creators → AreNoted es new
unfolding AreNoted
noted_room es id creators new none updates noted = λ q. subst (IsNoted es q) (sym (updates q)) (by_id q (nat_eq id q) refl)
  where
    by_id : (q : ℕ) (b : Bool) → nat_eq id q ≡ b → IsNoted es q (cond b (Some None) (tree.get nat_cmp creators q))
    by_id q true e = noted_none es q (subst (λ n. (a : Address) → at es (key.Resource a n) ≡ None) (eqb-true id q e) (subst (IsNoted es id) none (noted id)))
    by_id q false e = noted q

-- an account that is held anew is no resource
pub account_noted : (es fs : List (Key × Held)) (who : Address) (creators : BTreeMap ℕ (Option First)) → AreOthers (key.Account who) es fs → AreNoted es creators → AreNoted fs creators
account_noted es fs who creators others h = all_noted es fs creators (λ a id. others (key.Resource a id) refl) h

-- nor is another row whose key is none
pub other_noted : (es fs : List (Key × Held)) (k : Key) (creators : BTreeMap ℕ (Option First)) → None ≡ resource_of k → AreOthers k es fs → AreNoted es creators → AreNoted fs creators
other_noted es fs (key.Account who) creators e others h = all_noted es fs creators (λ a id. others (key.Resource a id) refl) h
other_noted es fs (key.Resource who id) creators e others h = absurd (none_some (who, id) e)
other_noted es fs (key.Box app name) creators e others h = all_noted es fs creators (λ a id. others (key.Resource a id) refl) h

pub resource_is : (k : Key) (r : Address × ℕ) → Some r ≡ resource_of k → k ≡ key.Resource r.0 r.1
resource_is (key.Account who) r e = absurd (none_some r (sym e))
resource_is (key.Resource who id) r e = ap (λ (x : Address × ℕ). key.Resource x.0 x.1) (sym (same_some r (who, id) e))
resource_is (key.Box app name) r e = absurd (none_some r (sym e))

-- what is noted of one id
pub noted_at : (es : List (Key × Held)) (creators : BTreeMap ℕ (Option First)) (id : ℕ) → AreNoted es creators → IsNoted es id (tree.get nat_cmp creators id)
unfolding AreNoted
noted_at es creators id h = h id

pub none_noted : (es : List (Key × Held)) (creators : BTreeMap ℕ (Option First)) → es ≡ [] → creators.entries ≡ [] → AreNoted es creators
unfolding AreNoted
none_noted es creators none is = λ id. subst (λ (xs : List (Key × Held)). IsNoted xs id (tree.get nat_cmp creators id)) (sym none) (subst (λ (xs : List (ℕ × Option First)). IsNoted [] id (lookup (is_at (nat_cmp id)) xs)) (sym is) (λ a. refl))

none_of : {A : Type 0} (o : Option A) → is_some o ≡ false → o ≡ None
none_of None h = refl
none_of (Some x) h = absurd (true≢false h)

-- room is made where nothing was noted
pub noted_new : (es : List (Key × Held)) (id : ℕ) (creators new : BTreeMap ℕ (Option First)) {b : Bool} → is_some (tree.get nat_cmp creators id) ≡ b → b ≡ false → ((q : ℕ) → tree.get nat_cmp new q ≡ cond (is_at (nat_cmp id) q) (Some None) (tree.get nat_cmp creators q)) → AreNoted es creators → AreNoted es new
noted_new es id creators new is none updates h = noted_room es id creators new (none_of _ (is ∙ none)) (λ q. updates q ∙ ap (λ b. cond b (Some None) (tree.get nat_cmp creators q)) (sym (unsigned_ties id q))) h

pub noted_entries : (es : List (Key × Held)) (creators new : BTreeMap ℕ (Option First)) → new.entries ≡ creators.entries → AreNoted es creators → AreNoted es new
unfolding AreNoted
noted_entries es creators new is h = λ id. subst (λ (xs : List (ℕ × Option First)). IsNoted es id (lookup (is_at (nat_cmp id)) xs)) (sym is) (h id)

-- the row of an address and an id has changed, and what is noted of the id
pub noted_row : (es fs : List (Key × Held)) (who : Address) (id : ℕ) → AreOthers (key.Resource who id) es fs → (creators new : BTreeMap ℕ (Option First)) (old now : Option First) → AreNoted es creators → tree.get nat_cmp creators id ≡ Some old
    → ((p : Address → Bool) → IsFirst p old → ((a : Address) → (a ≡ who → ⊥) → shows fs id a ≡ p a) → IsFirst (shows fs id) now)
    → ((q : ℕ) → tree.get nat_cmp new q ≡ cond (nat_eq id q) (option_map (λ _. now) (tree.get nat_cmp creators id)) (tree.get nat_cmp creators q)) → AreNoted fs new
noted_row es fs who id others creators new old now noted was leads updates =
    noted_put es fs who id others creators new old now noted was (leads (shows es id) (subst (IsNoted es id) was (noted_at es creators id noted)) (other_holder es fs who id others)) updates
