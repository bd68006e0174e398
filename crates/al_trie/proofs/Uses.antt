-- What the functions' answers cite.
use Rattle.std.proofs.Common.{◌≡◌, ℕ, zero, suc, ◌+◌, ◌<◌, ◌≤◌, true, false, cond, ◌==◌, List, [], ◌∷◌, ◌++◌, length, take, set, remove, get_or, slice_get, Option, Some, None, IsSome, refl, sym, ap, ◌∙◌, subst, arith, Result, Ok, Err, OnOk, OnErr, is_err}
use Rattle.std.proofs.lemmas.Option.{slice_get_within, slice_get-get_or, get_or_from_slice_get}
use Rattle.std.proofs.lemmas.List.{get_or_default, nil_from_length}
use Rattle.std.proofs.lemmas.Bool.{eq-eqb, ne_eqb}
use Rattle.al_trie.specs.declared.arena.Node.{Node}
use Rattle.al_trie.specs.declared.arena.NodeId.{NodeId}
use Rattle.al_trie.specs.declared.kids.Kid.{Kid}
use Rattle.al_trie.specs.declared.kids.Link.{Link}
use Rattle.al_trie.specs.declared.kids.Link.TheVariants.{Leaf, Inner}
use Rattle.al_trie.specs.Kids.{find_kid, Rising, before}
use Rattle.al_trie.specs.declared.slots.Slot.{Slot}
use Rattle.al_trie.specs.declared.slots.SlotId.{SlotId}
use Rattle.al_trie.specs.declared.slots.Slot.TheVariants.{Full, Free}
use Rattle.std.proofs.Common.{Vec, Global}
use Rattle.al_trie.specs.Root.{Through, Empty, through}
use Rattle.al_trie.specs.Slots.{full, Inserted, HoldsAt, KeepsFull, AreElements}
use Rattle.al_trie.specs.Arena.{path_of, IsNodeAt, LinkFits, NodeFits, Fits, IsArena, IsLast, IsGap, IsLeafAt, SameLive, IsSpare, stale}
use Rattle.al_trie.specs.Tries.{AreDifferent}
use Rattle.al_trie.proofs.SlotLemmas.{Inserted-release, KeepsFull-push}
use Rattle.al_trie.proofs.Gets.{get-push_new, get-push_old, get-push_back}
use Rattle.al_trie.proofs.Stale.{weight, stale-push}
use Rattle.std.proofs.lemmas.Option.{same_Some}
use Rattle.std.proofs.Common.{true≢false, ◌&&◌, is_none, inl, inr}
use Rattle.al_trie.proofs.Fits.{same_node, at_index, Alike, change, link_forth}
use Rattle.al_trie.proofs.Marks.{set_at, set_unmoved, set_forth, set_back, set_some}
use Rattle.al_trie.proofs.Closed.{closed-kids}
use Rattle.al_trie.proofs.Elements.{attached, detached, taken_back}
use Rattle.al_trie.proofs.Sets.{elements_inserted, elements_removed, gone}
use Rattle.al_trie.proofs.Tops.{fits-top}
use Rattle.al_trie.proofs.Finding.{On, IsMarking, length_path, next_starts, empty_below, other_leaf, down}
use Rattle.std.proofs.Common.{length-set}
use Rattle.std.proofs.lemmas.Bool.{cases_eq}
use Rattle.al_trie.proofs.KidLemmas.{kid, at_kid, find_before, before_within, find-turn, Rising-turn, find-drop}

pub some_of : {A : Type 0} (o : Option A) → IsSome o → (x : A) × (o ≡ Some x)
some_of None h = cc
some_of (Some x) h = (x, refl)

pub within_some : (b : ℕ) (ks : List Kid) → Rising 0 ks → IsSome (find_kid b ks) → before b ks < length ks
within_some b ks r h = let s = some_of (find_kid b ks) h in before_within b 0 ks s.0 r s.1

pub turned : (b : ℕ) (to : Link) (ks : List Kid) (c : ℕ) → Rising 0 ks → IsSome (find_kid b ks) → find_kid c (set ks (before b ks) (kid b to)) ≡ cond (b == c) (Some to) (find_kid c ks)
turned b to ks c r h = let s = some_of (find_kid b ks) h in find-turn b 0 to s.0 ks c r s.1

pub turned_rising : (b : ℕ) (to : Link) (ks : List Kid) → Rising 0 ks → IsSome (find_kid b ks) → Rising 0 (set ks (before b ks) (kid b to))
turned_rising b to ks r h = let s = some_of (find_kid b ks) h in Rising-turn b 0 to s.0 ks r s.1

pub dropped : (b : ℕ) (ks : List Kid) (c : ℕ) → Rising 0 ks → IsSome (find_kid b ks) → find_kid c (remove ks (before b ks)) ≡ cond (b == c) None (find_kid c ks)
dropped b ks c r h = let s = some_of (find_kid b ks) h in find-drop b 0 s.0 ks c r s.1

-- what is found at the place of a byte
pub found_there : (b : ℕ) (ks : List Kid) (at : ℕ) (k : Kid) → Rising 0 ks → at ≡ before b ks → at < length ks → k ≡ get_or ks at k → (k.byte == b) ≡ true → Some k.to ≡ find_kid b ks
found_there b ks at k r is l it same = sym (found b ks at k r is l it ∙ ap (λ t. cond t (Some k.to) None) same)
  where
    found : (b : ℕ) (ks : List Kid) (at : ℕ) (k : Kid) → Rising 0 ks → at ≡ before b ks → at < length ks → k ≡ get_or ks at k → find_kid b ks ≡ cond (k.byte == b) (Some k.to) None
    found b ks at k r is l it = find_before b 0 ks r ∙ ap (at_kid b) (ap (slice_get ks) (sym is) ∙ slice_get-get_or ks at k l ∙ ap Some (sym it))

pub missing_there : (b : ℕ) (ks : List Kid) (at : ℕ) (k : Kid) → Rising 0 ks → at ≡ before b ks → at < length ks → k ≡ get_or ks at k → (k.byte == b) ≡ false → None ≡ find_kid b ks
missing_there b ks at k r is l it other = sym (find_before b 0 ks r ∙ ap (at_kid b) (ap (slice_get ks) (sym is) ∙ slice_get-get_or ks at k l ∙ ap Some (sym it)) ∙ ap (λ t. cond t (Some k.to) None) other)

pub missing_past : (b : ℕ) (ks : List Kid) (at : ℕ) → Rising 0 ks → at ≡ before b ks → length ks ≤ at → None ≡ find_kid b ks
missing_past b ks at r is l = sym (find_before b 0 ks r ∙ ap (at_kid b) (past ks (before b ks) (let q = is in omega arith)))
  where
    past : (ks : List Kid) (i : ℕ) → length ks ≤ i → slice_get ks i ≡ None
    past [] i l = refl
    past (k ∷ ks) zero l = absurd (omega arith)
    past (k ∷ ks) (suc i) l = past ks i (omega arith)

pub within_last : (nodes : List Node) (e : List ℕ) (id d : ℕ) → IsLast nodes e id d → id < length nodes
within_last nodes e id d l = slice_get_within nodes id l.node.0 l.node.1.at

pub found_read : (b : ℕ) (ks : List Kid) (at : ℕ) (d : Kid) → Rising 0 ks → at ≡ before b ks → at < length ks → (get_or ks at d).byte ≡ b → Some (get_or ks at d).to ≡ find_kid b ks
found_read b ks at d r is l e = found_there b ks at (get_or ks at d) r is l (get_or_default ks at d (get_or ks at d) l) (eq-eqb (get_or ks at d).byte b e)

pub missing_read : (b : ℕ) (ks : List Kid) (at : ℕ) (d : Kid) → Rising 0 ks → at ≡ before b ks → at < length ks → ((get_or ks at d).byte ≡ b → ⊥) → None ≡ find_kid b ks
missing_read b ks at d r is l e = missing_there b ks at (get_or ks at d) r is l (get_or_default ks at d (get_or ks at d) l) (ne_eqb (get_or ks at d).byte b e)

pub read_at : (nodes : List Node) (i : ℕ) (n d : Node) → IsNodeAt nodes i n → IsNodeAt nodes i (get_or nodes i d)
read_at nodes i n d a = subst (λ y. IsNodeAt nodes i y) (sym (get_or_from_slice_get nodes i n d a.at)) a

pub on_ok : {A E : Type 0} (r : Result A E) (P : Type 0) → OnOk r P → is_err r ≡ false → P
on_ok (Ok x) P h e = h
on_ok (Err x) P h e = cc

pub on_start : (slots : List Slot) (nodes : List Node) (e : List ℕ) → IsArena slots nodes → 0 < length nodes → On nodes e 0 0
on_start slots nodes e w some =
    let t = w.fits.top some in
    (t.0, t.1, sym (length_path (through (full slots)) slots nodes w.fits 0 t.0 t.1) ∙ ap length t.2, t.2)

pub marking_start : (slots : List Slot) (nodes : List Node) (e : List ℕ) → IsArena slots nodes → 0 < length nodes → IsMarking slots nodes e 0 0 (stale nodes)
marking_start slots nodes e w some = record {
  arena = w;
  node = on_start slots nodes e w some;
  marked = λ j m a s l. absurd (omega arith);
  cost = omega arith;
}

pub top_arena : (slots : List Slot) (old new : List Node) (m : Node) → IsArena slots old → length old ≡ 0 → new ≡ old ++ m ∷ [] → m.live ≡ true → m.depth ≡ 0 → length m.path ≡ 36 → m.summary ≡ None → m.kids.items ≡ [] → IsArena slots new
top_arena slots old new m w none is live depth long stale kids =
    subst (IsArena slots) (sym (is ∙ ap (λ xs. xs ++ m ∷ []) (nil_from_length old none))) (record {
      fits = fits-top (full slots) slots m w.elements (w.fits.none none) live depth long stale kids;
      closed = λ i n j k a b s fresh. absurd (fresh_none n (lone i n a) fresh);
      elements = w.elements;
    })
  where
    lone : (i : ℕ) (n : Node) → IsNodeAt (m ∷ []) i n → n.summary ≡ None
    lone zero n a = cc
    lone (suc i) n a = (let h : slice_get (m ∷ []) (suc i) ≡ Some n = a.at in cc)

    fresh_none : (n : Node) → n.summary ≡ None → IsSome n.summary → ⊥
    fresh_none n e h = none_is n.summary e h
      where
        none_is : {A : Type 0} (o : Option A) → o ≡ None → IsSome o → ⊥
        none_is None e h = cc
        none_is (Some x) e h = cc

-- ---- elements

pub inserted : (old mid : List Slot) (s : ℕ) (e : List ℕ) → HoldsAt mid s e → ((next : Option SlotId) → full (set mid s (Free next)) ≡ full old) → Inserted e (full old) (full mid)
inserted old mid s e holds undone = subst (λ xs. Inserted e xs (full mid)) (undone None) (Inserted-release mid s None e holds)

pub attached_arena : (slots mid : List Slot) (nodes : List Node) → IsArena slots nodes → (e : List ℕ) → length e ≡ 36 → (i d : ℕ) → IsLast nodes e i d → IsGap nodes e i d → (s : SlotId) → KeepsFull slots mid → HoldsAt mid s.0 e
    → ((next : Option SlotId) → full (set mid s.0 (Free next)) ≡ full slots) → (n : Node) → IsNodeAt nodes i n → (ks : Vec Kid Global) → Rising 0 ks.items
    → ((c : ℕ) → find_kid c ks.items ≡ cond (get_or e d 0 == c) (Some (Leaf s)) (find_kid c n.kids.items)) → IsArena mid (set nodes i (record n { kids = ks }))
attached_arena slots mid nodes w e long i d last gap s keeps holds undone n a ks rising kids =
    let ins = inserted slots mid s.0 e holds undone in
    record {
      fits = attached slots mid nodes w.fits e long i d last gap s ins keeps holds n a ks rising kids;
      closed = closed-kids nodes w.closed i n a ks;
      elements = elements_inserted e (full slots) (full mid) ins long w.elements;
    }

pub detached_arena : (slots : List Slot) (nodes : List Node) → IsArena slots nodes → (e : List ℕ) → length e ≡ 36 → (i d : ℕ) → IsLast nodes e i d → (s : SlotId) → IsLeafAt slots nodes i (get_or e d 0) s e → AreDifferent (full slots) → (next : Option SlotId)
    → (n : Node) → IsNodeAt nodes i n → (ks : Vec Kid Global) → Rising 0 ks.items
    → ((c : ℕ) → find_kid c ks.items ≡ cond (get_or e d 0 == c) None (find_kid c n.kids.items)) → IsArena (set slots s.0 (Free next)) (set nodes i (record n { kids = ks }))
detached_arena slots nodes w e long i d last s leaf different next n a ks rising kids =
    let ins = Inserted-release slots s.0 next e leaf.2 in
    let none = gone e (full (set slots s.0 (Free next))) (full slots) ins long different in
    record {
      fits = detached slots nodes w.fits e long i d last s leaf next none n a ks rising kids;
      closed = closed-kids nodes w.closed i n a ks;
      elements = elements_removed e (full (set slots s.0 (Free next))) (full slots) ins w.elements;
    }

pub on_err : {A E : Type 0} (r : Result A E) (P : Type 0) → OnErr r P → is_err r ≡ true → P
on_err (Ok x) P h e = cc
on_err (Err x) P h e = h

same_kids : (of : List ℕ → Through) (slots : List Slot) (nodes : List Node) → Fits of slots nodes → (i : ℕ) (n : Node) → IsNodeAt nodes i n → (ks : Vec Kid Global) → ks.items ≡ n.kids.items → Fits of slots (set nodes i (record n { kids = ks }))
same_kids of slots nodes f i n a ks same =
    let m : Node = record n { kids = ks } in
    let alike : Alike n m = record { path = refl; inner = λ b id h. ap (find_kid b) same ∙ h } in
    let forth = set_forth nodes i n m a a.live alike in
    let fit = f.each i n a in
    let here : NodeFits of slots (set nodes i m) m = record {
      depth = fit.depth;
      long = fit.long;
      rising = subst (Rising 0) (sym same) fit.rising;
      links = λ b. subst (λ its. LinkFits of slots (set nodes i m) (path_of n ++ b ∷ []) (find_kid b its)) (sym same) (link_forth of slots nodes (set nodes i m) (path_of n ++ b ∷ []) (find_kid b n.kids.items) forth (fit.links b));
      summary = fit.summary;
    } in
    change of of slots slots nodes (set nodes i m) f (set_back nodes i n m a a.live alike) forth (λ l. omega (arith, length-set nodes i m))
    (λ k x c. elim (cases_eq k i) [
      | inl it ↦ subst (λ y. NodeFits of slots (set nodes i m) y) (same_node (set_at nodes i n m a a.live) (at_index it c)) here
      | inr other ↦ (
          let g = f.each k x (set_unmoved nodes i n m a a.live k x other c) in
          record {
            depth = g.depth;
            long = g.long;
            rising = g.rising;
            links = λ b. link_forth of slots nodes (set nodes i m) (path_of x ++ b ∷ []) (find_kid b x.kids.items) forth (g.links b);
            summary = g.summary;
          })
    ])
    (λ e. set_some nodes i n m a a.live e)

pub taken_arena : (slots mid places : List Slot) (nodes : List Node) → IsArena slots nodes → (e : List ℕ) (s : ℕ) (next : Option SlotId) → through (full slots) e ≡ Empty → KeepsFull slots mid → HoldsAt mid s e
    → ((next : Option SlotId) → full (set mid s (Free next)) ≡ full slots) → places ≡ set mid s (Free next) → (i : ℕ) (n : Node) → IsNodeAt nodes i n → (ks : Vec Kid Global) → ks.items ≡ n.kids.items → IsArena places (set nodes i (record n { kids = ks }))
taken_arena slots mid places nodes w e s next absent keeps holds undone is i n a ks same =
    subst (λ ps. IsArena ps (set nodes i (record n { kids = ks }))) (sym is) (record {
      fits = subst (λ (xs : List (List ℕ)). Fits (through xs) (set mid s (Free next)) (set nodes i (record n { kids = ks }))) (sym (undone next))
          (same_kids (through (full slots)) (set mid s (Free next)) nodes
          (subst (λ (xs : List (List ℕ)). Fits (through xs) (set mid s (Free next)) nodes) (undone next) (taken_back slots mid nodes w.fits e s next absent keeps holds (undone next)))
          i n a ks same);
      closed = closed-kids nodes w.closed i n a ks;
      elements = subst AreElements (sym (undone next)) w.elements;
    })

-- a free place at the end says nothing
pub undone_push : (slots : List Slot) (e : List ℕ) (next : Option SlotId) → full (set (slots ++ Full e ∷ []) (length slots) (Free next)) ≡ full slots
undone_push [] e next = refl
undone_push (Full x ∷ slots) e next = ap (λ zs. x ∷ zs) (undone_push slots e next)
undone_push (Free m ∷ slots) e next = undone_push slots e next

pub stored_there : (slots new : List Slot) (i : ℕ) (e : List ℕ) → new ≡ slots ++ Full e ∷ [] → i ≡ length slots → HoldsAt new i e
stored_there slots new i e is at = ap (λ xs. slice_get xs i) is ∙ ap (slice_get (slots ++ Full e ∷ [])) at ∙ get-push_new slots (Full e)

pub stored_undone : (slots new : List Slot) (i : ℕ) (e : List ℕ) → new ≡ slots ++ Full e ∷ [] → i ≡ length slots → (next : Option SlotId) → full (set new i (Free next)) ≡ full slots
stored_undone slots new i e is at next = ap (λ xs. full (set xs i (Free next))) is ∙ ap (λ k. full (set (slots ++ Full e ∷ []) k (Free next))) at ∙ undone_push slots e next

pub stored_keeps : (slots new : List Slot) (e : List ℕ) → new ≡ slots ++ Full e ∷ [] → KeepsFull slots new
stored_keeps slots new e is = subst (KeepsFull slots) (sym is) (KeepsFull-push slots e)

-- a node more that is not in use
pub spare_live : (nodes new : List Node) (m : Node) → new ≡ nodes ++ m ∷ [] → m.live ≡ false → SameLive nodes new
spare_live nodes new m is dead = subst (SameLive nodes) (sym is) (record {
  back = λ i n a. elim (cases_eq i (length nodes)) [
    | inl at ↦ absurd (not_live m n dead (same_node_at m n (sym (get-push_new nodes m) ∙ ap (slice_get (nodes ++ m ∷ [])) (sym at) ∙ a.at)) a.live)
    | inr other ↦ record { at = get-push_back nodes i n m a.at other; live = a.live }
  ];
  forth = λ i n a. record { at = get-push_old nodes i n m a.at; live = a.live };
})
  where
    same_node_at : (m n : Node) → Some m ≡ Some n → m ≡ n
    same_node_at m n h = same_Some m n h

    not_live : (m n : Node) → m.live ≡ false → m ≡ n → n.live ≡ true → ⊥
    not_live m n dead it live = true≢false (sym live ∙ ap (λ (y : Node). y.live) (sym it) ∙ dead)

pub spare_stale : (nodes new : List Node) (m : Node) → new ≡ nodes ++ m ∷ [] → m.live ≡ false → stale new ≡ stale nodes
spare_stale nodes new m is dead = ap stale is ∙ stale-push nodes m ∙ (let z : weight m ≡ 0 = ap (λ b. cond (b && is_none m.summary) 1 0) dead in omega arith)

pub spare_there : (nodes new : List Node) (i : ℕ) (m : Node) → new ≡ nodes ++ m ∷ [] → i ≡ length nodes → m.live ≡ false → IsSpare new i
spare_there nodes new i m is at dead = (m, ap (λ xs. slice_get xs i) is ∙ ap (slice_get (nodes ++ m ∷ [])) at ∙ get-push_new nodes m, dead)

-- ---- an element is looked for

module _ (slots : List Slot) (nodes : List Node) (w : IsArena slots nodes) (e : List ℕ) (long : length e ≡ 36) (i d : ℕ) (on : On nodes e i d) (n : Node) (a : IsNodeAt nodes i n) where
  on_it : on.0 ≡ n
  on_it = same_node on.1 a

  on_path : path_of n ≡ take d e
  on_path = ap path_of (sym on_it) ∙ on.3

  on_deep : n.depth ≡ d
  on_deep = ap (λ (y : Node). y.depth) (sym on_it) ∙ on.2

  on_low : d < length e
  on_low = let l : n.depth < 36 = (w.fits.each i n a).depth in let q = on_deep in omega arith

  pub none_here : find_kid (get_or e d 0) n.kids.items ≡ None → through (full slots) e ≡ Empty
  none_here h =
      empty_below (full slots) (path_of n ++ get_or e d 0 ∷ []) e
      (subst (λ o. LinkFits (through (full slots)) slots nodes (path_of n ++ get_or e d 0 ∷ []) o) h ((w.fits.each i n a).links (get_or e d 0)))
      (next_starts e d (path_of n) on_low on_path)

  leaf_there : (s : SlotId) → find_kid (get_or e d 0) n.kids.items ≡ Some (Leaf s) → LinkFits (through (full slots)) slots nodes (path_of n ++ get_or e d 0 ∷ []) (Some (Leaf s))
  leaf_there s h = subst (λ o. LinkFits (through (full slots)) slots nodes (path_of n ++ get_or e d 0 ∷ []) o) h ((w.fits.each i n a).links (get_or e d 0))

  pub leaf_within : (s : SlotId) → find_kid (get_or e d 0) n.kids.items ≡ Some (Leaf s) → s.0 < length slots
  leaf_within s h = let x = leaf_there s h in slice_get_within slots s.0 (Full x.0) x.1

  pub leaf_here : (s : SlotId) → find_kid (get_or e d 0) n.kids.items ≡ Some (Leaf s) → (HoldsAt slots s.0 e → ⊥) → through (full slots) e ≡ Empty
  leaf_here s h other =
      let x = leaf_there s h in
      other_leaf (full slots) (path_of n ++ get_or e d 0 ∷ []) e x.0 w.elements x.2 (next_starts e d (path_of n) on_low on_path) long (λ same. other (subst (HoldsAt slots s.0) same x.1))

  pub inner_here : (id : NodeId) → find_kid (get_or e d 0) n.kids.items ≡ Some (Inner id) → On nodes e id.0 (d + 1)
  inner_here id h = down (through (full slots)) slots nodes w.fits e i d n on_low a on_deep on_path id h

pub read_is : (nodes : List Node) (i : ℕ) (n r : Node) → IsNodeAt nodes i n → r ≡ get_or nodes i r → IsNodeAt nodes i r
read_is nodes i n r a is = subst (λ y. IsNodeAt nodes i y) (sym is) (read_at nodes i n r a)
