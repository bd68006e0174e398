-- A node without children is taken out of use.
use Rattle.std.proofs.Common.{◌≡◌, ℕ, zero, suc, ◌<◌, ◌≤◌, inl, inr, false, cond, ◌==◌, List, [], ◌∷◌, ◌++◌, length, set, slice_get, Option, Some, None, is_none, ◌&&◌, refl, sym, ap, ◌∙◌, subst, arith, length-set, true≢false, Vec, Global}
use Rattle.std.proofs.lemmas.Bool.{cases_eq, ne_eqb, eq-eqb}
use Rattle.std.proofs.lemmas.Option.{slice_get_within, same_Some}
use Rattle.std.proofs.lemmas.List.{same_from_push, length_push}
use Rattle.al_trie.specs.declared.arena.Node.{Node}
use Rattle.al_trie.specs.declared.arena.NodeId.{NodeId}
use Rattle.al_trie.specs.declared.kids.Kid.{Kid}
use Rattle.al_trie.specs.declared.kids.Link.{Link}
use Rattle.al_trie.specs.declared.kids.Link.TheVariants.{Leaf, Inner}
use Rattle.al_trie.specs.declared.slots.Slot.{Slot}
use Rattle.al_trie.specs.Root.{Through, Empty, through}
use Rattle.al_trie.specs.Slots.{full}
use Rattle.al_trie.specs.Kids.{find_kid, Rising}
use Rattle.al_trie.specs.Arena.{path_of, IsNodeAt, LinkFits, NodeFits, HasParent, IsArena, IsBarren, stale}
use Rattle.al_trie.proofs.Gets.{get-set_same, get-set_other}
use Rattle.al_trie.proofs.Fits.{same_node, at_index}
use Rattle.al_trie.proofs.Closed.{closed_same}
use Rattle.al_trie.proofs.Children.{joined_kids, through_kids}
use Rattle.al_trie.proofs.Finding.{length_path}
use Rattle.al_trie.proofs.Stale.{weight, stale-set_same}

no_link : {A : Type 0} (l : Link) → ◌≡◌ {A = Option Link} None (Some l) → A
no_link l h = cc

same_id : (x y : NodeId) → Some (Inner x) ≡ Some (Inner y) → x ≡ y
same_id x y h = cc

module _ (slots : List Slot) (nodes : List Node) (w : IsArena slots nodes) (p : ℕ) (b : ℕ) (id : NodeId) (barren : IsBarren nodes p b id)
    (ks : Vec Kid Global) (rising : Rising 0 ks.items) (n : Node) (a : IsNodeAt nodes p n) (kids : (c : ℕ) → find_kid c ks.items ≡ cond (b == c) None (find_kid c n.kids.items))
    (dead : Node) (is_dead : dead.live ≡ false) where
  abbrev i : ℕ
  i = id.0

  abbrev of : List ℕ → Through
  of = through (full slots)

  abbrev k : Node
  k = record n { kids = ks }

  abbrev after : List Node
  after = set (set nodes p k) i dead

  abbrev m : Node
  m = barren.3

  here : IsNodeAt nodes i m
  here = barren.4

  link : find_kid b n.kids.items ≡ Some (Inner id)
  link = ap (λ (y : Node). find_kid b y.kids.items) (same_node a barren.1) ∙ barren.2

  under : path_of m ≡ path_of n ++ b ∷ []
  under =
      let h : LinkFits of slots nodes (path_of n ++ b ∷ []) (Some (Inner id)) = subst (λ o. LinkFits of slots nodes (path_of n ++ b ∷ []) o) link ((w.fits.each p n a).links b) in
      ap path_of (same_node here h.1) ∙ h.2

  no_kids : (c : ℕ) → find_kid c m.kids.items ≡ None
  no_kids c = ap (find_kid c) barren.5

  gone : of (path_of m) ≡ Empty
  gone =
      let g = w.fits.each i m here in
      through_kids (full slots) (path_of m) 0 m.kids.items w.elements
      (let l : m.depth < 36 = g.depth in let q : length (path_of m) ≡ m.depth = length_path of slots nodes w.fits i m here in omega arith) g.rising
      (λ c h. subst (λ o. LinkFits of slots nodes (path_of m ++ c ∷ []) o) h (g.links c))
      ∙ ap (joined_kids (λ c. of (path_of m ++ c ∷ []))) barren.5

  apart : p ≡ i → ⊥
  apart e = (let q : path_of n ≡ path_of m = ap path_of (same_node (at_index e a) here) in let z : length (path_of n) ≡ length (path_of n ++ b ∷ []) = ap length (q ∙ under) in omega (arith, length_push (path_of n) b))

  within_p : p < length nodes
  within_p = slice_get_within nodes p n a.at

  within_i : i < length (set nodes p k)
  within_i = let l = slice_get_within nodes i m here.at in omega (arith, length-set nodes p k)

  at_p : IsNodeAt after p k
  at_p = record { at = get-set_other (set nodes p k) i p dead apart ∙ get-set_same nodes p k within_p; live = a.live }

  unused : {A : Type 0} (c : ℕ) (l : Node) → c ≡ i → IsNodeAt after c l → A
  unused c l e h =
      let z : dead ≡ l = same_Some dead l (sym (get-set_same (set nodes p k) i dead within_i) ∙ ap (slice_get after) (sym e) ∙ h.at) in
      absurd (true≢false (sym h.live ∙ ap (λ (y : Node). y.live) (sym z) ∙ is_dead))

  off : (c : ℕ) (l : Node) → (c ≡ p → ⊥) → (c ≡ i → ⊥) → IsNodeAt after c l → IsNodeAt nodes c l
  off c l q r h = record { at = sym (get-set_other (set nodes p k) i c dead r ∙ get-set_other nodes p c k q) ∙ h.at; live = h.live }

  onto : (c : ℕ) (l : Node) → (c ≡ p → ⊥) → (c ≡ i → ⊥) → IsNodeAt nodes c l → IsNodeAt after c l
  onto c l q r h = record { at = get-set_other (set nodes p k) i c dead r ∙ (get-set_other nodes p c k q ∙ h.at); live = h.live }

  is_k : (c : ℕ) (l : Node) → c ≡ p → IsNodeAt after c l → k ≡ l
  is_k c l e h = same_node at_p (at_index e h)

  -- each node in use was there
  was : (c : ℕ) (l : Node) → IsNodeAt after c l → (y : Node) × IsNodeAt nodes c y × (path_of y ≡ path_of l) × (y.summary ≡ l.summary)
  was c l h =
      elim (cases_eq c p) [
        | inl same ↦ (n, at_index (sym same) a, ap path_of (is_k c l same h), ap (λ (y : Node). y.summary) (is_k c l same h))
        | inr other ↦ (l, off c l other (λ e. unused c l e h) h, refl, refl)
      ]

  not_i : (c : ℕ) (l : Node) → IsNodeAt after c l → c ≡ i → ⊥
  not_i c l h e = unused c l e h

  -- each other node is there
  stays : (c : ℕ) (l : Node) → (c ≡ i → ⊥) → IsNodeAt nodes c l → (y : Node) × IsNodeAt after c y × (path_of l ≡ path_of y)
  stays c l r h =
      elim (cases_eq c p) [
        | inl same ↦ (k, at_index (sym same) at_p, ap path_of (same_node (at_index same h) a))
        | inr other ↦ (l, onto c l other r h, refl)
      ]

  -- a link of a node that is not the one to it
  link_stays : (q : List ℕ) (o : Option Link) → (q ≡ path_of n ++ b ∷ [] → ⊥) → LinkFits of slots nodes q o → LinkFits of slots after q o
  link_stays q None other h = h
  link_stays q (Some (Leaf s)) other h = h
  link_stays q (Some (Inner j)) other (x, c, e) =
      let z = stays j.0 x (λ r. other (sym e ∙ ap path_of (same_node (at_index r c) here) ∙ under)) c in
      (z.0, z.1, sym z.2 ∙ e)

  kid_off : (c : ℕ) → (b ≡ c → ⊥) → find_kid c ks.items ≡ find_kid c n.kids.items
  kid_off c other = kids c ∙ ap (λ t. cond t None (find_kid c n.kids.items)) (ne_eqb b c other)

  links_p : (c : ℕ) → LinkFits of slots after (path_of n ++ c ∷ []) (find_kid c ks.items)
  links_p c =
      elim (cases_eq b c) [
        | inl same ↦ subst (λ o. LinkFits of slots after (path_of n ++ c ∷ []) o) (sym (kids c ∙ ap (λ t. cond t None (find_kid c n.kids.items)) (eq-eqb b c same)))
            (ap of (ap (λ y. path_of n ++ y ∷ []) (sym same) ∙ sym under) ∙ gone)
        | inr other ↦ subst (λ o. LinkFits of slots after (path_of n ++ c ∷ []) o) (sym (kid_off c other))
            (link_stays (path_of n ++ c ∷ []) (find_kid c n.kids.items) (λ e. other (sym (same_from_push (path_of n) (path_of n) c b e).1)) ((w.fits.each p n a).links c))
      ]

  each : (c : ℕ) (l : Node) → IsNodeAt after c l → NodeFits of slots after l
  each c l h =
      elim (cases_eq c p) [
        | inl same ↦ subst (λ y. NodeFits of slots after y) (is_k c l same h) (
            let g = w.fits.each p n a in
            record { depth = g.depth; long = g.long; rising = rising; links = links_p; summary = g.summary })
        | inr other ↦ (
            let old = off c l other (not_i c l h) h in
            let g = w.fits.each c l old in
            record {
              depth = g.depth;
              long = g.long;
              rising = g.rising;
              links = λ z. link_stays (path_of l ++ z ∷ []) (find_kid z l.kids.items)
                  (λ e. other (w.fits.unique c p l n old a (same_from_push (path_of l) (path_of n) z b e).0)) (g.links z);
              summary = g.summary;
            })
      ]

  no_parent : (c : ℕ) (l : Node) (z : ℕ) (j : NodeId) → IsNodeAt nodes c l → find_kid z l.kids.items ≡ Some (Inner j) → c ≡ i → ⊥
  no_parent c l z j h f e = no_link (Inner j) (sym (no_kids z) ∙ ap (λ (y : Node). find_kid z y.kids.items) (same_node here (at_index e h)) ∙ f)

  kept : (c : ℕ) (l : Node) → IsNodeAt after c l → HasParent after c l
  kept c l h =
      let y = was c l h in
      elim (w.fits.kept c y.0 y.1) as (λ _. HasParent after c l) [
        | inl r ↦ inl (r.0, sym y.2 ∙ r.1)
        | inr r ↦ (
            let q = r.3 in
            elim (cases_eq r.0 p) [
              | inl same ↦ (
                  let it : r.1 ≡ n = same_node (at_index same q.parent) a in
                  let found : find_kid r.2 n.kids.items ≡ Some (Inner q.kid.0) = ap (λ (y : Node). find_kid r.2 y.kids.items) (sym it) ∙ q.kid.1 in
                  let other : b ≡ r.2 → ⊥ = λ e. not_i c l h (sym q.kid.2 ∙ ap (λ (x : NodeId). x.0) (same_id q.kid.0 id (sym found ∙ ap (λ z. find_kid z n.kids.items) (sym e) ∙ link))) in
                  inr (
                    p,
                    k,
                    r.2,
                    record {
                      parent = at_p;
                      path = sym y.2 ∙ q.path ∙ ap (λ (x : Node). path_of x ++ r.2 ∷ []) it;
                      kid = (q.kid.0, kid_off r.2 other ∙ found, q.kid.2);
                    },
                  ))
              | inr other ↦ inr (
                r.0,
                r.1,
                r.2,
                record {
                  parent = onto r.0 r.1 other (no_parent r.0 r.1 r.2 q.kid.0 q.parent q.kid.1) q.parent;
                  path = sym y.2 ∙ q.path;
                  kid = q.kid;
                },
              )
            ])
      ]

  pub cut_arena : IsArena slots (set (set nodes p (record n { kids = ks })) id.0 dead)
  cut_arena = record {
    fits = record {
      each = each;
      unique = λ c d x y g h e. let u = was c x g in let v = was d y h in w.fits.unique c d u.0 v.0 u.1 v.1 (u.2 ∙ e ∙ sym v.2);
      kept = kept;
      top = λ l.
          let t = w.fits.top (let q = within_p in omega arith) in
          let z = stays 0 t.0 (λ e. (let s : path_of n ++ b ∷ [] ≡ [] = sym under ∙ ap path_of (same_node here (at_index e t.1)) ∙ t.2 in let u : length (path_of n ++ b ∷ []) ≡ 0 = ap length s in omega (arith, length_push (path_of n) b))) t.1 in
          (z.0, z.1, sym z.2 ∙ t.2);
      none = λ e. absurd (let l = within_i in omega (arith, length-set (set nodes p k) i dead));
    };
    closed = closed_same nodes after w.closed (λ c l h. was c l h);
    elements = w.elements;
  }

  pub cut_cost : stale (set (set nodes p (record n { kids = ks })) id.0 dead) ≤ stale nodes
  cut_cost =
      let same : stale (set nodes p k) ≡ stale nodes = stale-set_same nodes p n k a.at refl in
      let there : slice_get (set nodes p k) i ≡ Some m = get-set_other nodes p i k (λ e. apart (sym e)) ∙ here.at in
      let less : stale (set (set nodes p k) i dead) ≤ stale (set nodes p k) = lighter (set nodes p k) i m there in
      omega arith
    where
      light : weight dead ≡ 0
      light = ap (λ t. cond (t && is_none dead.summary) 1 0) is_dead

      lighter : (ns : List Node) (c : ℕ) (l : Node) → slice_get ns c ≡ Some l → stale (set ns c dead) ≤ stale ns
      lighter [] c l h = cc
      lighter (x ∷ ns) zero l h = let z : weight dead ≡ 0 = light in omega arith
      lighter (x ∷ ns) (suc c) l h = let z = lighter ns c l h in omega arith
