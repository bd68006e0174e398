-- A node is put on an element's path where another's leaf is in the way.
use Rattle.std.proofs.Common.{◌≡◌, ℕ, ◌+◌, ◌<◌, ◌≤◌, inl, inr, true, cond, ◌==◌, List, [], ◌∷◌, ◌++◌, length, take, set, get_or, slice_get, Option, Some, None, refl, sym, ap, ap₂, ◌∙◌, subst, arith, length-take, Vec, Global}
use Rattle.std.proofs.lemmas.Bool.{cases_lt}
use Rattle.std.proofs.lemmas.List.{take_all}
use Rattle.std.proofs.lemmas.Option.{slice_get_within}
use Rattle.al_trie.specs.declared.arena.Node.{Node}
use Rattle.al_trie.specs.declared.arena.NodeId.{NodeId}
use Rattle.al_trie.specs.declared.kids.Kid.{Kid}
use Rattle.al_trie.specs.declared.kids.Link.{Link}
use Rattle.al_trie.specs.declared.kids.Link.TheVariants.{Leaf, Inner}
use Rattle.al_trie.specs.declared.slots.Slot.{Slot}
use Rattle.al_trie.specs.declared.slots.Slot.TheVariants.{Full}
use Rattle.al_trie.specs.declared.slots.SlotId.{SlotId}
use Rattle.al_trie.specs.Root.{Through, Empty, Sole, starts, through}
use Rattle.al_trie.specs.Slots.{full}
use Rattle.al_trie.specs.Kids.{find_kid, Rising}
use Rattle.al_trie.specs.Arena.{path_of, IsNodeAt, IsSpare, LinkFits, AreFit, Closed, IsArena, IsLast, IsLeafAt, SameLive, stale}
use Rattle.al_trie.proofs.Paths.{starts_is_take, starts_trans, starts-take}
use Rattle.al_trie.proofs.Passing.{the_one}
use Rattle.al_trie.proofs.KidLemmas.{kid}
use Rattle.al_trie.proofs.Fits.{same_node}
use Rattle.al_trie.proofs.Splits.{fits_live, fits-split, closed-split, marked-split, at_new_node}
use Rattle.al_trie.proofs.Elements.{same_element}
use Rattle.al_trie.proofs.Finding.{next_is, down}
use Rattle.al_trie.proofs.Uses.{read_at}
use Rattle.al_trie.proofs.Gets.{get-set_other}
use Rattle.al_trie.proofs.Stale.{stale-set_same, stale-set_le}
use Rattle.std.proofs.Common.{true≢false}
use Rattle.std.proofs.lemmas.Option.{same_Some}
use Rattle.al_trie.proofs.Closed.{closed_same}

module _ (slots : List Slot) (old ns : List Node) (w : IsArena slots old) (live : SameLive old ns) (more : length old ≤ length ns) (p d : ℕ) (e : List ℕ) (long_e : length e ≡ 36) (last : IsLast old e p d)
    (s : SlotId) (x : List ℕ) (long_x : length x ≡ 36) (leaf : IsLeafAt slots old p (get_or e d 0) s x) (j : ℕ) (spare : IsSpare ns j) (id : NodeId) (id_is : id.0 ≡ j) (deep : d + 1 < 36)
    (m : Node) (m_live : m.live ≡ true) (m_depth : m.depth ≡ d + 1) (m_path : m.path ≡ x) (m_summary : m.summary ≡ None) (m_kids : m.kids.items ≡ kid (get_or x (d + 1) 0) (Leaf s) ∷ []) (m_byte : get_or x (d + 1) 0 < 256)
    (n : Node) (a : IsNodeAt ns p n) (ks : Vec Kid Global) (rising : Rising 0 ks.items) (kids : (c : ℕ) → find_kid c ks.items ≡ cond (get_or e d 0 == c) (Some (Inner id)) (find_kid c n.kids.items)) where
  some_old : 0 < length old
  some_old = let l : p < length old = slice_get_within old p leaf.0 leaf.1.at in omega arith

  fits_ns : AreFit slots ns
  fits_ns = fits_live (through (full slots)) slots old ns w.fits live (λ _. some_old) (λ z. absurd (let q = some_old in omega arith))

  same : leaf.0 ≡ n
  same = same_node (live.forth p leaf.0 leaf.1) a

  the_leaf : find_kid (get_or e d 0) n.kids.items ≡ Some (Leaf s)
  the_leaf = ap (λ (y : Node). find_kid (get_or e d 0) y.kids.items) (sym same) ∙ leaf.3

  it : last.node.0 ≡ n
  it = same_node (live.forth p last.node.0 last.node.1) a

  here : path_of n ≡ take d e
  here = ap path_of (sym it) ∙ last.node.3

  deep_n : n.depth ≡ d
  deep_n = ap (λ (y : Node). y.depth) (sym it) ∙ last.node.2

  child_path : path_of n ++ get_or e d 0 ∷ [] ≡ take (d + 1) e
  child_path = next_is e d (path_of n) (omega arith) here

  old_link : LinkFits (through (full slots)) slots ns (path_of n ++ get_or e d 0 ∷ []) (Some (Leaf s))
  old_link = subst (λ o. LinkFits (through (full slots)) slots ns (path_of n ++ get_or e d 0 ∷ []) o) the_leaf ((fits_ns.each p n a).links (get_or e d 0))

  sole : through (full slots) (path_of n ++ get_or e d 0 ∷ []) ≡ Sole x
  sole = old_link.2 ∙ ap Sole (same_element old_link.0 x (sym old_link.1 ∙ leaf.2))

  begins : starts (take (d + 1) e) x ≡ true
  begins = ap (λ q. starts q x) (sym child_path) ∙ (the_one (starts (path_of n ++ get_or e d 0 ∷ [])) (full slots) x sole).0

  new_path : path_of m ≡ take (d + 1) e
  new_path =
      ap₂ (λ (k : ℕ) (y : List ℕ). take k y) m_depth m_path
      ∙ ap (λ k. take k x) (sym (omega (arith, length-take (d + 1) e)))
      ∙ sym (starts_is_take (take (d + 1) e) x begins)

  new_long : length (path_of m) ≡ d + 1
  new_long = ap length new_path ∙ omega (arith, length-take (d + 1) e)

  abbrev k : Node
  k = record n { kids = ks }

  abbrev after : List Node
  after = set (set ns j m) p k

  deep_m : m.depth < 36
  deep_m = let q = m_depth in omega arith

  long_m : length m.path ≡ 36
  long_m = ap length m_path ∙ long_x

  m_under : path_of m ≡ path_of n ++ get_or e d 0 ∷ []
  m_under = new_path ∙ sym child_path

  m_only : m.kids.items ≡ kid (get_or x (length (path_of m)) 0) (Leaf s) ∷ []
  m_only = m_kids ∙ ap (λ z. kid (get_or x z 0) (Leaf s) ∷ []) (sym new_long)

  m_first : get_or x (length (path_of m)) 0 < 256
  m_first = subst (λ z. get_or x z 0 < 256) (sym new_long) m_byte

  marked_ns : (c : ℕ) (l : Node) → IsNodeAt ns c l → starts (path_of l) e ≡ true → (l.summary ≡ None) × (length (path_of l) ≤ d)
  marked_ns c l h s = last.marked c l (live.back c l h) s

  closed_ns : Closed ns
  closed_ns = closed_same old ns w.closed (λ c l h. (l, live.back c l h, refl, refl))

  pub split_arena : IsArena slots (set (set ns j m) p (record n { kids = ks }))
  split_arena =
      let g = fits_ns.each p n a in
      record {
        fits = fits-split (full slots) w.elements slots ns fits_ns p n a (get_or e d 0) s x the_leaf leaf.2 j spare id id_is
            m m_live deep_m long_m m_under m_summary m_only m_first (record n { kids = ks }) a.live g.depth g.long refl refl rising kids;
        closed = closed-split (full slots) w.elements slots ns fits_ns p n a (get_or e d 0) s x the_leaf leaf.2 j spare id id_is
            m m_live deep_m long_m m_under m_summary m_only m_first (record n { kids = ks }) a.live g.depth g.long refl refl rising kids
            closed_ns (λ c l h begun. (marked_ns c l h (starts_trans (path_of l) (path_of m) e begun (ap (λ q. starts q e) new_path ∙ starts-take (d + 1) e))).0);
        elements = w.elements;
      }

  pub split_last : IsLast (set (set ns j m) p (record n { kids = ks })) e j (d + 1)
  split_last =
      let g = fits_ns.each p n a in
      record {
        node = (
          m,
          at_new_node (full slots) w.elements slots ns fits_ns p n a (get_or e d 0) s x the_leaf leaf.2 j spare id id_is
              m m_live deep_m long_m m_under m_summary m_only m_first (record n { kids = ks }) a.live g.depth g.long refl refl rising kids,
          m_depth,
          new_path,
        );
        marked = marked-split (full slots) w.elements slots ns fits_ns p n a (get_or e d 0) s x the_leaf leaf.2 j spare id id_is
            m m_live deep_m long_m m_under m_summary m_only m_first (record n { kids = ks }) a.live g.depth g.long refl refl rising kids
            e d new_long marked_ns;
      }

-- what is read at the last node after a spare node was written
module _ (slots : List Slot) (old ns : List Node) (w : IsArena slots old) (live : SameLive old ns) (p d : ℕ) (e : List ℕ) (last : IsLast old e p d) (j : ℕ) (spare : IsSpare ns j) (m n : Node) (read : n ≡ get_or (set ns j m) p n) where
  apart : p ≡ j → ⊥
  apart same =
      let a : IsNodeAt ns p last.node.0 = live.forth p last.node.0 last.node.1 in
      true≢false (sym a.live ∙ ap (λ (y : Node). y.live) (same_Some last.node.0 spare.0 (sym a.at ∙ ap (slice_get ns) same ∙ spare.1)) ∙ spare.2)

  pub read_beside : IsNodeAt ns p n
  read_beside =
      let a : IsNodeAt ns p last.node.0 = live.forth p last.node.0 last.node.1 in
      let moved : IsNodeAt (set ns j m) p last.node.0 = record { at = get-set_other ns j p m apart ∙ a.at; live = a.live } in
      let it : n ≡ last.node.0 = same_node (subst (λ y. IsNodeAt (set ns j m) p y) (sym read) (read_at (set ns j m) p last.node.0 n moved)) moved in
      subst (λ y. IsNodeAt ns p y) (sym it) a

  pub beside_rising : Rising 0 n.kids.items
  beside_rising = (w.fits.each p n (live.back p n read_beside)).rising

  pub beside_leaf : (b : ℕ) (s : SlotId) (x : List ℕ) → IsLeafAt slots old p b s x → find_kid b n.kids.items ≡ Some (Leaf s)
  beside_leaf b s x leaf = ap (λ (y : Node). find_kid b y.kids.items) (same_node (live.back p n read_beside) leaf.1) ∙ leaf.3

  pub beside_cost : (ks : Vec Kid Global) → stale (set (set ns j m) p (record n { kids = ks })) ≤ stale ns + 1
  beside_cost ks =
      let a : IsNodeAt ns p n = read_beside in
      let same : stale (set (set ns j m) p (record n { kids = ks })) ≡ stale (set ns j m) = stale-set_same (set ns j m) p n (record n { kids = ks }) (get-set_other ns j p m apart ∙ a.at) refl in
      omega (arith, stale-set_le ns j m, same)

-- no inner child stands below the last node on a path
pub gap_none : (slots : List Slot) (nodes : List Node) → IsArena slots nodes → (e : List ℕ) → length e ≡ 36 → (i d : ℕ) → IsLast nodes e i d → (n : Node) → IsNodeAt nodes i n → (o : Option Link) → find_kid (get_or e d 0) n.kids.items ≡ o → ((s : SlotId) → o ≡ Some (Leaf s) → ⊥) → o ≡ None
gap_none slots nodes w e long i d last n a None h no_leaf = refl
gap_none slots nodes w e long i d last n a (Some (Leaf s)) h no_leaf = absurd (no_leaf s refl)
gap_none slots nodes w e long i d last n a (Some (Inner id)) h no_leaf =
    let it : last.node.0 ≡ n = same_node last.node.1 a in
    let is : path_of n ≡ take d e = ap path_of (sym it) ∙ last.node.3 in
    let deep : n.depth ≡ d = ap (λ (y : Node). y.depth) (sym it) ∙ last.node.2 in
    let low : n.depth < 36 = (w.fits.each i n a).depth in
    let x = down (through (full slots)) slots nodes w.fits e i d n (omega arith) a deep is id h in
    let short = (last.marked id.0 x.0 x.1 (ap (λ q. starts q e) x.3 ∙ starts-take (d + 1) e)).1 in
    absurd (omega (arith, short, ap length x.3, length-take (d + 1) e))

pub last_deep : (slots : List Slot) (nodes : List Node) → IsArena slots nodes → (e : List ℕ) (i d : ℕ) → IsLast nodes e i d → d < 36
last_deep slots nodes w e i d last = let l : last.node.0.depth < 36 = (w.fits.each i last.node.0 last.node.1).depth in let q : last.node.0.depth ≡ d = last.node.2 in omega arith

pub split_deep : (slots : List Slot) (nodes : List Node) → IsArena slots nodes → (e : List ℕ) → length e ≡ 36 → (i d : ℕ) → IsLast nodes e i d → (s : SlotId) (x : List ℕ) → IsLeafAt slots nodes i (get_or e d 0) s x → through (full slots) e ≡ Empty → d + 1 < 36
split_deep slots nodes w e long i d last s x leaf absent =
    elim (cases_lt (d + 1) 36) [
      | inl l ↦ l
      | inr more ↦ (
          let low = last_deep slots nodes w e i d last in
          let is : path_of leaf.0 ≡ take d e = ap path_of (same_node leaf.1 last.node.1) ∙ last.node.3 in
          let whole : path_of leaf.0 ++ get_or e d 0 ∷ [] ≡ e = next_is e d (path_of leaf.0) (omega arith) is ∙ take_all (d + 1) e (omega arith) in
          let link : LinkFits (through (full slots)) slots nodes (path_of leaf.0 ++ get_or e d 0 ∷ []) (Some (Leaf s)) = subst (λ o. LinkFits (through (full slots)) slots nodes (path_of leaf.0 ++ get_or e d 0 ∷ []) o) leaf.3 ((w.fits.each i leaf.0 leaf.1).links (get_or e d 0)) in
          clash (through (full slots) e) link.0 absent (ap (through (full slots)) (sym whole) ∙ link.2))
    ]
  where
    clash : {A : Type 0} (t : Through) (y : List ℕ) → t ≡ Empty → t ≡ Sole y → A
    clash t y h g = cc

pub no_leaf : (o : Option Link) (id : NodeId) → o ≡ Some (Inner id) → (s : SlotId) → o ≡ Some (Leaf s) → ⊥
no_leaf o id h s g = cc

pub none_leaf : (o : Option Link) → o ≡ None → (s : SlotId) → o ≡ Some (Leaf s) → ⊥
none_leaf o h s g = cc

pub within_last_leaf : (slots : List Slot) (nodes : List Node) → IsArena slots nodes → (e : List ℕ) (i d : ℕ) (n : Node) → IsNodeAt nodes i n → (s : SlotId) → find_kid (get_or e d 0) n.kids.items ≡ Some (Leaf s) → s.0 < length slots
within_last_leaf slots nodes w e i d n a s h =
    let link : LinkFits (through (full slots)) slots nodes (path_of n ++ get_or e d 0 ∷ []) (Some (Leaf s)) = subst (λ o. LinkFits (through (full slots)) slots nodes (path_of n ++ get_or e d 0 ∷ []) o) h ((w.fits.each i n a).links (get_or e d 0)) in
    slice_get_within slots s.0 (Full link.0) link.1
