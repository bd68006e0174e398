-- An element is looked for along its path.
use Rattle.std.proofs.Common.{◌≡◌, ℕ, ◌+◌, ◌<◌, ◌≤◌, inl, inr, true, List, [], ◌∷◌, ◌++◌, length, take, set, get_or, Some, None, sym, ap, ◌∙◌, subst, arith, length-take}
use Rattle.std.proofs.lemmas.Bool.{cases_eq, cases_lt, both_ways, false_from_ne_true}
use Rattle.std.proofs.lemmas.List.{take_more}
use Rattle.al_trie.specs.declared.arena.Node.{Node}
use Rattle.al_trie.specs.declared.arena.NodeId.{NodeId}
use Rattle.al_trie.specs.declared.kids.Link.TheVariants.{Inner}
use Rattle.al_trie.specs.declared.slots.Slot.{Slot}
use Rattle.al_trie.specs.Root.{Through, Empty, Sole, starts, through}
use Rattle.al_trie.specs.Slots.{full, AreElements}
use Rattle.al_trie.specs.Kids.{find_kid}
use Rattle.al_trie.specs.Arena.{path_of, IsNodeAt, LinkFits, Fits, IsArena, IsLast, stale}
use Rattle.al_trie.proofs.Paths.{starts_whole, starts_trans, starts-take, starts_of, starts_long}
use Rattle.al_trie.proofs.Passing.{passing_empty, none_passes, one_passes}
use Rattle.al_trie.proofs.Fits.{same_node, at_index, none_below}
use Rattle.al_trie.proofs.Marks.{set_at, set_unmoved, fits-summary}
use Rattle.al_trie.proofs.Stale.{stale-set_le}
use Rattle.al_trie.proofs.Closed.{closed-stale}
use Rattle.al_trie.proofs.Changes.{NotInner}

pub empty_below : (xs : List (List ℕ)) (p e : List ℕ) → through xs p ≡ Empty → starts p e ≡ true → through xs e ≡ Empty
empty_below xs p e none s = passing_empty (starts e) xs (λ x m. false_from_ne_true (starts e x) (λ h. both_ways (starts p x) (none_passes (starts p) xs x none m) (starts_trans p e x s h)))

pub other_leaf : (xs : List (List ℕ)) (p e x : List ℕ) → AreElements xs → through xs p ≡ Sole x → starts p e ≡ true → length e ≡ 36 → (x ≡ e → ⊥) → through xs e ≡ Empty
other_leaf xs p e x sized sole s long other = passing_empty (starts e) xs (λ y m. false_from_ne_true (starts e y) (λ h.
    let same : e ≡ y = starts_whole e y h (long ∙ sym (sized y m)) in
    other (sym (one_passes (starts p) xs y x sole m (starts_trans p e y s h)) ∙ sym same)))

-- a node on the path of an element
abbrev pub On : List Node → List ℕ → ℕ → ℕ → Type 0
On nodes e id d = (n : Node) × IsNodeAt nodes id n × (n.depth ≡ d) × (path_of n ≡ take d e)

pub length_path : (of : List ℕ → Through) (slots : List Slot) (nodes : List Node) → Fits of slots nodes → (i : ℕ) (n : Node) → IsNodeAt nodes i n → length (path_of n) ≡ n.depth
length_path of slots nodes f i n a = let g = f.each i n a in let l : n.depth < 36 = g.depth in let w : length n.path ≡ 36 = g.long in omega (arith, length-take n.depth n.path)

pub next_is : (e : List ℕ) (d : ℕ) (p : List ℕ) → d < length e → p ≡ take d e → p ++ get_or e d 0 ∷ [] ≡ take (d + 1) e
next_is e d p l is = ap (λ q. q ++ get_or e d 0 ∷ []) is ∙ sym (take_more e d 0 l)

pub next_starts : (e : List ℕ) (d : ℕ) (p : List ℕ) → d < length e → p ≡ take d e → starts (p ++ get_or e d 0 ∷ []) e ≡ true
next_starts e d p l is = ap (λ q. starts q e) (next_is e d p l is) ∙ starts-take (d + 1) e

-- the inner child at the next byte is on the path too
pub down : (of : List ℕ → Through) (slots : List Slot) (nodes : List Node) → Fits of slots nodes → (e : List ℕ) (i d : ℕ) (n : Node) → d < length e → IsNodeAt nodes i n → n.depth ≡ d → path_of n ≡ take d e
    → (id : NodeId) → find_kid (get_or e d 0) n.kids.items ≡ Some (Inner id) → On nodes e id.0 (d + 1)
down of slots nodes f e i d n l a deep is id found =
    let h : LinkFits of slots nodes (path_of n ++ get_or e d 0 ∷ []) (Some (Inner id)) = subst (λ o. LinkFits of slots nodes (path_of n ++ get_or e d 0 ∷ []) o) found ((f.each i n a).links (get_or e d 0)) in
    let long : length (path_of h.0) ≡ h.0.depth = length_path of slots nodes f id.0 h.0 h.1 in
    let whole : path_of h.0 ≡ take (d + 1) e = h.2 ∙ next_is e d (path_of n) l is in
    (h.0, h.1, sym long ∙ ap length whole ∙ omega (arith, length-take (d + 1) e), whole)

-- ---- marking

pub record IsMarking (slots : List Slot) (nodes : List Node) (e : List ℕ) (id d start : ℕ) : Type 0 where
  pub arena : IsArena slots nodes
  pub node : On nodes e id d
  pub marked : (j : ℕ) (m : Node) → IsNodeAt nodes j m → starts (path_of m) e ≡ true → length (path_of m) < d → m.summary ≡ None
  pub cost : stale nodes ≤ start + d

module _ (slots : List Slot) (nodes : List Node) (e : List ℕ) (i d start : ℕ) (long : length e ≡ 36) (w : IsMarking slots nodes e i d start) (n : Node) (a : IsNodeAt nodes i n) where
  it : w.node.0 ≡ n
  it = same_node w.node.1 a

  pub here : path_of n ≡ take d e
  here = ap path_of (sym it) ∙ w.node.3

  pub deep : n.depth ≡ d
  deep = ap (λ (y : Node). y.depth) (sym it) ∙ w.node.2

  pub within : d < 36
  within = let l : n.depth < 36 = (w.arena.fits.each i n a).depth in let q = deep in omega arith

  -- another node that begins the path is shorter
  shorter : (k : ℕ) (l : Node) → IsNodeAt nodes k l → starts (path_of l) e ≡ true → length (path_of l) ≤ d → (k ≡ i → ⊥) → l.summary ≡ None
  shorter k l c s le other =
      elim (cases_lt (length (path_of l)) d) [
        | inl less ↦ w.marked k l c s less
        | inr more ↦ absurd (other (w.arena.fits.unique k i l n c a (starts_is (path_of l) s (omega arith) ∙ sym here)))
      ]
    where
      starts_is : (p : List ℕ) → starts p e ≡ true → length p ≡ d → p ≡ take d e
      starts_is p s l = starts_whole p (take d e) (starts_of p (take d e) e s (starts-take d e) (let q = within in omega (arith, length-take d e))) (let q = within in omega (arith, length-take d e))

  pub marked_arena : IsArena slots (set nodes i (record n { summary = None }))
  marked_arena = record {
    fits = fits-summary (through (full slots)) slots nodes w.arena.fits i n a None tt;
    closed = closed-stale nodes w.arena.closed i n a (λ k l c s other.
        let len = length_path (through (full slots)) slots nodes w.arena.fits i n a in
        let short : length (path_of l) ≤ length (path_of n) = starts_long (path_of l) (path_of n) s in
        shorter k l c (starts_trans (path_of l) (path_of n) e s (ap (λ p. starts p e) here ∙ starts-take d e)) (let q = deep in omega arith) other);
    elements = w.arena.elements;
  }

  pub marked_at : IsNodeAt (set nodes i (record n { summary = None })) i (record n { summary = None })
  marked_at = set_at nodes i n (record n { summary = None }) a a.live

  pub marked_more : (k : ℕ) (l : Node) → IsNodeAt (set nodes i (record n { summary = None })) k l → starts (path_of l) e ≡ true → length (path_of l) < d + 1 → l.summary ≡ None
  marked_more k l c s less =
      elim (cases_eq k i) [
        | inl same ↦ ap (λ (y : Node). y.summary) (sym (same_node marked_at (at_index same c)))
        | inr other ↦ shorter k l (set_unmoved nodes i n (record n { summary = None }) a a.live k l other c) s (omega arith) other
      ]

  pub marked_cost : stale (set nodes i (record n { summary = None })) ≤ start + (d + 1)
  marked_cost = let c : stale nodes ≤ start + d = w.cost in omega (arith, stale-set_le nodes i (record n { summary = None }))

  pub marked_down : (id : NodeId) → find_kid (get_or e d 0) n.kids.items ≡ Some (Inner id) → IsMarking slots (set nodes i (record n { summary = None })) e id.0 (d + 1) start
  marked_down id found = record {
    arena = marked_arena;
    node = down (through (full slots)) slots (set nodes i (record n { summary = None })) marked_arena.fits e i d (record n { summary = None }) (let q = within in omega arith) marked_at deep here id found;
    marked = marked_more;
    cost = marked_cost;
  }

  pub marked_last : NotInner (find_kid (get_or e d 0) n.kids.items) → IsLast (set nodes i (record n { summary = None })) e i d
  marked_last gap = record {
    node = (record n { summary = None }, marked_at, deep, here);
    marked = λ k l c s.
        let short : length (path_of l) ≤ d = none_below (through (full slots)) slots (set nodes i (record n { summary = None })) marked_arena.fits i (record n { summary = None }) d e marked_at (let q = within in omega arith) here gap k l c s in
        (marked_more k l c s (omega arith), short);
  }
