-- What the nodes say stays so as they change.
use Rattle.std.proofs.Common.{◌≡◌, ℕ, zero, suc, ◌+◌, ◌-◌, ◌<◌, ◌≤◌, inl, inr, true, List, [], ◌∷◌, ◌++◌, length, take, get_or, Option, Some, None, sym, ap, ap₂, ◌∙◌, subst, arith, length-take}
use Rattle.std.proofs.lemmas.Bool.{cases_lt}
use Rattle.std.proofs.lemmas.Option.{same_Some}
use Rattle.std.proofs.lemmas.List.{same_from_push, take_more, length_push}
use Rattle.al_trie.specs.declared.arena.Node.{Node}
use Rattle.al_trie.specs.declared.arena.NodeId.{NodeId}
use Rattle.al_trie.specs.declared.kids.Link.{Link}
use Rattle.al_trie.specs.declared.kids.Link.TheVariants.{Leaf, Inner}
use Rattle.al_trie.specs.declared.slots.Slot.{Slot}
use Rattle.al_trie.specs.Root.{Through, Empty, starts}
use Rattle.al_trie.specs.Kids.{find_kid}
use Rattle.al_trie.specs.Arena.{path_of, IsNodeAt, LinkFits, NodeFits, HasParent, Fits}
use Rattle.al_trie.proofs.Paths.{starts_whole, starts_before, starts_of, starts-take}

pub same_node : {nodes : List Node} {i : ℕ} {n m : Node} → IsNodeAt nodes i n → IsNodeAt nodes i m → n ≡ m
same_node {n = n} {m = m} a b = same_Some n m (sym a.at ∙ b.at)

pub at_index : {nodes : List Node} {i j : ℕ} {n : Node} → i ≡ j → IsNodeAt nodes i n → IsNodeAt nodes j n
at_index {nodes = nodes} {n = n} e a = subst (λ k. IsNodeAt nodes k n) e a

-- ---- nodes with the same paths and the same inner children

pub record Alike (m n : Node) : Type 0 where
  pub path : path_of m ≡ path_of n
  pub inner : (b : ℕ) (id : NodeId) → find_kid b m.kids.items ≡ Some (Inner id) → find_kid b n.kids.items ≡ Some (Inner id)

abbrev pub Back : List Node → List Node → Type 0
Back old new = (i : ℕ) (n : Node) → IsNodeAt new i n → (m : Node) × IsNodeAt old i m × Alike m n

abbrev pub Forth : List Node → List Node → Type 0
Forth old new = (i : ℕ) (m : Node) → IsNodeAt old i m → (n : Node) × IsNodeAt new i n × Alike m n

module _ (of other : List ℕ → Through) (slots places : List Slot) (old new : List Node) where
  pub change : Fits of slots old → Back old new → Forth old new → (0 < length new → 0 < length old)
      → ((i : ℕ) (n : Node) → IsNodeAt new i n → NodeFits other places new n) → (length new ≡ 0 → other [] ≡ Empty) → Fits other places new
  change f back forth long each none = record {
    each = each;
    unique = λ i j n m a b e.
        let x = back i n a in
        let y = back j m b in
        f.unique i j x.0 y.0 x.1 y.1 (x.2.path ∙ e ∙ sym y.2.path);
    kept = λ j m b.
        let y = back j m b in
        elim (f.kept j y.0 y.1) as (λ _. HasParent new j m) [
          | inl p ↦ inl (p.0, sym y.2.path ∙ p.1)
          | inr p ↦ (
              let q = p.3 in
              let z = forth p.0 p.1 q.parent in
              inr (
                p.0,
                z.0,
                p.2,
                record {
                  parent = z.1;
                  path = sym y.2.path ∙ q.path ∙ ap (λ xs. xs ++ p.2 ∷ []) z.2.path;
                  kid = (q.kid.0, z.2.inner p.2 q.kid.0 q.kid.1, q.kid.2);
                },
              ))
        ];
    top = λ l.
        let t = f.top (long l) in
        let z = forth 0 t.0 t.1 in
        (z.0, z.1, sym z.2.path ∙ t.2);
    none = none;
  }

pub link_forth : (of : List ℕ → Through) (slots : List Slot) (old new : List Node) (p : List ℕ) (o : Option Link) → Forth old new → LinkFits of slots old p o → LinkFits of slots new p o
link_forth of slots old new p None forth h = h
link_forth of slots old new p (Some (Leaf s)) forth h = h
link_forth of slots old new p (Some (Inner j)) forth (m, a, e) = let z = forth j.0 m a in (z.0, z.1, sym z.2.path ∙ e)

-- ---- where a path has a node, each path before it has one

shorter : (k : ℕ) (q p : List ℕ) (b : ℕ) → length (p ++ b ∷ []) ≡ length q + suc k → length p ≡ length q + k
shorter k q p b e = omega (arith, length_push p b)

pub ancestor : (of : List ℕ → Through) (slots : List Slot) (nodes : List Node) → Fits of slots nodes → (k : ℕ) (q : List ℕ) (j : ℕ) (m : Node) → IsNodeAt nodes j m
    → starts q (path_of m) ≡ true → length (path_of m) ≡ length q + k → (i : ℕ) × (n : Node) × IsNodeAt nodes i n × (path_of n ≡ q)
ancestor of slots nodes f zero q j m a s e = (j, m, a, sym (starts_whole q (path_of m) s (omega arith)))
ancestor of slots nodes f (suc k) q j m a s e =
    elim (f.kept j m a) [
      | inl p ↦ absurd (let z : length (path_of m) ≡ 0 = ap length p.1 in omega arith)
      | inr p ↦ (
          let g = p.3 in
          let long : length (path_of p.1) ≡ length q + k = shorter k q (path_of p.1) p.2 (sym (ap length g.path) ∙ e) in
          let begins : starts q (path_of p.1 ++ p.2 ∷ []) ≡ true = ap (starts q) (sym g.path) ∙ s in
          ancestor of slots nodes f k q p.0 p.1 g.parent (starts_before q (path_of p.1) p.2 begins (omega arith)) long)
    ]

-- the parent of a node whose path is one byte longer than another's is that one
pub linked : (of : List ℕ → Through) (slots : List Slot) (nodes : List Node) → Fits of slots nodes → (i : ℕ) (n : Node) (b : ℕ) (j : ℕ) (m : Node) → IsNodeAt nodes i n → IsNodeAt nodes j m
    → path_of m ≡ path_of n ++ b ∷ [] → (id : NodeId) × (find_kid b n.kids.items ≡ Some (Inner id)) × (id.0 ≡ j)
linked of slots nodes f i n b j m a c e =
    elim (f.kept j m c) [
      | inl p ↦ absurd (let z : length (path_of n ++ b ∷ []) ≡ 0 = ap length (sym e ∙ p.1) in omega (arith, length_push (path_of n) b))
      | inr p ↦ (
          let g = p.3 in
          let both = same_from_push (path_of p.1) (path_of n) p.2 b (sym g.path ∙ e) in
          let same : p.0 ≡ i = f.unique p.0 i p.1 n g.parent a both.0 in
          let it : p.1 ≡ n = same_node (at_index same g.parent) a in
          (g.kid.0, ap₂ (λ (c : ℕ) (x : Node). find_kid c x.kids.items) (sym both.1) (sym it) ∙ g.kid.1, g.kid.2))
    ]

-- where the child at an element's next byte is no inner one, no node stands on the element's path below
pub none_below : (of : List ℕ → Through) (slots : List Slot) (nodes : List Node) → Fits of slots nodes → (i : ℕ) (n : Node) (d : ℕ) (e : List ℕ) → IsNodeAt nodes i n → d < length e → path_of n ≡ take d e
    → ((id : NodeId) → find_kid (get_or e d 0) n.kids.items ≡ Some (Inner id) → ⊥) → (j : ℕ) (m : Node) → IsNodeAt nodes j m → starts (path_of m) e ≡ true → length (path_of m) ≤ d
none_below of slots nodes f i n d e a within is gap j m c s =
    elim (cases_lt d (length (path_of m))) [
      | inl l ↦ absurd (
          let q : List ℕ = take (d + 1) e in
          let long : length q ≡ d + 1 = omega (arith, length-take (d + 1) e) in
          let begins : starts q (path_of m) ≡ true = starts_of q (path_of m) e (starts-take (d + 1) e) s (omega arith) in
          let x = ancestor of slots nodes f (length (path_of m) - length q) q j m c begins (omega arith) in
          let y = linked of slots nodes f i n (get_or e d 0) x.0 x.1 a x.2 (x.3 ∙ take_more e d 0 within ∙ ap (λ p. p ++ get_or e d 0 ∷ []) (sym is)) in
          gap y.0 y.1)
      | inr l ↦ l
    ]
