-- Summaries are made anew.
use Rattle.std.proofs.Common.{◌≡◌, ℕ, zero, suc, ◌+◌, ◌-◌, ◌<◌, ◌≤◌, inl, inr, false, cond, List, [], ◌∷◌, ◌++◌, map, length, set, get_or, slice_get, Option, Some, None, IsSome, option_map, refl, sym, ap, ap₂, ◌∙◌, subst, arith}
use Rattle.std.proofs.lemmas.Bool.{cases_eq}
use Rattle.std.proofs.lemmas.Option.{same_Some, slice_get-map}
use Rattle.al_trie.specs.declared.arena.Node.{Node}
use Rattle.al_trie.specs.declared.arena.NodeId.{NodeId}
use Rattle.al_trie.specs.declared.arena.Summary.{Summary}
use Rattle.al_trie.specs.declared.kids.Kid.{Kid}
use Rattle.al_trie.specs.declared.kids.Link.{Link}
use Rattle.al_trie.specs.declared.kids.Link.TheVariants.{Leaf, Inner}
use Rattle.al_trie.specs.declared.slots.Slot.{Slot}
use Rattle.al_trie.specs.Root.{through}
use Rattle.al_trie.specs.Slots.{full}
use Rattle.std.proofs.Common.{◌&&◌, is_none}
use Rattle.al_trie.proofs.Fits.{same_node}
use Rattle.al_trie.proofs.Marks.{fits-summary}
use Rattle.al_trie.proofs.Stale.{weight, stale-set_fresh}
use Rattle.al_trie.proofs.Closed.{closed-fresh, below_known}
use Rattle.al_trie.specs.Arena.{path_of, SummaryFits, IsNodeAt, bare, SameShape, Refreshed, IsArena, HasHeight, stale}
use Rattle.al_trie.specs.Spelling.{IsKnown, AreKnown}
use Rattle.al_trie.proofs.Gets.{get-set_other}
use Rattle.std.proofs.lemmas.Option.{slice_get_within, slice_get-get_or}
use Rattle.std.proofs.lemmas.List.{length_push}
use Rattle.al_trie.specs.declared.slots.SlotId.{SlotId}
use Rattle.al_trie.specs.Kids.{find_kid}
use Rattle.al_trie.specs.Arena.{LinkFits}
use Rattle.al_trie.proofs.Finding.{length_path}
use Rattle.al_trie.proofs.Spelling.{find_at}

mapped : {A B : Type 0} (f : A → B) (o : Option A) (y : B) → option_map f o ≡ Some y → (x : A) × (o ≡ Some x) × (f x ≡ y)
mapped f None y h = cc
mapped f (Some x) y h = (x, refl, same_Some (f x) y h)

pub shape_get : (old new : List Node) → SameShape old new → (i : ℕ) (n : Node) → slice_get old i ≡ Some n → (m : Node) × (slice_get new i ≡ Some m) × (bare m ≡ bare n)
shape_get old new same i n h =
    mapped bare (slice_get new i) (bare n) (sym (slice_get-map bare new i) ∙ ap (λ ns. slice_get ns i) (sym same) ∙ slice_get-map bare old i ∙ ap (option_map bare) h)

pub shape_set : (nodes : List Node) (i : ℕ) (n m : Node) → slice_get nodes i ≡ Some n → bare m ≡ bare n → SameShape nodes (set nodes i m)
shape_set [] i n m h e = cc
shape_set (k ∷ nodes) zero n m h e = ap (λ x. x ∷ map bare nodes) (ap bare (same_Some k n h) ∙ sym e)
shape_set (k ∷ nodes) (suc i) n m h e = ap (λ xs. bare k ∷ xs) (shape_set nodes i n m h e)

pub refreshed_same : (nodes : List Node) → Refreshed nodes nodes
refreshed_same nodes = record { shape = refl; keeps = λ i n m a b h. ap (λ (x : Node). x.summary) (same_Some m n (sym b ∙ a)) }

pub refreshed_then : (a b c : List Node) → Refreshed a b → Refreshed b c → Refreshed a c
refreshed_then a b c r s = record {
  shape = r.shape ∙ s.shape;
  keeps = λ i n m x z h.
      let y = shape_get a b r.shape i n x in
      let first = r.keeps i n y.0 x y.1 h in
      s.keeps i y.0 m y.1 z (subst IsSome (sym first) h) ∙ first;
}

no_summary : {A : Type 0} (o : Option Summary) → o ≡ None → IsSome o → A
no_summary None e h = cc
no_summary (Some s) e h = cc

pub refreshed_set : (nodes : List Node) (i : ℕ) (n : Node) (s : Option Summary) → slice_get nodes i ≡ Some n → n.summary ≡ None → Refreshed nodes (set nodes i (record n { summary = s }))
refreshed_set nodes i n s a e = record {
  shape = shape_set nodes i n (record n { summary = s }) a refl;
  keeps = λ j x y b c h. elim (cases_eq j i) [
    | inl same ↦ no_summary x.summary (ap (λ (z : Node). z.summary) (same_Some x n (sym (ap (slice_get nodes) (sym same) ∙ b) ∙ a)) ∙ e) h
    | inr other ↦ ap (λ (z : Node). z.summary) (same_Some y x (sym c ∙ (get-set_other nodes i j (record n { summary = s }) other ∙ b)))
  ];
}

-- a node after its summaries were made anew
pub node_then : (old new : List Node) → Refreshed old new → (i : ℕ) (n : Node) → IsNodeAt old i n → (m : Node) × IsNodeAt new i m × (bare m ≡ bare n)
node_then old new r i n a =
    let x = shape_get old new r.shape i n a.at in
    (x.0, record { at = x.1; live = ap (λ (y : Node). y.live) x.2 ∙ a.live }, x.2)

-- what is known stays so
pub known_then : (old new : List Node) → Refreshed old new → (l : Link) → IsKnown old l → IsKnown new l
known_then old new r (Leaf s) h = tt
known_then old new r (Inner id) h = λ n a.
    let x = shape_get new old (sym r.shape) id.0 n a in
    subst IsSome (sym (r.keeps id.0 x.0 n x.1 a (h x.0 x.1))) (h x.0 x.1)

-- while the children of a node are refreshed, k of them are
pub record IsRefreshing (slots : List Slot) (first nodes : List Node) (id height count k : ℕ) : Type 0 where
  pub arena : IsArena slots nodes
  pub refreshed : Refreshed first nodes
  pub node : (n : Node) × IsNodeAt nodes id n × (n.depth + height ≡ 36) × (length n.kids.items ≡ count) × ((c : ℕ) (kid : Kid) → slice_get n.kids.items c ≡ Some kid → c < k → IsKnown nodes kid.to)

module _ (slots : List Slot) (first nodes : List Node) (id height count k : ℕ) (r : IsRefreshing slots first nodes id height count k) (n : Node) (a : IsNodeAt nodes id n) where
  it : r.node.0 ≡ n
  it = same_node r.node.1 a

  deep : n.depth + height ≡ 36
  deep = ap (λ (y : Node). y.depth + height) (sym it) ∙ r.node.2

  pub refreshing_long : length n.kids.items ≡ count
  refreshing_long = ap (λ (y : Node). length y.kids.items) (sym it) ∙ r.node.3

  known_before : (c : ℕ) (kid : Kid) → slice_get n.kids.items c ≡ Some kid → c < k → IsKnown nodes kid.to
  known_before c kid h l = r.node.4 c kid (ap (λ (y : Node). slice_get y.kids.items c) it ∙ h) l

  pub refreshing_known : count ≤ k → AreKnown nodes n.kids.items
  refreshing_known all c kid h = known_before c kid h (let l = slice_get_within n.kids.items c kid h in let q = refreshing_long in omega arith)

  module _ (kid : Kid) (less : k < count) (read : kid ≡ get_or n.kids.items k kid) where
    there : slice_get n.kids.items k ≡ Some kid
    there = slice_get-get_or n.kids.items k kid (let q = refreshing_long in omega arith) ∙ ap Some (sym read)

    pub refreshing_below : (below : NodeId) → kid.to ≡ Inner below → HasHeight nodes below.0 (height - 1) × (1 ≤ height)
    refreshing_below below is =
        let g = r.arena.fits.each id n a in
        let found : find_kid kid.byte n.kids.items ≡ Some (Inner below) = find_at 0 n.kids.items k kid g.rising there ∙ ap Some is in
        let h : LinkFits (through (full slots)) slots nodes (path_of n ++ kid.byte ∷ []) (Some (Inner below)) = subst (λ o. LinkFits (through (full slots)) slots nodes (path_of n ++ kid.byte ∷ []) o) found (g.links kid.byte) in
        let long : length (path_of h.0) ≡ h.0.depth = length_path (through (full slots)) slots nodes r.arena.fits below.0 h.0 h.1 in
        let top : length (path_of n) ≡ n.depth = length_path (through (full slots)) slots nodes r.arena.fits id n a in
        let more : length (path_of h.0) ≡ length (path_of n) + 1 = ap length h.2 ∙ length_push (path_of n) kid.byte in
        let low : h.0.depth < 36 = (r.arena.fits.each below.0 h.0 h.1).depth in
        let q = deep in
        ((h.0, h.1, omega arith), omega arith)

    next_known : (after : List Node) → Refreshed nodes after → IsKnown after kid.to → (c : ℕ) (other : Kid) → slice_get n.kids.items c ≡ Some other → c < k + 1 → IsKnown after other.to
    next_known after s this c other h l =
        elim (cases_eq c k) [
          | inl same ↦ subst (λ (z : Kid). IsKnown after z.to) (same_Some kid other (sym there ∙ ap (slice_get n.kids.items) (sym same) ∙ h)) this
          | inr apart ↦ known_then nodes after s other.to (known_before c other h (omega arith))
        ]

    pub refreshing_next : (after : List Node) → IsArena slots after → Refreshed nodes after → IsKnown after kid.to → IsRefreshing slots first after id height count (k + 1)
    refreshing_next after w s this =
        let x = node_then nodes after s id n a in
        let same : x.0.kids.items ≡ n.kids.items = ap (λ (y : Node). y.kids.items) x.2 in
        record {
          arena = w;
          refreshed = refreshed_then first nodes after r.refreshed s;
          node = (
            x.0,
            x.1,
            ap (λ (y : Node). y.depth + height) x.2 ∙ deep,
            ap length same ∙ refreshing_long,
            λ c other h l. next_known after s this c other (ap (λ ks. slice_get ks c) (sym same) ∙ h) l,
          );
        }

    pub refreshing_leaf : (s : SlotId) → kid.to ≡ Leaf s → IsRefreshing slots first nodes id height count (k + 1)
    refreshing_leaf s is = refreshing_next nodes r.arena (refreshed_same nodes) (subst (IsKnown nodes) (sym is) tt)

    pub refreshing_inner : (below : NodeId) → kid.to ≡ Inner below → (after : List Node) → IsArena slots after → Refreshed nodes after → (u : Summary) → ((m : Node) → IsNodeAt after below.0 m → m.summary ≡ Some u) → IsRefreshing slots first after id height count (k + 1)
    refreshing_inner below is after w s u summary =
        let x = (refreshing_below below is).0 in
        let y = node_then nodes after s below.0 x.0 x.1 in
        refreshing_next after w s (subst (IsKnown after) (sym is) (λ m h.
        subst (λ o. IsSome {T = Summary} o) (sym (summary m (record { at = h; live = ap (λ (z : Node). z.live) (same_Some m y.0 (sym h ∙ y.1.at)) ∙ y.1.live }))) refl))

pub refreshing_start : (slots : List Slot) (nodes : List Node) (id height count : ℕ) → IsArena slots nodes → HasHeight nodes id height → (n : Node) → IsNodeAt nodes id n → count ≡ length n.kids.items → IsRefreshing slots nodes nodes id height count 0
refreshing_start slots nodes id height count w h n a is = record {
  arena = w;
  refreshed = refreshed_same nodes;
  node = (n, a, ap (λ (y : Node). y.depth + height) (same_node a h.1) ∙ h.2, sym is, λ c kid g l. absurd (omega arith));
}

-- ---- a summary is written

pub finished_arena : (slots : List Slot) (nodes : List Node) → IsArena slots nodes → (i : ℕ) (x : Node) → IsNodeAt nodes i x → AreKnown nodes x.kids.items → (n : Node) → IsNodeAt nodes i n → (s : Summary) → SummaryFits (through (full slots)) slots (path_of n) (Some s)
    → IsArena slots (set nodes i (record n { summary = Some s }))
finished_arena slots nodes w i x b known n a s ok = record {
  fits = fits-summary (through (full slots)) slots nodes w.fits i n a (Some s) ok;
  closed = closed-fresh nodes w.closed i n a s (below_known (through (full slots)) slots nodes w.fits w.closed i n a (subst (λ (y : Node). AreKnown nodes y.kids.items) (same_node b a) known));
  elements = w.elements;
}

pub finished_cost : (nodes : List Node) (i : ℕ) (n : Node) → IsNodeAt nodes i n → (s : Summary) → n.summary ≡ None → (before after : ℕ) → after ≤ before + 1 → after + stale (set nodes i (record n { summary = Some s })) ≤ before + stale nodes
finished_cost nodes i n a s e before after l =
    let one : weight n ≡ 1 = ap₂ (λ b o. cond (b && is_none o) 1 0) a.live e in
    let zero : weight (record n { summary = Some s }) ≡ 0 = ap (λ b. cond (b && false) 1 0) a.live in
    omega (arith, stale-set_fresh nodes i n (record n { summary = Some s }) a.at one zero)
