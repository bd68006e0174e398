-- Below a node with a summary each node has one.
use Rattle.std.proofs.Common.{◌≡◌, ℕ, suc, ◌-◌, inl, inr, Bool, true, false, cond, ◌&&◌, ◌==◌, is_none, List, [], ◌∷◌, ◌++◌, length, set, get_or, slice_get, Option, Some, None, IsSome, refl, sym, ap, ap₂, ◌∙◌, subst, arith, Vec, Global}
use Rattle.std.proofs.lemmas.Bool.{cases_eq, cases_lt}
use Rattle.std.proofs.lemmas.List.{length_push}
use Rattle.al_trie.specs.declared.arena.Node.{Node}
use Rattle.al_trie.specs.declared.arena.Summary.{Summary}
use Rattle.al_trie.specs.declared.kids.Kid.{Kid}
use Rattle.al_trie.specs.declared.kids.Link.{Link}
use Rattle.al_trie.specs.declared.kids.Link.TheVariants.{Inner}
use Rattle.al_trie.specs.declared.slots.Slot.{Slot}
use Rattle.al_trie.specs.Root.{Through, starts}
use Rattle.al_trie.specs.Kids.{find_kid}
use Rattle.al_trie.specs.Arena.{path_of, IsNodeAt, Fits, Closed, stale}
use Rattle.al_trie.specs.Spelling.{IsKnown, AreKnown}
use Rattle.al_trie.proofs.Paths.{starts_next, starts_long, starts_whole}
use Rattle.al_trie.proofs.Fits.{same_node, at_index, ancestor, linked}
use Rattle.al_trie.proofs.Marks.{set_at, set_unmoved}

pub no_summary : {A : Type 0} (o : Option Summary) → o ≡ None → IsSome o → A
no_summary None e h = cc
no_summary (Some s) e h = cc

-- the same paths and summaries
pub closed_same : (old new : List Node) → Closed old → ((i : ℕ) (n : Node) → IsNodeAt new i n → (m : Node) × IsNodeAt old i m × (path_of m ≡ path_of n) × (m.summary ≡ n.summary)) → Closed new
closed_same old new closed back i n j m a b s h =
    let x = back i n a in
    let y = back j m b in
    subst IsSome y.3 (closed i x.0 j y.0 x.1 y.1 (ap₂ starts x.2 y.2 ∙ s) (subst IsSome (sym x.3) h))

module _ (nodes : List Node) (closed : Closed nodes) (i : ℕ) (n : Node) (a : IsNodeAt nodes i n) where
  pub closed-kids : (ks : Vec Kid Global) → Closed (set nodes i (record n { kids = ks }))
  closed-kids ks = closed_same nodes (set nodes i (record n { kids = ks })) closed (λ k x c. elim (cases_eq k i) [
    | inl same ↦ (
        let e : record n { kids = ks } ≡ x = same_node (set_at nodes i n (record n { kids = ks }) a a.live) (at_index same c) in
        (n, at_index (sym same) a, ap path_of e, ap (λ (y : Node). y.summary) e))
    | inr other ↦ (x, set_unmoved nodes i n (record n { kids = ks }) a a.live k x other c, refl, refl)
  ])

  pub closed-stale : ((k : ℕ) (l : Node) → IsNodeAt nodes k l → starts (path_of l) (path_of n) ≡ true → (k ≡ i → ⊥) → l.summary ≡ None) → Closed (set nodes i (record n { summary = None }))
  closed-stale above k x l y c d s h =
      let m : Node = record n { summary = None } in
      elim (cases_eq k i) [
        | inl same ↦ no_summary x.summary (ap (λ (z : Node). z.summary) (sym (same_node (set_at nodes i n m a a.live) (at_index same c)))) h
        | inr other ↦ (
            let old = set_unmoved nodes i n m a a.live k x other c in
            elim (cases_eq l i) [
              | inl same ↦ no_summary x.summary (above k x old (ap (starts (path_of x)) (ap path_of (same_node (set_at nodes i n m a a.live) (at_index same d))) ∙ s) other) h
              | inr apart ↦ closed k x l y old (set_unmoved nodes i n m a a.live l y apart d) s h
            ])
      ]

  pub closed-fresh : (u : Summary) → ((k : ℕ) (l : Node) → IsNodeAt nodes k l → starts (path_of n) (path_of l) ≡ true → (k ≡ i → ⊥) → IsSome l.summary) → Closed (set nodes i (record n { summary = Some u }))
  closed-fresh u below k x l y c d s h =
      let m : Node = record n { summary = Some u } in
      elim (cases_eq l i) [
        | inl same ↦ subst (λ (z : Node). IsSome z.summary) (same_node (set_at nodes i n m a a.live) (at_index same d)) refl
        | inr apart ↦ (
            let old = set_unmoved nodes i n m a a.live l y apart d in
            elim (cases_eq k i) [
              | inl same ↦ below l y old (ap (λ p. starts p (path_of y)) (ap path_of (same_node (set_at nodes i n m a a.live) (at_index same c))) ∙ s) apart
              | inr other ↦ closed k x l y (set_unmoved nodes i n m a a.live k x other c) old s h
            ])
      ]

found_at : (b : ℕ) (ks : List Kid) (l : Link) → find_kid b ks ≡ Some l → (i : ℕ) × (k : Kid) × (slice_get ks i ≡ Some k) × (k.to ≡ l)
found_at b [] l h = cc
found_at b (k ∷ ks) l h =
    elim (k.byte == b) as (λ t. cond t (Some k.to) (find_kid b ks) ≡ Some l → (i : ℕ) × (z : Kid) × (slice_get (k ∷ ks) i ≡ Some z) × (z.to ≡ l)) [
      | true ↦ λ e. (0, k, refl, cc)
      | false ↦ λ e. let r = found_at b ks l e in (suc r.0, r.1, r.2, r.3)
    ] h

-- where the summaries of a node's children are there, each node below has one
pub below_known : (of : List ℕ → Through) (slots : List Slot) (nodes : List Node) → Fits of slots nodes → Closed nodes → (i : ℕ) (n : Node) → IsNodeAt nodes i n → AreKnown nodes n.kids.items
    → (k : ℕ) (l : Node) → IsNodeAt nodes k l → starts (path_of n) (path_of l) ≡ true → (k ≡ i → ⊥) → IsSome l.summary
below_known of slots nodes f closed i n a known k l c s other =
    elim (cases_lt (length (path_of n)) (length (path_of l))) [
      | inl less ↦ (
          let b : ℕ = get_or (path_of l) (length (path_of n)) 0 in
          let q : List ℕ = path_of n ++ b ∷ [] in
          let begins : starts q (path_of l) ≡ true = starts_next (path_of n) (path_of l) s less in
          let x = ancestor of slots nodes f (length (path_of l) - length q) q k l c begins (omega (arith, length_push (path_of n) b)) in
          let y = linked of slots nodes f i n b x.0 x.1 a x.2 x.3 in
          let z = found_at b n.kids.items (Inner y.0) y.1 in
          let it : IsKnown nodes (Inner y.0) = subst (IsKnown nodes) z.3 (known z.0 z.1 z.2) in
          let there = at_index (sym y.2) x.2 in
          closed x.0 x.1 k l x.2 c (ap (λ p. starts p (path_of l)) x.3 ∙ begins) (it x.1 there.at))
      | inr more ↦ absurd (other (sym (f.unique i k n l a c (starts_whole (path_of n) (path_of l) s (let w = starts_long (path_of n) (path_of l) s in omega arith)))))
    ]

weightless : (b : Bool) (o : Option Summary) → (b ≡ true → IsSome o) → ◌≡◌ {A = ℕ} (cond (b && is_none o) 1 0) 0
weightless true None h = (let s : IsSome {T = Summary} None = h refl in cc)
weightless true (Some s) h = refl
weightless false o h = refl

pub stale_none : (nodes : List Node) → ((i : ℕ) (n : Node) → IsNodeAt nodes i n → IsSome n.summary) → stale nodes ≡ 0
stale_none [] h = refl
stale_none (n ∷ nodes) h =
    let first : ◌≡◌ {A = ℕ} (cond (n.live && is_none n.summary) 1 0) 0 = weightless n.live n.summary (λ l. h 0 n (record { at = refl; live = l })) in
    let rest : stale nodes ≡ 0 = stale_none nodes (λ i m a. h (suc i) m (record { at = a.at; live = a.live })) in
    omega arith
