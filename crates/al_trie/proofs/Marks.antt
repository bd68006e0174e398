-- A summary is written.
use Rattle.std.proofs.Common.{◌≡◌, ℕ, ◌<◌, inl, inr, true, List, [], ◌∷◌, ◌++◌, length, set, Option, refl, sym, ◌∙◌, subst, arith, length-set}
use Rattle.std.proofs.lemmas.Bool.{cases_eq}
use Rattle.std.proofs.lemmas.Option.{slice_get_within}
use Rattle.al_trie.specs.declared.arena.Node.{Node}
use Rattle.al_trie.specs.declared.arena.Summary.{Summary}
use Rattle.al_trie.specs.declared.slots.Slot.{Slot}
use Rattle.al_trie.specs.Root.{Through}
use Rattle.al_trie.specs.Kids.{find_kid}
use Rattle.al_trie.specs.Arena.{path_of, IsNodeAt, SummaryFits, NodeFits, Fits}
use Rattle.al_trie.proofs.Gets.{get-set_same, get-set_other}
use Rattle.al_trie.proofs.Fits.{same_node, at_index, Alike, Back, Forth, change, link_forth}

-- one node is replaced by one with the same path and inner children
module _ (old : List Node) (i : ℕ) (n m : Node) (a : IsNodeAt old i n) (live : m.live ≡ true) where
  pub set_at : IsNodeAt (set old i m) i m
  set_at = record { at = get-set_same old i m (slice_get_within old i n a.at); live = live }

  pub set_other : (k : ℕ) (x : Node) → (k ≡ i → ⊥) → IsNodeAt old k x → IsNodeAt (set old i m) k x
  set_other k x other c = record { at = get-set_other old i k m other ∙ c.at; live = c.live }

  pub set_unmoved : (k : ℕ) (x : Node) → (k ≡ i → ⊥) → IsNodeAt (set old i m) k x → IsNodeAt old k x
  set_unmoved k x other c = record { at = sym (get-set_other old i k m other) ∙ c.at; live = c.live }

  pub set_forth : Alike n m → Forth old (set old i m)
  set_forth alike k x c =
      elim (cases_eq k i) [
        | inl same ↦ (m, at_index (sym same) set_at, subst (λ y. Alike y m) (same_node a (at_index same c)) alike)
        | inr other ↦ (x, set_other k x other c, record { path = refl; inner = λ b id h. h })
      ]

  pub set_back : Alike n m → Back old (set old i m)
  set_back alike k x c =
      elim (cases_eq k i) [
        | inl same ↦ (n, at_index (sym same) a, subst (λ y. Alike n y) (same_node set_at (at_index same c)) alike)
        | inr other ↦ (x, set_unmoved k x other c, record { path = refl; inner = λ b id h. h })
      ]

  pub set_some : {A : Type 0} → length (set old i m) ≡ 0 → A
  set_some e = absurd (let l : i < length old = slice_get_within old i n a.at in omega (arith, length-set old i m))

module _ (of : List ℕ → Through) (slots : List Slot) (nodes : List Node) (f : Fits of slots nodes) (i : ℕ) (n : Node) (a : IsNodeAt nodes i n) (s : Option Summary) (ok : SummaryFits of slots (path_of n) s) where
  with_summary : Node
  with_summary = record n { summary = s }

  pub fits-summary : Fits of slots (set nodes i (record n { summary = s }))
  fits-summary =
      let m : Node = record n { summary = s } in
      let alike : Alike n m = record { path = refl; inner = λ b id h. h } in
      let forth = set_forth nodes i n m a a.live alike in
      let fit = f.each i n a in
      let here : NodeFits of slots (set nodes i m) m = record {
        depth = fit.depth;
        long = fit.long;
        rising = fit.rising;
        links = λ b. link_forth of slots nodes (set nodes i m) (path_of n ++ b ∷ []) (find_kid b n.kids.items) forth (fit.links b);
        summary = ok;
      } in
      change of of slots slots nodes (set nodes i m) f (set_back nodes i n m a a.live alike) forth (λ l. omega (arith, length-set nodes i m))
      (λ k x c. elim (cases_eq k i) [
        | inl same ↦ subst (λ y. NodeFits of slots (set nodes i m) y) (same_node (set_at nodes i n m a a.live) (at_index same c)) here
        | inr other ↦ (
            let g = f.each k x (set_unmoved nodes i n m a a.live k x other c) in
            record {
              depth = g.depth;
              long = g.long;
              rising = g.rising;
              links = λ b. link_forth of slots nodes (set nodes i m) (path_of x ++ b ∷ []) (find_kid b x.kids.items) forth (g.links b);
              summary = g.summary;
            })
      ])
      (λ e. set_some nodes i n m a a.live e)
