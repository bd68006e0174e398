-- An element comes or goes: the link under its last path changes, and each node on its path is stale.
use Rattle.std.proofs.Common.{◌≡◌, ℕ, ◌+◌, ◌-◌, ◌<◌, ◌≤◌, inl, inr, Bool, true, false, cond, ◌==◌, List, [], ◌∷◌, ◌++◌, length, take, set, get_or, Option, Some, None, refl, sym, ap, ◌∙◌, subst, arith, length-set, length-take}
use Rattle.std.proofs.lemmas.Bool.{cases_eq, both_ways, ne_eqb, eq-eqb, false_from_ne_true}
use Rattle.std.proofs.lemmas.List.{length_push}
use Rattle.al_trie.specs.declared.arena.Node.{Node}
use Rattle.al_trie.specs.declared.arena.NodeId.{NodeId}
use Rattle.al_trie.specs.declared.arena.Summary.{Summary}
use Rattle.al_trie.specs.declared.arena.Summary.TheVariants.{Nothing, One, Many}
use Rattle.al_trie.specs.declared.kids.Link.{Link}
use Rattle.al_trie.specs.declared.kids.Link.TheVariants.{Leaf, Inner}
use Rattle.al_trie.specs.declared.slots.Slot.{Slot}
use Rattle.al_trie.specs.Root.{Through, Sole, starts, through}
use Rattle.al_trie.specs.Slots.{HoldsAt, Among}
use Rattle.al_trie.specs.Kids.{find_kid, Rising}
use Rattle.al_trie.specs.Arena.{path_of, IsNodeAt, LinkFits, SummaryFits, NodeFits, Fits, IsLast}
use Rattle.al_trie.proofs.Paths.{starts_whole, starts_shorter, starts_byte, starts_of, starts-take, starts_trans}
use Rattle.al_trie.proofs.Passing.{the_one}
use Rattle.al_trie.proofs.Digests.{node_same}
use Rattle.al_trie.proofs.Fits.{same_node, at_index, Alike, Forth, change, link_forth, ancestor, linked}
use Rattle.al_trie.proofs.Marks.{set_at, set_unmoved, set_forth, set_back, set_some}

abbrev pub NotInner : Option Link → Type 0
NotInner o = (id : NodeId) → o ≡ Some (Inner id) → ⊥

-- what stays where a path is not one of the element
module _ (e : List ℕ) (old new : List (List ℕ)) (slots places : List Slot)
    (agree : (q : List ℕ) → starts q e ≡ false → through new q ≡ through old q)
    (keep : (s : ℕ) (x : List ℕ) → HoldsAt slots s x → Among x new → HoldsAt places s x) where
  held : (q : List ℕ) (s : ℕ) → starts q e ≡ false → (x : List ℕ) × HoldsAt slots s x × (through old q ≡ Sole x) → (x : List ℕ) × HoldsAt places s x × (through new q ≡ Sole x)
  held q s off (x, h, is) =
      let now : through new q ≡ Sole x = agree q off ∙ is in
      (x, keep s x h (the_one (starts q) new x now).1, now)

  move_link : (nodes after : List Node) (q : List ℕ) (o : Option Link) → Forth nodes after → (starts q e ≡ true → (id : NodeId) × (o ≡ Some (Inner id)))
      → LinkFits (through old) slots nodes q o → LinkFits (through new) places after q o
  move_link nodes after q (Some (Inner j)) forth on h = link_forth (through new) places nodes after q (Some (Inner j)) forth h
  move_link nodes after q None forth on h =
      agree q (false_from_ne_true (starts q e) (λ s. let z = (on s).1 in cc)) ∙ h
  move_link nodes after q (Some (Leaf s)) forth on h =
      held q s.0 (false_from_ne_true (starts q e) (λ t. let z = (on t).1 in cc)) h

  move_summary : (p : List ℕ) (s : Option Summary) → starts p e ≡ false → SummaryFits (through old) slots p s → SummaryFits (through new) places p s
  move_summary p None off h = tt
  move_summary p (Some Nothing) off h = agree p off ∙ h
  move_summary p (Some (One s)) off h = held p s.0 off h
  move_summary p (Some (Many digest)) off h =
      (agree p off ∙ h.0, h.1 ∙ node_same (through old) (through new) (36 - length p) p (λ q s. sym (agree q (false_from_ne_true (starts q e) (λ t. both_ways (starts p e) off (starts_trans p q e s t))))))

-- a link of another node on the element's path is an inner one
on_path : (of : List ℕ → Through) (slots : List Slot) (nodes : List Node) → Fits of slots nodes → (i : ℕ) (n : Node) (d : ℕ) (e : List ℕ) → IsNodeAt nodes i n → d ≤ length e → path_of n ≡ take d e
    → (k : ℕ) (m : Node) (b : ℕ) → IsNodeAt nodes k m → (k ≡ i → ⊥) → length (path_of m) ≤ d → starts (path_of m ++ b ∷ []) e ≡ true → (id : NodeId) × (find_kid b m.kids.items ≡ Some (Inner id))
on_path of slots nodes f i n d e a within is k m b c other least s =
    let q : List ℕ = path_of m ++ b ∷ [] in
    let long : length q ≡ length (path_of m) + 1 = length_push (path_of m) b in
    let deep : length (path_of n) ≡ d = ap length is ∙ (omega (arith, length-take d e)) in
    elim (cases_eq (length (path_of m)) d) [
      | inl same ↦ absurd (other (f.unique k i m n c a (starts_whole (path_of m) (path_of n)
          (starts_of (path_of m) (path_of n) e (starts_shorter (path_of m) b e s) (ap (λ p. starts p e) is ∙ starts-take d e) (omega arith)) (omega arith))))
      | inr less ↦ (
          let begins : starts q (path_of n) ≡ true = starts_of q (path_of n) e s (ap (λ p. starts p e) is ∙ starts-take d e) (omega (arith, less)) in
          let x = ancestor of slots nodes f (length (path_of n) - length q) q i n a begins (omega (arith, less)) in
          let y = linked of slots nodes f k m b x.0 x.1 c x.2 x.3 in
          (y.0, y.1))
    ]

module _ (e : List ℕ) (old new : List (List ℕ)) (slots places : List Slot)
    (agree : (q : List ℕ) → starts q e ≡ false → through new q ≡ through old q)
    (keep : (s : ℕ) (x : List ℕ) → HoldsAt slots s x → Among x new → HoldsAt places s x)
    (nodes : List Node) (f : Fits (through old) slots nodes) (i d : ℕ) (last : IsLast nodes e i d) (n : Node) (a : IsNodeAt nodes i n) (is : path_of n ≡ take d e) (within : d < length e) (m : Node)
    (alive : m.live ≡ true) (depth : m.depth < 36) (long : length m.path ≡ 36) (same : path_of m ≡ path_of n) (stale : m.summary ≡ None) (rising : Rising 0 m.kids.items) (to : Option Link)
    (kids : (c : ℕ) → find_kid c m.kids.items ≡ cond (get_or e d 0 == c) to (find_kid c n.kids.items))
    (gap : NotInner (find_kid (get_or e d 0) n.kids.items)) (plain : NotInner to)
    (link : LinkFits (through new) places (set nodes i m) (path_of n ++ get_or e d 0 ∷ []) to) where
  b : ℕ
  b = get_or e d 0

  off_byte : (c : ℕ) (t : Bool) → (get_or e d 0 == c) ≡ t → t ≡ false → find_kid c m.kids.items ≡ find_kid c n.kids.items
  off_byte c t e1 e2 = kids c ∙ ap (λ u. cond u to (find_kid c n.kids.items)) (e1 ∙ e2)

  alike : Alike n m
  alike = record {
    path = sym same;
    inner = λ c id h. elim (cases_eq (get_or e d 0) c) [
      | inl it ↦ absurd (gap id (ap (λ k. find_kid k n.kids.items) it ∙ h))
      | inr not ↦ off_byte c false (ne_eqb (get_or e d 0) c not) refl ∙ h
    ];
  }

  forth : Forth nodes (set nodes i m)
  forth = set_forth nodes i n m a alive alike

  deep : length (path_of n) ≡ d
  deep = ap length is ∙ omega (arith, length-take d e)

  here_links : (c : ℕ) → LinkFits (through new) places (set nodes i m) (path_of m ++ c ∷ []) (find_kid c m.kids.items)
  here_links c =
      elim (cases_eq (get_or e d 0) c) [
        | inl it ↦ subst (λ k. LinkFits (through new) places (set nodes i m) (path_of m ++ k ∷ []) (find_kid k m.kids.items)) it (
            let found : find_kid (get_or e d 0) m.kids.items ≡ to = kids (get_or e d 0) ∙ ap (λ u. cond u to (find_kid (get_or e d 0) n.kids.items)) (eq-eqb (get_or e d 0) (get_or e d 0) refl) in
            subst (λ (p : List ℕ). LinkFits (through new) places (set nodes i m) (p ++ get_or e d 0 ∷ []) (find_kid (get_or e d 0) m.kids.items)) (sym same)
            (subst (λ o. LinkFits (through new) places (set nodes i m) (path_of n ++ get_or e d 0 ∷ []) o) (sym found) link))
        | inr not ↦ (
            let there : find_kid c m.kids.items ≡ find_kid c n.kids.items = off_byte c false (ne_eqb (get_or e d 0) c not) refl in
            subst (λ (p : List ℕ). LinkFits (through new) places (set nodes i m) (p ++ c ∷ []) (find_kid c m.kids.items)) (sym same)
            (subst (λ o. LinkFits (through new) places (set nodes i m) (path_of n ++ c ∷ []) o) (sym there)
            (move_link e old new slots places agree keep nodes (set nodes i m) (path_of n ++ c ∷ []) (find_kid c n.kids.items) forth
            (λ s. absurd (not (ap (λ k. get_or e k 0) (sym deep) ∙ starts_byte (path_of n) c e s)))
            ((f.each i n a).links c))))
      ]

  pub changed : Fits (through new) places (set nodes i m)
  changed =
      change (through old) (through new) slots places nodes (set nodes i m) f (set_back nodes i n m a alive alike) forth (λ l. omega (arith, length-set nodes i m))
      (λ k x c. elim (cases_eq k i) [
        | inl it ↦ subst (λ y. NodeFits (through new) places (set nodes i m) y) (same_node (set_at nodes i n m a alive) (at_index it c))
            (record { depth = depth; long = long; rising = rising; links = here_links; summary = subst (λ s. SummaryFits (through new) places (path_of m) s) (sym stale) tt })
        | inr other ↦ (
            let was = set_unmoved nodes i n m a alive k x other c in
            let g = f.each k x was in
            record {
              depth = g.depth;
              long = g.long;
              rising = g.rising;
              links = λ z. move_link e old new slots places agree keep nodes (set nodes i m) (path_of x ++ z ∷ []) (find_kid z x.kids.items) forth
                  (λ s. on_path (through old) slots nodes f i n d e a (omega arith) is k x z was other (last.marked k x was (starts_shorter (path_of x) z e s)).1 s)
                  (g.links z);
              summary = elim (starts (path_of x) e) as (λ t. starts (path_of x) e ≡ t → SummaryFits (through new) places (path_of x) x.summary) [
                | true ↦ λ s. subst (λ o. SummaryFits (through new) places (path_of x) o) (sym (last.marked k x was s).0) tt
                | false ↦ λ s. move_summary e old new slots places agree keep (path_of x) x.summary s g.summary
              ] refl;
            })
      ])
      (λ z. set_some nodes i n m a alive z)

-- the same elements in other places
pub other_places : (old : List (List ℕ)) (slots places : List Slot) (nodes : List Node) → ((s : ℕ) (x : List ℕ) → HoldsAt slots s x → Among x old → HoldsAt places s x) → Fits (through old) slots nodes → Fits (through old) places nodes
other_places old slots places nodes keep f =
    change (through old) (through old) slots places nodes nodes f (λ i n a. (n, a, record { path = refl; inner = λ b id h. h })) (λ i n a. (n, a, record { path = refl; inner = λ b id h. h })) (λ l. l)
    (λ i n a.
    let g = f.each i n a in
    record {
      depth = g.depth;
      long = g.long;
      rising = g.rising;
      links = λ c. links (path_of n ++ c ∷ []) (find_kid c n.kids.items) (g.links c);
      summary = summaries (path_of n) n.summary g.summary;
    })
    f.none
  where
    one : (q : List ℕ) (s : ℕ) → (x : List ℕ) × HoldsAt slots s x × (through old q ≡ Sole x) → (x : List ℕ) × HoldsAt places s x × (through old q ≡ Sole x)
    one q s (x, h, is) = (x, keep s x h (the_one (starts q) old x is).1, is)

    links : (q : List ℕ) (o : Option Link) → LinkFits (through old) slots nodes q o → LinkFits (through old) places nodes q o
    links q None h = h
    links q (Some (Leaf s)) h = one q s.0 h
    links q (Some (Inner j)) h = h

    summaries : (p : List ℕ) (s : Option Summary) → SummaryFits (through old) slots p s → SummaryFits (through old) places p s
    summaries p None h = h
    summaries p (Some Nothing) h = h
    summaries p (Some (One s)) h = one p s.0 h
    summaries p (Some (Many digest)) h = h
