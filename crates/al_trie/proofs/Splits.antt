-- A node is put where a leaf was.
use Rattle.std.proofs.Common.{◌≡◌, ℕ, ◌+◌, ◌<◌, ◌≤◌, inl, inr, true, cond, ◌==◌, List, [], ◌∷◌, ◌++◌, length, set, get_or, Option, Some, None, IsSome, refl, sym, ap, ap₂, ◌∙◌, subst, arith, length-set, length-take, true≢false}
use Rattle.std.proofs.lemmas.Bool.{cases_eq, ne_eqb, eq-eqb}
use Rattle.std.proofs.lemmas.Option.{slice_get_within, same_Some}
use Rattle.al_trie.specs.declared.arena.Node.{Node}
use Rattle.al_trie.specs.declared.arena.NodeId.{NodeId}
use Rattle.al_trie.specs.declared.kids.Link.{Link}
use Rattle.al_trie.specs.declared.kids.Link.TheVariants.{Leaf, Inner}
use Rattle.al_trie.specs.declared.slots.Slot.{Slot}
use Rattle.al_trie.specs.declared.slots.Slot.TheVariants.{Full}
use Rattle.al_trie.specs.declared.slots.SlotId.{SlotId}
use Rattle.al_trie.specs.Root.{Through, Empty, Sole, starts, through}
use Rattle.al_trie.specs.Slots.{HoldsAt, AreElements}
use Rattle.al_trie.specs.Kids.{find_kid, Rising}
use Rattle.al_trie.specs.Arena.{path_of, IsNodeAt, IsSpare, LinkFits, SummaryFits, NodeFits, HasParent, Fits, Closed, SameLive}
use Rattle.al_trie.proofs.Gets.{get-set_same, get-set_other}
use Rattle.al_trie.proofs.Passing.{through_sole_next, through_sole_other}
use Rattle.al_trie.proofs.KidLemmas.{kid}
use Rattle.al_trie.proofs.Fits.{same_node, at_index, Alike, Forth, change, link_forth, linked}
use Rattle.al_trie.proofs.Closed.{no_summary}

-- ---- the same nodes are in use

pub fits_live : (of : List ℕ → Through) (slots : List Slot) (old new : List Node) → Fits of slots old → SameLive old new → (0 < length new → 0 < length old) → (length new ≡ 0 → of [] ≡ Empty) → Fits of slots new
fits_live of slots old new f live some none =
    let forth : Forth old new = λ i n a. (n, live.forth i n a, record { path = refl; inner = λ b id h. h }) in
    change of of slots slots old new f (λ i n a. (n, live.back i n a, record { path = refl; inner = λ b id h. h })) forth some
    (λ i n a.
    let g = f.each i n (live.back i n a) in
    record {
      depth = g.depth;
      long = g.long;
      rising = g.rising;
      links = λ c. link_forth of slots old new (path_of n ++ c ∷ []) (find_kid c n.kids.items) forth (g.links c);
      summary = g.summary;
    })
    none

-- ---- a node between

clash : {s : SlotId} {id : NodeId} (o : Option Link) → o ≡ Some (Leaf s) → o ≡ Some (Inner id) → ⊥
clash o h g = cc

module _ (xs : List (List ℕ)) (sized : AreElements xs) (slots : List Slot) (ns : List Node) (f : Fits (through xs) slots ns)
    (i : ℕ) (n : Node) (a : IsNodeAt ns i n) (b : ℕ) (s : SlotId) (x : List ℕ) (leaf : find_kid b n.kids.items ≡ Some (Leaf s)) (holds : HoldsAt slots s.0 x)
    (j : ℕ) (spare : IsSpare ns j) (id : NodeId) (id_is : id.0 ≡ j)
    (m : Node) (m_live : m.live ≡ true) (m_deep : m.depth < 36) (m_long : length m.path ≡ 36) (m_path : path_of m ≡ path_of n ++ b ∷ []) (m_summary : m.summary ≡ None) (m_kids : m.kids.items ≡ kid (get_or x (length (path_of m)) 0) (Leaf s) ∷ []) (m_byte : get_or x (length (path_of m)) 0 < 256)
    (k : Node) (k_live : k.live ≡ true) (k_deep : k.depth < 36) (k_long : length k.path ≡ 36) (k_path : path_of k ≡ path_of n) (k_summary : k.summary ≡ n.summary) (k_rising : Rising 0 k.kids.items)
    (k_kids : (c : ℕ) → find_kid c k.kids.items ≡ cond (b == c) (Some (Inner id)) (find_kid c n.kids.items)) where
  abbrev after : List Node
  after = set (set ns j m) i k

  unused : {A : Type 0} (l : Node) → IsNodeAt ns j l → A
  unused l c = absurd (true≢false (sym c.live ∙ ap (λ (y : Node). y.live) (same_Some l spare.0 (sym c.at ∙ spare.1)) ∙ spare.2))

  apart : i ≡ j → ⊥
  apart e = unused n (at_index e a)

  long_i : i < length (set ns j m)
  long_i = let l = slice_get_within ns i n a.at in omega (arith, length-set ns j m)

  at_i : IsNodeAt after i k
  at_i = record { at = get-set_same (set ns j m) i k long_i; live = k_live }

  at_j : IsNodeAt after j m
  at_j = record { at = get-set_other (set ns j m) i j k (λ e. apart (sym e)) ∙ get-set_same ns j m (slice_get_within ns j spare.0 spare.1); live = m_live }

  onto : (c : ℕ) (l : Node) → (c ≡ i → ⊥) → (c ≡ j → ⊥) → IsNodeAt ns c l → IsNodeAt after c l
  onto c l p q h = record { at = get-set_other (set ns j m) i c k p ∙ (get-set_other ns j c m q ∙ h.at); live = h.live }

  off : (c : ℕ) (l : Node) → (c ≡ i → ⊥) → (c ≡ j → ⊥) → IsNodeAt after c l → IsNodeAt ns c l
  off c l p q h = record { at = sym (get-set_other (set ns j m) i c k p ∙ get-set_other ns j c m q) ∙ h.at; live = h.live }

  kept_kid : (c : ℕ) → (b ≡ c → ⊥) → find_kid c k.kids.items ≡ find_kid c n.kids.items
  kept_kid c other = k_kids c ∙ ap (λ t. cond t (Some (Inner id)) (find_kid c n.kids.items)) (ne_eqb b c other)

  between_alike : Alike n k
  between_alike = record {
    path = sym k_path;
    inner = λ c z h. elim (cases_eq b c) [
      | inl same ↦ absurd (clash (find_kid b n.kids.items) leaf (ap (λ y. find_kid y n.kids.items) same ∙ h))
      | inr other ↦ kept_kid c other ∙ h
    ];
  }

  forth : Forth ns after
  forth c l h =
      elim (cases_eq c i) [
        | inl same ↦ (k, at_index (sym same) at_i, subst (λ y. Alike y k) (same_node a (at_index same h)) between_alike)
        | inr other ↦ (l, onto c l other (λ e. unused l (at_index e h)) h, record { path = refl; inner = λ z y g. g })
      ]

  -- each node but the new one was there
  was : (c : ℕ) (l : Node) → (c ≡ j → ⊥) → IsNodeAt after c l → (y : Node) × IsNodeAt ns c y × (path_of y ≡ path_of l) × (y.summary ≡ l.summary)
  was c l old h =
      elim (cases_eq c i) [
        | inl same ↦ (n, at_index (sym same) a, sym k_path ∙ ap path_of (same_node at_i (at_index same h)), sym k_summary ∙ ap (λ (y : Node). y.summary) (same_node at_i (at_index same h)))
        | inr other ↦ (l, off c l other old h, refl, refl)
      ]

  none_there : (c : ℕ) (l : Node) → IsNodeAt ns c l → path_of l ≡ path_of n ++ b ∷ [] → ⊥
  none_there c l h e = let y = linked (through xs) slots ns f i n b c l a h e in clash (find_kid b n.kids.items) leaf y.1

  sole : through xs (path_of n ++ b ∷ []) ≡ Sole x
  sole =
      let h : LinkFits (through xs) slots ns (path_of n ++ b ∷ []) (Some (Leaf s)) = subst (λ o. LinkFits (through xs) slots ns (path_of n ++ b ∷ []) o) leaf ((f.each i n a).links b) in
      h.2 ∙ ap Sole (whole h.0 (same_Some (Full h.0) (Full x) (sym h.1 ∙ holds)))
    where
      whole : (y : List ℕ) → Full y ≡ Full x → y ≡ x
      whole y e = cc

  short : length (path_of m) < 36
  short = omega (arith, length-take m.depth m.path)

  new_sole : through xs (path_of m) ≡ Sole x
  new_sole = ap (through xs) m_path ∙ sole

  new_links : (c : ℕ) → LinkFits (through xs) slots after (path_of m ++ c ∷ []) (find_kid c m.kids.items)
  new_links c = subst (λ ks. LinkFits (through xs) slots after (path_of m ++ c ∷ []) (find_kid c ks)) (sym m_kids) (
      elim (cases_eq (get_or x (length (path_of m)) 0) c) [
        | inl same ↦ subst (λ o. LinkFits (through xs) slots after (path_of m ++ c ∷ []) o) (sym (ap (λ t. cond t (Some (Leaf s)) None) (eq-eqb (get_or x (length (path_of m)) 0) c same)))
            (x, holds, ap (λ y. through xs (path_of m ++ y ∷ [])) (sym same) ∙ through_sole_next xs sized (path_of m) x new_sole short)
        | inr other ↦ subst (λ o. LinkFits (through xs) slots after (path_of m ++ c ∷ []) o) (sym (ap (λ t. cond {A = Option Link} t (Some (Leaf s)) None) (ne_eqb (get_or x (length (path_of m)) 0) c other)))
            (through_sole_other xs sized (path_of m) x c new_sole other)
      ])

  above_links : (c : ℕ) → LinkFits (through xs) slots after (path_of k ++ c ∷ []) (find_kid c k.kids.items)
  above_links c = subst (λ (p : List ℕ). LinkFits (through xs) slots after (p ++ c ∷ []) (find_kid c k.kids.items)) (sym k_path) (
      elim (cases_eq b c) [
        | inl same ↦ subst (λ o. LinkFits (through xs) slots after (path_of n ++ c ∷ []) o) (sym (k_kids c ∙ ap (λ t. cond t (Some (Inner id)) (find_kid c n.kids.items)) (eq-eqb b c same)))
            (m, at_index (sym id_is) at_j, m_path ∙ ap (λ y. path_of n ++ y ∷ []) same)
        | inr other ↦ subst (λ o. LinkFits (through xs) slots after (path_of n ++ c ∷ []) o) (sym (kept_kid c other))
            (link_forth (through xs) slots ns after (path_of n ++ c ∷ []) (find_kid c n.kids.items) forth ((f.each i n a).links c))
      ])

  each : (c : ℕ) (l : Node) → IsNodeAt after c l → NodeFits (through xs) slots after l
  each c l h =
      elim (cases_eq c i) [
        | inl same ↦ subst (λ y. NodeFits (through xs) slots after y) (same_node at_i (at_index same h)) (record {
          depth = k_deep;
          long = k_long;
          rising = k_rising;
          links = above_links;
          summary = subst (λ o. SummaryFits (through xs) slots (path_of k) o) (sym k_summary) (subst (λ p. SummaryFits (through xs) slots p n.summary) (sym k_path) (f.each i n a).summary);
        })
        | inr other ↦ elim (cases_eq c j) [
          | inl same ↦ subst (λ y. NodeFits (through xs) slots after y) (same_node at_j (at_index same h)) (record {
            depth = m_deep;
            long = m_long;
            rising = subst (Rising 0) (sym m_kids) (omega arith, m_byte, tt);
            links = new_links;
            summary = subst (λ o. SummaryFits (through xs) slots (path_of m) o) (sym m_summary) tt;
          })
          | inr old ↦ (
              let g = f.each c l (off c l other old h) in
              record {
                depth = g.depth;
                long = g.long;
                rising = g.rising;
                links = λ z. link_forth (through xs) slots ns after (path_of l ++ z ∷ []) (find_kid z l.kids.items) forth (g.links z);
                summary = g.summary;
              })
        ]
      ]

  at_new : (c : ℕ) (l : Node) → c ≡ j → IsNodeAt after c l → path_of l ≡ path_of n ++ b ∷ []
  at_new c l same h = ap path_of (same_node (at_index same h) at_j) ∙ m_path

  pub fits-split : Fits (through xs) slots (set (set ns j m) i k)
  fits-split = record {
    each = each;
    unique = λ c d l y h g e. elim (cases_eq c j) [
      | inl p ↦ elim (cases_eq d j) [
        | inl q ↦ p ∙ sym q
        | inr q ↦ absurd (let z = was d y q g in none_there d z.0 z.1 (z.2 ∙ sym e ∙ at_new c l p h))
      ]
      | inr p ↦ elim (cases_eq d j) [
        | inl q ↦ absurd (let z = was c l p h in none_there c z.0 z.1 (z.2 ∙ e ∙ at_new d y q g))
        | inr q ↦ (let z = was c l p h in let w = was d y q g in f.unique c d z.0 w.0 z.1 w.1 (z.2 ∙ e ∙ sym w.2))
      ]
    ];
    kept = λ c l h. elim (cases_eq c j) [
      | inl p ↦ inr (
        i,
        k,
        b,
        record {
          parent = at_i;
          path = at_new c l p h ∙ ap (λ y. y ++ b ∷ []) (sym k_path);
          kid = (id, k_kids b ∙ ap (λ t. cond t (Some (Inner id)) (find_kid b n.kids.items)) (eq-eqb b b refl), id_is ∙ sym p);
        },
      )
      | inr p ↦ (
          let y = was c l p h in
          elim (f.kept c y.0 y.1) as (λ _. HasParent after c l) [
            | inl r ↦ inl (r.0, sym y.2 ∙ r.1)
            | inr r ↦ (
                let q = r.3 in
                let z = forth r.0 r.1 q.parent in
                inr (
                  r.0,
                  z.0,
                  r.2,
                  record {
                    parent = z.1;
                    path = sym y.2 ∙ q.path ∙ ap (λ v. v ++ r.2 ∷ []) z.2.path;
                    kid = (q.kid.0, z.2.inner r.2 q.kid.0 q.kid.1, q.kid.2);
                  },
                ))
          ])
    ];
    top = λ l.
        let t = f.top (let w = slice_get_within ns i n a.at in omega arith) in
        let z = forth 0 t.0 t.1 in
        (z.0, z.1, sym z.2.path ∙ t.2);
    none = λ e. absurd (omega (arith, length-set (set ns j m) i k, long_i));
  }

  stale_new : {A : Type 0} (c : ℕ) (l : Node) → c ≡ j → IsNodeAt after c l → IsSome l.summary → A
  stale_new c l same h fresh = no_summary l.summary (ap (λ (y : Node). y.summary) (same_node (at_index same h) at_j) ∙ m_summary) fresh

  pub closed-split : Closed ns → ((c : ℕ) (l : Node) → IsNodeAt ns c l → starts (path_of l) (path_of m) ≡ true → l.summary ≡ None) → Closed (set (set ns j m) i k)
  closed-split closed above c l d y h g s fresh =
      elim (cases_eq c j) [
        | inl p ↦ stale_new c l p h fresh
        | inr p ↦ (
            let z = was c l p h in
            elim (cases_eq d j) [
              | inl q ↦ no_summary z.0.summary (above c z.0 z.1 (ap₂ starts z.2 (ap path_of (sym (same_node (at_index q g) at_j))) ∙ s)) (subst IsSome (sym z.3) fresh)
              | inr q ↦ (let v = was d y q g in subst IsSome v.3 (closed c z.0 d v.0 z.1 v.1 (ap₂ starts z.2 v.2 ∙ s) (subst IsSome (sym z.3) fresh)))
            ])
      ]

  pub marked-split : (e : List ℕ) (depth : ℕ) → length (path_of m) ≡ depth + 1 → ((c : ℕ) (l : Node) → IsNodeAt ns c l → starts (path_of l) e ≡ true → (l.summary ≡ None) × (length (path_of l) ≤ depth))
      → (c : ℕ) (l : Node) → IsNodeAt (set (set ns j m) i k) c l → starts (path_of l) e ≡ true → (l.summary ≡ None) × (length (path_of l) ≤ depth + 1)
  marked-split e depth long marked c l h s =
      elim (cases_eq c j) [
        | inl p ↦ (
            let it : l ≡ m = same_node (at_index p h) at_j in
            (ap (λ (y : Node). y.summary) it ∙ m_summary, (let q : length (path_of l) ≡ length (path_of m) = ap (λ (y : Node). length (path_of y)) it in omega arith)))
        | inr p ↦ (
            let z = was c l p h in
            let r = marked c z.0 z.1 (ap (λ q. starts q e) z.2 ∙ s) in
            (sym z.3 ∙ r.0, (let q : length (path_of z.0) ≡ length (path_of l) = ap length z.2 in let t : length (path_of z.0) ≤ depth = r.1 in omega arith)))
      ]

  pub at_new_node : IsNodeAt (set (set ns j m) i k) j m
  at_new_node = at_j
