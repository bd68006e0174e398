-- The nodes after an element came or went.
use Rattle.std.proofs.Common.{◌≡◌, ℕ, ◌+◌, ◌<◌, inl, inr, true, false, cond, ◌==◌, List, [], ◌∷◌, ◌++◌, length, take, set, get_or, slice_get, Option, Some, None, refl, sym, ap, ◌∙◌, subst, arith, Vec, Global}
use Rattle.std.proofs.lemmas.Bool.{cases_eq, both_ways}
use Rattle.std.proofs.lemmas.List.{take_more}
use Rattle.al_trie.specs.declared.arena.Node.{Node}
use Rattle.al_trie.specs.declared.arena.NodeId.{NodeId}
use Rattle.al_trie.specs.declared.kids.Kid.{Kid}
use Rattle.al_trie.specs.declared.kids.Link.{Link}
use Rattle.al_trie.specs.declared.kids.Link.TheVariants.{Leaf, Inner}
use Rattle.al_trie.specs.declared.slots.Slot.{Slot}
use Rattle.al_trie.specs.declared.slots.Slot.TheVariants.{Full, Free}
use Rattle.al_trie.specs.declared.slots.SlotId.{SlotId}
use Rattle.al_trie.specs.Root.{Empty, starts, with_one, through}
use Rattle.al_trie.specs.Slots.{full, Inserted, HoldsAt, KeepsFull, Among}
use Rattle.al_trie.specs.Kids.{find_kid, Rising}
use Rattle.al_trie.specs.Arena.{path_of, IsNodeAt, LinkFits, Fits, AreFit, IsLast, IsGap, IsLeafAt}
use Rattle.al_trie.proofs.Paths.{starts-take, starts_itself}
use Rattle.al_trie.proofs.Passing.{through-inserted, sole_parts, none_passes}
use Rattle.al_trie.proofs.Gets.{get-set_other}
use Rattle.al_trie.proofs.SlotLemmas.{Inserted-release}
use Rattle.al_trie.proofs.Fits.{same_node}
use Rattle.al_trie.proofs.Changes.{changed, other_places}

pub same_element : (x y : List ℕ) → Some (Full x) ≡ Some (Full y) → x ≡ y
same_element x y h = cc

not_there : (xs : List (List ℕ)) (e : List ℕ) → through xs e ≡ Empty → Among e xs → ⊥
not_there xs e none m = both_ways (starts e e) (none_passes (starts e) xs e none m) (starts_itself e)

off_path : (e : List ℕ) (xs ys : List (List ℕ)) → Inserted e xs ys → (q : List ℕ) → starts q e ≡ false → through ys q ≡ through xs q
off_path e xs ys ins q off = through-inserted e xs ys ins q ∙ ap (λ t. cond t (with_one e (through xs q)) (through xs q)) off

on_it : (e : List ℕ) (xs ys : List (List ℕ)) → Inserted e xs ys → (q : List ℕ) → starts q e ≡ true → through ys q ≡ with_one e (through xs q)
on_it e xs ys ins q on = through-inserted e xs ys ins q ∙ ap (λ t. cond t (with_one e (through xs q)) (through xs q)) on

-- the path of the child at an element's next byte
next_path : (n : Node) (d : ℕ) (e : List ℕ) → d < length e → path_of n ≡ take d e → path_of n ++ get_or e d 0 ∷ [] ≡ take (d + 1) e
next_path n d e l is = ap (λ p. p ++ get_or e d 0 ∷ []) is ∙ sym (take_more e d 0 l)

pub attached : (slots mid : List Slot) (nodes : List Node) → AreFit slots nodes → (e : List ℕ) → length e ≡ 36 → (i d : ℕ) → IsLast nodes e i d → IsGap nodes e i d → (s : SlotId)
    → Inserted e (full slots) (full mid) → KeepsFull slots mid → HoldsAt mid s.0 e → (n : Node) → IsNodeAt nodes i n → (ks : Vec Kid Global) → Rising 0 ks.items
    → ((c : ℕ) → find_kid c ks.items ≡ cond (get_or e d 0 == c) (Some (Leaf s)) (find_kid c n.kids.items)) → AreFit mid (set nodes i (record n { kids = ks }))
attached slots mid nodes f e sized i d last gap s ins keeps holds n a ks rising kids =
    let it : last.node.0 ≡ n = same_node last.node.1 a in
    let is : path_of n ≡ take d e = ap path_of (sym it) ∙ last.node.3 in
    let deep : n.depth ≡ d = ap (λ (y : Node). y.depth) (sym it) ∙ last.node.2 in
    let fit = f.each i n a in
    let low : n.depth < 36 = fit.depth in
    let begins : starts (path_of n ++ get_or e d 0 ∷ []) e ≡ true = ap (λ p. starts p e) (next_path n d e (omega arith) is) ∙ starts-take (d + 1) e in
    let empty : through (full slots) (path_of n ++ get_or e d 0 ∷ []) ≡ Empty = subst (λ o. LinkFits (through (full slots)) slots nodes (path_of n ++ get_or e d 0 ∷ []) o) (gap n a) (fit.links (get_or e d 0)) in
    changed e (full slots) (full mid) slots mid (off_path e (full slots) (full mid) ins) (λ t x h _. keeps t x h) nodes f i d last n a is (omega arith) (record n { kids = ks })
    a.live fit.depth fit.long refl ((last.marked i n a (ap (λ p. starts p e) is ∙ starts-take d e)).0) rising (Some (Leaf s)) kids
    (λ id h. none_inner (find_kid (get_or e d 0) n.kids.items) id (gap n a) h) (λ id h. leaf_inner s id h)
    (e, holds, on_it e (full slots) (full mid) ins (path_of n ++ get_or e d 0 ∷ []) begins ∙ ap (with_one e) empty)
  where
    none_inner : (o : Option Link) (id : NodeId) → o ≡ None → o ≡ Some (Inner id) → ⊥
    none_inner o id h g = cc

    leaf_inner : (s : SlotId) (id : NodeId) → Some (Leaf s) ≡ Some (Inner id) → ⊥
    leaf_inner s id h = cc

pub detached : (slots : List Slot) (nodes : List Node) → AreFit slots nodes → (e : List ℕ) → length e ≡ 36 → (i d : ℕ) → IsLast nodes e i d → (s : SlotId) → IsLeafAt slots nodes i (get_or e d 0) s e → (next : Option SlotId)
    → through (full (set slots s.0 (Free next))) e ≡ Empty → (n : Node) → IsNodeAt nodes i n → (ks : Vec Kid Global) → Rising 0 ks.items
    → ((c : ℕ) → find_kid c ks.items ≡ cond (get_or e d 0 == c) None (find_kid c n.kids.items)) → AreFit (set slots s.0 (Free next)) (set nodes i (record n { kids = ks }))
detached slots nodes f e sized i d last s leaf next gone n a ks rising kids =
    let places = set slots s.0 (Free next) in
    let holds : HoldsAt slots s.0 e = leaf.2 in
    let ins : Inserted e (full places) (full slots) = Inserted-release slots s.0 next e holds in
    let it : last.node.0 ≡ n = same_node last.node.1 a in
    let is : path_of n ≡ take d e = ap path_of (sym it) ∙ last.node.3 in
    let deep : n.depth ≡ d = ap (λ (y : Node). y.depth) (sym it) ∙ last.node.2 in
    let fit = f.each i n a in
    let low : n.depth < 36 = fit.depth in
    let q : List ℕ = path_of n ++ get_or e d 0 ∷ [] in
    let begins : starts q e ≡ true = ap (λ p. starts p e) (next_path n d e (omega arith) is) ∙ starts-take (d + 1) e in
    let found : find_kid (get_or e d 0) n.kids.items ≡ Some (Leaf s) = ap (λ (y : Node). find_kid (get_or e d 0) y.kids.items) (same_node a leaf.1) ∙ leaf.3 in
    let old : LinkFits (through (full slots)) slots nodes q (Some (Leaf s)) = subst (λ o. LinkFits (through (full slots)) slots nodes q o) found (fit.links (get_or e d 0)) in
    changed e (full slots) (full places) slots places (λ p off. sym (off_path e (full places) (full slots) ins p off)) (kept places (λ m. not_there (full places) e gone m)) nodes f i d last n a is (omega arith) (record n { kids = ks })
    a.live fit.depth fit.long refl ((last.marked i n a (ap (λ p. starts p e) is ∙ starts-take d e)).0) rising None kids
    (λ id h. leaf_inner (find_kid (get_or e d 0) n.kids.items) id found h) (λ id h. none_inner id h)
    ((sole_parts e old.0 (through (full places) q) (sym (on_it e (full places) (full slots) ins q begins) ∙ old.2)).0)
  where
    leaf_inner : (o : Option Link) (id : NodeId) → o ≡ Some (Leaf s) → o ≡ Some (Inner id) → ⊥
    leaf_inner o id h g = cc

    none_inner : (id : NodeId) → ◌≡◌ {A = Option Link} None (Some (Inner id)) → ⊥
    none_inner id h = cc

    kept : (places : List Slot) → (Among e (full places) → ⊥) → (t : ℕ) (x : List ℕ) → HoldsAt slots t x → Among x (full places) → HoldsAt (set slots s.0 (Free next)) t x
    kept places out t x h m =
        elim (cases_eq t s.0) [
          | inl same ↦ absurd (out (subst (λ y. Among y (full places)) (same_element x e (sym (subst (λ k. slice_get slots k ≡ Some (Full x)) same h) ∙ leaf.2)) m))
          | inr other ↦ get-set_other slots s.0 t (Free next) other ∙ h
        ]

-- an element that was stored is taken back
pub taken_back : (slots mid : List Slot) (nodes : List Node) → AreFit slots nodes → (e : List ℕ) (s : ℕ) (next : Option SlotId) → through (full slots) e ≡ Empty → KeepsFull slots mid → HoldsAt mid s e
    → full (set mid s (Free next)) ≡ full slots → AreFit (set mid s (Free next)) nodes
taken_back slots mid nodes f e s next absent keeps holds same =
    subst (λ (xs : List (List ℕ)). Fits (through xs) (set mid s (Free next)) nodes) (sym same) (other_places (full slots) slots (set mid s (Free next)) nodes kept f)
  where
    kept : (t : ℕ) (x : List ℕ) → HoldsAt slots t x → Among x (full slots) → HoldsAt (set mid s (Free next)) t x
    kept t x h m =
        elim (cases_eq t s) [
          | inl is ↦ absurd (not_there (full slots) e absent (subst (λ y. Among y (full slots)) (same_element x e (sym (subst (λ k. slice_get mid k ≡ Some (Full x)) is (keeps t x h)) ∙ holds)) m))
          | inr other ↦ get-set_other mid s t (Free next) other ∙ keeps t x h
        ]
