-- What the trie's methods end with.
use Rattle.std.proofs.Common.{◌≡◌, ℕ, ◌+◌, ◌-◌, ◌<◌, ◌⊎◌, inl, inr, ⊎_elim, true, false, cond, List, [], ◌∷◌, ◌++◌, length, take, drop, set, get_or, replicate, Option, Some, None, is_some, IsSome, MatchOption, Ok, Err, refl, sym, ap, ◌∙◌, subst, arith, append-nil, take-append-drop, true≢false}
use Rattle.std.specs.Cmp.Lexicographic.{slice_cmp, nat_list_cmp_total}
use Rattle.std.specs.Ordering.{nat_cmp}
use Rattle.std.specs.FinMap as fin
use Rattle.std.proofs.lemmas.Bool.{cases_eq}
use Rattle.std.proofs.lemmas.List.{take_more, drop_more}
use Rattle.al_trie.specs.declared.fault.TrieFault.{TrieFault}
use Rattle.al_trie.specs.declared.fault.TrieFault.TheVariants.{AlreadyThere, NotThere, Memory}
use Rattle.al_trie.specs.declared.arena.Node.{Node}
use Rattle.al_trie.specs.declared.kids.Link.{Link}
use Rattle.al_trie.specs.declared.kids.Link.TheVariants.{Leaf, Inner}
use Rattle.al_trie.specs.declared.slots.Slot.{Slot}
use Rattle.al_trie.specs.declared.slots.Slot.TheVariants.{Free}
use Rattle.al_trie.specs.declared.slots.SlotId.{SlotId}
use Rattle.al_trie.specs.Root.{Through, Empty, Several, starts, through, node, root_at}
use Rattle.al_trie.specs.Slots.{full, Inserted, HoldsAt, Among}
use Rattle.al_trie.specs.Kids.{find_kid}
use Rattle.al_trie.specs.Arena.{path_of, IsNodeAt, LinkFits, IsArena, IsLast, IsLeafAt, HasHeight, SummaryFits, stale}
use Rattle.al_trie.specs.Tries.{Elements, AreDifferent, has, with_element, set_of, root, Adds, Rebuilds, HoldsTwice}
use Rattle.al_trie.specs.Whole.{IsTrie}
use Rattle.al_trie.specs.declared.trie.Trie.TheInside.{Inside}
use Rattle.al_trie.specs.declared.arena.Summary.{Summary}
use Rattle.al_trie.proofs.Closed.{stale_none}
use Rattle.al_trie.proofs.Passing.{one_passes}
use Rattle.al_trie.proofs.SlotLemmas.{Inserted-release, held_among}
use Rattle.al_trie.proofs.Gets.{get-set_other}
use Rattle.al_trie.proofs.Finding.{next_starts, empty_below, length_path}
use Rattle.al_trie.proofs.Sets.{not_listed, among_has, absent, present, gone, set_inserted, set_removed, root-items}
use Rattle.al_trie.proofs.Splitting.{gap_none, last_deep}
use Rattle.al_trie.proofs.Uses.{none_here}

-- an element stands in one place
slot_unique : (slots : List Slot) (s t : ℕ) (e : List ℕ) → length e ≡ 36 → AreDifferent (full slots) → HoldsAt slots s e → HoldsAt slots t e → t ≡ s
slot_unique slots s t e long different hs ht =
    elim (cases_eq t s) [
      | inl same ↦ same
      | inr other ↦ (
          let places : List Slot = set slots s (Free None) in
          absurd (not_listed (full places) e (gone e (full places) (full slots) (Inserted-release slots s None e hs) long different)
          (held_among places t e (get-set_other slots s t (Free None) other ∙ ht))))
    ]

pub some_nodes : (slots : List Slot) (nodes : List Node) → IsArena slots nodes → (s : ℕ) (e : List ℕ) → HoldsAt slots s e → 0 < length nodes
some_nodes slots nodes w s e h =
    elim (cases_eq (length nodes) 0) [
      | inl none ↦ absurd (not_listed (full slots) e (empty_below (full slots) [] e (w.fits.none none) refl) (held_among slots s e h))
      | inr some ↦ omega (arith, some)
    ]

-- the leaf under the last node on the path of an element that is there
pub last_leaf : (slots : List Slot) (nodes : List Node) → IsArena slots nodes → (e : List ℕ) → length e ≡ 36 → AreDifferent (full slots) → (i d : ℕ) → IsLast nodes e i d → (s : SlotId) → HoldsAt slots s.0 e → IsLeafAt slots nodes i (get_or e d 0) s e
last_leaf slots nodes w e long different i d last s holds = (last.node.0, last.node.1, holds, leads (find_kid (get_or e d 0) last.node.0.kids.items) refl)
  where
    n : Node
    n = last.node.0

    same_slot : (t u : SlotId) → t.0 ≡ u.0 → t ≡ u
    same_slot t u e = ap (λ (k : ℕ). record { 0 = k }) e

    leads : (o : Option Link) → find_kid (get_or e d 0) last.node.0.kids.items ≡ o → find_kid (get_or e d 0) last.node.0.kids.items ≡ Some (Leaf s)
    leads None h = absurd (not_listed (full slots) e (none_here slots nodes w e long i d last.node last.node.0 last.node.1 h) (held_among slots s.0 e holds))
    leads (Some (Inner id)) h =
        let z : ◌≡◌ {A = Option Link} (Some (Inner id)) None = gap_none slots nodes w e long i d last last.node.0 last.node.1 (Some (Inner id)) h (λ t g. cc) in
        cc
    leads (Some (Leaf t)) h =
        let path : List ℕ = path_of last.node.0 ++ get_or e d 0 ∷ [] in
        let link : LinkFits (through (full slots)) slots nodes path (Some (Leaf t)) = subst (λ o. LinkFits (through (full slots)) slots nodes path o) h ((w.fits.each i last.node.0 last.node.1).links (get_or e d 0)) in
        let low = last_deep slots nodes w e i d last in
        let begins : starts path e ≡ true = next_starts e d (path_of last.node.0) (omega arith) last.node.3 in
        let same : e ≡ link.0 = one_passes (starts path) (full slots) e link.0 link.2 (held_among slots s.0 e holds) begins in
        h ∙ ap (λ (u : SlotId). Some (Leaf u)) (same_slot t s (slot_unique slots s.0 t.0 e long different holds (subst (HoldsAt slots t.0) (sym same) link.1)))

pub top_height : (slots : List Slot) (nodes : List Node) → IsArena slots nodes → 0 < length nodes → HasHeight nodes 0 36
top_height slots nodes w some =
    let t = w.fits.top some in
    let long : length (path_of t.0) ≡ t.0.depth = length_path (through (full slots)) slots nodes w.fits 0 t.0 t.1 in
    (t.0, t.1, (let z : length (path_of t.0) ≡ 0 = ap length t.2 in omega arith))

-- where the top has a summary no node is stale
pub none_stale : (slots : List Slot) (nodes : List Node) → IsArena slots nodes → 0 < length nodes → (s : Summary) → ((n : Node) → IsNodeAt nodes 0 n → n.summary ≡ Some s) → stale nodes ≡ 0
none_stale slots nodes w some s summary =
    let t = w.fits.top some in
    stale_none nodes (λ i n a. w.closed 0 t.0 i n t.1 a (ap (λ p. starts p (path_of n)) t.2) (subst (λ o. IsSome {T = Summary} o) (sym (summary t.0 t.1)) refl))

-- the summary of the top says what goes through the empty path
pub top_summary : (slots : List Slot) (nodes : List Node) → IsArena slots nodes → 0 < length nodes → (s : Summary) → ((n : Node) → IsNodeAt nodes 0 n → n.summary ≡ Some s) → SummaryFits (through (full slots)) slots [] (Some s)
top_summary slots nodes w some s summary =
    let t = w.fits.top some in
    subst (λ p. SummaryFits (through (full slots)) slots p (Some s)) t.2 (subst (λ o. SummaryFits (through (full slots)) slots (path_of t.0) o) (summary t.0 t.1) (w.fits.each 0 t.0 t.1).summary)

pub same_root : (slots : List Slot) (nodes : List Node) → IsArena slots nodes → AreDifferent (full slots) → root_at (through (full slots) []) (node (through (full slots)) 36 []) ≡ root (set_of (full slots))
same_root slots nodes w different = sym (root-items (full slots) w.elements different)

pub no_root : (slots : List Slot) (nodes : List Node) → IsArena slots nodes → AreDifferent (full slots) → length nodes ≡ 0 → replicate 32 0 ≡ root (set_of (full slots))
no_root slots nodes w different none = ap (λ t. root_at t (node (through (full slots)) 36 [])) (sym (w.fits.none none)) ∙ same_root slots nodes w different

empty_trie : (slots : List Slot) (nodes : List Node) → slots ≡ [] → nodes ≡ [] → IsArena slots nodes × AreDifferent (full slots)
empty_trie slots nodes no_slots no_nodes = subst (λ ss. IsArena ss nodes × AreDifferent (full ss)) (sym no_slots) (subst (λ ns. IsArena [] ns × AreDifferent (full [])) (sym no_nodes) (
  record {
    fits = record {
      each = λ i n a. absurd (nothing n a.at);
      unique = λ i j n m a b e. absurd (nothing n a.at);
      kept = λ j m a. absurd (nothing m a.at);
      top = λ l. absurd (omega arith);
      none = λ e. refl;
    };
    closed = λ i n j m a b s h. absurd (nothing n a.at);
    elements = λ x m. absurd m;
  },
  λ x l h. different h,
))
  where
    nothing : (n : Node) → ◌≡◌ {A = Option Node} None (Some n) → ⊥
    nothing n h = cc

    different : ◌≡◌ {A = Through} Empty Several → ⊥
    different h = cc

pub new_trie : (t : Inside) → t.slots.items ≡ [] → t.nodes.items ≡ [] → t.len ≡ 0 → IsTrie t
new_trie t no_slots no_nodes none =
    let e = empty_trie t.slots.items t.nodes.items no_slots no_nodes in
    record {
      arena = e.0;
      different = e.1;
      counted = none ∙ sym (ap (λ ss. fin.len (set_of (full ss))) no_slots ∙ fin.len-empty (slice_cmp nat_cmp) (Unit {0}));
    }

-- ---- the set

pub has_held : (slots : List Slot) (s : ℕ) (e : List ℕ) → HoldsAt slots s e → has (set_of (full slots)) e ≡ true
has_held slots s e h = present (full slots) e (held_among slots s e h)

pub found_there : (o : Option SlotId) (seen slots : List Slot) (e : List ℕ) → seen ≡ slots → MatchOption o (through (full seen) e ≡ Empty) (λ s. HoldsAt seen s.0 e) → is_some o ≡ true → has (set_of (full slots)) e ≡ true
found_there None seen slots e same h is = cc
found_there (Some s) seen slots e same h is = has_held slots s.0 e (subst (λ ss. HoldsAt ss s.0 e) same h)

pub found_not : (o : Option SlotId) (seen slots : List Slot) (e : List ℕ) → seen ≡ slots → MatchOption o (through (full seen) e ≡ Empty) (λ s. HoldsAt seen s.0 e) → is_some o ≡ false → through (full slots) e ≡ Empty
found_not None seen slots e same h is = ap (λ ss. through (full ss) e) (sym same) ∙ h
found_not (Some s) seen slots e same h is = cc

pub added_count : (e : List ℕ) (old new : List (List ℕ)) (n m : ℕ) → Inserted e old new → through old e ≡ Empty → n ≡ fin.len (set_of old) → m ≡ n + 1 → m ≡ fin.len (set_of new)
added_count e old new n m ins none was is =
    is ∙ ap (λ k. k + 1) was
    ∙ sym (ap fin.len (set_inserted e old new ins) ∙ fin.len-insert nat_list_cmp_total (set_of old) e tt ∙ ap (λ b. cond b (fin.len (set_of old)) (fin.len (set_of old) + 1)) (absent old e none))

pub removed_count : (e : List ℕ) (new old : List (List ℕ)) (n m : ℕ) → Inserted e new old → through new e ≡ Empty → has (set_of old) e ≡ true → n ≡ fin.len (set_of old) → m ≡ n - 1 → m ≡ fin.len (set_of new)
removed_count e new old n m ins none there was is =
    is ∙ ap (λ k. k - 1) was
    ∙ sym (ap fin.len (set_removed e new old ins none) ∙ fin.len-remove nat_list_cmp_total (set_of old) e ∙ ap (λ b. cond b (fin.len (set_of old) - 1) (fin.len (set_of old))) there)

-- ---- a list is lent and given back

take_front : {A : Type 0} (new rest : List A) → take (length new) (new ++ rest) ≡ new
take_front [] rest = refl
take_front (x ∷ new) rest = ap (λ xs. x ∷ xs) (take_front new rest)

pub lent_back : {A : Type 0} (n : ℕ) (new rest : List A) → length new ≡ n → take n (new ++ rest) ≡ new
lent_back n new rest long = ap (λ k. take k (new ++ rest)) (sym long) ∙ take_front new rest

-- ---- a list of elements is added one after another

among_middle : (x : List ℕ) (xs ys : List (List ℕ)) → Among x (xs ++ x ∷ ys)
among_middle x [] ys = inl refl
among_middle x (y ∷ xs) ys = inr (among_middle x xs ys)

twice_in : (x : List ℕ) (xs ys : List (List ℕ)) → Among x xs → HoldsTwice (xs ++ x ∷ ys)
twice_in x [] ys m = absurd m
twice_in x (y ∷ xs) ys m = ⊎_elim (λ same. inl (subst (λ z. Among z (xs ++ x ∷ ys)) same (among_middle x xs ys))) (λ l. inr (twice_in x xs ys l)) m

among_end : (x y : List ℕ) (xs : List (List ℕ)) → Among y (xs ++ x ∷ []) → Among y xs ⊎ (y ≡ x)
among_end x y [] m = ⊎_elim (λ same. inr same) (λ l. absurd l) m
among_end x y (z ∷ xs) m = ⊎_elim (λ same. inl (inl same)) (λ l. ⊎_elim (λ k. inl (inr k)) (λ same. inr same) (among_end x y xs l)) m

twice_end : (x : List ℕ) (xs : List (List ℕ)) → HoldsTwice (xs ++ x ∷ []) → HoldsTwice xs ⊎ Among x xs
twice_end x [] m = ⊎_elim (λ l. absurd l) (λ l. absurd l) m
twice_end x (y ∷ xs) m =
    ⊎_elim (λ l. ⊎_elim (λ k. inl (inl k)) (λ same. inr (inl (sym same))) (among_end x y xs l)) (λ l. ⊎_elim (λ k. inl (inr k)) (λ k. inr (inr k)) (twice_end x xs l)) m

module _ (list : List (List ℕ)) (k : ℕ) (less : k < length list) (x : List ℕ) (read : x ≡ get_or list k x) (old new : Elements) (was : old ≡ set_of (take k list)) where
  more : take (k + 1) list ≡ take k list ++ x ∷ []
  more = take_more list k x less ∙ ap (λ y. take k list ++ y ∷ []) (sym read)

  whole : take k list ++ x ∷ drop (k + 1) list ≡ list
  whole = ap (λ ys. take k list ++ ys) (ap (λ y. y ∷ drop (k + 1) list) read ∙ sym (drop_more list k x less)) ∙ take-append-drop k list

  pub refused : (fault : TrieFault) → Adds {A = Unit {0}} old x (Err fault) new → Rebuilds list (Err fault)
  refused AlreadyThere h = subst HoldsTwice whole (twice_in x (take k list) (drop (k + 1) list) (among_has (take k list) x (ap (λ s. has s x) (sym was) ∙ h.0)))
  refused Memory h = tt
  refused NotThere h = absurd h

  pub kept_set : (u : Unit {0}) → Adds old x (Ok u) new → new ≡ set_of (take (k + 1) list)
  kept_set u h =
      h.1 ∙ ap (λ s. with_element s x) was
      ∙ sym (ap set_of more ∙ set_inserted x (take k list) (take k list ++ x ∷ []) (take k list, [], sym (append-nil (take k list)), refl))

  pub kept_once : (u : Unit {0}) → Adds old x (Ok u) new → (HoldsTwice (take k list) → ⊥) → HoldsTwice (take (k + 1) list) → ⊥
  kept_once u h once twice =
      ⊎_elim once (λ m. true≢false (sym (present (take k list) x m) ∙ ap (λ s. has s x) (sym was) ∙ h.0)) (twice_end x (take k list) (subst HoldsTwice more twice))
