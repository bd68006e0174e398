-- The first node.
use Rattle.std.proofs.Common.{◌≡◌, ℕ, zero, suc, inl, true, List, [], ◌∷◌, ◌++◌, length, take, slice_get, Some, None, refl, sym, ap, ◌∙◌, subst, arith}
use Rattle.std.proofs.lemmas.Option.{same_Some}
use Rattle.al_trie.specs.declared.arena.Node.{Node}
use Rattle.al_trie.specs.declared.slots.Slot.{Slot}
use Rattle.al_trie.specs.Root.{Empty, through}
use Rattle.al_trie.specs.Slots.{AreElements}
use Rattle.al_trie.specs.Kids.{find_kid, Rising}
use Rattle.al_trie.specs.Arena.{path_of, LinkFits, SummaryFits, NodeFits, Fits}
use Rattle.al_trie.proofs.Passing.{through_empty_next}

only : (m n : Node) (i : ℕ) → slice_get (m ∷ []) i ≡ Some n → (i ≡ 0) × (m ≡ n)
only m n zero h = (refl, same_Some m n h)
only m n (suc i) h = cc

pub fits-top : (xs : List (List ℕ)) (slots : List Slot) (m : Node) → AreElements xs → through xs [] ≡ Empty → m.live ≡ true → m.depth ≡ 0 → length m.path ≡ 36 → m.summary ≡ None → m.kids.items ≡ [] → Fits (through xs) slots (m ∷ [])
fits-top xs slots m sized none live depth long stale kids = record {
  each = λ i n a. subst (λ y. NodeFits (through xs) slots (m ∷ []) y) (only m n i a.at).1 (record {
    depth = omega arith;
    long = long;
    rising = subst (Rising 0) (sym kids) tt;
    links = λ c.
        subst (λ ks. LinkFits (through xs) slots (m ∷ []) (path_of m ++ c ∷ []) (find_kid c ks)) (sym kids)
        (ap (λ p. through xs (p ++ c ∷ [])) path ∙ through_empty_next xs sized [] c none);
    summary = subst (λ o. SummaryFits (through xs) slots (path_of m) o) (sym stale) tt;
  });
  unique = λ i j n k a b e. (only m n i a.at).0 ∙ sym (only m k j b.at).0;
  kept = λ j k a. inl ((only m k j a.at).0, ap path_of (sym (only m k j a.at).1) ∙ path);
  top = λ l. (m, record { at = refl; live = live }, path);
  none = λ e. none;
}
  where
    path : path_of m ≡ []
    path = ap (λ d. take d m.path) depth
