-- The children are spelled one after another.
use Rattle.std.proofs.Common.{◌≡◌, ℕ, zero, suc, ◌+◌, ◌-◌, ◌<◌, ◌≤◌, cond, List, [], ◌∷◌, ◌++◌, length, take, drop, get_or, slice_get, flat_map, Option, Some, None, IsSome, unwrap_or, refl, sym, ap, ap₂, ◌∙◌, subst, arith}
use Rattle.std.proofs.lemmas.Bool.{eq-eqb, ne_eqb}
use Rattle.std.proofs.lemmas.Option.{same_Some, slice_get-get_or}
use Rattle.std.proofs.lemmas.List.{flat_map_more, take_more, drop_more, take_all, drop_all}
use Rattle.al_trie.specs.declared.arena.Node.{Node}
use Rattle.al_trie.specs.declared.arena.Summary.{Summary}
use Rattle.al_trie.specs.declared.arena.Summary.TheVariants as summary
use Rattle.al_trie.specs.declared.kids.Kid.{Kid}
use Rattle.al_trie.specs.declared.kids.Link.{Link}
use Rattle.al_trie.specs.declared.kids.Link.TheVariants.{Leaf, Inner}
use Rattle.al_trie.specs.declared.refresh.Seen.{Seen}
use Rattle.al_trie.specs.declared.refresh.Seen.TheVariants as seen
use Rattle.al_trie.specs.declared.slots.Slot.{Slot}
use Rattle.al_trie.specs.Root.{Through, Empty, Sole, Several, through, child, each_byte, node}
use Rattle.al_trie.specs.Slots.{full, AreElements}
use Rattle.al_trie.specs.Kids.{find_kid, Rising}
use Rattle.al_trie.specs.Arena.{path_of, LinkFits, SummaryFits, Fits, AreFit}
use Rattle.al_trie.specs.Spelling.{SeenFits, seen_with, known_summary, summary_at, IsKnown, AreKnown}
use Rattle.al_trie.proofs.Passing.{joined, joined-assoc, joined-empty}
use Rattle.al_trie.proofs.Children.{joined_kids, through_kids, each-kids}

joined-several : (t : Through) → joined t Several ≡ Several
joined-several Empty = refl
joined-several (Sole x) = refl
joined-several Several = refl

pub seen_step : (of : List ℕ → Through) (slots : List Slot) (q : List ℕ) (s : Seen) (u : Summary) (t : Through) → SeenFits slots s t → SummaryFits of slots q (Some u) → SeenFits slots (seen_with s u) (joined t (of q))
seen_step of slots q s summary.Nothing t h g = subst (SeenFits slots s) (sym (ap (joined t) g ∙ joined-empty t)) h
seen_step of slots q seen.Nothing (summary.One slot) t h (x, holds, is) = (x, holds, ap (λ v. joined v (of q)) h ∙ is)
seen_step of slots q (seen.One o) (summary.One slot) t (y, held, hy) (x, holds, is) = ap₂ joined hy is
seen_step of slots q seen.Many (summary.One slot) t h g = ap (λ v. joined v (of q)) h
seen_step of slots q s (summary.Many digest) t h g = ap (joined t) g.0 ∙ joined-several t

-- where a child stands in the list it is found
pub find_at : (low : ℕ) (ks : List Kid) (i : ℕ) (k : Kid) → Rising low ks → slice_get ks i ≡ Some k → find_kid k.byte ks ≡ Some k.to
find_at low [] i k r h = cc
find_at low (j ∷ ks) zero k r h =
    let same : j ≡ k = same_Some j k h in
    ap (λ t. cond t (Some j.to) (find_kid k.byte ks)) (eq-eqb j.byte k.byte (ap (λ (z : Kid). z.byte) same)) ∙ ap (λ (z : Kid). Some z.to) same
find_at low (j ∷ ks) (suc i) k r h =
    let above : suc j.byte ≤ k.byte = higher (suc j.byte) ks i k r.2 h in
    ap (λ t. cond t (Some j.to) (find_kid k.byte ks)) (ne_eqb j.byte k.byte (λ e. omega arith)) ∙ find_at (suc j.byte) ks i k r.2 h
  where
    higher : (low : ℕ) (ks : List Kid) (i : ℕ) (k : Kid) → Rising low ks → slice_get ks i ≡ Some k → low ≤ k.byte
    higher low [] i k r h = cc
    higher low (j ∷ ks) zero k r h = subst (λ (z : Kid). low ≤ z.byte) (same_Some j k h) r.0
    higher low (j ∷ ks) (suc i) k r h = let a : low ≤ j.byte = r.0 in let b : suc j.byte ≤ k.byte = higher (suc j.byte) ks i k r.2 h in omega arith

present : (of : List ℕ → Through) (slots : List Slot) (p : List ℕ) (o : Option Summary) → IsSome o → SummaryFits of slots p o → SummaryFits of slots p (Some (unwrap_or o summary.Nothing))
present of slots p None h g = cc
present of slots p (Some v) h g = g

pub kid_fits : (of : List ℕ → Through) (slots : List Slot) (nodes : List Node) → Fits of slots nodes → (q : List ℕ) (to : Link) → LinkFits of slots nodes q (Some to) → IsKnown nodes to → SummaryFits of slots q (Some (summary_at nodes to))
kid_fits of slots nodes f q (Leaf s) h k = h
kid_fits of slots nodes f q (Inner id) (m, a, e) k =
    subst (λ o. SummaryFits of slots q (Some (known_summary o))) (sym a.at)
    (subst (λ p. SummaryFits of slots p (Some (unwrap_or m.summary summary.Nothing))) e (present of slots (path_of m) m.summary (k m a.at) (f.each id.0 m a).summary))

-- ---- the loop over the children

module _ (slots : List Slot) (nodes : List Node) (f : AreFit slots nodes) (elements : AreElements (full slots)) (path : List ℕ) (kids : List Kid) (short : length path < 36) (rising : Rising 0 kids)
    (links : (b : ℕ) → LinkFits (through (full slots)) slots nodes (path ++ b ∷ []) (find_kid b kids)) (known : AreKnown nodes kids) where
  abbrev goes : ℕ → Through
  goes b = through (full slots) (path ++ b ∷ [])

  abbrev spelled : ℕ → List ℕ
  spelled b = child path b (through (full slots) (path ++ b ∷ [])) (node (through (full slots)) (35 - length path) (path ++ b ∷ []))

  pub kid_summary : (k : ℕ) (kid : Kid) → slice_get kids k ≡ Some kid → SummaryFits (through (full slots)) slots (path ++ kid.byte ∷ []) (Some (summary_at nodes kid.to))
  kid_summary k kid at =
      kid_fits (through (full slots)) slots nodes f (path ++ kid.byte ∷ []) kid.to
      (subst (λ o. LinkFits (through (full slots)) slots nodes (path ++ kid.byte ∷ []) o) (find_at 0 kids k kid rising at) (links kid.byte))
      (known k kid at)

  pub spell_more : (k : ℕ) (kid : Kid) (s : Seen) (out start out2 : List ℕ) → k < length kids → kid ≡ get_or kids k kid
      → out ≡ start ++ flat_map (λ (z : Kid). child path z.byte (through (full slots) (path ++ z.byte ∷ [])) (node (through (full slots)) (35 - length path) (path ++ z.byte ∷ []))) (take k kids)
      → out2 ≡ out ++ child path kid.byte (through (full slots) (path ++ kid.byte ∷ [])) (node (through (full slots)) (35 - length path) (path ++ kid.byte ∷ []))
      → out2 ≡ start ++ flat_map (λ (z : Kid). child path z.byte (through (full slots) (path ++ z.byte ∷ [])) (node (through (full slots)) (35 - length path) (path ++ z.byte ∷ []))) (take (k + 1) kids)
  spell_more k kid s out start out2 l it was now =
      now ∙ ap (λ zs. zs ++ spelled kid.byte) was
      ∙ flat_map_more (λ (z : Kid). spelled z.byte) start (take k kids) kid
      ∙ ap (λ zs. start ++ flat_map (λ (z : Kid). spelled z.byte) zs) (ap (λ z. take k kids ++ z ∷ []) it ∙ sym (take_more kids k kid l))

  pub seen_more : (k : ℕ) (kid : Kid) (s : Seen) → k < length kids → kid ≡ get_or kids k kid
      → (t : Through) × SeenFits slots s t × (joined t (joined_kids (λ b. through (full slots) (path ++ b ∷ [])) (drop k kids)) ≡ joined_kids (λ b. through (full slots) (path ++ b ∷ [])) kids)
      → (t : Through) × SeenFits slots (seen_with s (summary_at nodes kid.to)) t × (joined t (joined_kids (λ b. through (full slots) (path ++ b ∷ [])) (drop (k + 1) kids)) ≡ joined_kids (λ b. through (full slots) (path ++ b ∷ [])) kids)
  seen_more k kid s l it (t, fits, is) = (
    joined t (goes kid.byte),
    seen_step (through (full slots)) slots (path ++ kid.byte ∷ []) s (summary_at nodes kid.to) t fits (kid_summary k kid (slice_get-get_or kids k kid l ∙ ap Some (sym it))),
    joined-assoc t (goes kid.byte) (joined_kids goes (drop (k + 1) kids))
        ∙ ap (λ zs. joined t (joined_kids goes zs)) (ap (λ z. z ∷ drop (k + 1) kids) it ∙ sym (drop_more kids k kid l))
        ∙ is,
  )

  pub seen_then : (k : ℕ) (kid : Kid) (s next : Seen) → k < length kids → kid ≡ get_or kids k kid → next ≡ seen_with s (summary_at nodes kid.to)
      → (t : Through) × SeenFits slots s t × (joined t (joined_kids (λ b. through (full slots) (path ++ b ∷ [])) (drop k kids)) ≡ joined_kids (λ b. through (full slots) (path ++ b ∷ [])) kids)
      → (t : Through) × SeenFits slots next t × (joined t (joined_kids (λ b. through (full slots) (path ++ b ∷ [])) (drop (k + 1) kids)) ≡ joined_kids (λ b. through (full slots) (path ++ b ∷ [])) kids)
  seen_then k kid s next l it is before =
      let r = seen_more k kid s l it before in
      (r.0, subst (λ u. SeenFits slots u r.0) (sym is) r.1, r.2)

  none_spelled : (b : ℕ) → find_kid b kids ≡ None → spelled b ≡ []
  none_spelled b h = ap (λ t. child path b t (node (through (full slots)) (35 - length path) (path ++ b ∷ []))) (subst (λ o. LinkFits (through (full slots)) slots nodes (path ++ b ∷ []) o) h (links b))

  pub spell_all : (n : ℕ) (out start : List ℕ) → length kids ≤ n → out ≡ start ++ flat_map (λ (z : Kid). child path z.byte (through (full slots) (path ++ z.byte ∷ [])) (node (through (full slots)) (35 - length path) (path ++ z.byte ∷ []))) (take n kids)
      → out ≡ start ++ each_byte 256 0 (λ b. child path b (through (full slots) (path ++ b ∷ [])) (node (through (full slots)) (35 - length path) (path ++ b ∷ [])))
  spell_all n out start l was =
      was ∙ ap (λ zs. start ++ flat_map (λ (z : Kid). spelled z.byte) zs) (take_all n kids l)
      ∙ ap (λ zs. start ++ zs) (sym (each-kids 256 0 spelled kids refl rising (λ b _ h. none_spelled b h)))

  pub seen_all : (n : ℕ) (s : Seen) → length kids ≤ n
      → (t : Through) × SeenFits slots s t × (joined t (joined_kids (λ b. through (full slots) (path ++ b ∷ [])) (drop n kids)) ≡ joined_kids (λ b. through (full slots) (path ++ b ∷ [])) kids)
      → SeenFits slots s (through (full slots) path)
  seen_all n s l (t, fits, is) =
      let all : t ≡ joined_kids goes kids = sym (joined-empty t) ∙ ap (λ zs. joined t (joined_kids goes zs)) (sym (drop_all n kids l)) ∙ is in
      let whole = through_kids (full slots) path 0 kids elements short rising (λ b h. subst (λ o. LinkFits (through (full slots)) slots nodes (path ++ b ∷ []) o) h (links b)) in
      subst (SeenFits slots s) (all ∙ sym whole) fits
