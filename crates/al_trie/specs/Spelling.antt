-- What is known of some children while they are spelled.
use Rattle.std.specs.Prelude.{◌≡◌, ℕ, List, slice_get, Option, Some, None, IsSome, unwrap_or}
use Rattle.al_trie.specs.declared.arena.Node.{Node}
use Rattle.al_trie.specs.declared.arena.Summary.{Summary}
use Rattle.al_trie.specs.declared.arena.Summary.TheVariants as summary
use Rattle.al_trie.specs.declared.kids.Kid.{Kid}
use Rattle.al_trie.specs.declared.kids.Link.{Link}
use Rattle.al_trie.specs.declared.kids.Link.TheVariants.{Leaf, Inner}
use Rattle.al_trie.specs.declared.refresh.Seen.{Seen}
use Rattle.al_trie.specs.declared.refresh.Seen.TheVariants as seen
use Rattle.al_trie.specs.declared.slots.Slot.{Slot}
use Rattle.al_trie.specs.Root.{Through, Empty, Sole, Several}
use Rattle.al_trie.specs.Slots.{HoldsAt}

-- what was seen of some children is what goes through them
abbrev pub SeenFits : List Slot → Seen → Through → Type 0
SeenFits slots seen.Nothing t = t ≡ Empty
SeenFits slots (seen.One s) t = (x : List ℕ) × HoldsAt slots s.0 x × (t ≡ Sole x)
SeenFits slots seen.Many t = t ≡ Several

-- what is seen with one child more
abbrev pub seen_with : Seen → Summary → Seen
seen_with s summary.Nothing = s
seen_with seen.Nothing (summary.One slot) = seen.One slot
seen_with (seen.One other) (summary.One slot) = seen.Many
seen_with seen.Many (summary.One slot) = seen.Many
seen_with s (summary.Many digest) = seen.Many

-- a node's summary, where it is there
abbrev pub known_summary : Option Node → Summary
known_summary None = summary.Nothing
known_summary (Some n) = unwrap_or n.summary summary.Nothing

-- the summary of what a link leads to
abbrev pub summary_at : List Node → Link → Summary
summary_at nodes (Leaf s) = summary.One s
summary_at nodes (Inner id) = known_summary (slice_get nodes id.0)

-- what a link leads to has a summary
abbrev pub IsKnown : List Node → Link → Type 0
IsKnown nodes (Leaf s) = Unit {0}
IsKnown nodes (Inner id) = (n : Node) → slice_get nodes id.0 ≡ Some n → IsSome n.summary

-- the summaries of all children are there
abbrev pub AreKnown : List Node → List Kid → Type 0
AreKnown nodes kids = (k : ℕ) (kid : Kid) → slice_get kids k ≡ Some kid → IsKnown nodes kid.to
