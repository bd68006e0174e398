-- What the fields of a trie say.
use Rattle.std.specs.Prelude.{◌≡◌}
use Rattle.std.specs.FinMap as fin
use Rattle.al_trie.specs.declared.trie.Trie.TheInside.{Inside}
use Rattle.al_trie.specs.Slots.{full}
use Rattle.al_trie.specs.Arena.{IsArena, stale}
use Rattle.al_trie.specs.Tries.{Tried, set_of, AreDifferent}

-- the set of the elements in the places, and the stale nodes
abbrev pub tried : Inside → Tried
tried t = record { elements = set_of (full t.slots.items); stale = stale t.nodes.items }

-- the fields of a trie fit together
pub record IsTrie (t : Inside) : Type 0 where
  pub arena : IsArena t.slots.items t.nodes.items
  pub different : AreDifferent (full t.slots.items)
  pub counted : t.len ≡ fin.len (set_of (full t.slots.items))
