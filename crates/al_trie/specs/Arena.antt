-- The nodes: what each says, for what goes through each path.
use Rattle.std.specs.Prelude.{◌≡◌, ℕ, ◌+◌, ◌-◌, ◌<◌, ◌≤◌, ◌⊎◌, true, false, cond, ◌&&◌, is_none, List, [], ◌∷◌, ◌++◌, length, take, get_or, map, slice_get, Option, Some, None, IsSome}
use Rattle.al_trie.specs.declared.arena.Node.{Node}
use Rattle.al_trie.specs.declared.arena.NodeId.{NodeId}
use Rattle.al_trie.specs.declared.arena.Summary.{Summary}
use Rattle.al_trie.specs.declared.arena.Summary.TheVariants.{Nothing, One, Many}
use Rattle.al_trie.specs.declared.kids.Link.{Link}
use Rattle.al_trie.specs.declared.kids.Link.TheVariants.{Leaf, Inner}
use Rattle.al_trie.specs.declared.slots.Slot.{Slot}
use Rattle.al_trie.specs.declared.slots.SlotId.{SlotId}
use Rattle.al_trie.specs.Root.{Through, Empty, Sole, Several, starts, through, node}
use Rattle.al_trie.specs.Slots.{full, HoldsAt, AreElements}
use Rattle.al_trie.specs.Kids.{find_kid, Rising}

-- a node's path
abbrev pub path_of : Node → List ℕ
path_of n = take n.depth n.path

-- a node in use
pub record IsNodeAt (nodes : List Node) (i : ℕ) (n : Node) : Type 0 where
  pub at : slice_get nodes i ≡ Some n
  pub live : n.live ≡ true

-- where the link under a path leads is what goes through it. An inner child may have one element or none
abbrev pub LinkFits : (List ℕ → Through) → List Slot → List Node → List ℕ → Option Link → Type 0
LinkFits of slots nodes path None = of path ≡ Empty
LinkFits of slots nodes path (Some (Leaf s)) = (x : List ℕ) × HoldsAt slots s.0 x × (of path ≡ Sole x)
LinkFits of slots nodes path (Some (Inner j)) = (m : Node) × IsNodeAt nodes j.0 m × (path_of m ≡ path)

-- a summary that is there is what goes through the path
abbrev pub SummaryFits : (List ℕ → Through) → List Slot → List ℕ → Option Summary → Type 0
SummaryFits of slots path None = Unit {0}
SummaryFits of slots path (Some Nothing) = of path ≡ Empty
SummaryFits of slots path (Some (One s)) = (x : List ℕ) × HoldsAt slots s.0 x × (of path ≡ Sole x)
SummaryFits of slots path (Some (Many digest)) = (of path ≡ Several) × (digest ≡ node of (36 - length path) path)

-- what a node says is so of what goes through each path
pub record NodeFits (of : List ℕ → Through) (slots : List Slot) (nodes : List Node) (n : Node) : Type 0 where
  pub depth : n.depth < 36
  pub long : length n.path ≡ 36
  pub rising : Rising 0 n.kids.items
  pub links : (b : ℕ) → LinkFits of slots nodes (path_of n ++ b ∷ []) (find_kid b n.kids.items)
  pub summary : SummaryFits of slots (path_of n) n.summary

-- node i is the parent of node j: its inner child at the byte b
pub record IsParent (nodes : List Node) (j : ℕ) (m : Node) (i : ℕ) (n : Node) (b : ℕ) : Type 0 where
  pub parent : IsNodeAt nodes i n
  pub path : path_of m ≡ path_of n ++ b ∷ []
  pub kid : (id : NodeId) × (find_kid b n.kids.items ≡ Some (Inner id)) × (id.0 ≡ j)

-- a node is the top, or has a parent
abbrev pub HasParent : List Node → ℕ → Node → Type 0
HasParent nodes j m = ((j ≡ 0) × (path_of m ≡ [])) ⊎ ((i : ℕ) × (n : Node) × (b : ℕ) × IsParent nodes j m i n b)

-- the nodes say what is so: one node for a path, each below a parent, node 0 the top
pub record Fits (of : List ℕ → Through) (slots : List Slot) (nodes : List Node) : Type 0 where
  pub each : (i : ℕ) (n : Node) → IsNodeAt nodes i n → NodeFits of slots nodes n
  pub unique : (i j : ℕ) (n m : Node) → IsNodeAt nodes i n → IsNodeAt nodes j m → path_of n ≡ path_of m → i ≡ j
  pub kept : (j : ℕ) (m : Node) → IsNodeAt nodes j m → HasParent nodes j m
  pub top : 0 < length nodes → (m : Node) × IsNodeAt nodes 0 m × (path_of m ≡ [])
  pub none : length nodes ≡ 0 → of [] ≡ Empty

-- how many nodes in use are stale
abbrev pub stale : List Node → ℕ
stale [] = 0
stale (n ∷ nodes) = cond (n.live && is_none n.summary) 1 0 + stale nodes

-- the last node on an element's path, with each node on the path stale
pub record IsLast (nodes : List Node) (e : List ℕ) (id depth : ℕ) : Type 0 where
  pub node : (n : Node) × IsNodeAt nodes id n × (n.depth ≡ depth) × (path_of n ≡ take depth e)
  pub marked : (j : ℕ) (m : Node) → IsNodeAt nodes j m → starts (path_of m) e ≡ true → (m.summary ≡ None) × (length (path_of m) ≤ depth)

-- the same nodes but for their summaries
abbrev pub bare : Node → Node
bare n = record n { summary = None }

-- two lists of nodes differ in summaries alone
abbrev pub SameShape : List Node → List Node → Type 0
SameShape old new = map bare old ≡ map bare new

-- the same nodes are in use
pub record SameLive (old new : List Node) : Type 0 where
  pub back : (i : ℕ) (n : Node) → IsNodeAt new i n → IsNodeAt old i n
  pub forth : (i : ℕ) (n : Node) → IsNodeAt old i n → IsNodeAt new i n

-- a node that is not in use
abbrev pub IsSpare : List Node → ℕ → Type 0
IsSpare nodes i = (n : Node) × (slice_get nodes i ≡ Some n) × (n.live ≡ false)

-- a node without children under the byte of its parent
abbrev pub IsBarren : List Node → ℕ → ℕ → NodeId → Type 0
IsBarren nodes parent b id = (n : Node) × IsNodeAt nodes parent n × (find_kid b n.kids.items ≡ Some (Inner id)) × (m : Node) × IsNodeAt nodes id.0 m × (m.kids.items ≡ [])

-- no child at an element's next byte
abbrev pub IsGap : List Node → List ℕ → ℕ → ℕ → Type 0
IsGap nodes e id depth = (n : Node) → IsNodeAt nodes id n → find_kid (get_or e depth 0) n.kids.items ≡ None

-- the leaf of an element at a node's byte
abbrev pub IsLeafAt : List Slot → List Node → ℕ → ℕ → SlotId → List ℕ → Type 0
IsLeafAt slots nodes id b slot x = (n : Node) × IsNodeAt nodes id n × HoldsAt slots slot.0 x × (find_kid b n.kids.items ≡ Some (Leaf slot))

-- elements below a node have so many bytes more than its path
abbrev pub HasHeight : List Node → ℕ → ℕ → Type 0
HasHeight nodes i height = (n : Node) × IsNodeAt nodes i n × (n.depth + height ≡ 36)

-- the same nodes with the same summaries, but that stale ones may be there now
pub record Refreshed (old new : List Node) : Type 0 where
  pub shape : SameShape old new
  pub keeps : (i : ℕ) (n m : Node) → slice_get old i ≡ Some n → slice_get new i ≡ Some m → IsSome n.summary → m.summary ≡ n.summary

-- below a node with a summary each node has one
abbrev pub Closed : List Node → Type 0
Closed nodes = (i : ℕ) (n : Node) (j : ℕ) (m : Node) → IsNodeAt nodes i n → IsNodeAt nodes j m → starts (path_of n) (path_of m) ≡ true → IsSome n.summary → IsSome m.summary

-- the nodes say what is so of the elements in the slots
abbrev pub AreFit : List Slot → List Node → Type 0
AreFit slots nodes = Fits (through (full slots)) slots nodes

-- the nodes of the elements in the slots
pub record IsArena (slots : List Slot) (nodes : List Node) : Type 0 where
  pub fits : AreFit slots nodes
  pub closed : Closed nodes
  pub elements : AreElements (full slots)
