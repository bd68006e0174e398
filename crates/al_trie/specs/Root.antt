-- The root of a list of different elements, whatever their order. The idea is the Merkle trie over the accounts of a catchpoint in
-- Algorand's ledger documents; the bytes that are digested are this project's own format. The trie has a node for each path that
-- at least two elements begin with. A node is digested as the length of its path, its path and its children in rising order of
-- their bytes: a child that one element goes through is a leaf with the rest of that element behind the byte, and one that more go
-- through is an inner child with its node's digest.
use Rattle.std.specs.Prelude.{ℕ, zero, suc, Bool, true, false, cond, ◌&&◌, ◌==◌, List, [], ◌∷◌, ◌++◌, length, drop, replicate}
use Rattle.al_digest.specs.Digests.{digest_of, node_digest_of}
use Rattle.al_digest.specs.declared.hashing.Prefix.TheVariants.{Root}

-- what goes through a path: no element, one, or more
pub data Through : Type 0 where
  Empty : Through
  Sole : List ℕ → Through
  Several : Through

-- an element begins with a path
abbrev pub starts : List ℕ → List ℕ → Bool
starts [] x = true
starts (b ∷ path) [] = false
starts (b ∷ path) (c ∷ x) = (b == c) && starts path x

-- what goes through a path that one more element goes through
abbrev pub with_one : List ℕ → Through → Through
with_one x Empty = Sole x
with_one x (Sole y) = Several
with_one x Several = Several

-- what of a list passes a test
abbrev pub passing : (List ℕ → Bool) → List (List ℕ) → Through
passing test [] = Empty
passing test (x ∷ xs) = cond (test x) (with_one x (passing test xs)) (passing test xs)

-- what of a list goes through a path
abbrev pub through : List (List ℕ) → List ℕ → Through
through list path = passing (starts path) list

-- what a node digests of its child at the byte b: nothing, a leaf with the rest of its element, or an inner child with its digest
abbrev pub child : List ℕ → ℕ → Through → List ℕ → List ℕ
child path b Empty inner = []
child path b (Sole x) inner = 0 ∷ length (drop (suc (length path)) x) ∷ b ∷ drop (suc (length path)) x
child path b Several inner = 1 ∷ length inner ∷ b ∷ inner

-- f of each of n bytes from b on
unfoldable pub each_byte : ℕ → ℕ → (ℕ → List ℕ) → List ℕ
each_byte zero b f = []
each_byte (suc n) b f = f b ++ each_byte n (suc b) f

-- what the digest of the node of a path is taken of, by the digests of the nodes below it
abbrev pub node_string : (List ℕ → Through) → (List ℕ → List ℕ) → List ℕ → List ℕ
node_string of inner path = length path ∷ path ++ each_byte 256 0 (λ b. child path b (of (path ++ b ∷ [])) (inner (path ++ b ∷ [])))

-- the digest of the node of a path, below which elements have at most n bytes
unfoldable pub node : (List ℕ → Through) → ℕ → List ℕ → List ℕ
node of zero path = []
node of (suc n) path = node_digest_of (node_string of (node of n) path)

-- the root by what goes through the empty path: 32 zero bytes, a digest of the one element, or one of the top node's digest
abbrev pub root_at : Through → List ℕ → List ℕ
root_at Empty digest = replicate 32 0
root_at (Sole x) digest = digest_of Root (0 ∷ x)
root_at Several digest = digest_of Root (1 ∷ digest)

-- the root of a list
unfoldable pub root_of : List (List ℕ) → List ℕ
root_of list = root_at (through list []) (node (through list) 36 [])
