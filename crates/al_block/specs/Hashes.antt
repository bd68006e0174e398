-- The hashes of blocks, and their groups.
use Rattle.std.specs.Prelude.{ℕ, suc, map, replicate, List, [], ◌∷◌, if◌then◌else◌}
use Rattle.std.specs.Str.{bytes_eq}
use Rattle.al_digest.specs.Digests.{digest_of}
use Rattle.al_digest.specs.declared.hashing.Prefix.TheVariants as prefixes
use Rattle.al_msgpack.specs.declared.val.Val.TheVariants as values
use Rattle.al_msgpack.specs.Spelled.{spelled}
use Rattle.al_txn.specs.declared.txn.Item.{Item}
use Rattle.al_txn.specs.Item.{item}
use Rattle.al_block.specs.declared.header.Header.{Header}
use Rattle.al_block.specs.Header.{header}

-- what the hash of a block is taken of: its header's spelling
abbrev pub header_string : Header → List ℕ
header_string h = spelled (values.Map (header.write h))

-- the hash of a block
abbrev pub header_hash_of : Header → List ℕ
header_hash_of h = digest_of prefixes.Header (header_string h)

-- what the digest of a payset is taken of: the spelling of the list of the entries' records
abbrev pub payset_string : List Item → List ℕ
payset_string items = spelled (values.List (map (λ es. values.Map es) (map item.write items)))

-- the digest of a payset
abbrev pub payset_hash_of : List Item → List ℕ
payset_hash_of items = digest_of prefixes.Payset (payset_string items)

-- how many entries at the front have this group id
abbrev pub run : List ℕ → List Item → ℕ
run group [] = 0
run group (i ∷ is) = if bytes_eq i.txn.group group then suc (run group is) else 0

-- The group at the front: the longest run of entries with one group id that is not zero, or one entry with group zero.
abbrev pub group_size : List Item → ℕ
group_size [] = 0
group_size (i ∷ is) = if bytes_eq i.txn.group (replicate 32 0) then 1 else run i.txn.group (i ∷ is)
