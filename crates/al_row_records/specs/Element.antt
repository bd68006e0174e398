-- Elements: the bytes by which rows stand in the hash trie. Numbers stand most significant byte first.
use Rattle.std.specs.Prelude.{◌≡◌, ℕ, ◌%◌, ◌^◌, List, ◌∷◌, ◌++◌, length, take}
use Rattle.al_base.specs.Keys.{key_bytes}
use Rattle.al_base.specs.declared.key.Key.{Key}
use Rattle.al_digest.specs.Digests.{digest_of}
use Rattle.al_digest.specs.declared.hashing.Prefix.TheVariants as prefixes
use Rattle.al_msgpack.specs.Grammar.{digits}
use Rattle.al_msgpack.specs.Spelled.{spelled}
use Rattle.al_msgpack.specs.declared.val.Val.TheVariants as values
use Rattle.al_rows.specs.declared.row.Row.{Row}
use Rattle.al_rows.specs.declared.row.Row.TheVariants as row
use Rattle.al_rows.specs.declared.stored.Stored.{Stored}
use Rattle.al_row_records.specs.RowRecords.{row_written}

-- the kind of a row: 0 an account, 1 an asset, 2 an application, 3 a box
abbrev pub kind_of : Row → ℕ
kind_of (row.Account r) = 0
kind_of (row.Asset a) = 1
kind_of (row.App a) = 2
kind_of (row.Box b) = 3

-- what a row's digest is taken of: how many bytes its key has, in 2 bytes, these bytes, and the spelling of its record
unfoldable pub row_string : Key → Row → List ℕ
row_string k r = digits 2 (length (key_bytes k)) ++ key_bytes k ++ spelled (values.Map (row_written r))

-- the first 31 bytes of a row's digest
abbrev pub row_digest : Key → Row → List ℕ
row_digest k r = take 31 (digest_of prefixes.Row (row_string k r))

-- the 36 bytes by which a row stands in the trie: the low 32 bits of the round that changed it last, its kind, and its digest's first 31 bytes
unfoldable pub element_of : Key → Stored → List ℕ
element_of k s = digits 4 (s.changed % 2 ^ 32) ++ kind_of s.row ∷ row_digest k s.row

-- two rows have their low 32 bits of the last change, their kind and their digest's first 31 bytes in common
pub record AreAlike (j k : Key) (s t : Stored) : Type 0 where
  pub changed : s.changed % 2 ^ 32 ≡ t.changed % 2 ^ 32
  pub kind : kind_of s.row ≡ kind_of t.row
  pub digest : row_digest j s.row ≡ row_digest k t.row

-- Each element has 36 bytes.
abbrev pub HasElementSize : Type 0
HasElementSize = (k : Key) (s : Stored) → length (element_of k s) ≡ 36

-- Rows with the same element are alike.
abbrev pub ElementsShow : Type 0
ElementsShow = (j k : Key) (s t : Stored) → element_of j s ≡ element_of k t → AreAlike j k s t
