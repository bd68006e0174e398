-- The keys of rows: their bytes, and their order.
use Rattle.std.specs.Prelude.{◌≡◌, ℕ, ◌<◌, ◌^◌, List, ◌∷◌, ◌++◌, length, take}
use Rattle.std.specs.declared.cmp.Ordering.{Ordering}
use Rattle.std.specs.declared.cmp.Ordering.TheVariants.{Less, Greater}
use Rattle.std.specs.Int.{w64, to_be_bytes}
use Rattle.std.specs.Cmp.Lexicographic.{slice_cmp}
use Rattle.std.specs.Ordering.{nat_cmp, ordering_then}
use Rattle.al_base.specs.Name.{name_of}
use Rattle.al_base.specs.declared.address.Address.{Address}
use Rattle.al_base.specs.declared.name.BoxName.{BoxName}
use Rattle.al_base.specs.declared.key.Key.{Key}
use Rattle.al_base.specs.declared.key_bytes.KeyBytes.{KeyBytes}
use Rattle.al_base.specs.declared.key.Key.TheVariants.{Account, Resource, Box}

-- the 8 bytes of a number below 2 ^ 64, most significant first
unfoldable pub number_bytes : ℕ → List ℕ
number_bytes n = to_be_bytes w64 n

-- the bytes of a key: what kind it is, whose it is, and its number or name, numbers most significant byte first
abbrev pub key_bytes : Key → List ℕ
key_bytes (Account a) = 0 ∷ a.0
key_bytes (Resource a id) = 1 ∷ a.0 ++ number_bytes id
key_bytes (Box app name) = 2 ∷ number_bytes app ++ name_of name

-- the bytes of a key as they are held
abbrev pub bytes_of : KeyBytes → List ℕ
bytes_of key = take key.len key.bytes

-- a key's arrays have their lengths, and its number is below 2 ^ 64, as those of each value of the type
abbrev pub IsKey : Key → Type 0
IsKey (Account a) = length a.0 ≡ 32
IsKey (Resource a id) = (length a.0 ≡ 32) × (id < 2 ^ 64)
IsKey (Box app name) = (app < 2 ^ 64) × (length name.bytes ≡ 64)

abbrev pub address_cmp : Address → Address → Ordering
address_cmp a b = slice_cmp nat_cmp a.0 b.0

abbrev pub name_cmp : BoxName → BoxName → Ordering
name_cmp a b = ordering_then (slice_cmp nat_cmp a.bytes b.bytes) (nat_cmp a.len b.len)

-- the order of keys: accounts, then resources, then boxes, each by what it names
abbrev pub key_cmp : Key → Key → Ordering
key_cmp (Account a) (Account b) = address_cmp a b
key_cmp (Account a) (Resource b j) = Less
key_cmp (Account a) (Box j n) = Less
key_cmp (Resource a i) (Account b) = Greater
key_cmp (Resource a i) (Resource b j) = ordering_then (address_cmp a b) (nat_cmp i j)
key_cmp (Resource a i) (Box j n) = Less
key_cmp (Box i m) (Account b) = Greater
key_cmp (Box i m) (Resource b j) = Greater
key_cmp (Box i m) (Box j n) = ordering_then (nat_cmp i j) (name_cmp m n)
