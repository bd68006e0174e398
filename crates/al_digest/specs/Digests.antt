-- What digests are taken of. SHA-512/256 is that of FIPS 180-4.
use Rattle.std.specs.Prelude.{ℕ, List, ◌++◌, codes}
use Rattle.sha2.specs.Sha512.{sha512_256}
use Rattle.al_digest.specs.declared.hashing.Prefix.{Prefix}
use Rattle.al_digest.specs.declared.hashing.Prefix.TheVariants.{Tx, Group, Header, Payset, App, Genesis, Row, Root, Label}

-- the ASCII bytes that stand in front
abbrev pub prefix_of : Prefix → List ℕ
prefix_of Tx = codes "TX"
prefix_of Group = codes "TG"
prefix_of Header = codes "BH"
prefix_of Payset = codes "PL"
prefix_of App = codes "appID"
prefix_of Genesis = codes "GE"
prefix_of Row = codes "RW"
prefix_of Root = codes "TR"
prefix_of Label = codes "CL"

-- the digest of bytes behind a prefix
abbrev pub digest_of : Prefix → List ℕ → List ℕ
digest_of p bytes = sha512_256 (prefix_of p ++ bytes)

-- the digest of a node of the trie of rows
abbrev pub node_digest_of : List ℕ → List ℕ
node_digest_of bytes = sha512_256 (codes "TN" ++ bytes)

-- the digest of bytes without a prefix
abbrev pub bare_digest_of : List ℕ → List ℕ
bare_digest_of bytes = sha512_256 bytes
