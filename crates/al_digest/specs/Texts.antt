-- The texts of digests and addresses, and what is wrong with other texts.
use Rattle.std.specs.Prelude.{ℕ, ◌≡◌, ◌≢◌, ◌<◌, ◌%◌, ◌^◌, List, ◌++◌, length, take, drop, Result, Ok, Err, All}
use Rattle.sha2.specs.Sha512.{sha512_256}
use Rattle.al_base.specs.declared.address.Address.{Address}
use Rattle.al_digest.specs.declared.texts.TextFault.{TextFault}
use Rattle.al_digest.specs.declared.texts.TextFault.TheVariants.{Length, Letter, SpareBits, Check}
use Rattle.al_digest.specs.Base32.{base32, IsLetter, IsFirstOther, last_digit}

-- the text of a digest: 52 letters of its 32 bytes
abbrev pub hash_text_of : List ℕ → List ℕ
hash_text_of hash = base32 hash

-- the check bytes of an address: the last four bytes of its SHA-512/256
abbrev pub check_of : List ℕ → List ℕ
check_of address = drop 28 (sha512_256 address)

-- the text of an address: 58 letters of its 32 bytes and its check bytes
abbrev pub address_text_of : Address → List ℕ
address_text_of a = base32 (a.0 ++ check_of a.0)

-- the first fault of a text that should have so many letters and so many spare bits
abbrev pub HasTextFault : ℕ → ℕ → List ℕ → TextFault → Type 0
HasTextFault letters spare text (Length found) = (found ≡ length text) × (found ≢ letters)
HasTextFault letters spare text (Letter at) = (length text ≡ letters) × IsFirstOther text at
HasTextFault letters spare text SpareBits = (length text ≡ letters) × All IsLetter text × (last_digit text % 2 ^ spare ≢ 0)
HasTextFault letters spare text Check = ⊥

-- a list of so many bytes
abbrev pub AreBytes : ℕ → List ℕ → Type 0
AreBytes n bytes = (length bytes ≡ n) × All (λ b. b < 256) bytes

-- what the text of a digest says
abbrev pub ReadsHash : List ℕ → Result (List ℕ) TextFault → Type 0
ReadsHash text (Ok hash) = text ≡ hash_text_of hash
ReadsHash text (Err fault) = HasTextFault 52 4 text fault

-- a text of base32 whose last four bytes are not the check bytes of the first 32
abbrev pub HasWrongCheck : List ℕ → Type 0
HasWrongCheck text = (bytes : List ℕ) × AreBytes 36 bytes × (text ≡ base32 bytes) × (drop 32 bytes ≢ check_of (take 32 bytes))

-- what the text of an address says
abbrev pub ReadsAddress : List ℕ → Result Address TextFault → Type 0
ReadsAddress text (Ok a) = text ≡ address_text_of a
ReadsAddress text (Err Check) = HasWrongCheck text
ReadsAddress text (Err fault) = HasTextFault 58 2 text fault
