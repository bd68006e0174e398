-- The texts of numbers, addresses, names of boxes and queries.
use Rattle.std.specs.Prelude.{◌≡◌, ◌≤◌, ◌^◌, ℕ, List, [], ◌++◌, length, codes, Option, Some, None, Ok}
use Rattle.std.specs.Fmt.{decimal}
use Rattle.hex.specs.Hex.{decode_of}
use Rattle.al_base.specs.Name.{name_of}
use Rattle.al_base.specs.declared.address.Address.{Address}
use Rattle.al_base.specs.declared.name.BoxName.{BoxName}
use Rattle.al_digest.specs.Texts.{AreBytes, address_text_of}

-- a decimal without sign or leading zero, at most 2^62
abbrev pub IsNumber : List ℕ → ℕ → Type 0
IsNumber text n = (n ≤ 2 ^ 62) × (text ≡ decimal n)

-- the 58 letters of an address
abbrev pub IsAddress : List ℕ → Address → Type 0
IsAddress text a = AreBytes 32 a.0 × (text ≡ address_text_of a)

-- the 1 to 64 bytes of a name in hexadecimal, in either case of letters
abbrev pub IsName : List ℕ → BoxName → Type 0
IsName text n = (length n.bytes ≡ 64) × (decode_of text ≡ Ok (name_of n))

-- nothing, or a round
abbrev pub round_text : Option ℕ → List ℕ
round_text None = []
round_text (Some round) = codes "round=" ++ decimal round

-- nothing, or a number of at most 2^62
abbrev pub IsLow : Option ℕ → Type 0
IsLow None = Unit {0}
IsLow (Some n) = n ≤ 2 ^ 62

-- a query of a round, or of none
abbrev pub IsRound : List ℕ → Option ℕ → Type 0
IsRound query round = IsLow round × (query ≡ round_text round)

-- a round, a round of votes, both in this order, or nothing
abbrev pub span_text : Option ℕ → Option ℕ → List ℕ
span_text round None = round_text round
span_text None (Some vote) = codes "vote=" ++ decimal vote
span_text (Some round) (Some vote) = codes "round=" ++ (decimal round ++ (codes "&vote=" ++ decimal vote))

-- a query of a round and of a round of votes, each of which may be left out
abbrev pub IsSpan : List ℕ → Option ℕ × Option ℕ → Type 0
IsSpan query s = IsLow s.0 × IsLow s.1 × (query ≡ span_text s.0 s.1)

-- a query of a round of votes alone
abbrev pub IsVote : List ℕ → ℕ → Type 0
IsVote text n = (n ≤ 2 ^ 62) × (text ≡ codes "vote=" ++ decimal n)

-- a query of a round that is there
abbrev pub IsSomeRound : List ℕ → ℕ → Type 0
IsSomeRound text n = (n ≤ 2 ^ 62) × (text ≡ codes "round=" ++ decimal n)

-- a query of a round and of a round of votes, both there
abbrev pub IsBoth : List ℕ → ℕ × ℕ → Type 0
IsBoth query s = (s.0 ≤ 2 ^ 62) × (s.1 ≤ 2 ^ 62) × (query ≡ codes "round=" ++ (decimal s.0 ++ (codes "&vote=" ++ decimal s.1)))

-- a query of nothing
abbrev pub IsNothing : List ℕ → Unit {0} → Type 0
IsNothing query u = query ≡ []

-- a value is read, or there is none
abbrev pub Reads : {A : Type 0} → (A → Type 0) → Option A → Type 0
Reads Is (Some x) = Is x
Reads {A = A} Is None = (x : A) → Is x → ⊥
