-- What is said of a generated chain.
use Rattle.std.specs.Prelude.{ℕ, List, [], ◌∷◌, ◌++◌, codes, decimal}
use Rattle.al_block.specs.Hashes.{header_hash_of}
use Rattle.al_digest.specs.Base32.{base32}
use Rattle.al_eval.specs.State.{State}
use Rattle.al_states.specs.Held.{money_in}

-- a word and what stands behind it; 10 ends a line
abbrev pub line : List ℕ → List ℕ → List ℕ
line word text = word ++ (32 ∷ (text ++ 10 ∷ []))

-- a word and a number
abbrev pub number_line : List ℕ → ℕ → List ℕ
number_line word n = line word (decimal n)

-- how many blocks were asked for, all transactions, the last round, the first round that is shown, the hash of the last block's header, and the money of all accounts in microAlgos
abbrev pub summary : ℕ → State → List ℕ
summary blocks s =
    number_line (codes "blocks") blocks
    ++ (number_line (codes "transactions") s.header.counter
    ++ (number_line (codes "front") s.header.round
    ++ (number_line (codes "floor") 0
    ++ (line (codes "hash") (base32 (header_hash_of s.header))
    ++ number_line (codes "sum") (money_in s)))))
