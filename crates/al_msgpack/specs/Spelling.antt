-- The spelling of each value: a relation, one case for each line of the format's table.
use Rattle.std.specs.Prelude.{ℕ, zero, suc, ◌+◌, ◌≡◌, ◌≤◌, ◌<◌, ◌^◌, ◌⊎◌, true, false, List, [], ◌∷◌, ◌++◌, length, Option, Some, None}
use Rattle.al_msgpack.specs.declared.val.Val.{Val}
use Rattle.al_msgpack.specs.declared.val.Val.TheVariants as vals
use Rattle.al_msgpack.specs.declared.val.Entry.{Entry}
use Rattle.al_msgpack.specs.Grammar.{Spelling, AreBytes, digits, Above}

-- n in the head itself
pub record Near (base high n : ℕ) (b : List ℕ) : Type 0 where
  pub below : n < high
  pub is : b ≡ (base + n) ∷ []

-- a head, and n in k bytes: the shortest form, since n is not low enough for the one before
pub record Far (head k low n : ℕ) (b : List ℕ) : Type 0 where
  pub shortest : low ≤ n
  pub fits : n < 256 ^ k
  pub is : b ≡ head ∷ digits k n

pub data NumIs (n : ℕ) (b : List ℕ) : Type 0 where
  num_0 : Near 0 128 n b → NumIs n b
  num_1 : Far 0xcc 1 128 n b → NumIs n b
  num_2 : Far 0xcd 2 0x100 n b → NumIs n b
  num_4 : Far 0xce 4 0x10000 n b → NumIs n b
  num_8 : Far 0xcf 8 0x100000000 n b → NumIs n b

pub data StringHead (n : ℕ) (b : List ℕ) : Type 0 where
  str_0 : Near 0xa0 32 n b → StringHead n b
  str_1 : Far 0xd9 1 32 n b → StringHead n b
  str_2 : Far 0xda 2 0x100 n b → StringHead n b
  str_4 : Far 0xdb 4 0x10000 n b → StringHead n b

pub data BytesHead (n : ℕ) (b : List ℕ) : Type 0 where
  bin_1 : Far 0xc4 1 0 n b → BytesHead n b
  bin_2 : Far 0xc5 2 0x100 n b → BytesHead n b
  bin_4 : Far 0xc6 4 0x10000 n b → BytesHead n b

pub data ListHead (n : ℕ) (b : List ℕ) : Type 0 where
  list_0 : Near 0x90 16 n b → ListHead n b
  list_2 : Far 0xdc 2 16 n b → ListHead n b
  list_4 : Far 0xdd 4 0x10000 n b → ListHead n b

pub data MapHead (n : ℕ) (b : List ℕ) : Type 0 where
  map_0 : Near 0x80 16 n b → MapHead n b
  map_2 : Far 0xde 2 16 n b → MapHead n b
  map_4 : Far 0xdf 4 0x10000 n b → MapHead n b

-- a head with the length, and then the bytes
pub record Counted (Head : ℕ → List ℕ → Type 0) (s : List ℕ) (b : List ℕ) : Type 0 where
  pub bytes : AreBytes s
  pub head : List ℕ
  pub counts : Head (length s) head
  pub is : b ≡ head ++ s

-- values that hold no values
pub data PlainIs (v : Val) (b : List ℕ) : Type 0 where
  number : (n : ℕ) → v ≡ vals.Num n → NumIs n b → PlainIs v b
  no : v ≡ vals.Flag false → b ≡ 0xc2 ∷ [] → PlainIs v b
  yes : v ≡ vals.Flag true → b ≡ 0xc3 ∷ [] → PlainIs v b
  string : (s : List ℕ) → v ≡ vals.Str s → Counted StringHead s b → PlainIs v b
  bytes : (s : List ℕ) → v ≡ vals.Bin s → Counted BytesHead s b → PlainIs v b

-- values one behind the other
abbrev pub AllSpelled : Spelling Val → List Val → List ℕ → Type 0
AllSpelled S [] b = b ≡ []
AllSpelled S (v ∷ vs) b = (a : List ℕ) × (c : List ℕ) × (b ≡ a ++ c) × S v a × AllSpelled S vs c

-- a key rises above the key before
abbrev pub Rises : Option (List ℕ) → List ℕ → Type 0
Rises None key = Unit {0}
Rises (Some before) key = Above before key

-- entries one behind the other, whose keys are strings that rise strictly
abbrev pub EntriesSpelled : Spelling Val → Option (List ℕ) → List Entry → List ℕ → Type 0
EntriesSpelled S before [] b = b ≡ []
EntriesSpelled S before (e ∷ es) b = (k : List ℕ) × (a : List ℕ) × (c : List ℕ) × (b ≡ k ++ (a ++ c)) × Rises before e.key × Counted StringHead e.key k × S e.val a × EntriesSpelled S (Some e.key) es c

-- lists and maps of values that are spelled so
pub data NestIs (S : Spelling Val) (v : Val) (b : List ℕ) : Type 0 where
  list : (vs : List Val) (h c : List ℕ) → v ≡ vals.List vs → ListHead (length vs) h → b ≡ h ++ c → AllSpelled S vs c → NestIs S v b
  map : (es : List Entry) (h c : List ℕ) → v ≡ vals.Map es → MapHead (length es) h → b ≡ h ++ c → EntriesSpelled S None es c → NestIs S v b

-- the value is spelled so, with containers at most so deep
unfoldable pub Spells : ℕ → Spelling Val
Spells zero v b = PlainIs v b
Spells (suc depth) v b = PlainIs v b ⊎ NestIs (Spells depth) v b
