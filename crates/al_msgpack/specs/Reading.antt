-- Reading from left to right, with the first fault and how many bytes are left there.
use Rattle.std.specs.Prelude.{ℕ, zero, suc, ◌+◌, ◌*◌, ◌-◌, ◌/◌, ◌^◌, ◌≡◌, Bool, false, ◌&&◌, ◌||◌, List, [], ◌∷◌, ◌++◌, length, take, drop, Result, Ok, Err, Option, Some, None, is_some, if◌then◌else◌, nat_lt, nat_le, ◌==◌}
use Rattle.al_msgpack.specs.declared.val.Val.{Val}
use Rattle.al_msgpack.specs.declared.val.Val.TheVariants as vals
use Rattle.al_msgpack.specs.declared.val.Entry.{Entry}
use Rattle.al_msgpack.specs.declared.head.Size.{Size}
use Rattle.al_msgpack.specs.declared.head.Size.TheVariants.{Fixed, Wide}
use Rattle.al_msgpack.specs.declared.head.Head.{Head}
use Rattle.al_msgpack.specs.declared.head.Head.TheVariants as heads
use Rattle.al_msgpack.specs.declared.fault.Fault.{Fault}
use Rattle.al_msgpack.specs.declared.fault.Fault.TheVariants.{Short, Bad}
use Rattle.al_msgpack.specs.declared.fault.ReadError.{ReadError}
use Rattle.al_msgpack.specs.declared.fault.ReadError.TheVariants as errors
use Rattle.al_msgpack.specs.declared.fault.DecodeFault.{DecodeFault}
use Rattle.al_msgpack.specs.declared.fault.DecodeFault.TheVariants.{Truncated, Malformed, Trailing, Memory}
use Rattle.al_msgpack.specs.Heads.{head_at, count, key_size, is_open}

-- a reader takes a value from the front of the bytes
abbrev pub Read : Type 0 → Type 0
Read A = Result (A × List ℕ) Fault

infixl 10 ◌>>=◌
abbrev pub ◌>>=◌ : {A B : Type 0} → Result A Fault → (A → Result B Fault) → Result B Fault
(Ok x) >>= f = f x
(Err e) >>= f = Err e

abbrev pub then_at : {A B : Type 0} → (List ℕ → Read A) → (A → List ℕ → Read B) → List ℕ → Read B
then_at r s bytes = r bytes >>= λ x. s x.0 x.1

abbrev pub mapped : {A B : Type 0} → (A → B) → Read A → Read B
mapped f read = read >>= λ x. Ok (f x.0, x.1)

-- one byte that passes a test
abbrev pub byte_at : (ℕ → Bool) → List ℕ → Read ℕ
byte_at ok [] = Err Short
byte_at ok (b ∷ rest) = if ok b then Ok (b, rest) else Err (Bad (length (b ∷ rest)))

-- k bytes more of a number that is not below the least, most significant first: a byte is faulty once no number that begins so is
unfoldable pub digits_at : ℕ → ℕ → ℕ → List ℕ → Read ℕ
digits_at zero acc least bytes = Ok (acc, bytes)
digits_at (suc k) acc least bytes = byte_at (λ b. nat_le (least / 256 ^ k) (acc * 256 + b)) bytes >>= λ x. digits_at k (acc * 256 + x.0) least x.1

unfoldable pub size_at : Size → List ℕ → Read ℕ
size_at (Fixed n) bytes = Ok (n, bytes)
size_at (Wide w least) bytes = digits_at (count w) 0 least bytes

-- any n bytes
unfoldable pub raw_at : ℕ → List ℕ → Read (List ℕ)
raw_at n bytes = if nat_lt (length bytes) n then Err Short else Ok (take n bytes, drop n bytes)

-- how many bytes 255 stand in front
abbrev pub lead : List ℕ → ℕ
lead [] = 0
lead (b ∷ bytes) = if b == 255 then suc (lead bytes) else 0

-- n bytes that stand above the bytes of a text: a byte is faulty once no n bytes that begin so do. Needs lead before < n
unfoldable pub rising_at : List ℕ → ℕ → List ℕ → Read (List ℕ)
rising_at [] n bytes = raw_at n bytes
rising_at (x ∷ before) n bytes = byte_at (λ b. nat_lt x b || (b == x && nat_lt (lead before) (n - 1))) bytes >>= λ y. mapped (λ s. y.0 ∷ s) (if y.0 == x then rising_at before (n - 1) y.1 else raw_at (n - 1) y.1)

-- the same by a look ahead: what is left where n bytes can no longer stand above
abbrev pub refused_at : List ℕ → ℕ → List ℕ → Option ℕ
refused_at [] n bytes = None
refused_at (x ∷ before) n [] = None
refused_at (x ∷ before) n (b ∷ rest) =
    if nat_lt b x then Some (length (b ∷ rest)) else
    if nat_lt x b then None else
    if nat_lt (lead before) (n - 1) then refused_at before (n - 1) rest else Some (length (b ∷ rest))

-- the least length of a key
abbrev pub floor_of : Option (List ℕ) → ℕ
floor_of None = 0
floor_of (Some before) = suc (lead before)

abbrev pub above_at : Option (List ℕ) → ℕ → List ℕ → Read (List ℕ)
above_at None n bytes = raw_at n bytes
above_at (Some before) n bytes = rising_at before n bytes

abbrev pub some_size_at : Option Size → List ℕ → Read ℕ
some_size_at None bytes = Err Short
some_size_at (Some size) bytes = size_at size bytes

-- a key above the key before
unfoldable pub key_at : Option (List ℕ) → List ℕ → Read (List ℕ)
key_at before bytes = byte_at (λ h. is_some (key_size (floor_of before) (head_at h))) bytes >>= λ h. some_size_at (key_size (floor_of before) (head_at h.0)) h.1 >>= λ n. above_at before n.0 n.1

-- so many values, or entries, by a reader of one value
abbrev pub all_by : (List ℕ → Read Val) → ℕ → List ℕ → Read (List Val)
all_by one zero bytes = Ok ([], bytes)
all_by one (suc n) bytes = one bytes >>= λ v. mapped (λ vs. v.0 ∷ vs) (all_by one n v.1)

abbrev pub entry : List ℕ → Val → Entry
entry key val = record { key = key; val = val }

abbrev pub entries_by : (List ℕ → Read Val) → Option (List ℕ) → ℕ → List ℕ → Read (List Entry)
entries_by one before zero bytes = Ok ([], bytes)
entries_by one before (suc n) bytes = key_at before bytes >>= λ k. one k.1 >>= λ v. mapped (λ es. entry k.0 v.0 ∷ es) (entries_by one (Some k.0) n v.1)

unfoldable pub string_at : Size → List ℕ → Read (List ℕ)
string_at size bytes = size_at size bytes >>= λ n. raw_at n.0 n.1

abbrev pub list_at : (List ℕ → Read Val) → Size → List ℕ → Read (List Val)
list_at one size bytes = size_at size bytes >>= λ n. all_by one n.0 n.1

abbrev pub map_at : (List ℕ → Read Val) → Size → List ℕ → Read (List Entry)
map_at one size bytes = size_at size bytes >>= λ n. entries_by one None n.0 n.1

abbrev pub is_head : ℕ → Option Head → Bool
is_head depth None = false
is_head depth (Some head) = is_open depth head

-- what stands behind a head
abbrev pub body_by : (List ℕ → Read Val) → Option Head → List ℕ → Read Val
body_by one None bytes = Err Short
body_by one (Some (heads.Num size)) bytes = mapped vals.Num (size_at size bytes)
body_by one (Some (heads.Flag b)) bytes = Ok (vals.Flag b, bytes)
body_by one (Some (heads.Str size)) bytes = mapped vals.Str (string_at size bytes)
body_by one (Some (heads.Bin size)) bytes = mapped vals.Bin (string_at size bytes)
body_by one (Some (heads.List size)) bytes = mapped vals.List (list_at one size bytes)
body_by one (Some (heads.Map size)) bytes = mapped vals.Map (map_at one size bytes)

abbrev pub no_value : List ℕ → Read Val
no_value bytes = Err Short

unfoldable pub value_at : ℕ → List ℕ → Read Val
value_at zero bytes = byte_at (λ h. is_head 0 (head_at h)) bytes >>= λ h. body_by no_value (head_at h.0) h.1
value_at (suc depth) bytes = byte_at (λ h. is_head (suc depth) (head_at h)) bytes >>= λ h. body_by (value_at depth) (head_at h.0) h.1

-- What a function returned, seen by view, is what reading gives.
abbrev pub Same : {X Y : Type 0} → (X → Y) → Result X Fault → Result Y Fault → Type 0
Same view (Ok x) read = read ≡ Ok (view x)
Same view (Err e) read = read ≡ Err e

-- The same, unless memory ran out.
abbrev pub FailsBy : {Y : Type 0} → ReadError → Result Y Fault → Type 0
FailsBy errors.Memory read = Unit {0}
FailsBy (errors.Fault f) read = read ≡ Err f

abbrev pub Gives : {X Y : Type 0} → (X → Y) → Result X ReadError → Result Y Fault → Type 0
Gives view (Ok x) read = read ≡ Ok (view x)
Gives view (Err e) read = FailsBy e read

-- what an input is: a value, or why it is none
abbrev pub verdict_of : ℕ → Read Val → Result Val DecodeFault
verdict_of len (Err Short) = Err (Truncated len)
verdict_of len (Err (Bad left)) = Err (Malformed (len - left))
verdict_of len (Ok (v, [])) = Ok v
verdict_of len (Ok (v, b ∷ rest)) = Err (Trailing (len - length (b ∷ rest)))

abbrev pub verdict : List ℕ → Result Val DecodeFault
verdict input = verdict_of (length input) (value_at 16 input)

abbrev pub Answers : Result Val DecodeFault → Result Val DecodeFault → Type 0
Answers (Err Memory) v = Unit {0}
Answers (Err (Truncated at)) v = v ≡ Err (Truncated at)
Answers (Err (Malformed at)) v = v ≡ Err (Malformed at)
Answers (Err (Trailing at)) v = v ≡ Err (Trailing at)
Answers (Ok x) v = v ≡ Ok x

abbrev pub all_of : ℕ → ℕ → List ℕ → Read (List Val)
all_of depth count bytes = all_by (value_at depth) count bytes

abbrev pub entries_of : ℕ → Option (List ℕ) → ℕ → List ℕ → Read (List Entry)
entries_of depth before count bytes = entries_by (value_at depth) before count bytes

-- what is read comes behind a front
abbrev pub in_front : {A : Type 0} → List A → Read (List A) → Read (List A)
in_front front read = mapped (λ xs. front ++ xs) read
