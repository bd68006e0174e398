-- The values that have a spelling.
use Rattle.std.specs.Prelude.{ℕ, zero, suc, ◌≡◌, ◌<◌, ◌^◌, ◌⊎◌, Bool, List, [], ◌∷◌, length, Option, Some, None}
use Rattle.std.specs.List.{AllByRecursion}
use Rattle.al_msgpack.specs.declared.val.Val.{Val}
use Rattle.al_msgpack.specs.declared.val.Val.TheVariants as vals
use Rattle.al_msgpack.specs.declared.val.Entry.{Entry}
use Rattle.al_msgpack.specs.Grammar.{AreBytes}
use Rattle.al_msgpack.specs.Spelling.{Rises}

pub data IsPlain (v : Val) : Type 0 where
  number : (n : ℕ) → v ≡ vals.Num n → n < 2 ^ 64 → IsPlain v
  flag : (b : Bool) → v ≡ vals.Flag b → IsPlain v
  string : (s : List ℕ) → v ≡ vals.Str s → AreBytes s → length s < 2 ^ 32 → IsPlain v
  bytes : (s : List ℕ) → v ≡ vals.Bin s → AreBytes s → length s < 2 ^ 32 → IsPlain v

-- the keys rise strictly
abbrev pub AreEntries : (Val → Type 0) → Option (List ℕ) → List Entry → Type 0
AreEntries P before [] = Unit {0}
AreEntries P before (e ∷ es) = Rises before e.key × AreBytes e.key × (length e.key < 2 ^ 32) × P e.val × AreEntries P (Some e.key) es

pub data IsNest (P : Val → Type 0) (v : Val) : Type 0 where
  list : (vs : List Val) → v ≡ vals.List vs → length vs < 2 ^ 32 → AllByRecursion P vs → IsNest P v
  map : (es : List Entry) → v ≡ vals.Map es → length es < 2 ^ 32 → AreEntries P None es → IsNest P v

-- containers nest at most so deep
unfoldable pub IsCanonical : ℕ → Val → Type 0
IsCanonical zero v = IsPlain v
IsCanonical (suc depth) v = IsPlain v ⊎ IsNest (IsCanonical depth) v
