-- The tables and contents of the code.
use Rattle.std.specs.Prelude.{ℕ, ◌+◌, List, [], ◌∷◌, map, Option, None, Some}
use Rattle.al_msgpack.specs.declared.val.Val.{Val}
use Rattle.al_msgpack.specs.declared.val.Val.TheVariants as values
use Rattle.al_msgpack.specs.declared.val.Entry.{Entry}
use Rattle.al_record.specs.declared.shape.Column.{Column}
use Rattle.al_record.specs.declared.write.Content.{Content}
use Rattle.al_record.specs.declared.write.Content.TheVariants as contents
use Rattle.al_record.specs.Columns.{Rule, flat, number_put, flag_put, text_put, bytes_put, array_put, list_put, with_entry}

-- the rules of a table of the code
abbrev pub table_of : List Column → List Rule
table_of cs = map (λ c. flat c.0.now c.1) cs

abbrev pub put_of : Content → Option Val
put_of (contents.Number n) = number_put n
put_of (contents.Flag b) = flag_put b
put_of (contents.Word w) = text_put w.now
put_of (contents.Text b) = text_put b.now
put_of (contents.Bytes b) = bytes_put b.now
put_of (contents.Slice b) = bytes_put b.now
put_of (contents.Array b) = array_put 32 b.now
put_of (contents.Wide b) = array_put 64 b.now
put_of (contents.Addresses xs) = list_put (map (λ a. values.Bin a) (map (λ a. a.0) xs.now))

-- the value of a content, zero or not
abbrev pub val_of : Content → Val
val_of (contents.Number n) = values.Num n
val_of (contents.Flag b) = values.Flag b
val_of (contents.Word w) = values.Str w.now
val_of (contents.Text b) = values.Str b.now
val_of (contents.Bytes b) = values.Bin b.now
val_of (contents.Slice b) = values.Bin b.now
val_of (contents.Array b) = values.Bin b.now
val_of (contents.Wide b) = values.Bin b.now
val_of (contents.Addresses xs) = values.List (map (λ a. values.Bin a) (map (λ a. a.0) xs.now))

-- how many values there are
abbrev pub count_some : List (Option Val) → ℕ
count_some [] = 0
count_some (None ∷ os) = count_some os
count_some (Some v ∷ os) = count_some os + 1

-- values under the names of rules
abbrev pub listed : List Rule → List (Option Val) → List Entry
listed [] os = []
listed (r ∷ rs) [] = []
listed (r ∷ rs) (o ∷ os) = with_entry r.name o (listed rs os)
