-- Records determine their values.
use Rattle.std.specs.Prelude.{◌≡◌, List}
use Rattle.al_msgpack.specs.declared.val.Entry.{Entry}
use Rattle.al_record.specs.Columns.{Format, IsRecord}

-- two values with one record are one value
abbrev pub Determines : {X : Type 0} → Format X → Type 0
Determines {X} format = (x y : X) (es : List Entry) → IsRecord format x es → IsRecord format y es → x ≡ y
