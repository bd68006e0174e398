-- What the readers of parts say: the part of a row that stands in entries.
use Rattle.std.specs.Prelude.{Bool, true, false, List, Option, Some, None}
use Rattle.al_msgpack.specs.declared.val.Entry.{Entry}
use Rattle.al_record.specs.Columns.{FieldOf, AllShown}

-- The part is there exactly where this is said, and then each of its fields is what stands under its name.
abbrev pub ShowsPart : {X : Type 0} → List (FieldOf X) → Bool → Option X → List Entry → Type 0
ShowsPart fs false None es = Unit {0}
ShowsPart fs false (Some x) es = ⊥
ShowsPart fs true None es = ⊥
ShowsPart fs true (Some x) es = AllShown fs x es
