use Rattle.std.specs.Prelude.{ℕ, List, take}
use Rattle.al_base.specs.declared.name.BoxName.{BoxName}

-- the bytes of a name
abbrev pub name_of : BoxName → List ℕ
name_of n = take n.len n.bytes
