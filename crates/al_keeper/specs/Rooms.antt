-- Maps whose entries may stand empty: an empty entry is room that was made, and holds nothing.
use Rattle.std.specs.Prelude.{List, [], ◌∷◌}
use Rattle.std.specs.declared.cmp.Ordering.{Ordering}
use Rattle.std.specs.declared.option.Option.{Option}
use Rattle.std.specs.declared.option.Option.TheVariants.{None, Some}
use Rattle.std.specs.Map.{lookup}
use Rattle.std.specs.BTreeMap.{is_at}

-- what an entry holds, nothing where there is none or it stands empty
abbrev pub flat : {X : Type 0} → Option (Option X) → Option X
flat None = None
flat (Some o) = o

-- one entry before these, where it does not stand empty
abbrev pub and_live : {K X : Type 0} → K → Option X → List (K × X) → List (K × X)
and_live k None es = es
and_live k (Some x) es = (k, x) ∷ es

-- the entries that do not stand empty
abbrev pub live : {K X : Type 0} → List (K × Option X) → List (K × X)
live [] = []
live (e ∷ es) = and_live e.0 e.1 (live es)

-- the entry under a key, empty or not
abbrev pub slot_at : {K X : Type 0} → (K → K → Ordering) → List (K × Option X) → K → Option (Option X)
slot_at R es q = lookup (is_at (R q)) es

-- what is held under a key
abbrev pub live_at : {K X : Type 0} → (K → K → Ordering) → List (K × Option X) → K → Option X
live_at R es q = flat (slot_at R es q)
