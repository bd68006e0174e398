-- What the maps of tables in memory hold.
use Rattle.std.specs.Prelude.{ℕ, List, IfSome, IsSome}
use Rattle.std.specs.declared.option.Option.{Option}
use Rattle.std.specs.BTreeMap.{BTreeMap}
use Rattle.std.specs.Ordering.{nat_cmp}
use Rattle.std.specs.FinMap.{from_entries}
use Rattle.al_base.specs.declared.address.Address.{Address}
use Rattle.al_base.specs.declared.key.Key.{Key}
use Rattle.al_base.specs.Keys.{key_cmp}
use Rattle.al_rows.specs.declared.stored.Stored.{Stored}
use Rattle.al_rows.specs.Above.{IsStored}
use Rattle.al_tables.specs.Tables.{CreatorMap, StoredMap}
use Rattle.al_keeper.specs.Rooms.{live, live_at, slot_at}

-- the entries of rows, which may stand empty
abbrev pub RowList : Type 0
RowList = List (Key × Option Stored)

-- a tree of creators, whose entries may stand empty
abbrev pub CreatorTree : Type 0
CreatorTree = BTreeMap ℕ (Option Address)

-- the rows that are held
abbrev pub rows_in : RowList → StoredMap
rows_in es = from_entries (live es)

-- the creators that are held
abbrev pub creators_in : CreatorTree → CreatorMap
creators_in m = from_entries (live m.entries)

-- there is an entry under the key, empty or not
abbrev pub HasRow : RowList → Key → Type 0
HasRow es q = IsSome (slot_at key_cmp es q)

-- there is an entry under the number, empty or not
abbrev pub HasCreator : CreatorTree → ℕ → Type 0
HasCreator m q = IsSome (slot_at nat_cmp m.entries q)

-- each row that is held may be kept under its key
abbrev pub AreKept : RowList → Type 0
AreKept es = (q : Key) → IfSome (live_at key_cmp es q) (IsStored q)
