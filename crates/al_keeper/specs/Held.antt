-- What keepers in memory hold.
use Rattle.al_keeper.specs.declared.sure.SureTables.{SureTables}
use Rattle.al_keeper.specs.declared.planned.MemTables.{MemTables}
use Rattle.al_keeper.specs.Slots.{rows_in, creators_in}
use Rattle.al_tables.specs.Tables.{Tables}

-- the tables that are held
abbrev pub tables_of : SureTables → Tables
tables_of t = record { round = t.round; rows = rows_in t.rows; creators = creators_in t.creators.slots; history = t.history; levels = t.levels; stage = rows_in t.stage }

-- the tables that are held, where calls may fail
abbrev pub mem_tables_of : MemTables → Tables
mem_tables_of t = tables_of t.tables
