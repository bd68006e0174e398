-- How tables are told apart.
use Rattle.std.specs.Prelude.{ℕ, List, refl}
use Rattle.std.specs.Coded.{Coded, code_by, coded×, coded_ℕ, coded_list, coded_option}
use Rattle.std.specs.FinMap as fin
use Rattle.std.specs.declared.option.Option.{Option}
use Rattle.al_base.specs.contracts.address.Address as address
use Rattle.al_base.specs.contracts.key.Key as key
use Rattle.al_base.specs.contracts.online.LevelAt as level
use Rattle.al_base.specs.contracts.online.Version as version
use Rattle.al_base.specs.declared.online.LevelAt.{LevelAt}
use Rattle.al_base.specs.declared.online.Version.{Version}
use Rattle.al_rows.specs.contracts.stored.Stored as stored
use Rattle.al_tables.specs.Tables.{CreatorMap, StoredMap, Tables}

abbrev rows_code : Coded StoredMap
rows_code = fin.code key.the_row.coded stored.the_row.coded

-- tables are stored as the tuple of their fields
abbrev pub tables_code : Coded Tables
tables_code =
    code_by (Option ℕ × (StoredMap × (CreatorMap × (List Version × (List LevelAt × StoredMap)))))
    (coded× (coded_option coded_ℕ) (coded× rows_code (coded× (fin.code coded_ℕ address.the_row.coded) (coded× (coded_list version.the_row.coded) (coded× (coded_list level.the_row.coded) rows_code)))))
    (λ t. (t.round, (t.rows, (t.creators, (t.history, (t.levels, t.stage))))))
    (λ p. record { round = p.0; rows = p.1.0; creators = p.1.1.0; history = p.1.1.1.0; levels = p.1.1.1.1.0; stage = p.1.1.1.1.1 })
    (λ _. refl)
