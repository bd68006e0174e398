-- What the tables of a round hold, and what a commit, the stage and its adoption do to them.
use Rattle.std.specs.Prelude.{◌≡◌, ℕ, ◌+◌, ◌≤◌, ◌^◌, nat_le, nat_lt, List, [], ◌++◌, map, reverse, filter, not, Bool, ◌&&◌, All, IfSome, ⊤}
use Rattle.std.specs.List.{list_any}
use Rattle.std.specs.declared.option.Option.{Option}
use Rattle.std.specs.declared.option.Option.TheVariants.{None, Some}
use Rattle.std.specs.Ordering.{nat_cmp}
use Rattle.std.specs.FinMap.{FinMap, from_entries}
use Rattle.al_base.specs.declared.address.Address.{Address}
use Rattle.al_base.specs.declared.key.Key.{Key}
use Rattle.al_base.specs.declared.key.CreatorChange.{CreatorChange}
use Rattle.al_base.specs.declared.online.Version.{Version}
use Rattle.al_base.specs.declared.online.LevelAt.{LevelAt}
use Rattle.al_base.specs.Keys.{key_cmp}
use Rattle.al_rows.specs.declared.stored.Keyed.{Keyed}
use Rattle.al_rows.specs.declared.stored.Stored.{Stored}
use Rattle.al_rows.specs.Above.{IsStored}
use Rattle.al_rows.specs.Finite.{overlaid}
use Rattle.al_rows.specs.Rows.{same_bytes}
use Rattle.al_tables.specs.declared.batch.Batch.{Batch}
use Rattle.al_tables.specs.declared.batch.BatchRow.{BatchRow}

-- the rows under their keys, with the rounds of their last changes
abbrev pub StoredMap : Type 0
StoredMap = FinMap key_cmp Stored

-- the creators of assets and applications under their ids
abbrev pub CreatorMap : Type 0
CreatorMap = FinMap nat_cmp Address

pub record Tables : Type 0 where
  -- the round that the tables stand at, none where they stand at none
  pub round : Option ℕ
  pub rows : StoredMap
  pub creators : CreatorMap
  -- what accounts were to consensus, and the reward levels, of the last rounds
  pub history : List Version
  pub levels : List LevelAt
  -- rows that are to become the tables'
  pub stage : StoredMap

-- tables that hold nothing
abbrev pub no_tables : Tables
no_tables = record { round = None; rows = from_entries []; creators = from_entries []; history = []; levels = []; stage = from_entries [] }

-- what a batch leaves under a key
abbrev pub row_of : BatchRow → Key × Option Stored
row_of r = (r.key, r.stored)

-- a change of a creator as a pair
abbrev pub creator_pair : CreatorChange → ℕ × Option Address
creator_pair c = (c.id, c.now)

-- what a staged row leaves under its key
abbrev pub staged_of : Keyed → Key × Option Stored
staged_of r = (r.key, Some r.stored)

-- w is a later version of the account of v, and already of a round that every round from `to` - 320 on sees
abbrev pub replaces : ℕ → Version → Version → Bool
replaces to v w = same_bytes v.address.0 w.address.0 && (nat_lt v.round w.round && nat_le (w.round + 320) to)

-- the versions that some round from `to` - 320 on needs
abbrev pub kept_versions : ℕ → List Version → List Version
kept_versions to vs = filter (λ v. not (list_any (replaces to v) vs)) vs

abbrev pub is_kept_level : ℕ → LevelAt → Bool
is_kept_level to l = nat_le to (l.round + 320)

-- the levels of the rounds from `to` - 320 on
abbrev pub kept_levels : ℕ → List LevelAt → List LevelAt
kept_levels to ls = filter (is_kept_level to) ls

-- the tables with a batch over them
abbrev pub added : Batch → Tables → Tables
added b t = record {
  round = Some b.to;
  rows = overlaid (map row_of b.rows) t.rows;
  creators = overlaid (map creator_pair b.creators) t.creators;
  history = kept_versions b.to (t.history ++ b.history);
  levels = kept_levels b.to (t.levels ++ b.levels);
  stage = t.stage;
}

-- what a batch begins from: the tables, or nothing where it replaces everything
abbrev pub begun_from : Option ℕ → Tables → Tables
begun_from None t = no_tables
begun_from (Some round) t = t

-- the tables after a commit
abbrev pub committed : Batch → Tables → Tables
committed b t = added b (begun_from b.from t)

-- the batch begins from these tables, or replaces everything
abbrev pub IsFrom : Option ℕ → Tables → Type 0
IsFrom None t = ⊤
IsFrom (Some from) t = t.round ≡ Some from

-- no version is of a round above 2^62
abbrev pub AreVersions : List Version → Type 0
AreVersions vs = All (λ v. v.round ≤ 2 ^ 62) vs

-- no level is of a round above 2^62
abbrev pub AreLevels : List LevelAt → Type 0
AreLevels ls = All (λ l. l.round ≤ 2 ^ 62) ls

-- a batch that may be committed: each row may be stored under its key, and no round is above 2^62
pub record IsBatch (b : Batch) : Type 0 where
  pub most : b.to ≤ 2 ^ 62
  pub stored : All (λ r. IfSome r.stored (IsStored r.key)) b.rows
  pub versions : AreVersions b.history
  pub level_rounds : AreLevels b.levels

-- the tables with rows added to the stage; a later row of a key takes the place of an earlier one
abbrev pub staged : List Keyed → Tables → Tables
staged rows t = record t { stage = overlaid (reverse (map staged_of rows)) t.stage }

-- the tables without a stage
abbrev pub unstaged : Tables → Tables
unstaged t = record t { stage = from_entries [] }

-- the tables after the staged rows became theirs, at a round, with this history and these levels and creators
abbrev pub adopted : ℕ → List Version → List LevelAt → List CreatorChange → Tables → Tables
adopted round history levels creators t = record { round = Some round; rows = t.stage; creators = overlaid (map creator_pair creators) (from_entries []); history = history; levels = levels; stage = from_entries [] }
