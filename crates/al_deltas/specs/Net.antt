-- The last changes of blocks together, as a batch of a commit.
use Rattle.std.specs.Prelude.{◌≡◌, ℕ, List, [], ◌∷◌, ◌++◌, map, option_map}
use Rattle.std.specs.declared.option.Option.{Option}
use Rattle.std.specs.declared.option.Option.TheVariants.{Some}
use Rattle.std.specs.Map.{lookup}
use Rattle.std.specs.BTreeMap.{is_at}
use Rattle.std.specs.Ordering.{nat_cmp}
use Rattle.al_base.specs.declared.address.Address.{Address}
use Rattle.al_base.specs.declared.key.Key.{Key}
use Rattle.al_base.specs.declared.online.LevelAt.{LevelAt}
use Rattle.al_base.specs.declared.online.OnlineChange.{OnlineChange}
use Rattle.al_base.specs.declared.online.Version.{Version}
use Rattle.al_base.specs.Keys.{key_cmp}
use Rattle.al_deltas.specs.declared.delta.RoundDelta.{RoundDelta}
use Rattle.al_deltas.specs.Queue.{Queue, last_change, last_creator, left_by, rows_after, up_to}
use Rattle.al_rows.specs.declared.stored.Stored.{Stored}
use Rattle.al_rows.specs.Finite.{overlaid}
use Rattle.al_tables.specs.declared.batch.Batch.{Batch}
use Rattle.al_tables.specs.Tables.{CreatorMap, IsBatch, Tables, creator_pair, kept_levels, kept_versions, row_of}

-- these pairs are the last changes of all keys
abbrev pub AreNet : List RoundDelta → List (Key × Option Stored) → Type 0
AreNet ds es = (q : Key) → lookup (is_at (key_cmp q)) es ≡ option_map left_by (last_change q ds)

-- these pairs are the last changes of the creators of all ids
abbrev pub AreNetCreators : List RoundDelta → List (ℕ × Option Address) → Type 0
AreNetCreators ds es = (id : ℕ) → lookup (is_at (nat_cmp id)) es ≡ last_creator id ds

-- what an account is from a round on
abbrev pub version_of : ℕ → OnlineChange → Version
version_of round c = record { address = c.address; round = round; now = c.now }

-- the versions of all accounts that blocks change, round by round
abbrev pub versions_of : List RoundDelta → List Version
versions_of [] = []
versions_of (d ∷ ds) = map (version_of d.round) d.online ++ versions_of ds

-- the level of a round
abbrev pub level_of : RoundDelta → LevelAt
level_of d = record { round = d.round; level = d.header.level }

-- the levels of the rounds of blocks
abbrev pub levels_of : List RoundDelta → List LevelAt
levels_of ds = map level_of ds

-- the creators after blocks
abbrev pub creators_after : List RoundDelta → CreatorMap → CreatorMap
creators_after [] m = m
creators_after (d ∷ ds) m = creators_after ds (overlaid (map creator_pair d.creators) m)

-- the batch of what a queue changes from its base up to a round, the last changes alone; it may be committed
pub record IsBatchOf (to : ℕ) (q : Queue) (b : Batch) : Type 0 where
  pub from_is : b.from ≡ Some q.base
  pub to_is : b.to ≡ to
  pub rows : AreNet (up_to to q) (map row_of b.rows)
  pub creators : AreNetCreators (up_to to q) (map creator_pair b.creators)
  pub history : b.history ≡ versions_of (up_to to q)
  pub levels : b.levels ≡ levels_of (up_to to q)
  pub batch : IsBatch b

-- tables of a queue's base after its blocks up to a round
abbrev pub tables_after : ℕ → Queue → Tables → Tables
tables_after to q t = record {
  round = Some to;
  rows = rows_after (up_to to q) t.rows;
  creators = creators_after (up_to to q) t.creators;
  history = kept_versions to (t.history ++ versions_of (up_to to q));
  levels = kept_levels to (t.levels ++ levels_of (up_to to q));
  stage = t.stage;
}
