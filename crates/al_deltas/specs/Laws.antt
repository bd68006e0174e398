-- The laws of a queue over rows.
use Rattle.std.specs.Prelude.{◌≡◌, ℕ, ◌≤◌, List, option_map}
use Rattle.std.specs.declared.option.Option.{Option}
use Rattle.std.specs.FinMap.{get}
use Rattle.al_base.specs.declared.address.Address.{Address}
use Rattle.al_base.specs.declared.key.Key.{Key}
use Rattle.al_deltas.specs.declared.delta.RoundDelta.{RoundDelta}
use Rattle.al_rows.specs.declared.stored.Stored.{Stored}
use Rattle.al_rows.specs.Finite.{or_below, overlaid}
use Rattle.al_tables.specs.declared.batch.Batch.{Batch}
use Rattle.al_tables.specs.Tables.{CreatorMap, StoredMap, Tables, committed}
use Rattle.al_deltas.specs.Net.{AreNet, AreNetCreators, IsBatchOf, creators_after, tables_after}
use Rattle.al_deltas.specs.Queue.{Queue, last_change, last_creator, left_by, rows_after, up_to, from_round}

-- the rows after blocks are those below, but where the queue has a change
abbrev pub QueueIsRows : Type 0
QueueIsRows = (ds : List RoundDelta) (m : StoredMap) (q : Key) → get (rows_after ds m) q ≡ or_below (option_map left_by (last_change q ds)) (get m q)

-- the queue from a round on, over the rows of that round, shows the same rows as before
abbrev pub RowsGoOn : Type 0
RowsGoOn = (q : Queue) (m : StoredMap) (at to : ℕ) → q.base ≤ at → at ≤ to → rows_after (up_to to (from_round at q)) (rows_after (up_to at q) m) ≡ rows_after (up_to to q) m

-- the last changes of all keys lead to the rows after the blocks
abbrev pub NetIsRows : Type 0
NetIsRows = (ds : List RoundDelta) (es : List (Key × Option Stored)) (m : StoredMap) → AreNet ds es → overlaid es m ≡ rows_after ds m

-- the last changes of all creators lead to the creators after the blocks
abbrev pub NetIsCreators : Type 0
NetIsCreators = (ds : List RoundDelta) (es : List (ℕ × Option Address)) (m : CreatorMap) → AreNetCreators ds es → overlaid es m ≡ creators_after ds m

-- the creators after blocks are those below, but where the queue has a change
abbrev pub QueueIsCreators : Type 0
QueueIsCreators = (ds : List RoundDelta) (m : CreatorMap) (id : ℕ) → get (creators_after ds m) id ≡ or_below (last_creator id ds) (get m id)

-- the queue from a round on, over the creators of that round, shows the same creators as before
abbrev pub CreatorsGoOn : Type 0
CreatorsGoOn = (q : Queue) (m : CreatorMap) (at to : ℕ) → q.base ≤ at → at ≤ to → creators_after (up_to to (from_round at q)) (creators_after (up_to at q) m) ≡ creators_after (up_to to q) m

-- the commit of a queue's batch leads to the tables after its blocks
abbrev pub BatchIsTables : Type 0
BatchIsTables = (q : Queue) (to : ℕ) (b : Batch) (t : Tables) → IsBatchOf to q b → committed b t ≡ tables_after to q t
