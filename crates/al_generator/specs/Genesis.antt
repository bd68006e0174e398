-- The genesis of each generated chain.
use Rattle.std.specs.Prelude.{ℕ, List, ◌∷◌, codes, map, replicate}
use Rattle.std.specs.List.{range_with_len}
use Rattle.std.proofs.Common.{lit≤}
use Rattle.al_base.specs.declared.account.Status.{Status}
use Rattle.al_base.specs.declared.account.Status.TheVariants.{Offline, Online, NotParticipating}
use Rattle.al_base.specs.declared.address.Address.{Address}
use Rattle.al_digest.specs.Digests.{digest_of}
use Rattle.al_digest.specs.declared.hashing.Prefix.TheVariants as prefixes
use Rattle.al_genesis.specs.Genesis.{first_header, first_row, genesis}
use Rattle.al_genesis.specs.declared.genesis.Genesis.{Genesis}
use Rattle.al_genesis.specs.declared.genesis_fields.FirstAccount.{FirstAccount}
use Rattle.al_genesis.specs.declared.genesis_fields.GenesisRecord.{GenesisRecord}
use Rattle.al_msgpack.specs.Spelled.{spelled}
use Rattle.al_msgpack.specs.declared.val.Val.TheVariants as values
use Rattle.al_generator.specs.Draws.{user}
use Rattle.al_generator.specs.declared.genesis.Opening.{Opening}

abbrev pub sink : Address
sink = record { 0 = replicate 32 1 }

abbrev pub pool : Address
pool = record { 0 = replicate 32 2 }

abbrev pub sink_opening : Opening
sink_opening = record { address = sink; status = NotParticipating; balance = 1000000 }

abbrev pub pool_opening : Opening
pool_opening = record { address = pool; status = NotParticipating; balance = 1000000000 }

-- user i is offline, and has a million Algos
abbrev pub user_opening : ℕ → Opening
user_opening i = record { address = user i; status = Offline; balance = 1000000000000 }

-- sink, pool and 32 users, in the order of their addresses
abbrev pub openings : List Opening
openings = sink_opening ∷ pool_opening ∷ map user_opening (range_with_len 0 32)

-- the number of a status in the record
abbrev pub status_number : Status → ℕ
status_number Offline = 0
status_number Online = 1
status_number NotParticipating = 2

-- an account in the record, without keys
abbrev pub first_account : Opening → FirstAccount
first_account o = record {
  address = o.address;
  row = record {
    status = status_number o.status;
    balance = o.balance;
    vote = replicate 32 0;
    selection = replicate 32 0;
    sprf = replicate 64 0;
    first = 0;
    last = 0;
    dilution = 0;
  };
}

abbrev pub generated_record : GenesisRecord
generated_record = record {
  accounts = map first_account openings;
  catch_interval = 800;
  sink = sink;
  id = codes "gen";
  interval = 100;
  pool = pool;
  ts = 0;
  catch_interval_most = lit≤ tt;
  interval_most = lit≤ tt;
}

-- the spelling of the record
unfoldable pub generated_bytes : List ℕ
generated_bytes = spelled (values.Map (genesis.write generated_record))

-- the genesis that the record says
abbrev pub generated_genesis : Genesis
generated_genesis = record {
  chain = record {
    special = record { sink = sink; pool = pool };
    hash = digest_of prefixes.Genesis generated_bytes;
    id = codes "gen";
    interval = 100;
    catch_interval = 800;
    interval_some = lit≤ tt;
    interval_most = lit≤ tt;
    catch_interval_most = lit≤ tt;
  };
  header = first_header generated_bytes generated_record;
  accounts = map first_row (map first_account openings);
}
