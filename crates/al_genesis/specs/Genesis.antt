-- The genesis record of this program: what it says, and what makes it a good one.
use Rattle.std.specs.Prelude.{◌≡◌, ◌==◌, ℕ, suc, ◌^◌, ◌≤◌, ◌<◌, Bool, true, false, not, ◌&&◌, nat_lt, List, [], ◌∷◌, length, map, take, replicate, sum, codes, Some, None, Result, Ok, Err, if◌then◌else◌}
use Rattle.std.specs.Str.{bytes_eq}
use Rattle.std.specs.List.{list_any}
use Rattle.al_base.specs.declared.account.Status.{Status}
use Rattle.al_base.specs.declared.account.Status.TheVariants.{Offline, Online, NotParticipating}
use Rattle.al_base.specs.declared.address.Address.{Address}
use Rattle.al_block.specs.declared.header.Header.{Header}
use Rattle.al_digest.specs.Digests.{digest_of}
use Rattle.al_digest.specs.declared.hashing.Prefix.TheVariants as prefixes
use Rattle.al_msgpack.specs.declared.val.Val.{Val, out-Val}
use Rattle.al_msgpack.specs.declared.val.Val.TheVariants as values
use Rattle.al_msgpack.specs.Places.{IsSpelling, Means}
use Rattle.al_msgpack.specs.Rising.{rises}
use Rattle.al_record.specs.declared.fault.Fault.{Fault}
use Rattle.al_record.specs.declared.fault.Fault.TheVariants.{Field, Range}
use Rattle.al_record.specs.Columns.{FieldOf, Format, number, up_to, text, array, record_field, records_field, table, member_open}
use Rattle.al_rows.specs.Limits.{max_balance}
use Rattle.al_rows.specs.Rows.{no_account}
use Rattle.al_genesis.specs.declared.genesis_fields.FirstRow.{FirstRow}
use Rattle.al_genesis.specs.declared.genesis_fields.FirstAccount.{FirstAccount}
use Rattle.al_genesis.specs.declared.genesis_fields.GenesisRecord.{GenesisRecord}
use Rattle.al_genesis.specs.declared.genesis.GenesisRow.{GenesisRow}
use Rattle.al_genesis.specs.declared.genesis.Genesis.{Genesis}
use Rattle.al_genesis.specs.declared.genesis.GenesisFault.{GenesisFault}
use Rattle.al_genesis.specs.declared.genesis.GenesisFault.TheVariants as faults

-- ---- the record

abbrev pub row_fields : List (FieldOf FirstRow)
row_fields =
    up_to (codes "a") 2 (λ r. r.status) ∷
    up_to (codes "b") max_balance (λ r. r.balance) ∷
    array (codes "e") 32 (λ r. r.vote) ∷
    array (codes "f") 32 (λ r. r.selection) ∷
    array (codes "g") 64 (λ r. r.sprf) ∷
    number (codes "h") (λ r. r.first) ∷
    number (codes "i") (λ r. r.last) ∷
    number (codes "j") (λ r. r.dilution) ∷
    []

abbrev pub row : Format FirstRow
row = table row_fields

abbrev pub account_fields : List (FieldOf FirstAccount)
account_fields =
    array (codes "addr") 32 (λ a. a.address.0) ∷
    record_field (codes "row") row (λ a. a.row) ∷
    []

abbrev pub account : Format FirstAccount
account = table account_fields

abbrev pub genesis_fields : List (FieldOf GenesisRecord)
genesis_fields =
    records_field (codes "alloc") None account (λ g. g.accounts) ∷
    up_to (codes "cpi") (2 ^ 62) (λ g. g.catch_interval) ∷
    array (codes "fees") 32 (λ g. g.sink.0) ∷
    text (codes "id") (λ g. g.id) ∷
    up_to (codes "intv") (2 ^ 62) (λ g. g.interval) ∷
    array (codes "rwd") 32 (λ g. g.pool.0) ∷
    number (codes "ts") (λ g. g.ts) ∷
    []

abbrev pub genesis : Format GenesisRecord
genesis = table genesis_fields

-- ---- what makes it a good one

-- the least balance of an account that has nothing else, in microAlgos
abbrev pub least_balance : ℕ
least_balance = 100000

abbrev pub addresses_of : List FirstAccount → List (List ℕ)
addresses_of accounts = map (λ a. a.address.0) accounts

-- the account has this address
abbrev pub is_at : Address → FirstAccount → Bool
is_at who a = bytes_eq a.address.0 who.0

-- an account of this address is there, and does not participate
abbrev pub has_special : Address → List FirstAccount → Bool
has_special who accounts = list_any (λ a. is_at who a && (a.row.status == 2)) accounts

-- sink and pool are two such accounts
abbrev pub has_both : Address → Address → List FirstAccount → Bool
has_both sink pool accounts = not (bytes_eq sink.0 pool.0) && (has_special sink accounts && has_special pool accounts)

-- the balance at an address
abbrev pub balance_of : Address → List FirstAccount → ℕ
balance_of who [] = 0
balance_of who (a ∷ accounts) = if is_at who a then a.row.balance else balance_of who accounts

-- an account other than sink and pool that has too little
abbrev pub is_poor : Address → Address → FirstAccount → Bool
is_poor sink pool a = not (is_at sink a) && (not (is_at pool a) && nat_lt a.row.balance least_balance)

abbrev pub has_poor : Address → Address → List FirstAccount → Bool
has_poor sink pool accounts = list_any (is_poor sink pool) accounts

abbrev pub money_of : List FirstAccount → ℕ
money_of accounts = sum (map (λ a. a.row.balance) accounts)

-- the addresses before the place rise, and do no more with the one at it
pub record IsUnordered (accounts : List FirstAccount) (place : ℕ) : Type 0 where
  pub within : place < length accounts
  pub before : rises (addresses_of (take place accounts)) ≡ true
  pub there : rises (addresses_of (take (suc place) accounts)) ≡ false

-- the account at the place is the first that has too little
pub record IsFirstPoor (sink pool : Address) (accounts : List FirstAccount) (place : ℕ) : Type 0 where
  pub within : place < length accounts
  pub before : list_any (is_poor sink pool) (take place accounts) ≡ false
  pub there : list_any (is_poor sink pool) (take (suc place) accounts) ≡ true

-- The conditions in their order, each with those before it.
abbrev pub IsOrdered : List FirstAccount → Type 0
IsOrdered accounts = rises (addresses_of accounts) ≡ true

abbrev pub HasSpecials : Address → Address → List FirstAccount → Type 0
HasSpecials sink pool accounts = IsOrdered accounts × (has_both sink pool accounts ≡ true)

abbrev pub HasPool : Address → Address → List FirstAccount → Type 0
HasPool sink pool accounts = HasSpecials sink pool accounts × (least_balance ≤ balance_of pool accounts)

abbrev pub HasNoPoor : Address → Address → List FirstAccount → Type 0
HasNoPoor sink pool accounts = HasPool sink pool accounts × (has_poor sink pool accounts ≡ false)

abbrev pub IsSound : Address → Address → List FirstAccount → Type 0
IsSound sink pool accounts = HasNoPoor sink pool accounts × (money_of accounts ≤ max_balance)

-- the first condition that does not hold
abbrev pub Breaks : Address → Address → List FirstAccount → GenesisFault → Type 0
Breaks sink pool accounts (faults.Order place) = IsUnordered accounts place
Breaks sink pool accounts faults.Special = IsOrdered accounts × (has_both sink pool accounts ≡ false)
Breaks sink pool accounts (faults.PoolLow balance) = HasSpecials sink pool accounts × (balance ≡ balance_of pool accounts) × (balance < least_balance)
Breaks sink pool accounts (faults.Minimum place) = HasPool sink pool accounts × IsFirstPoor sink pool accounts place
Breaks sink pool accounts faults.TotalLarge = HasNoPoor sink pool accounts × (max_balance < money_of accounts)
Breaks sink pool accounts f = ⊥

abbrev pub IsGood : GenesisRecord → Type 0
IsGood g = IsSound g.sink g.pool g.accounts

abbrev pub IsRefused : GenesisRecord → GenesisFault → Type 0
IsRefused g f = Breaks g.sink g.pool g.accounts f

abbrev pub Checks : GenesisRecord → Result (Unit {0}) GenesisFault → Type 0
Checks g (Ok u) = IsGood g
Checks g (Err f) = IsRefused g f

-- ---- what it says

abbrev pub status_of : ℕ → Status
status_of n = if n == 0 then Offline else if n == 1 then Online else NotParticipating

-- an account's row: what the record leaves out is zero
abbrev pub first_row : FirstAccount → GenesisRow
first_row a = record {
  address = a.address;
  row = record no_account { status = status_of a.row.status; balance = a.row.balance; vote = a.row.vote; selection = a.row.selection; sprf = a.row.sprf; first = a.row.first; last = a.row.last; dilution = a.row.dilution };
}

-- the rounds that a reward rate stays for
abbrev pub interval_of : ℕ → ℕ
interval_of n = if n == 0 then 500000 else n

abbrev pub zeros : List ℕ
zeros = replicate 32 0

-- the header of round 0
abbrev pub first_header : List ℕ → GenesisRecord → Header
first_header input g = record {
  round = 0;
  prev = zeros;
  ts = g.ts;
  genesis_hash = digest_of prefixes.Genesis input;
  sink = g.sink;
  pool = g.pool;
  level = 0;
  rate = 0;
  residue = 0;
  recalc = 1;
  counter = 0;
  payset = zeros;
  expired = [];
}

-- the genesis that a record in these bytes says
pub record IsGenesisOf (input : List ℕ) (r : GenesisRecord) (g : Genesis) : Type 0 where
  pub sink : g.chain.special.sink ≡ r.sink
  pub pool : g.chain.special.pool ≡ r.pool
  pub hash : g.chain.hash ≡ digest_of prefixes.Genesis input
  pub id : g.chain.id ≡ r.id
  pub interval : g.chain.interval ≡ interval_of r.interval
  pub catch_interval : g.chain.catch_interval ≡ r.catch_interval
  pub header : g.header ≡ first_header input r
  pub accounts : g.accounts ≡ map first_row r.accounts

-- ---- what an input means

-- the input spells this record, and the record has no fault
pub record IsRecordOf (input : List ℕ) (r : GenesisRecord) : Type 0 where
  pub spells : IsSpelling (values.Map (genesis.write r)) input
  pub sound : genesis.fault (genesis.write r) ≡ None

-- the input spells a value that is no record, with this first fault
pub record IsNoRecord (input : List ℕ) (f : Fault) : Type 0 where
  pub value : Val
  pub spells : IsSpelling value input
  pub fault : member_open genesis.fault (out-Val value) ≡ Some f

-- the input spells a good record, which says this genesis
pub record IsGenesis (input : List ℕ) (g : Genesis) : Type 0 where
  pub fields : GenesisRecord
  pub is : IsRecordOf input fields
  pub good : IsGood fields
  pub says : IsGenesisOf input fields g

-- the input spells a record that is refused so
pub record IsRefusal (input : List ℕ) (f : GenesisFault) : Type 0 where
  pub fields : GenesisRecord
  pub is : IsRecordOf input fields
  pub refused : IsRefused fields f

abbrev pub GenesisMeans : List ℕ → Result Genesis GenesisFault → Type 0
GenesisMeans input (Ok g) = IsGenesis input g
GenesisMeans input (Err (faults.Decode f)) = Means input (Err f)
GenesisMeans input (Err (faults.Field name)) = IsNoRecord input (Field name)
GenesisMeans input (Err (faults.Range name)) = IsNoRecord input (Range name)
GenesisMeans input (Err faults.Memory) = ⊥
GenesisMeans input (Err f) = IsRefusal input f

-- the answer is right, unless memory ran out
abbrev pub GenesisMeansUnless : List ℕ → Result Genesis GenesisFault → Type 0
GenesisMeansUnless input (Err faults.Memory) = Unit {0}
GenesisMeansUnless input (Ok g) = IsGenesis input g
GenesisMeansUnless input (Err f) = GenesisMeans input (Err f)

-- the answer that is owed, unless memory ran out
abbrev pub GenesisAnswers : Result Genesis GenesisFault → Result Genesis GenesisFault → Type 0
GenesisAnswers (Err faults.Memory) r = Unit {0}
GenesisAnswers (Ok g) r = r ≡ Ok g
GenesisAnswers (Err f) r = r ≡ Err f

-- the number that a fault is shown by
abbrev pub number_of : GenesisFault → ℕ
number_of (faults.Decode f) = 1
number_of (faults.Field name) = 2
number_of (faults.Range name) = 3
number_of (faults.Order place) = 4
number_of faults.Special = 5
number_of (faults.PoolLow balance) = 6
number_of (faults.Minimum place) = 7
number_of faults.TotalLarge = 8
number_of faults.Memory = 9
