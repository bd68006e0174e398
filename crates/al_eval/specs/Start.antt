-- The state that a genesis begins.
use Rattle.std.specs.Prelude.{List, [], ◌∷◌, map}
use Rattle.std.specs.FinMap.{FinMap, empty, from_entries, insert}
use Rattle.al_base.specs.declared.key.Key.TheVariants.{Account}
use Rattle.al_base.specs.declared.online.OnlineChange.{OnlineChange}
use Rattle.al_base.specs.Keys.{key_cmp}
use Rattle.std.specs.declared.option.Option.TheVariants.{Some}
use Rattle.al_block.specs.declared.header.Header.{Header}
use Rattle.al_overlay.specs.Accounts.{share_of}
use Rattle.al_moves.specs.Online.{online_of}
use Rattle.al_rewards.specs.declared.totals.Totals.{Totals}
use Rattle.al_rewards.specs.Totals.{and_share, no_totals}
use Rattle.al_rows.specs.declared.row.Row.TheVariants as row
use Rattle.al_rows.specs.declared.stored.Stored.{Stored}
use Rattle.al_rows.specs.Finite.{set_at}
use Rattle.al_txn.specs.declared.chain.Chain.{Chain}
use Rattle.al_rows.specs.Rows.{bare, unless_zero}
use Rattle.al_genesis.specs.declared.genesis.GenesisRow.{GenesisRow}
use Rattle.al_genesis.specs.declared.genesis.Genesis.{Genesis}
use Rattle.al_deltas.specs.Queue.{stored_at}
use Rattle.al_eval.specs.Snaps.{snap_of}
use Rattle.al_eval.specs.State.{State}

-- the rows with an account's, which no block has changed; a zero row is none
abbrev pub with_account : FinMap key_cmp Stored → GenesisRow → FinMap key_cmp Stored
with_account m a = set_at m (Account a.address) (stored_at 0 (unless_zero (row.Account a.row)))

-- the same with those of more accounts
abbrev pub with_accounts : FinMap key_cmp Stored → List GenesisRow → FinMap key_cmp Stored
with_accounts m [] = m
with_accounts m (a ∷ more) = with_accounts (with_account m a) more

abbrev pub start_rows : List GenesisRow → FinMap key_cmp Stored
start_rows accounts = with_accounts (from_entries []) accounts

-- totals with those of accounts more
abbrev pub and_accounts : Totals → List GenesisRow → Totals
and_accounts t [] = t
and_accounts t (a ∷ more) = and_accounts (and_share t (Some (share_of a.row))) more

-- what the accounts have together in round 0
abbrev pub start_totals : List GenesisRow → Totals
start_totals accounts = and_accounts (no_totals 0) accounts

-- what consensus knows of each account
abbrev pub start_online : List GenesisRow → List OnlineChange
start_online accounts = map (λ a. record { address = a.address; now = online_of a.row }) accounts

-- a state of round 0 with these rows
abbrev pub first_state : Chain → Header → FinMap key_cmp Stored → State
first_state chain header rows = record { chain = chain; header = header; rows = rows; past = []; snaps = insert empty 0 (snap_of header.level (bare rows)) }

-- the state of round 0
abbrev pub start : Genesis → State
start g = first_state g.chain g.header (start_rows g.accounts)
