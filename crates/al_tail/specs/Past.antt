-- What a chain keeps of its transactions, by the Algorand ledger specification: an id stands in it once, and a sender's lease is held up to the greatest last valid round of its holders.
use Rattle.std.specs.Prelude.{ℕ, List, [], ◌∷◌, Bool, false, not, ◌&&◌, ◌||◌, max, nat_le, replicate, if◌then◌else◌}
use Rattle.std.specs.declared.option.Option.{Option}
use Rattle.std.specs.declared.option.Option.TheVariants.{None, Some}
use Rattle.al_base.specs.declared.address.Address.{Address}
use Rattle.al_rows.specs.Rows.{same_bytes}
use Rattle.al_overlay.specs.Accounts.{same_address}
use Rattle.al_txn.specs.declared.txn.Txn.{Txn}
use Rattle.al_txn.specs.Ids.{txid_of}
use Rattle.al_tail.specs.declared.tail.Entry.{Entry}

abbrev pub entry_of : Txn → Entry
entry_of t = record { id = txid_of t; sender = t.sender; lease = t.lease; last = t.last }

-- the entries that may stand in the round or later
abbrev pub live : ℕ → List Entry → List Entry
live round [] = []
live round (e ∷ es) = if nat_le round e.last then e ∷ live round es else live round es

-- whether an entry that may stand in the round or later has the id
abbrev pub has_id : ℕ → List ℕ → List Entry → Bool
has_id round id [] = false
has_id round id (e ∷ es) = nat_le round e.last && same_bytes e.id id || has_id round id es

-- the later of a round and one that may be there
abbrev pub later : ℕ → Option ℕ → ℕ
later last None = last
later last (Some other) = max last other

-- the later of two rounds that may be there
abbrev pub later_of : Option ℕ → Option ℕ → Option ℕ
later_of None b = b
later_of (Some a) b = Some (later a b)

-- the greatest last valid round of the entries that pass a test, none where none passes
abbrev pub greatest_last : (Entry → Bool) → List Entry → Option ℕ
greatest_last test [] = None
greatest_last test (e ∷ es) = if test e then Some (later e.last (greatest_last test es)) else greatest_last test es

-- a lease of zeros is none
abbrev pub is_no_lease : List ℕ → Bool
is_no_lease lease = same_bytes lease (replicate 32 0)

-- whether an entry is of the sender, with the lease, which nobody holds where it is none
abbrev pub holds_lease : Address → List ℕ → Entry → Bool
holds_lease sender lease e = not (is_no_lease e.lease) && (same_address e.sender sender && same_bytes e.lease lease)

-- the last round that a sender's lease is held, none where no entry holds it
abbrev pub held_to : Address → List ℕ → List Entry → Option ℕ
held_to sender lease es = greatest_last (holds_lease sender lease) es

-- a last round that may be there, where the round is at most it
abbrev pub from_round : ℕ → Option ℕ → Option ℕ
from_round round None = None
from_round round (Some last) = if nat_le round last then Some last else None

-- the last round that a sender's lease is held, where it is held in the round
abbrev pub lease_until : ℕ → Address → List ℕ → List Entry → Option ℕ
lease_until round sender lease es = from_round round (held_to sender lease es)
