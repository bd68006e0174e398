-- Registrations of keys, and keys that have expired, by the Algorand ledger specification.
use Rattle.std.specs.Prelude.{◌≡◌, ⊤, ◌⊎◌, ℕ, ◌+◌, List, Bool, true, false, not, ◌&&◌, nat_eq, nat_lt, if◌then◌else◌, replicate}
use Rattle.std.specs.declared.option.Option.{Option}
use Rattle.std.specs.declared.option.Option.TheVariants.{None, Some}
use Rattle.std.specs.declared.result.Result.{Result}
use Rattle.std.specs.declared.result.Result.TheVariants.{Ok, Err}
use Rattle.al_base.specs.declared.account.Status.{Status}
use Rattle.al_base.specs.declared.account.Status.TheVariants.{NotParticipating, Offline, Online}
use Rattle.al_base.specs.declared.address.Address.{Address}
use Rattle.al_rewards.specs.Pending.{is_apart}
use Rattle.al_rows.specs.declared.account.AccountRow.{AccountRow}
use Rattle.al_rows.specs.Rows.{RowMap, account, same_bytes, set_account}
use Rattle.al_bodies.specs.declared.body.KeyReg.{KeyReg}
use Rattle.al_overlay.specs.declared.rule.Rule.{Rule}
use Rattle.al_overlay.specs.declared.rule.Stop.{Stop}
use Rattle.al_overlay.specs.declared.rule.Stop.TheVariants as stop
use Rattle.al_overlay.specs.Rules.{plain_rule}
use Rattle.al_overlay.specs.Accounts.{earned, moved}
use Rattle.al_moves.specs.Money.{money}
use Rattle.al_moves.specs.Pay.{rekeyed}
use Rattle.al_overlay.specs.Work.{IsCounted, IsFixed, IsNoRule, Starts, Worked}

-- a key that is not there
abbrev pub no_key : List ℕ
no_key = replicate 32 0

-- a registration without keys: the voting key, the selection key and the dilution are all zero, where form rule 11 asks that all are or none is
abbrev pub has_no_keys : KeyReg → Bool
has_no_keys k = same_bytes k.vote no_key && same_bytes k.selection no_key && nat_eq k.dilution 0

-- the account with a status, and with no keys
abbrev pub without_keys : Status → AccountRow → AccountRow
without_keys status r = record r { status = status; vote = no_key; selection = no_key; sprf = replicate 64 0; first = 0; last = 0; dilution = 0 }

-- the account online with these keys
abbrev pub with_keys : KeyReg → AccountRow → AccountRow
with_keys k r = record r { status = Online; vote = k.vote; selection = k.selection; sprf = k.sprf; first = k.first; last = k.last; dilution = k.dilution }

-- where a registration without keys leaves an account
abbrev pub left_status : KeyReg → Status
left_status k = if k.nonpart then NotParticipating else Offline

-- 45, 56: the keys vote in a round after this one, and from the next round on at the latest
abbrev pub registered : ℕ → Address → KeyReg → AccountRow → RowMap → Result RowMap Rule
registered round who k r m =
    if has_no_keys k then Ok (set_account m who (without_keys (left_status k) r))
    else if not (nat_lt round k.last) then Err (plain_rule 45)
    else if nat_lt (round + 1) k.first then Err (plain_rule 56)
    else Ok (set_account m who (with_keys k r))

-- 44: an account that takes part no more registers nothing
unfoldable pub keyed : ℕ → Address → KeyReg → RowMap → Result RowMap Rule
keyed round who k m = if is_apart (account m who).status then Err (plain_rule 44) else registered round who k (account m who) m

-- ---- keys that have expired

abbrev pub is_online : Status → Bool
is_online Offline = false
is_online Online = true
is_online NotParticipating = false

-- the account is online, and the last round of its keys lies before this one: 0 is no last round
abbrev pub is_expired : ℕ → AccountRow → Bool
is_expired round r = is_online r.status && nat_lt 0 r.last && nat_lt r.last round

-- an account whose keys have expired goes offline, and nothing else of it changes: its pending rewards are not given to it
unfoldable pub expired : ℕ → Address → RowMap → Option RowMap
expired round who m = if is_expired round (account m who) then Some (set_account m who (without_keys Offline (account m who))) else None

-- true over the rows that are due, and false over the same rows where none are
abbrev pub GivesExpiry : {F : Type 0} → Option RowMap → Result Bool (Stop F) → RowMap → RowMap → Type 0
GivesExpiry due (Ok true) old new = due ≡ Some new
GivesExpiry due (Ok false) old new = (due ≡ None) × (new ≡ old)
GivesExpiry due (Err (stop.Rule r)) old new = ⊥
GivesExpiry due (Err (stop.View f)) old new = ⊤
GivesExpiry due (Err stop.Memory) old new = ⊤

-- a call takes an account offline whose keys have expired, says whether they have, and never breaks a rule
pub record Expires {F : Type 0} (tells : Bool) (due : Option RowMap) (old new : Worked) (result : Result Bool (Stop F)) : Type 0 where
  pub fixed : IsFixed tells old new
  pub gives : tells ≡ true → GivesExpiry due result old.now new.now
  pub starts : tells ≡ true → Starts result old new
  pub cause : IsCounted result old.failures new.failures
  pub no_rule : IsNoRule result

-- ---- what stays

-- the rows after are those before, where one account that takes part has another status and other keys, and is the same in all else
pub record KeysMove (who : Address) (m n : RowMap) : Type 0 where
  pub after : AccountRow
  pub set : n ≡ set_account m who after
  pub same : without_keys Offline after ≡ without_keys Offline (account m who)
  pub takes_part : is_apart (account m who).status ≡ false

-- a rule on registrations of keys
abbrev pub IsKeyRule : Rule → Type 0
IsKeyRule r = (r ≡ plain_rule 44) ⊎ ((r ≡ plain_rule 45) ⊎ (r ≡ plain_rule 56))

-- a registration and an expiry change the status and the keys of one account alone, and make or lose no money: a registration where no rewards of its sender are pending, as after any move that the sender made, and a rekey behind it
pub record KeysAreFair : Type 0 where
  pub registration : (round : ℕ) (who : Address) (k : KeyReg) (m n : RowMap) → keyed round who k m ≡ Ok n → KeysMove who m n
  pub refusal : (round : ℕ) (who : Address) (k : KeyReg) (m : RowMap) (r : Rule) → keyed round who k m ≡ Err r → IsKeyRule r
  pub registration_money : (level round : ℕ) (who : Address) (k : KeyReg) (m n : RowMap) → earned level (account m who) ≡ 0 → keyed round who k m ≡ Ok n → money level n ≡ money level m
  pub after_move : (level : ℕ) (who to : Address) (amount : ℕ) (m n : RowMap) → moved level who to amount m ≡ Ok n → earned level (account n who) ≡ 0
  pub after_rekey : (level : ℕ) (who to : Address) (m n : RowMap) → earned level (account m who) ≡ 0 → rekeyed who to m ≡ Ok n → earned level (account n who) ≡ 0
  pub expiry : (round : ℕ) (who : Address) (m n : RowMap) → expired round who m ≡ Some n → KeysMove who m n
  pub expiry_money : (level round : ℕ) (who : Address) (m n : RowMap) → expired round who m ≡ Some n → money level n ≡ money level m
