-- Transactions: the fields of each type.
use Rattle.std.specs.Prelude.{◌^◌, ◌-◌, ℕ, codes, List, [], ◌∷◌, Option, Some, None, Result, Ok, Err, if◌then◌else◌}
use Rattle.std.specs.Str.{bytes_eq}
use Rattle.al_msgpack.specs.declared.val.Entry.{Entry}
use Rattle.al_record.specs.declared.fault.Fault.{Fault}
use Rattle.al_txn.specs.declared.txn.Txn.{Txn}
use Rattle.al_bodies.specs.declared.body.Pay.{Pay}
use Rattle.al_bodies.specs.declared.body.KeyReg.{KeyReg}
use Rattle.al_bodies.specs.declared.body.Config.{Config}
use Rattle.al_bodies.specs.declared.body.AssetMove.{AssetMove}
use Rattle.al_bodies.specs.declared.body.Freeze.{Freeze}
use Rattle.al_bodies.specs.declared.body.AppCall.{AppCall}
use Rattle.al_bodies.specs.declared.body.Body.{Body}
use Rattle.al_bodies.specs.declared.body.Body.TheVariants as bodies
use Rattle.al_record.specs.Columns.{FieldOf, Format, Rule, number, array, text, bytes, entries, rules_of}
use Rattle.al_record.specs.Kinds.{both, text_kind, kind_fault}
use Rattle.al_bodies.specs.Kept.{others, merged}
use Rattle.al_bodies.specs.Bodies.{pay, keyreg, acfg, axfer, afrz, appl}

-- bytes of any number
abbrev pub any_number : ℕ
any_number = 2 ^ 64 - 1

abbrev pub common : List (FieldOf Txn)
common =
    array (codes "snd") 32 (λ t. t.sender.0) ∷
    number (codes "fee") (λ t. t.fee) ∷
    number (codes "fv") (λ t. t.first) ∷
    number (codes "lv") (λ t. t.last) ∷
    text (codes "gen") (λ t. t.genesis_id) ∷
    array (codes "gh") 32 (λ t. t.genesis_hash) ∷
    bytes (codes "note") 0 any_number (λ t. t.note) ∷
    array (codes "lx") 32 (λ t. t.lease) ∷
    array (codes "rekey") 32 (λ t. t.rekey.0) ∷
    array (codes "grp") 32 (λ t. t.group) ∷
    []

-- the same in another group
abbrev pub with_group : List ℕ → Txn → Txn
with_group group t = record {
  sender = t.sender;
  fee = t.fee;
  first = t.first;
  last = t.last;
  genesis_id = t.genesis_id;
  genesis_hash = t.genesis_hash;
  note = t.note;
  lease = t.lease;
  rekey = t.rekey;
  group = group;
  body = t.body;
}

abbrev pub of_type : List ℕ → List (FieldOf Txn)
of_type name = text (codes "type") (λ _. name) ∷ common

abbrev pub pay_txn : List (FieldOf (Txn × Pay))
pay_txn = both (of_type (codes "pay")) pay

abbrev pub keyreg_txn : List (FieldOf (Txn × KeyReg))
keyreg_txn = both (of_type (codes "keyreg")) keyreg

abbrev pub acfg_txn : List (FieldOf (Txn × Config))
acfg_txn = both (of_type (codes "acfg")) acfg

-- the fields of acfg beside the parameters
abbrev pub flat_acfg : List (FieldOf (Txn × ℕ))
flat_acfg = both (of_type (codes "acfg")) (number (codes "caid") (λ n. n) ∷ [])

abbrev pub axfer_txn : List (FieldOf (Txn × AssetMove))
axfer_txn = both (of_type (codes "axfer")) axfer

abbrev pub afrz_txn : List (FieldOf (Txn × Freeze))
afrz_txn = both (of_type (codes "afrz")) afrz

abbrev pub appl_txn : List (FieldOf (Txn × AppCall))
appl_txn = both (of_type (codes "appl")) appl

-- the fields of appl that are not kept
abbrev pub flat_appl : List (FieldOf (Txn × ℕ))
flat_appl = both (of_type (codes "appl")) (number (codes "apid") (λ n. n) ∷ [])

abbrev pub txn_rules : List ℕ → Option (List Rule)
txn_rules kind =
    if bytes_eq kind (codes "pay") then Some (rules_of pay_txn) else
    if bytes_eq kind (codes "keyreg") then Some (rules_of keyreg_txn) else
    if bytes_eq kind (codes "acfg") then Some (rules_of acfg_txn) else
    if bytes_eq kind (codes "axfer") then Some (rules_of axfer_txn) else
    if bytes_eq kind (codes "afrz") then Some (rules_of afrz_txn) else
    if bytes_eq kind (codes "appl") then Some (rules_of appl_txn) else
    None

-- the kept fields of an application's call are not looked at
abbrev pub looked_at : List Entry → Result (List ℕ) Fault → List Entry
looked_at es (Err f) = es
looked_at es (Ok kind) = if bytes_eq kind (codes "appl") then others es else es

abbrev pub txn_fault : List Entry → Result (List ℕ) Fault → Option Fault
txn_fault es kind = kind_fault (codes "type") txn_rules (looked_at es kind) kind

abbrev pub written : Txn → Body → List Entry
written t (bodies.Pay p) = entries pay_txn (t, p)
written t (bodies.KeyReg k) = entries keyreg_txn (t, k)
written t (bodies.Config c) = entries acfg_txn (t, c)
written t (bodies.Move m) = entries axfer_txn (t, m)
written t (bodies.Freeze f) = entries afrz_txn (t, f)
written t (bodies.App a) = merged a.rest (entries appl_txn (t, a))

abbrev pub txn : Format Txn
txn = record {
  write = λ t. written t t.body;
  fault = λ es. txn_fault es (text_kind (codes "type") es);
}
