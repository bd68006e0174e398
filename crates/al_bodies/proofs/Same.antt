-- Equal parts are equal bodies.
use Rattle.std.proofs.Common.{◌≡◌, ℕ, true, false, List, Some, Ok, codes, refl, sym, ap, ap₂, subst, ◌∙◌}
use Rattle.std.proofs.Props.{props}
use Rattle.al_msgpack.specs.declared.val.Val.TheVariants as values
use Rattle.al_msgpack.specs.declared.val.Entry.{Entry}
use Rattle.al_base.specs.declared.asset.AssetParams.{AssetParams}
use Rattle.al_record.specs.Columns.{FieldOf, IsRecord, is_empty, table, entries, map_of, value_at, first_fault, rules_of, heads}
use Rattle.al_record.specs.Kinds.{text_kind}
use Rattle.al_record.specs.Laws.{AllAgree}
use Rattle.al_record.proofs.Engine.{first_none, names}
use Rattle.al_record.proofs.Laws.{record_shows}
use Rattle.al_record.proofs.Tables.{all_agree}
use Rattle.al_record.proofs.Same.{Determined}
use Rattle.al_msgpack.specs.Rising.{rises, are_canonical}
use Rattle.al_bodies.specs.declared.body.Pay.{Pay}
use Rattle.al_bodies.specs.declared.body.KeyReg.{KeyReg}
use Rattle.al_bodies.specs.declared.body.Config.{Config}
use Rattle.al_bodies.specs.declared.body.AssetMove.{AssetMove}
use Rattle.al_bodies.specs.declared.body.Freeze.{Freeze}
use Rattle.al_bodies.specs.declared.body.AppCall.{AppCall}
use Rattle.al_bodies.specs.declared.body.Body.{Body}
use Rattle.al_bodies.specs.declared.body.Body.TheVariants as bodies
use Rattle.al_bodies.specs.Bodies.{pay, axfer, params_fields, asset_params}
use Rattle.al_bodies.specs.Kept.{kept, others, merged, are_kept}
use Rattle.al_bodies.proofs.Apart.{others_at, others_merged, kept_merged, entries_others}
use Rattle.al_bodies.proofs.Written.{all_put, text_named, words_apart}

-- values with one record agree on the fields of a table
pub fields_agree : {X : Type 0} (fs : List (FieldOf X)) (x y : X) (es : List Entry) → rises (names (heads (rules_of fs))) ≡ true → IsRecord (table fs) x es → IsRecord (table fs) y es → AllAgree fs x y
fields_agree fs x y es r h k = all_agree fs x y es (record_shows fs x es r h) (record_shows fs y es r k)

-- each value by its parts

abbrev pub pay_whole : Pay → Pay
pay_whole p = record {
  receiver = record { 0 = p.receiver.0 };
  amount = p.amount;
  close = record { 0 = p.close.0 };
}

abbrev pub move_whole : AssetMove → AssetMove
move_whole m = record {
  asset = m.asset;
  amount = m.amount;
  source = record { 0 = m.source.0 };
  receiver = record { 0 = m.receiver.0 };
  close = record { 0 = m.close.0 };
}

abbrev pub whole_keyreg : KeyReg → KeyReg
whole_keyreg k = record {
  vote = k.vote;
  selection = k.selection;
  sprf = k.sprf;
  first = k.first;
  last = k.last;
  dilution = k.dilution;
  nonpart = k.nonpart;
}

abbrev pub whole_freeze : Freeze → Freeze
whole_freeze f = record {
  account = record { 0 = f.account.0 };
  asset = f.asset;
  frozen = f.frozen;
}

abbrev pub whole_params : AssetParams → AssetParams
whole_params p = record {
  total = p.total;
  decimals = p.decimals;
  default_frozen = p.default_frozen;
  unit = p.unit;
  name = p.name;
  url = p.url;
  meta = p.meta;
  manager = record { 0 = p.manager.0 };
  reserve = record { 0 = p.reserve.0 };
  freeze = record { 0 = p.freeze.0 };
  clawback = record { 0 = p.clawback.0 };
}

pub params_determined : Determined asset_params
params_determined x y es h k =
    let a = fields_agree params_fields x y es refl h k in
    let same : whole_params x ≡ whole_params y = cc in
    same

pub pay_same : (p q : Pay) → AllAgree pay p q → p ≡ q
pay_same p q a = let same : pay_whole p ≡ pay_whole q = cc in same

pub move_same : (m n : AssetMove) → AllAgree axfer m n → m ≡ n
move_same m n a = let same : move_whole m ≡ move_whole n = cc in same

pub config_same : (c d : Config) (es : List Entry) → c.asset ≡ d.asset → IsRecord asset_params c.params es → IsRecord asset_params d.params es → c ≡ d
config_same c d es a p q = ap₂ (λ (n : ℕ) (x : AssetParams). record { asset = n; params = x }) a (params_determined c.params d.params es p q)

-- the keys of kept fields rise at each level
abbrev IsHeld : List Entry → Type 0
IsHeld rest = (are_kept rest ≡ true) × (are_canonical rest ≡ true)

abbrev call : (app : ℕ) (rest : List Entry) → IsHeld rest → AppCall
call app rest h = record { app = app; rest = rest; kept = h.0; rising = h.1 }

one_proof : (rest : List Entry) → IsProp (are_kept rest ≡ true)
one_proof rest = hlevel props

one_rising : (rest : List Entry) → IsProp (are_canonical rest ≡ true)
one_rising rest = hlevel props

proofs : (app : ℕ) (rest : List Entry) (h i : IsHeld rest) → call app rest h ≡ call app rest i
proofs app rest h i =
    let e : h.0 ≡ i.0 = one_proof rest h.0 i.0 in
    let f : h.1 ≡ i.1 = one_rising rest h.1 i.1 in
    cc

pub call_same : (x y : AppCall) → x.app ≡ y.app → x.rest ≡ y.rest → x ≡ y
call_same x y p q =
    subst (λ (n : ℕ). (h : IsHeld y.rest) → x ≡ call n y.rest h) p
    (subst (λ (es : List Entry). (h : IsHeld es) → x ≡ call x.app es h) q
    (λ h. proofs x.app x.rest (x.kept, x.rising) h)) (y.kept, y.rising)
