-- A transaction's record determines the transaction.
use Rattle.std.proofs.Common.{◌≡◌, ℕ, true, false, List, Some, Ok, codes, refl, sym, ap, ap₂, subst, ◌∙◌}
use Rattle.std.proofs.Props.{props}
use Rattle.al_msgpack.specs.declared.val.Val.TheVariants as values
use Rattle.al_msgpack.specs.declared.val.Entry.{Entry}
use Rattle.al_base.specs.declared.asset.AssetParams.{AssetParams}
use Rattle.al_record.specs.Columns.{FieldOf, IsRecord, is_empty, table, entries, map_of, value_at, first_fault, rules_of, heads}
use Rattle.al_record.specs.Kinds.{text_kind}
use Rattle.al_record.specs.Laws.{AllAgree}
use Rattle.al_record.proofs.Engine.{first_none, names}
use Rattle.al_record.proofs.Laws.{record_shows}
use Rattle.al_record.proofs.Tables.{all_agree}
use Rattle.al_record.proofs.Same.{Determined}
use Rattle.al_msgpack.specs.Rising.{rises}
use Rattle.al_txn.specs.declared.txn.Txn.{Txn}
use Rattle.al_bodies.specs.declared.body.Pay.{Pay}
use Rattle.al_bodies.specs.declared.body.KeyReg.{KeyReg}
use Rattle.al_bodies.specs.declared.body.Config.{Config}
use Rattle.al_bodies.specs.declared.body.AssetMove.{AssetMove}
use Rattle.al_bodies.specs.declared.body.Freeze.{Freeze}
use Rattle.al_bodies.specs.declared.body.AppCall.{AppCall}
use Rattle.al_bodies.specs.declared.body.Body.{Body}
use Rattle.al_bodies.specs.declared.body.Body.TheVariants as bodies
use Rattle.al_bodies.specs.Bodies.{asset_params}
use Rattle.al_txn.specs.Txn.{txn, txn_fault, written, pay_txn, keyreg_txn, acfg_txn, axfer_txn, afrz_txn, appl_txn}
use Rattle.al_bodies.specs.Kept.{kept, others, merged, are_kept}
use Rattle.al_bodies.proofs.Apart.{others_at, others_merged, kept_merged, entries_others}
use Rattle.al_bodies.proofs.Same.{fields_agree, pay_whole, move_whole, whole_keyreg, whole_freeze, config_same, call_same}
use Rattle.al_bodies.proofs.Written.{all_put, text_named, words_apart}

-- a transaction by its parts
abbrev whole : Txn → Txn
whole t = record {
  sender = record { 0 = t.sender.0 };
  fee = t.fee;
  first = t.first;
  last = t.last;
  genesis_id = t.genesis_id;
  genesis_hash = t.genesis_hash;
  note = t.note;
  lease = t.lease;
  rekey = record { 0 = t.rekey.0 };
  group = t.group;
  body = t.body;
}

-- the word that names a body's type
abbrev pub word : Body → List ℕ
word (bodies.Pay p) = codes "pay"
word (bodies.KeyReg k) = codes "keyreg"
word (bodies.Config c) = codes "acfg"
word (bodies.Move m) = codes "axfer"
word (bodies.Freeze f) = codes "afrz"
word (bodies.App a) = codes "appl"

-- the kept fields and the others of a written call
abbrev pub flat : Txn → AppCall → List Entry
flat t a = entries appl_txn (t, a)

pub call_others : (t : Txn) (a : AppCall) → others (merged a.rest (flat t a)) ≡ flat t a
call_others t a = others_merged a.rest (flat t a) a.kept (entries_others appl_txn (t, a) refl)

pub call_kept : (t : Txn) (a : AppCall) → kept (merged a.rest (flat t a)) ≡ a.rest
call_kept t a = kept_merged a.rest (flat t a) a.kept (entries_others appl_txn (t, a) refl)

pub call_named : (t : Txn) (a : AppCall) → value_at (codes "type") (merged a.rest (flat t a)) ≡ Some (values.Str (codes "appl"))
call_named t a = sym (others_at (codes "type") (merged a.rest (flat t a)) refl) ∙ ap (value_at (codes "type")) (call_others t a) ∙ (all_put appl_txn (t, a) refl).1.1.1.1.1.1.1.1.1.1.1.0

pub named : (t : Txn) (b : Body) → value_at (codes "type") (written t b) ≡ Some (values.Str (word b))
named t (bodies.Pay p) = (all_put pay_txn (t, p) refl).1.1.1.1.1.1.1.1.1.1.1.1.1.0
named t (bodies.KeyReg k) = (all_put keyreg_txn (t, k) refl).1.1.1.1.1.1.1.1.1.1.1.1.1.0
named t (bodies.Config c) = (all_put acfg_txn (t, c) refl).1.1.1.1.1.1.1.1.1.1.1.1.0
named t (bodies.Move m) = (all_put axfer_txn (t, m) refl).1.1.1.1.1.1.1.1.1.1.1.1.1.1.0
named t (bodies.Freeze f) = (all_put afrz_txn (t, f) refl).1.1.1.1.1.1.1.1.1.1.1.1.1.0
named t (bodies.App a) = call_named t a

pub some_word : (b : Body) → is_empty (word b) ≡ false
some_word (bodies.Pay p) = refl
some_word (bodies.KeyReg k) = refl
some_word (bodies.Config c) = refl
some_word (bodies.Move m) = refl
some_word (bodies.Freeze f) = refl
some_word (bodies.App a) = refl

-- the kind of a transaction's record
kind_of : (t : Txn) (b : Body) (es : List Entry) → t.body ≡ b → IsRecord txn t es → text_kind (codes "type") es ≡ Ok (word b)
kind_of t b es e r =
    let w : es ≡ written t b = r.fields ∙ ap (written t) e in
    text_named (codes "type") (word b) es (ap (value_at (codes "type")) w ∙ named t b) (some_word b)

-- the record of one type
of_table : {B : Type 0} (fs : List (FieldOf (Txn × B))) (t : Txn) (b : Body) (x : B) (es : List Entry) → t.body ≡ b → written t b ≡ entries fs (t, x) → txn_fault es (Ok (word b)) ≡ first_fault (rules_of fs) es → IsRecord txn t es → IsRecord (table fs) (t, x) es
of_table fs t b x es e w f r = record {
  fields = r.fields ∙ ap (written t) e ∙ w;
  sound = sym (ap (txn_fault es) (kind_of t b es e r) ∙ f) ∙ r.sound;
}

of_call : (t : Txn) (a : AppCall) (es : List Entry) → t.body ≡ bodies.App a → IsRecord txn t es → IsRecord (table appl_txn) (t, a) (others es)
of_call t a es e r =
    let w : es ≡ merged a.rest (flat t a) = r.fields ∙ ap (written t) e in
    record {
      fields = ap others w ∙ call_others t a;
      sound = sym (ap (txn_fault es) (kind_of t (bodies.App a) es e r)) ∙ r.sound;
    }

kept_of : (t : Txn) (a : AppCall) (es : List Entry) → t.body ≡ bodies.App a → IsRecord txn t es → kept es ≡ a.rest
kept_of t a es e r = ap kept (r.fields ∙ ap (written t) e) ∙ call_kept t a

pay_pair : (t u : Txn) (x y : Pay) → t.body ≡ bodies.Pay x → u.body ≡ bodies.Pay y → AllAgree pay_txn (t, x) (u, y) → t ≡ u
pay_pair t u x y b d a =
    let part : pay_whole x ≡ pay_whole y = cc in
    let same : x ≡ y = part in
    let body : t.body ≡ u.body = b ∙ ap (λ (z : Pay). bodies.Pay z) same ∙ sym d in
    let all : whole t ≡ whole u = cc in
    all

keyreg_pair : (t u : Txn) (x y : KeyReg) → t.body ≡ bodies.KeyReg x → u.body ≡ bodies.KeyReg y → AllAgree keyreg_txn (t, x) (u, y) → t ≡ u
keyreg_pair t u x y b d a =
    let part : whole_keyreg x ≡ whole_keyreg y = cc in
    let same : x ≡ y = part in
    let body : t.body ≡ u.body = b ∙ ap (λ (z : KeyReg). bodies.KeyReg z) same ∙ sym d in
    let all : whole t ≡ whole u = cc in
    all

axfer_pair : (t u : Txn) (x y : AssetMove) → t.body ≡ bodies.Move x → u.body ≡ bodies.Move y → AllAgree axfer_txn (t, x) (u, y) → t ≡ u
axfer_pair t u x y b d a =
    let part : move_whole x ≡ move_whole y = cc in
    let same : x ≡ y = part in
    let body : t.body ≡ u.body = b ∙ ap (λ (z : AssetMove). bodies.Move z) same ∙ sym d in
    let all : whole t ≡ whole u = cc in
    all

afrz_pair : (t u : Txn) (x y : Freeze) → t.body ≡ bodies.Freeze x → u.body ≡ bodies.Freeze y → AllAgree afrz_txn (t, x) (u, y) → t ≡ u
afrz_pair t u x y b d a =
    let part : whole_freeze x ≡ whole_freeze y = cc in
    let same : x ≡ y = part in
    let body : t.body ≡ u.body = b ∙ ap (λ (z : Freeze). bodies.Freeze z) same ∙ sym d in
    let all : whole t ≡ whole u = cc in
    all

config_pair : (t u : Txn) (x y : Config) (ps : List Entry) → t.body ≡ bodies.Config x → u.body ≡ bodies.Config y → AllAgree acfg_txn (t, x) (u, y) → IsRecord asset_params x.params ps → IsRecord asset_params y.params ps → t ≡ u
config_pair t u x y ps b d a p q =
    let asset : x.asset ≡ y.asset = cc in
    let same : x ≡ y = config_same x y ps asset p q in
    let body : t.body ≡ u.body = b ∙ ap (λ (z : Config). bodies.Config z) same ∙ sym d in
    let all : whole t ≡ whole u = cc in
    all

call_pair : (t u : Txn) (x y : AppCall) → t.body ≡ bodies.App x → u.body ≡ bodies.App y → AllAgree appl_txn (t, x) (u, y) → x.rest ≡ y.rest → t ≡ u
call_pair t u x y b d a r =
    let app : x.app ≡ y.app = cc in
    let same : x ≡ y = call_same x y app r in
    let body : t.body ≡ u.body = b ∙ ap (λ (z : AppCall). bodies.App z) same ∙ sym d in
    let all : whole t ≡ whole u = cc in
    all

-- the parameters in a configuration's record
params_of : (t : Txn) (c : Config) (es : List Entry) → IsRecord (table acfg_txn) (t, c) es → IsRecord asset_params c.params (map_of (value_at (codes "apar") es))
params_of t c es r =
    let shown = record_shows acfg_txn (t, c) es refl r in
    let ranges = first_none _ _ r.sound in
    record { fields = sym shown.0; sound = (first_none _ _ ranges.1).0 }

cases : (t u : Txn) (es : List Entry) (b d : Body) → t.body ≡ b → u.body ≡ d → IsRecord txn t es → IsRecord txn u es → t ≡ u
cases t u es (bodies.Pay x) (bodies.Pay y) b d r s =
    pay_pair t u x y b d (fields_agree pay_txn (t, x) (u, y) es refl (of_table pay_txn t (bodies.Pay x) x es b refl refl r) (of_table pay_txn u (bodies.Pay y) y es d refl refl s))
cases t u es (bodies.KeyReg x) (bodies.KeyReg y) b d r s =
    keyreg_pair t u x y b d (fields_agree keyreg_txn (t, x) (u, y) es refl (of_table keyreg_txn t (bodies.KeyReg x) x es b refl refl r) (of_table keyreg_txn u (bodies.KeyReg y) y es d refl refl s))
cases t u es (bodies.Config x) (bodies.Config y) b d r s =
    let rt = of_table acfg_txn t (bodies.Config x) x es b refl refl r in
    let ru = of_table acfg_txn u (bodies.Config y) y es d refl refl s in
    config_pair t u x y _ b d (fields_agree acfg_txn (t, x) (u, y) es refl rt ru) (params_of t x es rt) (params_of u y es ru)
cases t u es (bodies.Move x) (bodies.Move y) b d r s =
    axfer_pair t u x y b d (fields_agree axfer_txn (t, x) (u, y) es refl (of_table axfer_txn t (bodies.Move x) x es b refl refl r) (of_table axfer_txn u (bodies.Move y) y es d refl refl s))
cases t u es (bodies.Freeze x) (bodies.Freeze y) b d r s =
    afrz_pair t u x y b d (fields_agree afrz_txn (t, x) (u, y) es refl (of_table afrz_txn t (bodies.Freeze x) x es b refl refl r) (of_table afrz_txn u (bodies.Freeze y) y es d refl refl s))
cases t u es (bodies.App x) (bodies.App y) b d r s =
    call_pair t u x y b d (fields_agree appl_txn (t, x) (u, y) (others es) refl (of_call t x es b r) (of_call u y es d s)) (sym (kept_of t x es b r) ∙ kept_of u y es d s)
cases t u es b d e f r s = absurd (words_apart (word b) (word d) refl (sym (kind_of t b es e r) ∙ kind_of u d es f s))

pub txn_determined : Determined txn
txn_determined t u es r s = cases t u es t.body u.body refl refl r s
