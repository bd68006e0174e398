-- Transactions in their ranges.
use Rattle.std.proofs.Common.{◌≡◌, ◌<◌, ◌≤◌, ◌^◌, ◌-◌, ℕ, suc, true, codes, List, [], ◌∷◌, length, None, Ok, refl, sym, ap, ◌∙◌, arith}
use Rattle.al_msgpack.specs.declared.val.Val.TheVariants as values
use Rattle.al_msgpack.specs.declared.val.Entry.{Entry}
use Rattle.al_msgpack.specs.Canonical.{IsCanonical}
use Rattle.al_record.specs.Columns.{FieldOf, IsRecord, table, entries, first_fault, rules_of}
use Rattle.al_record.specs.Kinds.{text_kind}
use Rattle.al_record.specs.Laws.{IsShort}
use Rattle.al_bodies.specs.declared.body.Pay.{Pay}
use Rattle.al_bodies.specs.declared.body.KeyReg.{KeyReg}
use Rattle.al_bodies.specs.declared.body.Config.{Config}
use Rattle.al_bodies.specs.declared.body.AssetMove.{AssetMove}
use Rattle.al_bodies.specs.declared.body.Freeze.{Freeze}
use Rattle.al_bodies.specs.declared.body.AppCall.{AppCall}
use Rattle.al_bodies.specs.declared.body.Body.{Body}
use Rattle.al_bodies.specs.declared.body.Body.TheVariants as bodies
use Rattle.al_bodies.specs.Ranges.{PayRanges, KeyRegRanges, ConfigRanges, MoveRanges, FreezeRanges, CallRanges, BodyRanges}
use Rattle.al_bodies.specs.Kept.{others, merged}
use Rattle.al_bodies.proofs.Ranged.{AllRanged, array_32, array_64, short_names, are_short, ranged_record, ranged_canonical, ranged_entries, ranged_count}
use Rattle.al_bodies.proofs.Apart.{entries_others}
use Rattle.al_bodies.proofs.MergedFields.{merged_canonical}
use Rattle.al_bodies.proofs.RangedBodies.{params_record, params_canonical}
use Rattle.al_bodies.proofs.Written.{text_named}
use Rattle.al_txn.specs.declared.txn.Txn.{Txn}
use Rattle.al_txn.specs.Txn.{txn, txn_fault, written, any_number, pay_txn, keyreg_txn, acfg_txn, axfer_txn, afrz_txn, appl_txn}
use Rattle.al_txn.specs.Ranges.{TxnRanges}
use Rattle.al_txn.proofs.Same.{word, named, some_word, call_others}

note_ranged : (note : List ℕ) → IsShort note → IsShort note × (0 ≤ length note) × (length note ≤ any_number)
note_ranged note s = (s, omega arith, omega (arith, s.1))

word_ranged : (w : List ℕ) → short_names (w ∷ []) ≡ true → IsShort w
word_ranged w t = (are_short (w ∷ []) t).0

pay_ranged : (depth n : ℕ) (t : Txn) (c : Pay) → TxnRanges n t → PayRanges c → AllRanged depth pay_txn (t, c)
pay_ranged depth n t c r b =
    (b.amount, (array_32 _ b.close, (r.fee, (r.first, (r.genesis_id, (array_32 _ r.genesis_hash, (array_32 _ r.group, (r.last, (array_32 _ r.lease, (note_ranged _ r.note, (array_32 _ b.receiver, (array_32 _ r.rekey, (array_32 _ r.sender, (word_ranged (codes "pay") refl, tt))))))))))))))

keyreg_ranged : (depth n : ℕ) (t : Txn) (c : KeyReg) → TxnRanges n t → KeyRegRanges c → AllRanged depth keyreg_txn (t, c)
keyreg_ranged depth n t c r b =
    (r.fee, (r.first, (r.genesis_id, (array_32 _ r.genesis_hash, (array_32 _ r.group, (r.last, (array_32 _ r.lease, (tt, (note_ranged _ r.note, (array_32 _ r.rekey, (array_32 _ b.selection, (array_32 _ r.sender, (array_64 _ b.sprf, (word_ranged (codes "keyreg") refl, (b.first, (b.dilution, (array_32 _ b.vote, (b.last, tt))))))))))))))))))

axfer_ranged : (depth n : ℕ) (t : Txn) (c : AssetMove) → TxnRanges n t → MoveRanges c → AllRanged depth axfer_txn (t, c)
axfer_ranged depth n t c r b =
    (b.amount, (array_32 _ b.close, (array_32 _ b.receiver, (array_32 _ b.source, (r.fee, (r.first, (r.genesis_id, (array_32 _ r.genesis_hash, (array_32 _ r.group, (r.last, (array_32 _ r.lease, (note_ranged _ r.note, (array_32 _ r.rekey, (array_32 _ r.sender, (word_ranged (codes "axfer") refl, (b.asset, tt))))))))))))))))

afrz_ranged : (depth n : ℕ) (t : Txn) (c : Freeze) → TxnRanges n t → FreezeRanges c → AllRanged depth afrz_txn (t, c)
afrz_ranged depth n t c r b =
    (tt, (array_32 _ b.account, (b.asset, (r.fee, (r.first, (r.genesis_id, (array_32 _ r.genesis_hash, (array_32 _ r.group, (r.last, (array_32 _ r.lease, (note_ranged _ r.note, (array_32 _ r.rekey, (array_32 _ r.sender, (word_ranged (codes "afrz") refl, tt))))))))))))))

acfg_ranged : (depth n : ℕ) (t : Txn) (c : Config) → TxnRanges n t → ConfigRanges c → AllRanged (suc depth) acfg_txn (t, c)
acfg_ranged depth n t c r b =
    (((params_record c.params b.params).sound, params_canonical depth c.params b.params), (b.asset, (r.fee, (r.first, (r.genesis_id, (array_32 _ r.genesis_hash, (array_32 _ r.group, (r.last, (array_32 _ r.lease, (note_ranged _ r.note, (array_32 _ r.rekey, (array_32 _ r.sender, (word_ranged (codes "acfg") refl, tt)))))))))))))

appl_ranged : (depth n : ℕ) (t : Txn) (c : AppCall) → TxnRanges n t → CallRanges depth c → AllRanged depth appl_txn (t, c)
appl_ranged depth n t c r b =
    (b.app, (r.fee, (r.first, (r.genesis_id, (array_32 _ r.genesis_hash, (array_32 _ r.group, (r.last, (array_32 _ r.lease, (note_ranged _ r.note, (array_32 _ r.rekey, (array_32 _ r.sender, (word_ranged (codes "appl") refl, tt))))))))))))

-- a call's fields stand between its kept ones
call_canonical : (depth n : ℕ) (t : Txn) (a : AppCall) → TxnRanges n t → CallRanges depth a → IsCanonical (suc depth) (values.Map (merged a.rest (entries appl_txn (t, a))))
call_canonical depth n t a r b =
    let are = ranged_entries depth appl_txn (t, a) refl refl (appl_ranged depth n t a r b) in
    let few : length (entries appl_txn (t, a)) ≤ 12 = ranged_count appl_txn (t, a) in
    merged_canonical depth a.rest (entries appl_txn (t, a)) a.kept (entries_others appl_txn (t, a) refl) b.rest are (omega (arith, b.count, few))

-- ---- each has a record

kinded : (t : Txn) (b : Body) → text_kind (codes "type") (written t b) ≡ Ok (word b)
kinded t b = text_named (codes "type") (word b) (written t b) (named t b) (some_word b)

sound_as : {B : Type 0} (fs : List (FieldOf (Txn × B))) (t : Txn) (b : Body) (x : B) → txn_fault (written t b) (Ok (word b)) ≡ first_fault (rules_of fs) (entries fs (t, x)) → IsRecord (table fs) (t, x) (entries fs (t, x)) → txn_fault (written t b) (text_kind (codes "type") (written t b)) ≡ None
sound_as fs t b x f r = ap (txn_fault (written t b)) (kinded t b) ∙ f ∙ r.sound

sound : (n depth : ℕ) (t : Txn) (b : Body) → TxnRanges n t → BodyRanges depth b → txn_fault (written t b) (text_kind (codes "type") (written t b)) ≡ None
sound n depth t (bodies.Pay x) r b = sound_as pay_txn t (bodies.Pay x) x refl (ranged_record 0 pay_txn (t, x) refl (pay_ranged 0 n t x r b))
sound n depth t (bodies.KeyReg x) r b = sound_as keyreg_txn t (bodies.KeyReg x) x refl (ranged_record 0 keyreg_txn (t, x) refl (keyreg_ranged 0 n t x r b))
sound n depth t (bodies.Config x) r b = sound_as acfg_txn t (bodies.Config x) x refl (ranged_record 1 acfg_txn (t, x) refl (acfg_ranged 0 n t x r b))
sound n depth t (bodies.Move x) r b = sound_as axfer_txn t (bodies.Move x) x refl (ranged_record 0 axfer_txn (t, x) refl (axfer_ranged 0 n t x r b))
sound n depth t (bodies.Freeze x) r b = sound_as afrz_txn t (bodies.Freeze x) x refl (ranged_record 0 afrz_txn (t, x) refl (afrz_ranged 0 n t x r b))
sound n depth t (bodies.App x) r b = sound_as appl_txn t (bodies.App x) x (ap (first_fault (rules_of appl_txn)) (call_others t x)) (ranged_record depth appl_txn (t, x) refl (appl_ranged depth n t x r b))

pub txn_record : (depth : ℕ) (t : Txn) → TxnRanges depth t → IsRecord txn t (txn.write t)
txn_record depth t r = record { fields = refl; sound = sound depth depth t t.body r r.body }

-- ---- each has a spelling

canonical_as : (n depth : ℕ) (t : Txn) (b : Body) → TxnRanges n t → BodyRanges (suc depth) b → IsCanonical (suc (suc depth)) (values.Map (written t b))
canonical_as n depth t (bodies.Pay x) r b = ranged_canonical (suc depth) pay_txn (t, x) refl refl refl (pay_ranged (suc depth) n t x r b)
canonical_as n depth t (bodies.KeyReg x) r b = ranged_canonical (suc depth) keyreg_txn (t, x) refl refl refl (keyreg_ranged (suc depth) n t x r b)
canonical_as n depth t (bodies.Config x) r b = ranged_canonical (suc depth) acfg_txn (t, x) refl refl refl (acfg_ranged depth n t x r b)
canonical_as n depth t (bodies.Move x) r b = ranged_canonical (suc depth) axfer_txn (t, x) refl refl refl (axfer_ranged (suc depth) n t x r b)
canonical_as n depth t (bodies.Freeze x) r b = ranged_canonical (suc depth) afrz_txn (t, x) refl refl refl (afrz_ranged (suc depth) n t x r b)
canonical_as n depth t (bodies.App x) r b = call_canonical (suc depth) n t x r b

pub txn_canonical : (depth : ℕ) (t : Txn) → TxnRanges (suc depth) t → IsCanonical (suc (suc depth)) (values.Map (txn.write t))
txn_canonical depth t r = canonical_as (suc depth) depth t t.body r r.body
