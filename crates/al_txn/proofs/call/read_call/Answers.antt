use Rattle.std.proofs.Common.{◌≡◌, rules, refl, sym, ap, ap₂, codes, true, ◌∙◌}
use Rattle.al_bodies.specs.declared.body.AppCall.{AppCall}
use Rattle.al_bodies.specs.Kept.{are_kept, others, merged}
use Rattle.al_msgpack.specs.Rising.{are_canonical}
use Rattle.al_txn.specs.Txn.{txn, txn_fault, written, appl_txn}
use Rattle.al_record.specs.Columns.{entries}
use Rattle.al_record.proofs.Engine.{is_record, passes_on}
use Rattle.al_record.proofs.OfKind.{text_shown}
use Rattle.al_bodies.proofs.Apart.{kept_only, kept_canonical, shown_others, others_canonical, join}
use Rattle.al_txn.proofs.call.read_call.Goals as goal

pub returns-in_err-check_call : goal.returns-in_err-check_call
returns-in_err-check_call c = passes_on txn c.args.entries.now _ _ c.from_residual.result (ap (txn_fault c.args.entries.now) c.requires.kind) c.in_err-check_call.ensures c.from_residual.ensures.1

pub returns : goal.returns
returns c =
    let es = c.args.entries.now in
    let t = c.in_ok-common.field-0 in
    let only : are_kept c.in_ok-rest.rest ≡ true = rw c.in_ok-rest.ensures (kept_only es) in
    let up : are_canonical c.in_ok-rest.rest ≡ true = rw c.in_ok-rest.ensures (kept_canonical es c.requires.canonical) in
    let a : AppCall = record { app = c.number-app.result; rest = c.in_ok-rest.rest; kept = only; rising = up } in
    let kind = text_shown (codes "type") es _ c.requires.kind in
    let shown = shown_others appl_txn (t, a) es refl (search (rules, kind, c.number-app.ensures, c.in_ok-common.ensures.fields)) in
    let r = is_record appl_txn (t, a) (others es) refl (others_canonical es c.requires.canonical) c.in_ok-check_call.ensures shown in
    let whole : merged a.rest (entries appl_txn (t, a)) ≡ es = ap₂ merged c.in_ok-rest.ensures (sym r.fields) ∙ join es c.requires.canonical in
    record { fields = sym (ap (written t) c.in_ok-common.ensures.body ∙ whole); sound = ap (txn_fault es) c.requires.kind ∙ r.sound }

pub invariant_of-body : goal.invariant_of-body
invariant_of-body c = record { kept = rw c.in_ok-rest.ensures (kept_only c.args.entries.now); rising = rw c.in_ok-rest.ensures (kept_canonical c.args.entries.now c.requires.canonical) }
