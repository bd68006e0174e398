use Rattle.std.proofs.Common.{◌≡◌, rules, refl, sym, ap, codes, None, ◌∙◌}
use Rattle.al_bodies.specs.Bodies.{asset_params}
use Rattle.al_txn.specs.Txn.{txn, txn_fault, written, acfg_txn, flat_acfg}
use Rattle.al_record.specs.Columns.{first_fault, range_fault, rules_of, map_of, value_at}
use Rattle.al_record.proofs.Canonical.{inner_canonical}
use Rattle.al_record.proofs.Engine.{is_record, passes_on}
use Rattle.al_record.proofs.OfKind.{of_kind, text_shown}
use Rattle.al_txn.proofs.Exits.{stops}
use Rattle.al_txn.proofs.configuration.read_config.Goals as goal

pub read_params-requires : goal.read_params-requires
read_params-requires c = rw c.map.ensures (inner_canonical (codes "apar") c.args.entries.now c.requires.canonical)

pub returns-in_err-params : goal.returns-in_err-params
returns-in_err-params c =
    let es = c.args.entries.now in
    let rest = range_fault (rules_of flat_acfg) es in
    let g = asset_params.fault (map_of (value_at (codes "apar") es)) in
    let none = c.in_ok-check_fields.ensures in
    let h = stops c.in_err-params.field-0.0 g rest (rw (← c.map.ensures) c.in_err-params.ensures) in
    passes_on txn es _ _ c.from_residual-in_err-params.result (ap (txn_fault es) c.requires.kind ∙ rw none refl) h c.from_residual-in_err-params.ensures.1

pub returns-in_err-check_ranges : goal.returns-in_err-check_ranges
returns-in_err-check_ranges c =
    let es = c.args.entries.now in
    let apar : asset_params.fault (map_of (value_at (codes "apar") es)) ≡ None = rw (← c.map.ensures) c.in_ok-params.ensures.sound in
    passes_on txn es _ _ c.from_residual-in_err-check_ranges.result (ap (txn_fault es) c.requires.kind ∙ rw (c.in_ok-check_fields.ensures, apar) refl) c.in_err-check_ranges.ensures c.from_residual-in_err-check_ranges.ensures.1

pub returns : goal.returns
returns c =
    let es = c.args.entries.now in
    let t = c.in_ok-common.field-0 in
    let r = c.in_ok-params.ensures in
    let kind = text_shown (codes "type") es _ c.requires.kind in
    let apar : asset_params.fault (map_of (value_at (codes "apar") es)) ≡ None = rw (← c.map.ensures) r.sound in
    let none : first_fault (rules_of acfg_txn) es ≡ None = rw (c.in_ok-check_fields.ensures, apar, c.in_ok-check_ranges.ensures) refl in
    of_kind txn acfg_txn t (t, record { asset = c.number-asset.result; params = c.in_ok-params.params }) es (ap (txn_fault es) c.requires.kind) (ap (written t) c.in_ok-common.ensures.body)
    (is_record acfg_txn _ es refl c.requires.canonical none (search (rules, kind, sym r.fields ∙ c.map.ensures, c.number-asset.ensures, c.in_ok-common.ensures.fields)))
