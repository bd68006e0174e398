use Rattle.std.proofs.Common.{◌≡◌, refl, ap, sym, codes, None, ◌∙◌}
use Rattle.al_record.specs.Columns.{first_fault, rules_of, map_of, value_at}
use Rattle.al_record.specs.Kinds.{kind_fault}
use Rattle.al_record.proofs.Canonical.{inner_canonical}
use Rattle.al_record.proofs.Engine.{is_record}
use Rattle.al_record.proofs.OfKind.{of_kind, number_shown}
use Rattle.al_bodies.specs.Effect.{effect, effect_rules, inner_effect, inner_txn}
use Rattle.al_bodies.proofs.effect_record.read_inner_effect.Goals as goal

pub read_inner-requires : goal.read_inner-requires
read_inner-requires c = rw c.map.ensures (inner_canonical (codes "t") c.args.entries.now c.requires.canonical)

pub returns : goal.returns
returns c =
    let es = c.args.entries.now in
    let r = c.in_ok-inner.ensures in
    let kind = number_shown (codes "e") es _ c.requires.kind in
    let sound : inner_txn.fault (map_of (value_at (codes "t") es)) ≡ None = rw (← c.map.ensures) r.sound in
    let none : first_fault (rules_of inner_effect) es ≡ None = rw (c.in_ok-check_fields.ensures, sound) refl in
    of_kind effect inner_effect _ c.in_ok-inner.inner es (ap (kind_fault (codes "e") effect_rules es) c.requires.kind) refl
    (is_record inner_effect _ es refl c.requires.canonical none (kind, (sym r.fields ∙ c.map.ensures, tt)))
