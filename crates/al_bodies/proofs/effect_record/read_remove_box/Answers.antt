use Rattle.std.proofs.Common.{◌≡◌, refl, ap, codes, None}
use Rattle.al_record.specs.Columns.{first_fault, rules_of}
use Rattle.al_record.specs.Kinds.{kind_fault}
use Rattle.al_record.proofs.Engine.{is_record}
use Rattle.al_record.proofs.OfKind.{of_kind, number_shown}
use Rattle.al_bodies.specs.Effect.{effect, effect_rules, whole_name, remove_box}
use Rattle.al_bodies.proofs.effect_record.read_remove_box.Goals as goal

pub returns : goal.returns
returns c =
    let es = c.args.entries.now in
    let kind = number_shown (codes "e") es _ c.requires.kind in
    let none : first_fault (rules_of remove_box) es ≡ None = rw (c.in_ok-check_fields.ensures, c.in_ok-name.ensures.ok) refl in
    of_kind effect remove_box _ (whole_name c.in_ok-name.name) es (ap (kind_fault (codes "e") effect_rules es) c.requires.kind) refl
    (is_record remove_box _ es refl c.requires.canonical none (kind, (c.in_ok-name.ensures.value, tt)))
