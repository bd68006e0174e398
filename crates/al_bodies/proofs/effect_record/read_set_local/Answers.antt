use Rattle.std.proofs.Common.{rules, refl, ap, codes}
use Rattle.al_bodies.specs.Effect.{effect, effect_rules, set_local}
use Rattle.al_record.specs.Kinds.{kind_fault}
use Rattle.al_record.proofs.Engine.{is_record, passes_on}
use Rattle.al_record.proofs.OfKind.{of_kind, number_shown}
use Rattle.al_bodies.proofs.effect_record.read_set_local.Goals as goal

pub returns-in_err-check : goal.returns-in_err-check
returns-in_err-check c = passes_on effect c.args.entries.now _ _ c.from_residual.result (ap (kind_fault (codes "e") effect_rules c.args.entries.now) c.requires.kind) c.in_err-check.ensures c.from_residual.ensures.1

pub returns : goal.returns
returns c =
    let es = c.args.entries.now in
    let kind = number_shown (codes "e") es _ c.requires.kind in
    of_kind effect set_local _ (c.array.result, c.in_ok-state.state) es (ap (kind_fault (codes "e") effect_rules es) c.requires.kind) refl
    (is_record set_local (c.array.result, c.in_ok-state.state) es refl c.requires.canonical c.in_ok-check.ensures (search (rules, kind)))
