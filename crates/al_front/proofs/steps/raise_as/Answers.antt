use Rattle.std.proofs.Common.{rules, ap, ◌∙◌, arith, max}
use Rattle.atomic_table.specs.Table.{Me}
use Rattle.al_front.specs.declared.view.View.{View}
use Rattle.al_front.proofs.Keeping.{raises_as}
use Rattle.al_front.proofs.steps.raise_as.Goals as goal

pub fetch_max-requires : goal.fetch_max-requires
fetch_max-requires g c =
    let f = c.args.front.now in
    (search rules, omega (arith, f.words.0), raises_as _ g.N.Name.base _ _ c.args.seat.now.me.0.list c.args.floor c.args.up _ f.keyed c.requires.view c.requires.seat.1)

pub returns : goal.returns
returns g c =
    (search rules, c.fetch_max.ensures.2 ∙ ap (λ (m : Me (Unit {0}) View). (record m.0 { floor = max m.0.floor c.args.up }, m.1)) c.requires.view)
