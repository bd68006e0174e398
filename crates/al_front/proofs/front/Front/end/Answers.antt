use Rattle.std.proofs.Common.{◌+◌, length, ap, ◌∙◌, arith}
use Rattle.atomic_table.specs.Table.{Me}
use Rattle.al_front.specs.declared.view.View.{View}
use Rattle.al_front.proofs.Keeping.{ends_as}
use Rattle.al_front.proofs.front.Front.end.Goals as goal

pub free-requires : goal.free-requires
free-requires g c k lt = absurd (omega (arith, lt, c.close_with-closed.ensures.counts.1, c.args.self.words.1))

pub returns-clause-front : goal.returns-clause-front
returns-clause-front g c =
    let m = c.main.inside in
    let i = c.main.invariant in
    let w = c.close_with-closed.ensures.values.2 in
    let e = ends_as _ g.N.Name.base _ m.seat.me.0.list m.floor _ _ _ _ _ c.args.self.keyed (ap (λ (y : Me (Unit {0}) View). y.0) i.view) w c.word.ensures c.word-2.ensures in
    e.0 ∙ ap (λ k. g.N.Name.base + length k.list) c.main.view_is

pub returns-clause-floor : goal.returns-clause-floor
returns-clause-floor g c =
    let m = c.main.inside in
    let i = c.main.invariant in
    let w = c.close_with-closed.ensures.values.2 in
    let e = ends_as _ g.N.Name.base _ m.seat.me.0.list m.floor _ _ _ _ _ c.args.self.keyed (ap (λ (y : Me (Unit {0}) View). y.0) i.view) w c.word.ensures c.word-2.ensures in
    (e.1.0, omega (arith, e.1.1, ap (λ k. k.floor) c.main.view_is))
