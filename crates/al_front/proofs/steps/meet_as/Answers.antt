use Rattle.std.proofs.Common.{rules, ap, arith}
use Rattle.atomic_table.specs.Table.{Me}
use Rattle.al_front.specs.declared.view.View.{View}
use Rattle.al_front.proofs.Keeping.{joins_as}
use Rattle.al_front.proofs.steps.meet_as.Goals as goal

pub join_seat-requires : goal.join_seat-requires
join_seat-requires g c =
    let f = c.args.front.now in
    let v = c.args.seat.now.me.0 in (
      search rules,
      search rules,
      ap (λ (m : Me (Unit {0}) View). m.1) c.requires.note,
      omega (arith, f.words.0),
      joins_as _ g.N.Name.base _ v.is_main v.is_store v.list c.args.floor _ c.args.note.me.0.list c.args.met_floor _ _ f.keyed (ap (λ (m : Me (Unit {0}) View). m.0) c.requires.view) (ap (λ (m : Me (Unit {0}) View). m.0) c.requires.note),
    )
