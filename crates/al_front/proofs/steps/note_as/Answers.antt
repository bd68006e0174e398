use Rattle.std.proofs.Common.{◌≡◌, sym, ap, ◌∙◌, [], false, arith, ◌+◌, length}
use Rattle.atomic_table.specs.Table.{Me}
use Rattle.al_front.specs.declared.view.View.{View}
use Rattle.al_front.specs.Rule.{sitting, note_of}
use Rattle.al_front.proofs.Keeping.{notes_as}
use Rattle.al_front.proofs.steps.note_as.Goals as goal

pub split_seat-note-requires : goal.split_seat-note-requires
split_seat-note-requires g c =
    let f = c.args.front.now in
    let v = c.requires in
    (v.2.of_table ∙ sym f.named, omega (arith, f.words.0), notes_as _ g.N.Name.base _ v.0 v.1 c.args.seat.now.me.0.list c.args.floor _ f.keyed (ap (λ (m : Me (Unit {0}) View). m.0) v.2.view))

pub invariant_of-result : goal.invariant_of-result
invariant_of-result g c =
    let v = c.requires.2 in
    let e = c.split_seat-note.ensures in
    let is : c.split_seat-note.result.me ≡ (sitting false false g.N.Name.base c.args.seat.now.me.0.list c.args.floor, []) = e.4 ∙ ap (λ (m : Me (Unit {0}) View). (note_of m.0, [])) v.view in
    let list : c.split_seat-note.result.me.0.list ≡ c.args.seat.now.me.0.list = ap (λ (m : Me (Unit {0}) View). m.0.list) is in
    record {
      of_table = e.3 ∙ v.of_table;
      view = is ∙ ap (λ l. (sitting false false g.N.Name.base l c.args.floor, [])) (sym list);
      long = v.long ∙ ap (λ l. g.N.Name.base + length l) (sym list);
      low = v.low;
      fits = v.fits;
    }
