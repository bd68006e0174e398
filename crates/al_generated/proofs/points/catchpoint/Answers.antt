use Rattle.std.proofs.Common.{◌≤◌, ◌-◌, arith}
use Rattle.std.proofs.lemmas.Result.{err_from_is_err_and}
use Rattle.al_catch.specs.Catching.{IsCatchName, IsRowsName}
use Rattle.al_catchpoint.proofs.Longer.{keeps_more, rows_named}
use Rattle.al_generated.proofs.PointLemmas.{at_rows, made_again, making_cause, of_rows, point_high, pointed, round_of, rows_due, rows_in, rows_long, rows_sum, tip_due, tip_kept}
use Rattle.al_generated.proofs.points.catchpoint.Goals as goal

pub write_rows-requires-clause-round : goal.write_rows-requires-clause-round
write_rows-requires-clause-round g c =
    let round = c.args.round in
    let number = c.requires.made.0 in
    let n = c.requires.made.1 in
    let m = c.requires.made.2 in
    let le = c.requires.made.3 in
    let few = c.requires.few in
    let low : round - 320 ≤ round = omega arith in
    let rows = c.in_ok-extend_to.ensures.made number n m (at_rows number n round c.extend_to.new.states c.extend_to.new.generator le few) in
    rows_due number n round c.extend_to.new.states c.extend_to.new.generator le few rows

pub returns-in-Err-clause-kept : goal.returns-in-Err-clause-kept
returns-in-Err-clause-kept g c =
    keeps_more (IsRowsName c.args.round) (IsCatchName c.args.round) (g.F.Folder.files c.args.folder.now) (g.F.Folder.files c.write_rows.new.folder) (rows_named c.args.round) c.in-Err.ensures.kept

pub returns-in_err-extend_to-2-clause-kept : goal.returns-in_err-extend_to-2-clause-kept
returns-in_err-extend_to-2-clause-kept g c =
    keeps_more (IsRowsName c.args.round) (IsCatchName c.args.round) (g.F.Folder.files c.args.folder.now) (g.F.Folder.files c.write_rows.new.folder) (rows_named c.args.round) c.in-Ok.ensures.kept

pub returns-in_err-extend_to-2-clause-cause : goal.returns-in_err-extend_to-2-clause-cause
returns-in_err-extend_to-2-clause-cause g c number n m above =
    let round = c.args.round in
    let le = above in
    let few = c.requires.few in
    let low : round - 320 ≤ round = omega arith in
    let rows = c.in_ok-extend_to.ensures.made number n m (at_rows number n round c.extend_to.new.states c.extend_to.new.generator le few) in
    let again = made_again number (round - 320) c.extend_to.new.states c.write_rows.new.states c.extend_to.new.generator rows c.in-Ok.ensures.states c.in-Ok.ensures.held in
    let p = err_from_is_err_and c.from_residual-in_err-extend_to-2.result c.from_residual-in_err-extend_to-2.ensures.1 in
    rw (p.1, p.2) (making_cause (Unit {0}) (Unit {0}) number round round (g.F.Folder.faults c.args.folder.now) (g.F.Folder.faults c.write_rows.new.folder) c.in_err-extend_to-2.field-0.0 (omega arith) (c.in_err-extend_to-2.ensures.stops number (round - 320) again low))

pub write_tip-requires-clause-round : goal.write_tip-requires-clause-round
write_tip-requires-clause-round g c =
    let round = c.args.round in
    let number = c.requires.made.0 in
    let n = c.requires.made.1 in
    let m = c.requires.made.2 in
    let le = c.requires.made.3 in
    let few = c.requires.few in
    let low : round - 320 ≤ round = omega arith in
    let rows = c.in_ok-extend_to.ensures.made number n m (at_rows number n round c.extend_to.new.states c.extend_to.new.generator le few) in
    let again = made_again number (round - 320) c.extend_to.new.states c.write_rows.new.states c.extend_to.new.generator rows c.in-Ok.ensures.states c.in-Ok.ensures.held in
    let written = of_rows number (round - 320) round c.extend_to.new.states c.extend_to.new.generator rows c.in-Ok.written (g.F.Folder.files c.args.folder.now) (g.F.Folder.files c.write_rows.new.folder) c.in-Ok.ensures.written c.in-Ok.ensures.files in
    let at = round_of number (round - 320) round c.in-Ok.written (g.F.Folder.files c.args.folder.now) (g.F.Folder.files c.write_rows.new.folder) written in
    let now = c.in_ok-extend_to-2.ensures.made number (round - 320) again low in
    tip_due number round c.extend_to-2.new.states c.extend_to-2.new.generator c.in-Ok.written now few at (point_high round c.requires.interval)

pub write_tip-requires-clause-rows : goal.write_tip-requires-clause-rows
write_tip-requires-clause-rows g c =
    let round = c.args.round in
    let number = c.requires.made.0 in
    let n = c.requires.made.1 in
    let m = c.requires.made.2 in
    let le = c.requires.made.3 in
    let few = c.requires.few in
    let low : round - 320 ≤ round = omega arith in
    let rows = c.in_ok-extend_to.ensures.made number n m (at_rows number n round c.extend_to.new.states c.extend_to.new.generator le few) in
    let again = made_again number (round - 320) c.extend_to.new.states c.write_rows.new.states c.extend_to.new.generator rows c.in-Ok.ensures.states c.in-Ok.ensures.held in
    let written = of_rows number (round - 320) round c.extend_to.new.states c.extend_to.new.generator rows c.in-Ok.written (g.F.Folder.files c.args.folder.now) (g.F.Folder.files c.write_rows.new.folder) c.in-Ok.ensures.written c.in-Ok.ensures.files in
    let at = round_of number (round - 320) round c.in-Ok.written (g.F.Folder.files c.args.folder.now) (g.F.Folder.files c.write_rows.new.folder) written in
    let now = c.in_ok-extend_to-2.ensures.made number (round - 320) again low in
    rows_in number (round - 320) round c.extend_to-2.new.states c.in-Ok.written (g.F.Folder.files c.args.folder.now) (g.F.Folder.files c.write_rows.new.folder) written (rows_sum number n round c.extend_to.new.states c.extend_to.new.generator le few rows) (rows_long number n round c.extend_to.new.states c.extend_to.new.generator le few rows) now.held_is

pub returns-in-Ok-write_tip-clause-made : goal.returns-in-Ok-write_tip-clause-made
returns-in-Ok-write_tip-clause-made g c number n m above =
    let round = c.args.round in
    let le = above in
    let few = c.requires.few in
    let low : round - 320 ≤ round = omega arith in
    let rows = c.in_ok-extend_to.ensures.made number n m (at_rows number n round c.extend_to.new.states c.extend_to.new.generator le few) in
    let again = made_again number (round - 320) c.extend_to.new.states c.write_rows.new.states c.extend_to.new.generator rows c.in-Ok.ensures.states c.in-Ok.ensures.held in
    let written = of_rows number (round - 320) round c.extend_to.new.states c.extend_to.new.generator rows c.in-Ok.written (g.F.Folder.files c.args.folder.now) (g.F.Folder.files c.write_rows.new.folder) c.in-Ok.ensures.written c.in-Ok.ensures.files in
    let at = round_of number (round - 320) round c.in-Ok.written (g.F.Folder.files c.args.folder.now) (g.F.Folder.files c.write_rows.new.folder) written in
    let now = c.in_ok-extend_to-2.ensures.made number (round - 320) again low in
    (now, pointed number (round - 320) round c.extend_to-2.new.states c.extend_to-2.new.generator c.in-Ok.written (g.F.Folder.files c.args.folder.now) (g.F.Folder.files c.write_rows.new.folder) (g.F.Folder.files c.write_tip.new.folder) c.in-Ok-write_tip.label now written (rows_sum number n round c.extend_to.new.states c.extend_to.new.generator le few rows) (rows_long number n round c.extend_to.new.states c.extend_to.new.generator le few rows) c.in-Ok-write_tip.ensures.label c.in-Ok-write_tip.ensures.whole)

pub returns-in-Ok-write_tip-clause-kept : goal.returns-in-Ok-write_tip-clause-kept
returns-in-Ok-write_tip-clause-kept g c =
    let round = c.args.round in
    let number = c.requires.made.0 in
    let n = c.requires.made.1 in
    let m = c.requires.made.2 in
    let le = c.requires.made.3 in
    let few = c.requires.few in
    let low : round - 320 ≤ round = omega arith in
    let rows = c.in_ok-extend_to.ensures.made number n m (at_rows number n round c.extend_to.new.states c.extend_to.new.generator le few) in
    let again = made_again number (round - 320) c.extend_to.new.states c.write_rows.new.states c.extend_to.new.generator rows c.in-Ok.ensures.states c.in-Ok.ensures.held in
    let written = of_rows number (round - 320) round c.extend_to.new.states c.extend_to.new.generator rows c.in-Ok.written (g.F.Folder.files c.args.folder.now) (g.F.Folder.files c.write_rows.new.folder) c.in-Ok.ensures.written c.in-Ok.ensures.files in
    let at = round_of number (round - 320) round c.in-Ok.written (g.F.Folder.files c.args.folder.now) (g.F.Folder.files c.write_rows.new.folder) written in
    tip_kept round c.in-Ok.written.round (g.F.Folder.files c.args.folder.now) (g.F.Folder.files c.write_rows.new.folder) (g.F.Folder.files c.write_tip.new.folder) at c.in-Ok.ensures.kept c.in-Ok-write_tip.ensures.kept

pub returns-in-Err-write_tip-clause-kept : goal.returns-in-Err-write_tip-clause-kept
returns-in-Err-write_tip-clause-kept g c =
    let round = c.args.round in
    let number = c.requires.made.0 in
    let n = c.requires.made.1 in
    let m = c.requires.made.2 in
    let le = c.requires.made.3 in
    let few = c.requires.few in
    let low : round - 320 ≤ round = omega arith in
    let rows = c.in_ok-extend_to.ensures.made number n m (at_rows number n round c.extend_to.new.states c.extend_to.new.generator le few) in
    let again = made_again number (round - 320) c.extend_to.new.states c.write_rows.new.states c.extend_to.new.generator rows c.in-Ok.ensures.states c.in-Ok.ensures.held in
    let written = of_rows number (round - 320) round c.extend_to.new.states c.extend_to.new.generator rows c.in-Ok.written (g.F.Folder.files c.args.folder.now) (g.F.Folder.files c.write_rows.new.folder) c.in-Ok.ensures.written c.in-Ok.ensures.files in
    let at = round_of number (round - 320) round c.in-Ok.written (g.F.Folder.files c.args.folder.now) (g.F.Folder.files c.write_rows.new.folder) written in
    tip_kept round c.in-Ok.written.round (g.F.Folder.files c.args.folder.now) (g.F.Folder.files c.write_rows.new.folder) (g.F.Folder.files c.write_tip.new.folder) at c.in-Ok.ensures.kept c.in-Err-write_tip.ensures.kept
