use Rattle.std.proofs.Common.{◌≡◌, ◌≤◌, ◌+◌, ◌*◌, ◌++◌, ◌∷◌, [], List, arith, suc, sym, subst}
use Rattle.std.proofs.lemmas.Result.{err_from_is_err_and}
use Rattle.al_catch.specs.declared.label.Label.{Label}
use Rattle.al_catchpoint.proofs.Longer.{keeps_none}
use Rattle.al_generated.specs.Catchpoints.{IsOwnName}
use Rattle.al_generated.proofs.MadeLemmas.{begun}
use Rattle.al_generated.proofs.PointLemmas.{HasPoints, all_points, cause_on, long_of, making_cause, no_points, own_kept, point_more}
use Rattle.al_generated.proofs.points.chain.Goals as goal

pub loop-k-init : goal.loop-k-init
loop-k-init g c = record {
  made = begun c.args.number c.in_ok-states.states c.new-generator.result c.in_ok-states.ensures.0 c.in_ok-states.ensures.1 c.new-generator.ensures;
  points = subst (λ (ls : List Label). HasPoints c.args.number 0 0 ls (g.F.Folder.files c.args.folder.now) (g.F.Folder.files c.args.folder.now)) (sym c.new-labels.ensures.items) (no_points c.args.number (g.F.Folder.files c.args.folder.now));
  kept = keeps_none (IsOwnName c.args.blocks) (g.F.Folder.files c.args.folder.now);
  later = omega arith;
}

pub returns-in_err-label-clause-kept : goal.returns-in_err-label-clause-kept
returns-in_err-label-clause-kept g c =
    let below = c.loop-k-test.true in
    own_kept c.args.blocks (800 * (c.loop-k.k + 1)) (g.F.Folder.files c.args.folder.now) (g.F.Folder.files c.loop-k.folder) (g.F.Folder.files c.catchpoint.new.folder) (omega (arith, below)) (omega arith) c.loop-k.invariant.kept c.in_err-label.ensures.kept

pub returns-in_err-label-clause-cause : goal.returns-in_err-label-clause-cause
returns-in_err-label-clause-cause g c =
    let below = c.loop-k-test.true in
    let p = err_from_is_err_and c.from_residual-in_err-label.result c.from_residual-in_err-label.ensures.1 in
    rw (p.1, p.2) (cause_on (Unit {0}) (Unit {0}) c.args.number (800 * (c.loop-k.k + 1)) c.args.blocks (g.F.Folder.faults c.args.folder.now) (g.F.Folder.faults c.loop-k.folder) (g.F.Folder.faults c.catchpoint.new.folder) c.in_err-label.field-0.0 (omega (arith, below)) c.loop-k.invariant.later (c.in_err-label.ensures.cause c.args.number (800 * c.loop-k.k) c.loop-k.invariant.made (omega arith)))

pub returns-in-Err-clause-kept : goal.returns-in-Err-clause-kept
returns-in-Err-clause-kept g c =
    let below = c.loop-k-test.true in
    own_kept c.args.blocks (800 * (c.loop-k.k + 1)) (g.F.Folder.files c.args.folder.now) (g.F.Folder.files c.loop-k.folder) (g.F.Folder.files c.catchpoint.new.folder) (omega (arith, below)) (omega arith) c.loop-k.invariant.kept c.in_ok-label.ensures.kept

pub loop-k-preserved : goal.loop-k-preserved
loop-k-preserved g c =
    let below = c.loop-k-test.true in
    let few = c.requires in
    let k = c.loop-k.k in
    let round = 800 * (k + 1) in
    let before = g.F.Folder.files c.args.folder.now in
    let mid = g.F.Folder.files c.loop-k.folder in
    let now = g.F.Folder.files c.catchpoint.new.folder in
    let step = c.in_ok-label.ensures.made c.args.number (800 * k) c.loop-k.invariant.made (omega arith) in
    let one : suc k ≡ k + 1 = omega arith in
    let points = point_more c.args.number (800 * k) k round c.loop-k.labels.items c.in_ok-label.label before mid now (omega arith) (omega (arith, below, few)) (omega arith) (long_of c.args.number (800 * k) c.loop-k.states c.loop-k.generator c.loop-k.invariant.made (omega (arith, below, few))) c.loop-k.invariant.points step.1 c.in_ok-label.ensures.kept in
    record {
      made = step.0;
      points = subst (λ (ls : List Label). HasPoints c.args.number round (k + 1) ls before now) (sym c.in-Ok.ensures) (subst (λ j. HasPoints c.args.number round j (c.loop-k.labels.items ++ c.in_ok-label.label ∷ []) before now) one points);
      kept = own_kept c.args.blocks round before mid now (omega (arith, below)) (omega arith) c.loop-k.invariant.kept c.in_ok-label.ensures.kept;
      later = (let a = c.loop-k.invariant.later in let b = c.in_ok-label.ensures.later in omega (arith, a, b));
    }

pub returns-in_err-extend_to-clause-cause : goal.returns-in_err-extend_to-clause-cause
returns-in_err-extend_to-clause-cause g c =
    let most : 800 * c.loop-k.k ≤ c.args.blocks = omega arith in
    let p = err_from_is_err_and c.from_residual-in_err-extend_to.result c.from_residual-in_err-extend_to.ensures.1 in
    rw (p.1, p.2) (making_cause (Unit {0}) (Unit {0}) c.args.number c.args.blocks c.args.blocks (g.F.Folder.faults c.args.folder.now) (g.F.Folder.faults c.loop-k.folder) c.in_err-extend_to.field-0.0 (omega arith) (c.in_err-extend_to.ensures.stops c.args.number (800 * c.loop-k.k) c.loop-k.invariant.made most))

pub returns-clause-made : goal.returns-clause-made
returns-clause-made g c =
    let most : 800 * c.loop-k.k ≤ c.args.blocks = omega arith in
    let m = c.in_ok-extend_to.ensures.made c.args.number (800 * c.loop-k.k) c.loop-k.invariant.made most in
    (m.states, m.held_is)

pub returns-clause-points : goal.returns-clause-points
returns-clause-points g c =
    let most : 800 * c.loop-k.k ≤ c.args.blocks = omega arith in
    let few = c.requires in
    all_points c.args.number (800 * c.loop-k.k) c.loop-k.k c.args.blocks c.loop-k.labels.items (g.F.Folder.files c.args.folder.now) (g.F.Folder.files c.loop-k.folder) most (omega arith) (long_of c.args.number (800 * c.loop-k.k) c.loop-k.states c.loop-k.generator c.loop-k.invariant.made (omega (arith, most, few))) c.loop-k.invariant.points
