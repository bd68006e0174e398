use Rattle.std.proofs.Common.{◌≡◌, ℕ, map, subst, sym}
use Rattle.al_moves.specs.Created.{AreCreatorChanges, creator_change_of}
use Rattle.al_overlay.specs.Work.{HasOneCreator}
use Rattle.al_eval.proofs.run.run_block.Goals as goal

pub returns-clause-creators : goal.returns-clause-creators
returns-clause-creators g c = λ t one.
    let e = c.in_ok-creators.ensures in
    let block : c.block_rows.new.work.block ≡ c.args.work.now.block = c.block_rows.ensures.step.fixed.block t in
    let now : c.creators_in.new.work.now ≡ c.block_rows.new.work.now = e.sees.now t in
    let changes : AreCreatorChanges c.block_rows.new.work.block c.block_rows.new.work.now (map creator_change_of c.in_ok-creators.creators) = e.changes t (subst (λ m. (id : ℕ) → HasOneCreator m id) (sym block) one) in
    subst (λ m. AreCreatorChanges c.args.work.now.block m (map creator_change_of c.in_ok-creators.creators)) (sym now) (subst (λ m. AreCreatorChanges m c.block_rows.new.work.now (map creator_change_of c.in_ok-creators.creators)) block changes)
