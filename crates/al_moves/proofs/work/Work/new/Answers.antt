use Rattle.al_overlay.proofs.Creators.{none_noted}
use Rattle.al_overlay.proofs.Overlays.{IsWork-new}
use Rattle.al_moves.proofs.work.Work.new.Goals as goal

pub invariant_of-result : goal.invariant_of-result
invariant_of-result g c = (IsWork-new g.V.RowView.tells (g.V.RowView.rows c.args.view) _ _ c.new.ensures.empty c.new-2.ensures.items, none_noted _ _ c.new.ensures.empty c.new-3.ensures.empty)
