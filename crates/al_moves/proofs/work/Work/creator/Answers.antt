use Rattle.std.proofs.Common.{◌≡◌, subst, ◌∙◌}
use Rattle.al_rows.specs.Rows.{creator_of}
use Rattle.std.specs.BTreeMap as tree
use Rattle.std.specs.Ordering.{nat_cmp}
use Rattle.al_overlay.specs.Work.{Worked, HasOneCreator}
use Rattle.al_overlay.proofs.Creators.{creator_is, noted_at}
use Rattle.al_moves.proofs.work.Work.creator.Goals as goal
use Rattle.al_moves.proofs.work.Work.creator.Goals.{in-Ok, in-Err-Failed, in-Err-Memory}

pub returns-clause-value : goal.returns-clause-value
returns-clause-value g c = λ t. elim c.match-creator.branch [
  | in-Ok w ↦ rw w.result-is (subst (λ (x : Worked). HasOneCreator x.block c.args.id → w.creator_over.result ≡ creator_of x.now c.args.id) c.self.view_is
      (λ one. w.creator_over.ensures
      ∙ creator_is c.self.inside.rows.entries (g.V.RowView.rows c.self.inside.view) c.args.id (tree.get nat_cmp c.self.inside.creators c.args.id) w.in-Ok.viewed (noted_at c.self.inside.rows.entries c.self.inside.creators c.args.id c.self.invariant.1) (w.in-Ok.ensures.value t) one))
  | in-Err-Failed w ↦ rw w.result-is (λ _. tt)
  | in-Err-Memory w ↦ rw w.result-is (λ _. tt)
]
