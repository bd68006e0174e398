-- What each block above the tables changes.
use Rattle.std.specs.Prelude.{◌≡◌, ℕ, List, [], ◌∷◌}
use Rattle.std.specs.declared.result.Result.TheVariants.{Ok}
use Rattle.al_block.specs.declared.block.Block.{Block}
use Rattle.al_deltas.specs.declared.delta.RoundDelta.{RoundDelta}
use Rattle.al_deltas.specs.Queue.{after_delta, creator_in}
use Rattle.al_eval.specs.Answers.{IsDeltaOf}
use Rattle.al_eval.specs.State.{State, counts_in, last_snap, step}
use Rattle.al_online.specs.Stakes.{next_snap}
use Rattle.al_rows.specs.Finite.{or_below}
use Rattle.al_rows.specs.Rows.{bare, creator_of}

-- a block leads from one state to the next, whose rows, creators and online accounts are those before with what the block changes put over them
pub record StepsTo (s : State) (b : Block) (d : RoundDelta) (n : State) : Type 0 where
  pub stepped : step s b ≡ Ok n
  pub rows : n.rows ≡ after_delta d s.rows
  pub creators : (id : ℕ) → creator_of (bare n.rows) id ≡ or_below (creator_in id d.creators) (creator_of (bare s.rows) id)
  pub totals : d.totals ≡ counts_in n
  pub online : last_snap n ≡ next_snap n.header.level d.online (last_snap s)
  pub is_of : IsDeltaOf b.header d

-- each block leads from one state to the next
abbrev pub Follows : State → List Block → List RoundDelta → State → Type 0
Follows s [] [] last = s ≡ last
Follows s (b ∷ bs) (d ∷ ds) last = (n : State) × StepsTo s b d n × Follows n bs ds last
Follows s bs ds last = ⊥
