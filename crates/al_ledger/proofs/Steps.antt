-- What each block changes, from one state to the next.
use Rattle.std.proofs.Common.{◌≡◌, ℕ, zero, suc, List, [], ◌∷◌, ◌++◌, length, take, drop, refl, sym, ap, ◌∙◌, subst, Result, Ok, Err, Option, Some, None}
use Rattle.std.specs.Option.{option_or}
use Rattle.al_base.specs.declared.address.Address.{Address}
use Rattle.al_block.specs.declared.block.Block.{Block}
use Rattle.al_block.specs.declared.header.Header.{Header}
use Rattle.al_deltas.specs.declared.delta.RoundDelta.{RoundDelta}
use Rattle.al_deltas.specs.Queue.{creator_in, last_creator, level_after, rows_after, totals_after}
use Rattle.al_eval.proofs.Chains.{after_step}
use Rattle.al_eval.specs.State.{State, counts_in, replay, step}
use Rattle.al_eval.specs.Steps.{Refusal}
use Rattle.al_overlay.specs.Rules.{then_do}
use Rattle.al_rewards.specs.declared.totals.Totals.{Totals}
use Rattle.al_rows.specs.Finite.{or_below}
use Rattle.al_rows.specs.Rows.{bare, creator_of}
use Rattle.al_ledger.specs.Steps.{Follows, StepsTo}

-- replay goes on from where it came
pub replay-then : (o s : State) (b : Block) (bs : List Block) → step o b ≡ Ok s → replay o (b ∷ bs) ≡ replay s bs
replay-then o s b bs e = ap (λ r. then_do r (λ t. replay t bs)) e

by_step : (o m : State) (x : Block) (xs ys : List Block) (r : Result State Refusal) → ((s : State) → replay s xs ≡ Ok m → replay s (xs ++ ys) ≡ replay m ys) → step o x ≡ r → then_do r (λ t. replay t xs) ≡ Ok m → replay o (x ∷ (xs ++ ys)) ≡ replay m ys
by_step o m x xs ys (Ok s) more is go = replay-then o s x (xs ++ ys) is ∙ more s go
by_step o m x xs ys (Err r) more is go = absurd (let z : ◌≡◌ {A = Result State Refusal} (Err r) (Ok m) = go in cc)

-- also over several blocks
pub replay_on : (o m : State) (xs ys : List Block) → replay o xs ≡ Ok m → replay o (xs ++ ys) ≡ replay m ys
replay_on o m [] ys e = ap (λ (s : State). replay s ys) (let is : o ≡ m = cc in is)
replay_on o m (x ∷ xs) ys e = by_step o m x xs ys (step o x) (λ s. replay_on s m xs ys) refl e

pub follows_replay : (o last : State) (bs : List Block) (ds : List RoundDelta) → Follows o bs ds last → replay o bs ≡ Ok last
follows_replay o last [] [] e = ap Ok e
follows_replay o last [] (d ∷ ds) f = absurd f
follows_replay o last (b ∷ bs) [] f = absurd f
follows_replay o last (b ∷ bs) (d ∷ ds) (n, x, rest) = replay-then o n b bs x.stepped ∙ follows_replay n last bs ds rest

pub follows_length : (o last : State) (bs : List Block) (ds : List RoundDelta) → Follows o bs ds last → length ds ≡ length bs
follows_length o last [] [] e = refl
follows_length o last [] (d ∷ ds) f = absurd f
follows_length o last (b ∷ bs) [] f = absurd f
follows_length o last (b ∷ bs) (d ∷ ds) (n, x, rest) = ap suc (follows_length n last bs ds rest)

pub follows_push : (o last next : State) (bs : List Block) (ds : List RoundDelta) (b : Block) (d : RoundDelta) → Follows o bs ds last → StepsTo last b d next → Follows o (bs ++ b ∷ []) (ds ++ d ∷ []) next
follows_push o last next [] [] b d e y = (next, subst (λ s. StepsTo s b d next) (sym e) y, refl)
follows_push o last next [] (x ∷ ds) b d f y = absurd f
follows_push o last next (x ∷ bs) [] b d f y = absurd f
follows_push o last next (x ∷ bs) (z ∷ ds) b d (n, first, rest) y = (n, first, follows_push n last next bs ds b d rest y)

-- what is known of the state after the first k blocks, and what follows it, over totals of the first state
pub record IsAt (o last : State) (t : Totals) (bs : List Block) (ds : List RoundDelta) (k : ℕ) : Type 0 where
  pub state : State
  pub replayed : replay o (take k bs) ≡ Ok state
  pub to_there : Follows o (take k bs) (take k ds) state
  pub from_there : Follows state (drop k bs) (drop k ds) last
  pub rows_are : state.rows ≡ rows_after (take k ds) o.rows
  pub level_is : state.header.level ≡ level_after (take k ds) o.header.level
  pub creators_are : (id : ℕ) → creator_of (bare state.rows) id ≡ or_below (last_creator id (take k ds)) (creator_of (bare o.rows) id)
  pub totals_are : totals_after (take k ds) t ≡ counts_in state

two_creators : (late here : Option (Option Address)) (below : Option Address) → or_below late (or_below here below) ≡ or_below (option_or late here) below
two_creators None here below = refl
two_creators (Some who) here below = refl

pub follows_at : (o last : State) (t : Totals) (bs : List Block) (ds : List RoundDelta) (k : ℕ) → t ≡ counts_in o → Follows o bs ds last → IsAt o last t bs ds k
follows_at o last t bs ds zero e f = record { state = o; replayed = refl; to_there = refl; from_there = f; rows_are = refl; level_is = refl; creators_are = λ id. refl; totals_are = e }
follows_at o last t [] [] (suc k) e f = record { state = o; replayed = refl; to_there = refl; from_there = f; rows_are = refl; level_is = refl; creators_are = λ id. refl; totals_are = e }
follows_at o last t [] (d ∷ ds) (suc k) e f = absurd f
follows_at o last t (b ∷ bs) [] (suc k) e f = absurd f
follows_at o last t (b ∷ bs) (d ∷ ds) (suc k) e (n, x, rest) =
    let found = follows_at n last d.totals bs ds k x.totals rest in
    record {
      state = found.state;
      replayed = replay-then o n b (take k bs) x.stepped ∙ found.replayed;
      to_there = (n, x, found.to_there);
      from_there = found.from_there;
      rows_are = found.rows_are ∙ ap (rows_after (take k ds)) x.rows;
      level_is = found.level_is ∙ ap (λ (h : Header). level_after (take k ds) h.level) ((after_step o n b x.stepped).0 ∙ sym x.is_of.header);
      creators_are = λ id. found.creators_are id ∙ ap (or_below (last_creator id (take k ds))) (x.creators id) ∙ two_creators (last_creator id (take k ds)) (creator_in id d.creators) (creator_of (bare o.rows) id);
      totals_are = found.totals_are;
    }
