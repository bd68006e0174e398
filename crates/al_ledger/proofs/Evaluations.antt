-- What a step gives over the rows of tables and changes.
use Rattle.std.proofs.Common.{◌≡◌, map, All, sym, ap, ◌∙◌, refl, Bool, true, false, if◌then◌else◌, Result, Ok, Err, Option, Some, None, IfOk, IfSome}
use Rattle.std.specs.List.Sorted.{IsStrictlySortedBy}
use Rattle.std.specs.Ordering.{nat_cmp}
use Rattle.al_base.specs.declared.address.Address.{Address}
use Rattle.al_base.specs.Keys.{address_cmp, key_cmp}
use Rattle.al_block.specs.declared.block.Block.{Block}
use Rattle.al_deltas.specs.Queue.{creator_in}
use Rattle.al_eval.specs.Answers.{IsDeltaOf}
use Rattle.al_eval.specs.Evaluated.{delta_in}
use Rattle.al_eval.specs.Sound.{AreInRange, IsStep}
use Rattle.al_eval.specs.State.{State}
use Rattle.al_eval.specs.declared.before.EvalRefusal.{EvalRefusal}
use Rattle.al_eval.specs.declared.run.Evaluated.{Evaluated}
use Rattle.al_eval.proofs.Nexts.{rows_follow}
use Rattle.al_moves.specs.Created.{same_creator}
use Rattle.al_moves.proofs.Follows.{same_is_true}
use Rattle.al_online.proofs.Once.{once_where_rising}
use Rattle.al_rows.specs.Finite.{or_below}
use Rattle.al_rows.specs.Rows.{IsKept, bare, creator_of}
use Rattle.al_tail.specs.Past.{entry_of}
use Rattle.al_ledger.specs.Evaluating.{EvaluatesTo, IsTakable}

-- a creator that the block leaves as it was is the same
same_is : (before now : Option Address) → same_creator before now ≡ true → now ≡ before
same_is None None e = refl
same_is None (Some who) e = absurd cc
same_is (Some who) None e = absurd cc
same_is (Some a) (Some b) e = ap Some (sym (same_is_true a b e))

-- the creator of an id is what the block changed of it, or what it was
creator_follows : (changed : Option (Option Address)) (before now : Option Address) → changed ≡ (if same_creator before now then None else Some now) → now ≡ or_below changed before
creator_follows changed before now e = by_test (same_creator before now) refl ∙ ap (λ o. or_below o before) (sym e)
  where
    by_test : (b : Bool) → same_creator before now ≡ b → now ≡ or_below (if b then None else Some now) before
    by_test true same = same_is before now same
    by_test false other = refl

-- the step of a consistent state gives what the block changes
pub evaluates : {F : Type 0} (s : State) (b : Block) (r : Result Evaluated (EvalRefusal F)) → IsStep s b (delta_in r) → IfOk r (λ e. IsDeltaOf b.header e.delta) → AreInRange b → EvaluatesTo s b r
evaluates s b (Ok e) h is_of ranged = record {
  next = h.0;
  steps = record {
    stepped = h.1.stepped;
    rows = rows_follow s h.0 b e.delta is_of h.1;
    creators = λ id. creator_follows (creator_in id e.delta.creators) (creator_of (bare s.rows) id) (creator_of (bare h.0.rows) id) (h.1.creators.each id);
    totals = h.1.totals;
    online = h.1.online;
    is_of = is_of;
  };
  ranged = ranged;
}
evaluates s b (Err e) h is_of ranged = h

-- what a step gives may be kept
pub takable : {F : Type 0} (b : Block) (r : Result Evaluated (EvalRefusal F)) → IfOk r (λ e. e.entries.items ≡ map (λ i. entry_of i.txn) b.items) → IfOk r (λ e. IsDeltaOf b.header e.delta)
    → IfOk r (λ e. IsStrictlySortedBy key_cmp (map (λ c. c.key) e.delta.changes)) → IfOk r (λ e. All (λ c. IfSome c.row (IsKept c.key)) e.delta.changes)
    → IfOk r (λ e. IsStrictlySortedBy nat_cmp (map (λ c. c.id) e.delta.creators)) → IfOk r (λ e. IsStrictlySortedBy address_cmp (map (λ c. c.address) e.delta.online)) → IfOk r (IsTakable b)
takable b (Ok e) entries is_of ordered kept creators rising = record {
  is_of = is_of;
  kept = record { ordered = ordered; kept = kept; creators = creators };
  once = once_where_rising e.delta.online rising;
  entries = entries;
}
takable b (Err e) entries is_of ordered kept creators rising = tt
