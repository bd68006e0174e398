use Rattle.std.proofs.Common.{◌≡◌, List, Some, All, Ordering, subst}
use Rattle.std.specs.BTreeMap as tree
use Rattle.al_base.specs.declared.key.Key.{Key}
use Rattle.al_rows.specs.declared.stored.Stored.{Stored}
use Rattle.al_rows.proofs.Keys.{derived_order}
use Rattle.al_deltas.proofs.Indexes.{ArePassed, passed_all, passed_none, passed_one}
use Rattle.al_deltas.proofs.index.index_of.Goals as goal

pub loop-key-init : goal.loop-key-init
loop-key-init c =
    let rows = c.args.rows.now in
    let gives = c.into_iter-key-iterator.ensures.into_iter_gives in
    passed_none rows c.into_iter-key-iterator.result c.new-creators.result gives.0
    (subst (λ (R : Key → Key → Ordering). All (λ (e : Key × Stored). tree.get R rows e.0 ≡ Some e.1) rows.entries) derived_order gives.6)
    c.new-creators.ensures.empty

pub loop-key-preserved : goal.loop-key-preserved
loop-key-preserved c =
    passed_one (c.in-Some.key.now, c.in-Some.stored.now) c.next.new.self c.args.rows.now.entries c.loop-key.creators c.note_row.new.creators
    (subst (λ (es : List (Key × Stored)). ArePassed es c.args.rows.now.entries c.loop-key.creators) c.in-Some.ensures.steps c.loop-key.invariant)
    (c.in_ok-note_row.ensures.first c.if-not-branch.false) c.in_ok-note_row.ensures.noted

pub returns : goal.returns
returns c = passed_all c.args.rows.now c.loop-key.creators (subst (λ (es : List (Key × Stored)). ArePassed es c.args.rows.now.entries c.loop-key.creators) c.in-None.ensures.steps.0 c.loop-key.invariant)
