use Rattle.std.proofs.Common.{rules}
use Rattle.std.proofs.lemmas.Fn.{always_returns_same}
use Rattle.al_base.specs.Keys.{key_cmp}
use Rattle.al_overlay.proofs.Places.{insert-gap, put_first-place, searchable}
use Rattle.al_overlay.proofs.held.place_of.Goals as goal

pub returns-in-Ok-clause-place : goal.returns-in-Ok-clause-place
returns-in-Ok-clause-place c = λ order row.
    let by_key = c.in-Ok.ensures.position (λ e. key_cmp e.0 c.args.key.now) (always_returns_same _ _ _ (λ a r f called. search rules)) in
    put_first-place c.args.key.now row c.args.started.now c.in-Ok.field-0 order c.in-Ok.ensures.bound by_key

pub returns-in-Err-clause-place : goal.returns-in-Err-clause-place
returns-in-Err-clause-place c = λ order row.
    let by_key = c.in-Err.ensures.position (λ e. key_cmp e.0 c.args.key.now) (always_returns_same _ _ _ (λ a r f called. search rules)) in
    let parted = by_key (searchable c.args.key.now c.args.started.now order) in
    insert-gap c.args.key.now row c.args.started.now c.in-Err.i c.in-Err.ensures.bound parted.0 parted.1
