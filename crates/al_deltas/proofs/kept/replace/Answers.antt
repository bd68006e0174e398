use Rattle.std.proofs.Common.{◌≡◌, ◌∙◌, ap, subst, cond, Some, Ordering}
use Rattle.std.specs.BTreeMap.{get, is_at}
use Rattle.al_base.specs.declared.key.Key.{Key}
use Rattle.al_rows.proofs.Keys.{derived_order}
use Rattle.al_deltas.specs.Index.{shows_params}
use Rattle.al_deltas.proofs.kept.replace.Goals as goal

pub returns-in-Ok-clause-had : goal.returns-in-Ok-clause-had
returns-in-Ok-clause-had c =
    c.had_params.ensures ∙ ap shows_params (subst (λ (R : Key → Key → Ordering). c.in-Ok.before ≡ get R c.args.rows.now c.args.key.now) derived_order c.in-Ok.ensures.old)

pub returns-in-Ok-clause-ok : goal.returns-in-Ok-clause-ok
returns-in-Ok-clause-ok c =
    subst (λ (R : Key → Key → Ordering). (q : Key) → get R c.insert.new.self q ≡ cond (is_at (R c.args.key.now) q) (Some c.args.stored) (get R c.args.rows.now q)) derived_order c.in-Ok.ensures.updates.0
