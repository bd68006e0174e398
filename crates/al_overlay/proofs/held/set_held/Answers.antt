use Rattle.std.proofs.Common.{◌∙◌, sym, ap, subst, List, Option}
use Rattle.al_base.specs.declared.key.Key.{Key}
use Rattle.al_rows.specs.declared.row.Row.{Row}
use Rattle.al_rows.specs.Finite.{overlaid}
use Rattle.al_overlay.specs.Held.{IsWork, nows}
use Rattle.al_overlay.proofs.Holds.{replaced-now, replaced-start, replaced-work}
use Rattle.al_overlay.proofs.Overlays.{IsWork-replace}
use Rattle.al_overlay.proofs.held.set_held.Goals as goal

pub returns-in-Ok-keep-clause-work : goal.returns-in-Ok-keep-clause-work
returns-in-Ok-keep-clause-work c = λ t m w.
    subst (λ (ss : List (Key × Option Row)). IsWork t m c.replace.new.rows.entries ss) (sym (c.in-Ok-keep.ensures.ok w.ordered))
    (replaced-work c.args.rows.now.entries c.replace.new.rows.entries c.args.started.now.items c.args.key.now c.args.row c.in-Ok.old c.in-Ok.ensures.ok c.in-Ok.ensures.old t m w c.requires)

pub returns-in-Err-keep-clause-work : goal.returns-in-Err-keep-clause-work
returns-in-Err-keep-clause-work c = λ t m w.
    subst (λ (ss : List (Key × Option Row)). IsWork t m c.replace.new.rows.entries ss) (sym c.in-Err-keep.ensures.err)
    (IsWork-replace c.replace.new.rows.entries c.args.key.now c.args.row w c.requires c.in-Ok.ensures.ok)

pub returns-in-Ok-keep-clause-now : goal.returns-in-Ok-keep-clause-now
returns-in-Ok-keep-clause-now c = λ m.
    replaced-now c.args.rows.now.entries c.replace.new.rows.entries c.args.started.now.items c.args.key.now c.args.row c.in-Ok.old c.in-Ok.ensures.ok c.in-Ok.ensures.old m

pub returns-in-Ok-keep-clause-start : goal.returns-in-Ok-keep-clause-start
returns-in-Ok-keep-clause-start c = λ t m w.
    ap (λ (ss : List (Key × Option Row)). overlaid ss (overlaid (nows c.replace.new.rows.entries) m)) (c.in-Ok-keep.ensures.ok w.ordered)
    ∙ replaced-start c.args.rows.now.entries c.replace.new.rows.entries c.args.started.now.items c.args.key.now c.args.row c.in-Ok.old c.in-Ok.ensures.ok c.in-Ok.ensures.old t m w
