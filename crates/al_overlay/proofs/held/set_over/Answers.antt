use Rattle.std.proofs.Common.{◌∙◌, sym, ap, subst, List, Option}
use Rattle.al_base.specs.declared.key.Key.{Key}
use Rattle.al_rows.specs.declared.row.Row.{Row}
use Rattle.al_rows.specs.Finite.{overlaid}
use Rattle.al_overlay.specs.Held.{IsWork, nows}
use Rattle.al_overlay.proofs.Holds.{added-now, added-start, added-started, added-work}
use Rattle.al_overlay.proofs.held.set_over.Goals as goal

pub returns-in_err-keep-clause-work : goal.returns-in_err-keep-clause-work
returns-in_err-keep-clause-work c = λ t m w is.
    subst (λ (ss : List (Key × Option Row)). IsWork t m c.put.new.rows.entries ss) (sym c.in_err-keep.ensures.err)
    (added-work c.args.rows.now.entries c.put.new.rows.entries c.args.started.now.items c.args.key.now c.args.block c.args.row c.in_ok-put.ensures.ok t m w (λ e. c.requires.copied ∙ is e) c.requires.kept)

pub returns-clause-work : goal.returns-clause-work
returns-clause-work c = λ t m w is.
    subst (λ (ss : List (Key × Option Row)). IsWork t m c.put.new.rows.entries ss) (sym (c.in_ok-keep.ensures.ok w.ordered))
    (added-started c.args.rows.now.entries c.put.new.rows.entries c.args.started.now.items c.args.key.now c.args.block c.args.row c.in_ok-put.ensures.ok t m c.args.old w (λ e. c.requires.copied ∙ is e) c.requires.kept)

pub returns-clause-now : goal.returns-clause-now
returns-clause-now c = λ m.
    added-now c.args.rows.now.entries c.put.new.rows.entries c.args.started.now.items c.args.key.now c.args.block c.args.row c.in_ok-put.ensures.ok m

pub returns-clause-start : goal.returns-clause-start
returns-clause-start c = λ t m w none is.
    ap (λ (ss : List (Key × Option Row)). overlaid ss (overlaid (nows c.put.new.rows.entries) m)) (c.in_ok-keep.ensures.ok w.ordered)
    ∙ added-start c.args.rows.now.entries c.put.new.rows.entries c.args.started.now.items c.args.key.now c.args.block c.args.row c.in_ok-put.ensures.ok t m c.args.old w none is
