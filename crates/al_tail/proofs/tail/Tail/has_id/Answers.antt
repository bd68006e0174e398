use Rattle.std.proofs.Common.{◌∙◌, ap, Some, None}
use Rattle.al_tail.specs.Past.{has_id}
use Rattle.al_tail.proofs.Pasts.{id_found}
use Rattle.al_tail.proofs.tail.Tail.has_id.Goals as goal

pub returns-in-Some : goal.returns-in-Some
returns-in-Some c =
    id_found c.args.round c.args.id.now c.self.inside.latest.rounds.entries c.self.inside.kept.items (Some c.in-Some.last) c.self.invariant c.in-Some.ensures
    ∙ ap (has_id c.args.round c.args.id.now) c.self.view_is

pub returns-in-None : goal.returns-in-None
returns-in-None c =
    id_found c.args.round c.args.id.now c.self.inside.latest.rounds.entries c.self.inside.kept.items None c.self.invariant c.in-None.ensures
    ∙ ap (has_id c.args.round c.args.id.now) c.self.view_is
