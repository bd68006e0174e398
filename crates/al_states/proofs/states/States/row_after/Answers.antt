use Rattle.std.proofs.Common.{◌∙◌, ap, option_map}
use Rattle.al_rows.specs.declared.stored.Stored.{Stored}
use Rattle.al_states.proofs.LookLemmas.{begun, row_below, row_changed, within}
use Rattle.al_states.proofs.states.States.row_after.Goals as goal

pub find-requires-clause-from : goal.find-requires-clause-from
find-requires-clause-from c = begun c.args.self.now c.args.round c.requires.states

pub find-requires-clause-top : goal.find-requires-clause-top
find-requires-clause-top c = within c.args.self.now c.args.round c.requires.states c.requires.within

pub returns-in-Some-clause-row : goal.returns-in-Some-clause-row
returns-in-Some-clause-row c = c.as_ref.ensures.value ∙ row_changed c.args.self.now c.args.round c.args.key.now (c.in-Some.field-0-0, c.in-Some.row.now) c.requires.states c.in-Some.ensures.last

pub returns-in-Some-get-clause-row : goal.returns-in-Some-get-clause-row
returns-in-Some-get-clause-row c = ap (option_map (λ (x : Stored). x.row)) c.in-Some-get.ensures.row ∙ row_below c.args.self.now c.args.round c.args.key.now c.requires.states c.in-None.ensures.last

pub returns-in-None-get-clause-row : goal.returns-in-None-get-clause-row
returns-in-None-get-clause-row c = ap (option_map (λ (x : Stored). x.row)) c.in-None-get.ensures.row ∙ row_below c.args.self.now c.args.round c.args.key.now c.requires.states c.in-None.ensures.last
