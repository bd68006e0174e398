use Rattle.std.proofs.Common.{◌≡◌, IfOk, Option, subst}
use Rattle.al_base.specs.declared.address.Address.{Address}
use Rattle.al_states.proofs.LookLemmas.{begun, creator_below, creator_changed, within}
use Rattle.al_states.proofs.states.States.creator_after.Goals as goal

pub creator-requires-clause-from : goal.creator-requires-clause-from
creator-requires-clause-from c = begun c.args.self.now c.args.round c.requires.states

pub creator-requires-clause-top : goal.creator-requires-clause-top
creator-requires-clause-top c = within c.args.self.now c.args.round c.requires.states c.requires.within

pub returns-in-Some : goal.returns-in-Some
returns-in-Some c = creator_changed c.args.self.now c.args.round c.args.id c.in-Some.address c.requires.states c.in-Some.ensures

pub returns-in-None : goal.returns-in-None
returns-in-None c =
    subst (λ (who : Option Address). IfOk c.creator-in-None.result (λ creator. creator ≡ who)) (creator_below c.args.self.now c.args.round c.args.id c.requires.states c.in-None.ensures) c.creator-in-None.ensures
