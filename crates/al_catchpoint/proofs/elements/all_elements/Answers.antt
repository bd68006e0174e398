use Rattle.al_catchpoint.proofs.ElementLemmas.{pieces_end, pieces_next}
use Rattle.al_catchpoint.proofs.Rest.{gathered_none}
use Rattle.al_catchpoint.proofs.elements.all_elements.Goals as goal

pub pieces-init : goal.pieces-init
pieces-init c = gathered_none _ _ c.new-trie.ensures.none

pub pieces-smaller : goal.pieces-smaller
pieces-smaller c = (pieces_next c.args.states.now c.pieces.after _ _ _ _ _ c.requires.states c.pieces.invariant c.as_ref.ensures.value c.in-Some.is c.in_ok-last.ensures).fewer

pub pieces-preserved : goal.pieces-preserved
pieces-preserved c = (pieces_next c.args.states.now c.pieces.after _ _ _ _ _ c.requires.states c.pieces.invariant c.as_ref.ensures.value c.in-Some.is c.in_ok-last.ensures).gathered

pub returns : goal.returns
returns c = pieces_end c.args.states.now c.pieces.after _ _ _ _ c.requires.states c.pieces.invariant c.as_ref.ensures.value c.in_default.not-Some c.in_ok-last.ensures
