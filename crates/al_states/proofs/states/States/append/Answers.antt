use Rattle.std.proofs.Common.{◌≤◌, ◌^◌, ◌∙◌, ap, suc, sym, subst}
use Rattle.al_block.specs.Block.{IsBlock}
use Rattle.al_states.specs.declared.keeping.KeptBlock.{KeptBlock}
use Rattle.al_states.proofs.KeepLemmas.{kept_more, top_is}
use Rattle.al_states.proofs.SoundLemmas.{round_within}
use Rattle.al_states.proofs.states.States.append.Goals as goal

pub keep-requires-clause-round : goal.keep-requires-clause-round
keep-requires-clause-round c = c.requires.leads.evaluated.steps.is_of.round ∙ c.requires.next ∙ ap suc (sym (top_is c.args.self.now c.requires.states))

pub keep-requires-clause-most : goal.keep-requires-clause-most
keep-requires-clause-most c = subst (λ n. n ≤ 2 ^ 62) (sym c.requires.leads.evaluated.steps.is_of.round) (round_within c.args.bytes.now c.args.block c.requires.spelled)

pub keep-requires-clause-follows : goal.keep-requires-clause-follows
keep-requires-clause-follows c = c.requires.leads.evaluated.steps.is_of.round ∙ c.requires.next ∙ ap suc (sym c.requires.states.online.top_is)

pub returns-clause-states : goal.returns-clause-states
returns-clause-states c =
    let s = c.args.self.now in
    let next : KeptBlock = record { block = c.args.block; bytes = c.in_ok-bytes.bytes } in
    let spells : IsBlock c.in_ok-bytes.bytes.items c.args.block = subst (λ bytes. IsBlock bytes c.args.block) (sym (c.in_ok-bytes.ensures.items_if_clones_equal (λ x y e. e))) c.requires.spelled in
    let ok = c.in_ok-keep.ensures.ok in
    kept_more s.before.chain s.first s.base s.newest s.deltas c.keep.new.deltas s.kept.items c.keep.new.kept.items s.before.header c.in_ok-header.header s.before.hash s.before.totals s.tail c.keep.new.tail s.online c.keep.new.online next c.args.evaluated
    c.requires.states c.requires.newest c.requires.leads spells ok.2 ok.0 c.in_ok-header.ensures ok.1 c.requires.next ok.3 ok.4
