use Rattle.std.proofs.Common.{◌≡◌, get_or, slice_index_or, Some, [], ◌∷◌, ◌++◌, sym, ap, ◌∙◌, subst}
use Rattle.std.proofs.lemmas.Option.{slice_get-get_or}
use Rattle.std.proofs.lemmas.List.{get_or_default}
use Rattle.al_trie.specs.declared.kids.Kid.{Kid}
use Rattle.al_trie.specs.declared.kids.Link.TheVariants.{Leaf}
use Rattle.al_trie.specs.Root.{through}
use Rattle.al_trie.specs.Slots.{full}
use Rattle.al_trie.specs.Arena.{SummaryFits}
use Rattle.al_trie.specs.Spelling.{seen_with}
use Rattle.al_trie.proofs.Spelling.{kid_summary, spell_more, seen_then, spell_all, seen_all}
use Rattle.al_trie.proofs.refresh.spell.Goals as goal

abbrev none : Kid
none = record { byte = 0; to = Leaf (record { 0 = 0 }) }

pub spell_child-requires-clause-fits : goal.spell_child-requires-clause-fits
spell_child-requires-clause-fits c =
    let kid : Kid = slice_index_or c.args.kids.now c.loop-kid.kid-index none in
    subst (λ u. SummaryFits (through (full c.args.slots.now)) c.args.slots.now (c.args.path.now ++ kid.byte ∷ []) (Some u)) (sym c.summary_of-summary.ensures)
    (kid_summary c.args.slots.now c.args.nodes.now c.requires.arena.fits c.requires.arena.elements c.args.path.now c.args.kids.now c.requires.short c.requires.rising c.requires.links c.requires.known c.loop-kid.kid-index kid (slice_get-get_or c.args.kids.now c.loop-kid.kid-index none c.loop-kid-test.true))

pub loop-kid-preserved : goal.loop-kid-preserved
loop-kid-preserved c =
    let kid : Kid = slice_index_or c.args.kids.now c.loop-kid.kid-index none in
    let it : kid ≡ get_or c.args.kids.now c.loop-kid.kid-index kid = get_or_default c.args.kids.now c.loop-kid.kid-index none kid c.loop-kid-test.true in
    record {
      bytes = spell_more c.args.slots.now c.args.nodes.now c.requires.arena.fits c.requires.arena.elements c.args.path.now c.args.kids.now c.requires.short c.requires.rising c.requires.links c.requires.known c.loop-kid.kid-index kid c.loop-kid.seen c.loop-kid.out.items c.args.out.now.items c.spell_child.new.out.items c.loop-kid-test.true it c.loop-kid.invariant.bytes c.in_ok-spell_child.ensures;
      seen = seen_then c.args.slots.now c.args.nodes.now c.requires.arena.fits c.requires.arena.elements c.args.path.now c.args.kids.now c.requires.short c.requires.rising c.requires.links c.requires.known c.loop-kid.kid-index kid c.loop-kid.seen c.joined_seen-seen.result c.loop-kid-test.true it (c.joined_seen-seen.ensures ∙ ap (seen_with c.loop-kid.seen) c.summary_of-summary.ensures) c.loop-kid.invariant.seen;
    }

pub returns-clause-bytes : goal.returns-clause-bytes
returns-clause-bytes c = spell_all c.args.slots.now c.args.nodes.now c.requires.arena.fits c.requires.arena.elements c.args.path.now c.args.kids.now c.requires.short c.requires.rising c.requires.links c.requires.known c.loop-kid.kid-index c.loop-kid.out.items c.args.out.now.items c.loop-kid-test.false c.loop-kid.invariant.bytes

pub returns-clause-seen : goal.returns-clause-seen
returns-clause-seen c = seen_all c.args.slots.now c.args.nodes.now c.requires.arena.fits c.requires.arena.elements c.args.path.now c.args.kids.now c.requires.short c.requires.rising c.requires.links c.requires.known c.loop-kid.kid-index c.loop-kid.seen c.loop-kid-test.false c.loop-kid.invariant.seen
