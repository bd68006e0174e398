use Rattle.std.proofs.Common.{refl}
use Rattle.al_trie.proofs.Uses.{top_arena}
use Rattle.al_trie.proofs.arena.push_top.Goals as goal

pub returns-clause-arena : goal.returns-clause-arena
returns-clause-arena c = top_arena c.args.slots.now c.args.nodes.now.items c.push.new.self.items _ c.requires.arena c.requires.none c.in_ok-push.ensures.items refl refl refl refl c.new.ensures.items
