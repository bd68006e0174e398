use Rattle.al_trie.proofs.Uses.{found_read, missing_read, missing_past}
use Rattle.al_trie.proofs.kids.link_at.Goals as goal

pub returns-then-kid-byte : goal.returns-then-kid-byte
returns-then-kid-byte c = found_read c.args.byte c.args.kids.now c.place_of-at.result _ c.requires c.place_of-at.ensures c.if-at-kids.true c.if-kid-byte.true

pub returns-else-kid-byte : goal.returns-else-kid-byte
returns-else-kid-byte c = missing_read c.args.byte c.args.kids.now c.place_of-at.result _ c.requires c.place_of-at.ensures c.if-at-kids.true c.if-kid-byte.false

pub returns-else-at-kids : goal.returns-else-at-kids
returns-else-at-kids c = missing_past c.args.byte c.args.kids.now c.place_of-at.result c.requires c.place_of-at.ensures c.if-at-kids.false
