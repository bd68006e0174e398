use Rattle.std.proofs.Common.{◌≡◌, ◌-◌, ◌<◌, length, [], ◌∷◌, ◌++◌, sym, ap, ◌∙◌, subst, arith, rules}
use Rattle.al_trie.specs.declared.arena.Node.{Node}
use Rattle.al_trie.specs.Root.{through, Empty, Several, child, each_byte, node}
use Rattle.al_trie.specs.Slots.{full}
use Rattle.al_trie.specs.Kids.{find_kid, Rising}
use Rattle.al_trie.specs.Arena.{LinkFits, path_of}
use Rattle.al_trie.specs.Spelling.{SeenFits, AreKnown}
use Rattle.al_trie.proofs.Uses.{read_is}
use Rattle.al_trie.proofs.Fits.{same_node}
use Rattle.al_trie.proofs.Finding.{length_path}
use Rattle.al_trie.proofs.Bytes.{node_spelled}
use Rattle.al_trie.proofs.refresh.summarize.Goals as goal

pub shared_ref_as_front-path : goal.shared_ref_as_front-path
shared_ref_as_front-path g c =
    let l : c.index-nodes-id.result.depth < 36 = (c.requires.arena.fits.each c.args.id.0 c.index-nodes-id.result (read_is c.args.nodes.now c.args.id.0 c.requires.known.0 c.index-nodes-id.result c.requires.known.1 c.index-nodes-id.is)).depth in
    omega arith

pub overflow_cast-node-2 : goal.overflow_cast-node-2
overflow_cast-node-2 g c =
    let l : c.index-nodes-id.result.depth < 36 = (c.requires.arena.fits.each c.args.id.0 c.index-nodes-id.result (read_is c.args.nodes.now c.args.id.0 c.requires.known.0 c.index-nodes-id.result c.requires.known.1 c.index-nodes-id.is)).depth in
    first_of (search rules, omega arith)

pub spell-requires-clause-short : goal.spell-requires-clause-short
spell-requires-clause-short g c =
    let a = read_is c.args.nodes.now c.args.id.0 c.requires.known.0 c.index-nodes-id.result c.requires.known.1 c.index-nodes-id.is in
    let l : c.index-nodes-id.result.depth < 36 = (c.requires.arena.fits.each c.args.id.0 c.index-nodes-id.result a).depth in
    let p : length (path_of c.index-nodes-id.result) ≡ c.index-nodes-id.result.depth = length_path (through (full c.args.slots.now)) c.args.slots.now c.args.nodes.now c.requires.arena.fits c.args.id.0 c.index-nodes-id.result a in
    omega arith

pub spell-requires-clause-rising : goal.spell-requires-clause-rising
spell-requires-clause-rising g c =
    subst (Rising 0) (sym c.as_slice.ensures.value) (c.requires.arena.fits.each c.args.id.0 c.index-nodes-id.result (read_is c.args.nodes.now c.args.id.0 c.requires.known.0 c.index-nodes-id.result c.requires.known.1 c.index-nodes-id.is)).rising

pub spell-requires-clause-links : goal.spell-requires-clause-links
spell-requires-clause-links g c = λ b.
    subst (λ its. LinkFits (through (full c.args.slots.now)) c.args.slots.now c.args.nodes.now (path_of c.index-nodes-id.result ++ b ∷ []) (find_kid b its)) (sym c.as_slice.ensures.value)
    ((c.requires.arena.fits.each c.args.id.0 c.index-nodes-id.result (read_is c.args.nodes.now c.args.id.0 c.requires.known.0 c.index-nodes-id.result c.requires.known.1 c.index-nodes-id.is)).links b)

pub spell-requires-clause-known : goal.spell-requires-clause-known
spell-requires-clause-known g c =
    let a = read_is c.args.nodes.now c.args.id.0 c.requires.known.0 c.index-nodes-id.result c.requires.known.1 c.index-nodes-id.is in
    subst (AreKnown c.args.nodes.now) (sym c.as_slice.ensures.value) (subst (λ (y : Node). AreKnown c.args.nodes.now y.kids.items) (same_node c.requires.known.1 a) c.requires.known.2)

pub returns-in-Nothing-clause-summary : goal.returns-in-Nothing-clause-summary
returns-in-Nothing-clause-summary g c = λ n b.
    let a = read_is c.args.nodes.now c.args.id.0 c.requires.known.0 c.index-nodes-id.result c.requires.known.1 c.index-nodes-id.is in
    subst (λ p. through (full c.args.slots.now) p ≡ Empty) (ap path_of (same_node a b))
    (subst (λ s. SeenFits c.args.slots.now s (through (full c.args.slots.now) (path_of c.index-nodes-id.result))) c.in-Nothing.is c.in_ok-seen.ensures.seen)

pub returns-in-One-clause-summary : goal.returns-in-One-clause-summary
returns-in-One-clause-summary g c = λ n b.
    let a = read_is c.args.nodes.now c.args.id.0 c.requires.known.0 c.index-nodes-id.result c.requires.known.1 c.index-nodes-id.is in
    let h = subst (λ s. SeenFits c.args.slots.now s (through (full c.args.slots.now) (path_of c.index-nodes-id.result))) c.in-One.is c.in_ok-seen.ensures.seen in
    (h.0, h.1, ap (through (full c.args.slots.now)) (ap path_of (sym (same_node a b))) ∙ h.2)

pub returns-in-Many-clause-summary : goal.returns-in-Many-clause-summary
returns-in-Many-clause-summary g c = λ n b.
    let x : Node = c.index-nodes-id.result in
    let a = read_is c.args.nodes.now c.args.id.0 c.requires.known.0 c.index-nodes-id.result c.requires.known.1 c.index-nodes-id.is in
    let same : path_of x ≡ path_of n = ap path_of (same_node a b) in
    let l : x.depth < 36 = (c.requires.arena.fits.each c.args.id.0 x a).depth in
    let long : length (path_of x) ≡ x.depth = length_path (through (full c.args.slots.now)) c.args.slots.now c.args.nodes.now c.requires.arena.fits c.args.id.0 x a in
    let seen = subst (λ s. SeenFits c.args.slots.now s (through (full c.args.slots.now) (path_of x))) c.in-Many.is c.in_ok-seen.ensures.seen in
    let bytes = c.as_slice-in-Many.ensures.value ∙ c.in_ok-seen.ensures.bytes
    ∙ ap (λ zs. zs ++ each_byte 256 0 (λ b. child (path_of x) b (through (full c.args.slots.now) (path_of x ++ b ∷ [])) (node (through (full c.args.slots.now)) (35 - length (path_of x)) (path_of x ++ b ∷ []))))
    (c.in_ok-extend_from_slice.ensures.items ∙ ap (λ zs. zs ++ path_of x) (c.in_ok-push.ensures.items ∙ ap (λ zs. zs ++ x.depth ∷ []) c.clear.ensures.items)) in
    subst (λ p. (through (full c.args.slots.now) p ≡ Several) × (c.node_digest.result ≡ node (through (full c.args.slots.now)) (36 - length p) p)) same
    (seen, c.node_digest.ensures.value ∙ node_spelled (through (full c.args.slots.now)) (path_of x) c.as_slice-in-Many.result.now x.depth long l bytes)
