use Rattle.std.proofs.Common.{◌≡◌, ◌≤◌}
use Rattle.al_opening.specs.Past.{IsHeaderOf, IsOfChain, IsPast}
use Rattle.al_opening.proofs.past.read_past.Given as goal

abbrev pub invariant-loop-round : goal.invariant-loop-round
invariant-loop-round g l = record {
  rounds : g.B.BlockKeeper.rounds l.blocks.inner ≡ g.B.BlockKeeper.rounds l.fn.blocks.inner;
  same : g.B.BlockKeeper.tells l.blocks.inner → g.B.BlockKeeper.blocks l.blocks.inner ≡ g.B.BlockKeeper.blocks l.fn.blocks.inner;
  told : g.B.BlockKeeper.tells l.blocks.inner → g.B.BlockKeeper.tells l.fn.blocks.inner;
  reads : g.B.BlockKeeper.tells l.blocks.inner → IsPast l.genesis_hash (g.B.BlockKeeper.blocks l.fn.blocks.inner) l.from l.round l.past;
  chain : g.B.BlockKeeper.tells l.blocks.inner → IsOfChain l.genesis_hash (g.B.BlockKeeper.blocks l.fn.blocks.inner) l.from;
  header : IsHeaderOf l.round l.past.header;
  later : g.B.BlockKeeper.faults l.fn.blocks.inner ≤ g.B.BlockKeeper.faults l.blocks.inner;
}
