use Rattle.std.proofs.Common.{◌≡◌, ◌<◌, ◌+◌, ◌^◌, ◌++◌, true, drop, sum_by}
use Rattle.al_overlay.specs.Work.{IsFixed}
use Rattle.al_eval.specs.Answers.{AskOne}
use Rattle.al_eval.specs.Groups.{size_of}
use Rattle.al_eval.specs.Items.{all_items}
use Rattle.al_eval.proofs.transact.all_items.Given as goal

abbrev pub invariant-loop-place : goal.invariant-loop-place
invariant-loop-place g l = record {
  fixed : IsFixed g.V.RowView.tells l.fn.work l.work;
  fits : l.counter + sum_by size_of (drop l.place l.block.items) < 2 ^ 64;
  rest : g.V.RowView.tells ≡ true → AskOne l.fn.work.block l.block.items → all_items l.chain l.fn.work.level l.round l.place (l.past ++ l.seen) l.counter l.left (drop l.place l.block.items) l.work.now ≡ all_items l.chain l.fn.work.level l.round 0 l.past l.before.header.counter 0 l.block.items l.fn.work.now;
}
