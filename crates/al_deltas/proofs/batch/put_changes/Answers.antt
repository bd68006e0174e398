use Rattle.std.proofs.Common.{◌≡◌, ◌∙◌, ◌∷◌, ◌+◌, List, ap, sym, map, drop}
use Rattle.std.specs.Option.{option_or}
use Rattle.al_rows.specs.declared.change.Change.{Change}
use Rattle.al_rows.proofs.Keys.{exact_keys, keys_total}
use Rattle.al_deltas.specs.Queue.{left_of, stored_at}
use Rattle.al_deltas.proofs.Applied.{at, drop_at}
use Rattle.al_deltas.proofs.Nets.{put_one}
use Rattle.al_deltas.proofs.batch.put_changes.Goals as goal

pub loop-change-preserved : goal.loop-change-preserved
loop-change-preserved c = λ q.
    let x = c.change-item.result in
    let i = c.loop-change.change-index in
    let old = c.loop-change.net.entries in
    let rest = drop (i + 1) c.args.changes.now in
    let steps : drop i c.args.changes.now ≡ x ∷ rest = drop_at c.args.changes.now i x c.loop-change-test.true c.change-item.is in
    put_one keys_total exact_keys x.key (stored_at c.args.round x.row) (map (left_of c.args.round) rest) (at old) (at c.put_change.new.net.entries) (λ p. c.in_ok-put_change.ensures p) q
    ∙ ap (λ (cs : List Change). option_or (at old q) (at (map (left_of c.args.round) cs) q)) (sym steps)
    ∙ c.loop-change.invariant q
