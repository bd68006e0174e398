use Rattle.std.proofs.Common.{◌∙◌, ap, sym, Option, Some, cond}
use Rattle.std.proofs.lemmas.Result.{on_ok_weaker}
use Rattle.std.specs.BTreeMap.{is_at}
use Rattle.al_base.specs.Keys.{key_cmp}
use Rattle.al_rows.specs.declared.stored.Stored.{Stored}
use Rattle.al_rows.proofs.Keys.{exact_keys, keys_total}
use Rattle.al_deltas.specs.Queue.{stored_at}
use Rattle.al_deltas.proofs.Applied.{at}
use Rattle.al_deltas.proofs.Nets.{put_new, put_over}
use Rattle.al_deltas.proofs.batch.put_change.Goals as goal

pub returns-then-has : goal.returns-then-has
returns-then-has c = put_over keys_total exact_keys c.args.change.now.key (stored_at c.args.round c.args.change.now.row) (at c.args.net.now.entries) (sym c.has.ensures ∙ c.if-has.true)

pub returns : goal.returns
returns c = on_ok_weaker c.put.result (λ is.
    put_new keys_total exact_keys c.args.change.now.key (stored_at c.args.round c.args.change.now.row) (at c.args.net.now.entries) (at c.put.new.net.entries) (sym c.has.ensures ∙ c.if-has.false)
    (λ q. is q ∙ ap (λ (s : Option Stored). cond (is_at (key_cmp c.args.change.now.key) q) (Some s) (at c.args.net.now.entries q)) c.in_ok-stored.ensures)) c.put.ensures
