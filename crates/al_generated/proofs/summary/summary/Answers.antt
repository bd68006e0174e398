use Rattle.std.proofs.Common.{◌∙◌, ◌++◌, ap, codes, sym}
use Rattle.al_digest.specs.Base32.{base32}
use Rattle.al_generated.specs.Summary.{number_line}
use Rattle.al_generated.proofs.TextLemmas.{hash_is, summary_is}
use Rattle.al_states.specs.Keeping.{held}
use Rattle.al_generated.proofs.summary.summary.Goals as goal

pub returns : goal.returns
returns c t at round =
    summary_is c.args.blocks c.transactions.result c.status-status.result.front c.status-status.result.floor c.in_ok-sum.sum c.hash_text.result t
    c.put_number.new.out.items c.put_number-2.new.out.items c.put_number-3.new.out.items c.put_number-4.new.out.items c.put_line.new.out.items c.put_number-5.new.out.items
    (c.transactions.ensures t at) (c.status-status.ensures.front ∙ sym round) c.status-status.ensures.floor (c.hash_text.ensures ∙ ap base32 (hash_is (held c.args.states.now) c.status-status.result.hash t c.status-status.ensures.hash at)) (c.in_ok-sum.ensures t at)
    (c.in_ok-put_number.ensures ∙ ap (λ x. x ++ number_line (codes "blocks") c.args.blocks) c.new-out.ensures.items) c.in_ok-put_number-2.ensures c.in_ok-put_number-3.ensures c.in_ok-put_number-4.ensures c.in_ok-put_line.ensures c.in_ok-put_number-5.ensures
