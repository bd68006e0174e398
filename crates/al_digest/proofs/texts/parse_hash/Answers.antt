use Rattle.std.proofs.Common.{rules, refl}
use Rattle.al_digest.proofs.Readings.{hash_read}
use Rattle.al_digest.proofs.texts.parse_hash.Goals as goal

pub returns-then-text-ne52-clause-text : goal.returns-then-text-ne52-clause-text
returns-then-text-ne52-clause-text c = λ hash h is. hash_read c.args.text.now _ (refl, c.if-text-ne52.true) tt hash h is

pub returns-in_err-decode-clause-text : goal.returns-in_err-decode-clause-text
returns-in_err-decode-clause-text c = λ hash h is. hash_read c.args.text.now c.from_residual.result (search rules) (search rules) hash h is

pub returns-clause-text : goal.returns-clause-text
returns-clause-text c = λ hash h is. hash_read c.args.text.now _ c.in_ok-decode.ensures.reads (search rules, c.in_ok-decode.ensures.bytes) hash h is

pub returns-clause-bytes : goal.returns-clause-bytes
returns-clause-bytes c = (search rules, c.in_ok-decode.ensures.bytes)
