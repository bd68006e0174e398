use Rattle.std.proofs.lemmas.Result.{on_ok_weaker}
use Rattle.std.proofs.Common.{sym, ap, ◌++◌, ◌∙◌}
use Rattle.al_msgpack.proofs.Spellings.{spelled_bin}
use Rattle.al_record.proofs.spell.write_address.Goals as goal

pub returns-clause-bytes : goal.returns-clause-bytes
returns-clause-bytes c = on_ok_weaker c.write_bytes.result (λ h. h ∙ ap (λ z. c.args.out.now.items ++ z) (sym (spelled_bin c.args.a.now.0))) c.write_bytes.ensures.bytes
