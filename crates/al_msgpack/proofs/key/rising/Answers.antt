use Rattle.std.proofs.Common.{sym, ap, ◌∙◌}
use Rattle.al_msgpack.proofs.Codes.{looked, rising_looked}
use Rattle.al_msgpack.proofs.key.rising.Goals as goal

pub returns-in-Some : goal.returns-in-Some
returns-in-Some c = rising_looked c.args.before.now c.args.len c.args.bytes.now c.requires ∙ ap (λ o. looked o c.args.len c.args.bytes.now) (sym c.refused.ensures ∙ c.in-Some.is)

pub returns-in-None : goal.returns-in-None
returns-in-None c =
    let e = rising_looked c.args.before.now c.args.len c.args.bytes.now c.requires ∙ ap (λ o. looked o c.args.len c.args.bytes.now) (sym c.refused.ensures ∙ c.in-None.is) in
    rw e c.raw.ensures
