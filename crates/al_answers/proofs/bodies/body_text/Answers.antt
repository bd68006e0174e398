use Rattle.std.proofs.Common.{rules}
use Rattle.al_answers.specs.Answers.{body_of}
use Rattle.al_answers.specs.Json.{fields}
use Rattle.al_answers.proofs.Plain.{members_plain}
use Rattle.al_answers.proofs.bodies.body_text.Goals as goal

pub returns : goal.returns
returns c = let plain = members_plain (fields (body_of c.args.a.now)) in search (rules, plain)
