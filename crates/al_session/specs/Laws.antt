-- The law of replies.
use Rattle.std.specs.Prelude.{◌≡◌, ◌<◌, ◌^◌, ℕ, List, Result, length}
use Rattle.al_msgpack.specs.Grammar.{AreBytes}
use Rattle.al_block.specs.declared.block.Block.{Block}
use Rattle.al_eval.specs.State.{State}
use Rattle.al_answers.specs.declared.answer.Answer.{Answer}
use Rattle.al_routes.specs.declared.request.FormFault.{FormFault}
use Rattle.al_routes.specs.declared.request.Request.{Request}
use Rattle.al_states.specs.Replies.{Replies}

-- a request, or a fault of form, whose body has fewer than 2^31 bytes, has at most one reply over a chain
abbrev pub OneReply : Type 0
OneReply = (o : State) (blocks : List Block) (asked : Result Request FormFault) (body : List ℕ) (a b : Answer) → AreBytes body → length body < 2 ^ 31 → Replies o blocks asked body a → Replies o blocks asked body b → a ≡ b
