-- What comes of posted bytes, over the blocks that are held.
use Rattle.std.specs.Prelude.{◌≡◌, ◌⊎◌, ◌<◌, ℕ, suc, List, [], ◌∷◌, ◌++◌, length, Bool, true, false, ⊤}
use Rattle.std.specs.declared.option.Option.TheVariants.{Some}
use Rattle.std.specs.declared.result.Result.{Result}
use Rattle.std.specs.declared.result.Result.TheVariants.{Ok, Err}
use Rattle.al_block.specs.declared.block.Block.{Block}
use Rattle.al_block.specs.Block.{IsBlock, BlockMeans}
use Rattle.al_block.specs.declared.decoding.BlockFault.{BlockFault}
use Rattle.al_block.specs.declared.decoding.BlockFault.TheVariants as faults
use Rattle.al_msgpack.specs.declared.fault.DecodeFault.TheVariants as places
use Rattle.al_block.specs.Hashes.{header_hash_of}
use Rattle.al_rows.specs.Rows.{same_bytes}
use Rattle.al_rows.specs.declared.view.Never.{Never}
use Rattle.al_eval.specs.declared.before.EvalRefusal.{EvalRefusal}
use Rattle.al_eval.specs.declared.before.EvalRefusal.TheVariants as evals
use Rattle.al_eval.specs.Refusals.{Verdict, refused, failed, no_memory, refusal_of}
use Rattle.al_eval.specs.Sound.{MayCome}
use Rattle.al_eval.specs.State.{State, replay, step}
use Rattle.al_answers.specs.declared.answer.Answer.{Answer}
use Rattle.al_answers.specs.declared.answer.Answer.TheVariants as answers
use Rattle.al_answers.specs.declared.answer.ErrorName.TheVariants as errors
use Rattle.al_answers.specs.Answers.{nothing, memory_answer}
use Rattle.al_states.specs.declared.accepting.Accepted.{Accepted}
use Rattle.al_states.specs.declared.accepting.AcceptRefusal.{AcceptRefusal}
use Rattle.al_states.specs.declared.accepting.AcceptRefusal.TheVariants as refusals
use Rattle.al_states.specs.Held.{Held}
use Rattle.al_states.specs.Replies.{IsBlockOf, broken_at, fork, not_expired, short, taken, undecodable, wrong_header, wrong_prev}

-- the block is the next one, over this state after the blocks; whether it continues the last one
pub record IsNext (o : State) (blocks : List Block) (b : Block) (continues : Bool) (s : State) : Type 0 where
  pub round : b.header.round ≡ suc (length blocks)
  pub replayed : replay o blocks ≡ Ok s
  pub prev : same_bytes b.header.prev (header_hash_of s.header) ≡ continues

-- the block of its round that is kept is another, and these bytes do not spell it
abbrev pub IsFork : List Block → List ℕ → ℕ → List ℕ → Type 0
IsFork blocks body round hash = (kept : Block) × IsBlockOf blocks round kept × (IsBlock body kept → ⊥) × (hash ≡ header_hash_of kept.header)

-- the step refuses the block, by what a consistent state can come to; its view never fails
abbrev pub IsBroken : State → Block → Verdict → Type 0
IsBroken s b (refused r) = (step s b ≡ Err r) × MayCome s r
IsBroken s b failed = ⊤
IsBroken s b no_memory = ⊥

-- why a block is refused
abbrev pub Refuses : State → List Block → List ℕ → Block → AcceptRefusal → Type 0
Refuses o blocks body b (refusals.WrongRound next front) = ((b.header.round ≡ 0) ⊎ (suc (length blocks) < b.header.round)) × (next ≡ suc (length blocks)) × (front ≡ length blocks)
Refuses o blocks body b (refusals.Fork hash front) = IsFork blocks body b.header.round hash × (front ≡ length blocks)
Refuses o blocks body b (refusals.WrongPrev hash front) = (s : State) × IsNext o blocks b false s × (hash ≡ header_hash_of s.header) × (front ≡ length blocks)
Refuses o blocks body b (refusals.Eval e front) = (s : State) × IsNext o blocks b true s × IsBroken s b (refusal_of e) × (front ≡ length blocks)
Refuses o blocks body b r = ⊥

-- why bytes are refused: they spell no block, or one that is refused; want of memory is free
abbrev pub IsRefused : State → List Block → List ℕ → AcceptRefusal → Type 0
IsRefused o blocks body (refusals.Undecodable f) = BlockMeans body (Err f)
IsRefused o blocks body refusals.Memory = ⊤
IsRefused o blocks body r = (b : Block) × IsBlock body b × Refuses o blocks body b r

-- the bytes spell a block that is kept at its round
abbrev pub IsThere : List Block → List ℕ → Accepted → Type 0
IsThere blocks body a = (b : Block) × IsBlock body b × ((kept : Block) × IsBlock body kept × IsBlockOf blocks b.header.round kept × (a ≡ record { front = length blocks; round = b.header.round }))

-- the block that the bytes spell is the last one
abbrev pub IsAdded : Held → Held → List ℕ → Accepted → Type 0
IsAdded before after body a = (b : Block) × IsBlock body b × (b.header.round ≡ suc (length before.blocks)) × (after ≡ record before { blocks = before.blocks ++ b ∷ [] }) × (a ≡ record { front = b.header.round; round = b.header.round })

-- posted bytes add the block that they spell, or spell one that is there, or are refused
abbrev pub Accepts : Held → Held → List ℕ → Result Accepted AcceptRefusal → Type 0
Accepts before after body (Ok a) = ((after ≡ before) × IsThere before.blocks body a) ⊎ IsAdded before after body a
Accepts before after body (Err r) = (after ≡ before) × IsRefused before.origin before.blocks body r

-- ---- want of memory

-- want of memory inside a fault is that of the call
abbrev pub outer_fault : BlockFault → AcceptRefusal
outer_fault faults.Memory = refusals.Memory
outer_fault (faults.Decode places.Memory) = refusals.Memory
outer_fault f = refusals.Undecodable f

abbrev pub outer_refusal : ℕ → EvalRefusal Never → AcceptRefusal
outer_refusal front evals.Memory = refusals.Memory
outer_refusal front e = refusals.Eval e front

-- ---- its answer

-- what the refusal by the step is answered
abbrev pub eval_answer : ℕ → EvalRefusal Never → Answer
eval_answer front (evals.Broken place rule) = broken_at front place rule
eval_answer front (evals.Header field) = wrong_header front field
eval_answer front (evals.PoolShort pool owed) = short front
eval_answer front (evals.Expired place) = not_expired front place
eval_answer front (evals.View never) = memory_answer
eval_answer front evals.Memory = memory_answer

abbrev pub refusal_answer : AcceptRefusal → Answer
refusal_answer (refusals.Undecodable f) = undecodable f
refusal_answer (refusals.WrongRound next front) = answers.Refused 409 errors.WrongRound (record nothing { front = Some front; next = Some next })
refusal_answer (refusals.Fork hash front) = fork front hash
refusal_answer (refusals.WrongPrev hash front) = wrong_prev front hash
refusal_answer (refusals.Eval e front) = eval_answer front e
refusal_answer refusals.Memory = memory_answer

abbrev pub accept_answer : Result Accepted AcceptRefusal → Answer
accept_answer (Ok a) = taken a.front a.round
accept_answer (Err r) = refusal_answer r
