-- Why a block that is due is not taken.
use Rattle.std.proofs.Common.{inl, inr, ◌⊎◌, ◌≡◌, ◌<◌, ℕ, suc, nat_le, Bool, true, false, List, [], append-nil, codes, length, ap, arith, subst, sym, refl, ◌∙◌, Result, Ok, Err, Option, Some, None}
use Rattle.std.proofs.lemmas.Bool.Decides.{nat_tests}
use Rattle.std.specs.Cmp.Lexicographic.{nat_list_eq_equiv}
use Rattle.al_block.specs.Block.{BlockMeans, IsBlock, IsFaulty, block, block_fault, most_bytes}
use Rattle.al_block.specs.Hashes.{header_hash_of}
use Rattle.al_block.specs.Ranges.{BlockRanges}
use Rattle.al_block.specs.declared.block.Block.{Block}
use Rattle.al_block.specs.declared.decoding.BlockFault.{BlockFault}
use Rattle.al_block.specs.declared.decoding.BlockFault.TheVariants as faults
use Rattle.al_block.proofs.Ranged.{block_canonical, block_record}
use Rattle.al_eval.specs.Refusals.{refusal_of}
use Rattle.al_eval.specs.State.{State, replay, step}
use Rattle.al_eval.specs.Steps.{Refusal}
use Rattle.al_eval.specs.declared.before.EvalRefusal.{EvalRefusal}
use Rattle.al_eval.specs.declared.before.EvalRefusal.TheVariants as evals
use Rattle.al_msgpack.specs.Places.{IsSpelling, Means}
use Rattle.al_msgpack.specs.declared.fault.DecodeFault.{DecodeFault}
use Rattle.al_msgpack.specs.declared.fault.DecodeFault.TheVariants as places
use Rattle.al_msgpack.specs.declared.val.Val.{Val, out-Val}
use Rattle.al_msgpack.specs.declared.val.Val.TheVariants as values
use Rattle.al_msgpack.specs.declared.val.Val.TheViews as views
use Rattle.al_msgpack.proofs.Canonical.{canonical_spells}
use Rattle.al_msgpack.proofs.Verdicts.{one_value, prefix_free}
use Rattle.al_record.specs.Columns.{first_of, member_open, unless_range}
use Rattle.al_record.specs.declared.fault.Fault.{Fault}
use Rattle.al_record.specs.declared.fault.Fault.TheVariants.{Field, Range}
use Rattle.al_rows.specs.Rows.{same_bytes}
use Rattle.al_rows.specs.declared.view.Never.{Never}
use Rattle.al_states.specs.Accepting.{IsBroken, IsRefused, Refuses}
use Rattle.al_states.specs.Spellings.{block_string}
use Rattle.al_states.specs.declared.accepting.AcceptRefusal.{AcceptRefusal}
use Rattle.al_states.specs.declared.accepting.AcceptRefusal.TheVariants as refusals
use Rattle.al_generated.specs.Making.{IsRefusedBy, IsStopped}
use Rattle.al_generated.specs.declared.chain.GenerateRefusal.{GenerateRefusal}
use Rattle.al_generated.specs.declared.chain.GenerateRefusal.TheVariants as answers
use Rattle.al_generated.proofs.TakeLemmas.{same_block, text_of, too_late}

-- ---- a block in its ranges has one fault at most

below : (n m : ℕ) → nat_le n m ≡ false → m < n
below n m e = grind (arith, nat_tests, e)

no_range : (name : List ℕ) (f : Fault) → ◌≡◌ {A = Option Fault} None (Some f) → ⊥
no_range name f e = absurd cc

out_of_range : (ok : Bool) (name : List ℕ) (f : Fault) → unless_range ok name ≡ Some f → ok ≡ false
out_of_range true name f e = absurd (no_range name f e)
out_of_range false name f e = refl

second_of : (g h : Option Fault) (f : Fault) → g ≡ None → first_of g h ≡ Some f → h ≡ Some f
second_of g h f none e = sym (ap (λ x. first_of x h) none) ∙ e

own_spelling : (b : Block) (body : List ℕ) → BlockRanges b → body ≡ text_of b → IsSpelling (values.Map (block.write b)) body
own_spelling b body fits is = subst (IsSpelling (values.Map (block.write b))) (sym is) (canonical_spells 16 (values.Map (block.write b)) (block_canonical b fits))

-- it is too long
too_long : (b : Block) (body : List ℕ) (f : Fault) → BlockRanges b → body ≡ text_of b → IsFaulty body f → most_bytes < length body
too_long b body f fits is got =
    let one : ◌≡◌ {A = Val} got.value (values.Map (block.write b)) = one_value got.value (values.Map (block.write b)) body got.spells (own_spelling b body fits is) in
    let fault : block_fault (length body) (values.Map (block.write b)) ≡ Some f = subst (λ (v : Val). block_fault (length body) v ≡ Some f) one got.fault in
    let sound : member_open block.fault (out-Val (values.Map (block.write b))) ≡ None = ap (member_open block.fault) (views.outs-Map (block.write b)) ∙ (block_record b fits).sound in
    below (length body) most_bytes (out_of_range (nat_le (length body) most_bytes) (codes "t") f (second_of (member_open block.fault (out-Val (values.Map (block.write b)))) (unless_range (nat_le (length body) most_bytes) (codes "t")) f sound fault))

-- what is spelled has no fault of its spelling
well_spelled : (v : Val) (body : List ℕ) (f : DecodeFault) → IsSpelling v body → Means body (Err f) → ⊥
well_spelled v body (places.Truncated at) own m = prefix_free v m.val body m.next m.more own m.spells
well_spelled v body (places.Malformed at) own m = m.none v body [] (sym (append-nil body)) own
well_spelled v body (places.Trailing at) own m = prefix_free m.val v m.front m.next m.more m.spells (subst (IsSpelling v) m.is own)
well_spelled v body places.Memory own m = m

undecoded : (b : Block) (body : List ℕ) (f : BlockFault) → BlockRanges b → body ≡ text_of b → BlockMeans body (Err f) → most_bytes < length body
undecoded b body (faults.Decode f) fits is m = absurd (well_spelled (values.Map (block.write b)) body f (own_spelling b body fits is) m)
undecoded b body (faults.Field name) fits is m = too_long b body (Field name) fits is m
undecoded b body (faults.Range name) fits is m = too_long b body (Range name) fits is m
undecoded b body faults.Memory fits is m = absurd m

-- ---- a block of the next round that goes on from the last one is refused by the step alone

abbrev pub IsRefusedStep : State → Block → Type 0
IsRefusedStep s b = (r : Refusal) × (step s b ≡ Err r)

ok_same : (s t : State) → ◌≡◌ {A = Result State Refusal} (Ok s) (Ok t) → s ≡ t
ok_same s t e = cc

same_state : (o s t : State) (blocks : List Block) → replay o blocks ≡ Ok s → replay o blocks ≡ Ok t → t ≡ s
same_state o s t blocks e d = ok_same t s (sym d ∙ e)

apart : true ≡ false → ⊥
apart e = absurd cc

broken : (s : State) (b : Block) (e : EvalRefusal Never) → IsBroken s b (refusal_of e) → IsRefusedStep s b
broken s b (evals.Broken place rule) due = (_, due.0)
broken s b (evals.Header field) due = (_, due.0)
broken s b (evals.PoolShort pool owed) due = (_, due.0)
broken s b (evals.Expired place) due = (_, due.0)
broken s b (evals.View never) due = elim never [ ]
broken s b evals.Memory due = absurd due

-- what is so of the block
pub record Continues (o : State) (blocks : List Block) (s : State) (b : Block) : Type 0 where
  pub replayed : replay o blocks ≡ Ok s
  pub round : b.header.round ≡ suc (length blocks)
  pub prev : b.header.prev ≡ header_hash_of s.header

outside : (n round : ℕ) → round ≡ suc n → (round ≡ 0) ⊎ (suc n < round) → ⊥
outside n round is (inl e) = absurd (omega (arith, is, e))
outside n round is (inr e) = absurd (omega (arith, is, e))

later_round : (n round : ℕ) → round ≡ suc n → n < round
later_round n round e = omega (arith, e)

refuses : (o s : State) (blocks : List Block) (body : List ℕ) (b : Block) (r : AcceptRefusal) → Continues o blocks s b → Refuses o blocks body b r → IsRefusedStep s b
refuses o s blocks body b (refusals.WrongRound next front) c h = absurd (outside (length blocks) b.header.round c.round h.0)
refuses o s blocks body b (refusals.Fork hash front) c ((kept, (front_of, behind, e, at), other, same), f) = absurd (too_late blocks front_of behind kept b.header.round e at (later_round (length blocks) b.header.round c.round))
refuses o s blocks body b (refusals.WrongPrev hash front) c (t, next, kept, at) =
    let one = same_state o s t blocks c.replayed next.replayed in
    let same : header_hash_of t.header ≡ b.header.prev = ap (λ (x : State). header_hash_of x.header) one ∙ sym c.prev in
    absurd (apart (sym (nat_list_eq_equiv.refl b.header.prev) ∙ sym (ap (same_bytes b.header.prev) same) ∙ next.prev))
refuses o s blocks body b (refusals.Eval e front) c (t, next, due, f) = broken s b e (subst (λ x. IsBroken x b (refusal_of e)) (same_state o s t blocks c.replayed next.replayed) due)
refuses o s blocks body b (refusals.Undecodable f) c h = absurd h
refuses o s blocks body b refusals.Memory c h = absurd h

-- the block that the bytes spell is this one
refuses_own : (o s : State) (blocks : List Block) (body : List ℕ) (b : Block) (r : AcceptRefusal) → BlockRanges b → body ≡ text_of b → Continues o blocks s b → (x : Block) × IsBlock body x × Refuses o blocks body x r → IsRefusedStep s b
refuses_own o s blocks body b r fits is c (x, got, h) = refuses o s blocks body b r c (subst (λ (y : Block). Refuses o blocks body y r) (same_block b x body fits is got) h)

-- why a block is not taken
stops : (o s : State) (blocks : List Block) (body : List ℕ) (b : Block) (r : AcceptRefusal) → BlockRanges b → body ≡ text_of b → Continues o blocks s b → IsRefusedBy r answers.Refused → IsRefused o blocks body r → IsRefusedStep s b ⊎ (most_bytes < length (block_string b))
stops o s blocks body b (refusals.Undecodable f) fits is c j h = inr (subst (λ (x : List ℕ). most_bytes < length x) is (undecoded b body f fits is h))
stops o s blocks body b (refusals.WrongRound next front) fits is c j h = inl (refuses_own o s blocks body b (refusals.WrongRound next front) fits is c h)
stops o s blocks body b (refusals.Fork hash front) fits is c j h = inl (refuses_own o s blocks body b (refusals.Fork hash front) fits is c h)
stops o s blocks body b (refusals.WrongPrev hash front) fits is c j h = inl (refuses_own o s blocks body b (refusals.WrongPrev hash front) fits is c h)
stops o s blocks body b (refusals.Eval e front) fits is c j h = inl (refuses_own o s blocks body b (refusals.Eval e front) fits is c h)
stops o s blocks body b refusals.Memory fits is c j h = absurd j

pub stopped : (A : Type 0) (o s : State) (blocks : List Block) (body : List ℕ) (b : Block) (r : AcceptRefusal) (answer : GenerateRefusal) → BlockRanges b → body ≡ text_of b → replay o blocks ≡ Ok s → b.header.round ≡ suc (length blocks) → b.header.prev ≡ header_hash_of s.header → IsRefusedBy r answer → IsRefused o blocks body r → IsStopped {A = A} s b (Err answer)
stopped A o s blocks body b r answers.Refused fits is at round prev by h = stops o s blocks body b r fits is (record { replayed = at; round = round; prev = prev }) by h
stopped A o s blocks body b r (answers.Folder x file) fits is at round prev by h = by
stopped A o s blocks body b r answers.Memory fits is at round prev by h = _

-- a block of so many bytes has too many
pub many_bytes : (b : Block) (body : List ℕ) (n : ℕ) → body ≡ text_of b → n ≡ length body → most_bytes < n → most_bytes < length (block_string b)
many_bytes b body n is long more = subst (λ (x : List ℕ). most_bytes < length x) is (subst (λ k. most_bytes < k) long more)
