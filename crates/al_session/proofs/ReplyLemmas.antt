-- A request has at most one reply.
use Rattle.std.proofs.Common.{refl, ◌≡◌, ◌<◌, ◌^◌, ◌⊎◌, inl, inr, ℕ, suc, List, ◌∷◌, length, drop, Some, Result, Ok, Err, sym, ap, subst, ◌∙◌, arith, length-append}
use Rattle.std.proofs.lemmas.List.{drop_at}
use Rattle.al_msgpack.specs.Grammar.{AreBytes}
use Rattle.al_msgpack.proofs.Exact.{Fit}
use Rattle.al_msgpack.proofs.Sizes.{limit}
use Rattle.al_block.specs.declared.block.Block.{Block}
use Rattle.al_block.specs.declared.decoding.BlockFault.{BlockFault}
use Rattle.al_block.specs.declared.decoding.BlockFault.TheVariants as faults
use Rattle.al_block.specs.Block.{IsBlock, BlockMeans}
use Rattle.al_block.specs.Hashes.{header_hash_of}
use Rattle.al_block.proofs.Meaning.{once, only_from}
use Rattle.al_eval.specs.State.{State}
use Rattle.al_eval.specs.Steps.{Refusal}
use Rattle.al_answers.specs.declared.answer.Answer.{Answer}
use Rattle.al_routes.specs.declared.request.FormFault.{FormFault}
use Rattle.al_routes.specs.declared.request.Request.{Request}
use Rattle.al_routes.specs.declared.request.Request.TheVariants as asks
use Rattle.al_states.specs.Replies.{Replies, RepliesTo, Posts, IsBlockOf, IsOutside, IsRepeated, IsJudged, undecodable, fork, judged}

abbrev read_err : BlockFault → Result Block BlockFault
read_err f = Err f

abbrev read_ok : Block → Result Block BlockFault
read_ok b = Ok b

abbrev replayed : State → Result State Refusal
replayed s = Ok s

err_back : (f g : BlockFault) → read_err f ≡ read_err g → f ≡ g
err_back f g e = cc

ok_err : (b : Block) (f : BlockFault) → read_ok b ≡ read_err f → ⊥
ok_err b f e = absurd cc

state_back : (s t : State) → replayed s ≡ replayed t → s ≡ t
state_back s t e = cc

answer_back : (a b : Answer) → Some a ≡ Some b → a ≡ b
answer_back a b e = cc

head_back : (a b : Block) (xs ys : List Block) → a ∷ xs ≡ b ∷ ys → a ≡ b
head_back a b xs ys e = cc

-- bytes with a fault have no other meaning
fault_one : (body : List ℕ) → Fit limit body → (f : BlockFault) (r : Result Block BlockFault) → BlockMeans body (Err f) → BlockMeans body r → r ≡ read_err f
fault_one body fit (faults.Decode f) r m n = only_from body fit (Err (faults.Decode f)) r m n
fault_one body fit (faults.Field k) r m n = only_from body fit (Err (faults.Field k)) r m n
fault_one body fit (faults.Range k) r m n = only_from body fit (Err (faults.Range k)) r m n
fault_one body fit faults.Memory r m n = absurd m

-- the block of a round
block_one : (blocks : List Block) (round : ℕ) (a b : Block) → IsBlockOf blocks round a → IsBlockOf blocks round b → a ≡ b
block_one blocks round a b x y =
    let long : length y.0 ≡ length x.0 = omega (arith, x.3, y.3) in
    head_back a b x.1 y.1 (sym (drop_at x.0 (a ∷ x.1) (length x.0) refl) ∙ ap (drop (length x.0)) (sym x.2 ∙ y.2) ∙ drop_at y.0 (b ∷ y.1) (length x.0) long)

-- it is one of the blocks
block_within : (blocks : List Block) (round : ℕ) (b : Block) → IsBlockOf blocks round b → suc (length blocks) ≡ round → ⊥
block_within blocks round b x is = omega (arith, ap length x.2, length-append x.0 (b ∷ x.1), x.3, is)

outside_within : (blocks : List Block) (b kept : Block) (a : Answer) → IsOutside blocks b a → IsBlockOf blocks b.header.round kept → ⊥
outside_within blocks b kept a (inl zero, e) x = omega (arith, x.3, zero)
outside_within blocks b kept a (inr above, e) x = omega (arith, ap length x.2, length-append x.0 (kept ∷ x.1), x.3, above)

outside_next : (blocks : List Block) (b : Block) (a : Answer) → IsOutside blocks b a → b.header.round ≡ suc (length blocks) → ⊥
outside_next blocks b a (inl zero, e) next = omega (arith, next, zero)
outside_next blocks b a (inr above, e) next = omega (arith, next, above)

repeated_one : (blocks : List Block) (body : List ℕ) (round : ℕ) (a b : Answer) → IsRepeated blocks body round a → IsRepeated blocks body round b → a ≡ b
repeated_one blocks body round a b (k, at, inl same) (l, bt, inl other) = same.1 ∙ sym other.1
repeated_one blocks body round a b (k, at, inl same) (l, bt, inr other) = absurd (other.0 (subst (IsBlock body) (block_one blocks round k l at bt) same.0))
repeated_one blocks body round a b (k, at, inr same) (l, bt, inl other) = absurd (same.0 (subst (IsBlock body) (block_one blocks round l k bt at) other.0))
repeated_one blocks body round a b (k, at, inr same) (l, bt, inr other) = same.1 ∙ ap (λ (x : Block). fork (length blocks) (header_hash_of x.header)) (block_one blocks round k l at bt) ∙ sym other.1

judged_one : (o : State) (blocks : List Block) (b : Block) (x y : Answer) → IsJudged o blocks b x → IsJudged o blocks b y → x ≡ y
judged_one o blocks b x y p q =
    let same : p.1.0 ≡ q.1.0 = state_back p.1.0 q.1.0 (sym p.1.1 ∙ q.1.1) in
    answer_back x y (sym p.1.2 ∙ ap (λ (s : State). judged (length blocks) s b) same ∙ q.1.2)

abbrev IsPlaced : State → List Block → List ℕ → Block → Answer → Type 0
IsPlaced o blocks body b a = IsOutside blocks b a ⊎ IsRepeated blocks body b.header.round a ⊎ IsJudged o blocks b a

placed_one : (o : State) (blocks : List Block) (body : List ℕ) (b : Block) (x y : Answer) → IsPlaced o blocks body b x → IsPlaced o blocks body b y → x ≡ y
placed_one o blocks body b x y (inl p) (inl q) = p.1 ∙ sym q.1
placed_one o blocks body b x y (inl p) (inr (inl q)) = absurd (outside_within blocks b q.0 x p q.1)
placed_one o blocks body b x y (inl p) (inr (inr q)) = absurd (outside_next blocks b x p q.0)
placed_one o blocks body b x y (inr (inl p)) (inl q) = absurd (outside_within blocks b p.0 y q p.1)
placed_one o blocks body b x y (inr (inl p)) (inr (inl q)) = repeated_one blocks body b.header.round x y p q
placed_one o blocks body b x y (inr (inl p)) (inr (inr q)) = absurd (block_within blocks b.header.round p.0 p.1 (sym q.0))
placed_one o blocks body b x y (inr (inr p)) (inl q) = absurd (outside_next blocks b y q p.0)
placed_one o blocks body b x y (inr (inr p)) (inr (inl q)) = absurd (block_within blocks b.header.round q.0 q.1 (sym p.0))
placed_one o blocks body b x y (inr (inr p)) (inr (inr q)) = judged_one o blocks b x y p q

posts_one : (o : State) (blocks : List Block) (body : List ℕ) (a b : Answer) → Fit limit body → Posts o blocks body a → Posts o blocks body b → a ≡ b
posts_one o blocks body a b fit (inl p) (inl q) = p.2 ∙ ap undecodable (sym (err_back q.0 p.0 (fault_one body fit p.0 (Err q.0) p.1 q.1))) ∙ sym q.2
posts_one o blocks body a b fit (inl p) (inr q) = absurd (ok_err q.0 p.0 (fault_one body fit p.0 (Ok q.0) p.1 q.1))
posts_one o blocks body a b fit (inr p) (inl q) = absurd (ok_err p.0 q.0 (fault_one body fit q.0 (Ok p.0) q.1 p.1))
posts_one o blocks body a b fit (inr p) (inr q) = placed_one o blocks body p.0 a b p.2 (subst (λ (x : Block). IsPlaced o blocks body x b) (once body q.0 p.0 q.1 p.1) q.2)

asked_one : (o : State) (blocks : List Block) (ask : Request) (body : List ℕ) (a b : Answer) → Fit limit body → RepliesTo o blocks ask body a → RepliesTo o blocks ask body b → a ≡ b
asked_one o blocks asks.Post body a b fit p q = posts_one o blocks body a b fit p q
asked_one o blocks (asks.Account who round) body a b fit p q = p ∙ sym q
asked_one o blocks (asks.Asset who id round) body a b fit p q = p ∙ sym q
asked_one o blocks (asks.App who id round) body a b fit p q = p ∙ sym q
asked_one o blocks (asks.BoxOf app name round) body a b fit p q = p ∙ sym q
asked_one o blocks (asks.Creator id round) body a b fit p q = p ∙ sym q
asked_one o blocks (asks.Online who round) body a b fit p q = p ∙ sym q
asked_one o blocks (asks.Circulation round vote) body a b fit p q = p ∙ sym q
asked_one o blocks (asks.Supply round) body a b fit p q = p ∙ sym q
asked_one o blocks asks.Standing body a b fit p q = p ∙ sym q

pub one_reply : (o : State) (blocks : List Block) (asked : Result Request FormFault) (body : List ℕ) (a b : Answer) → AreBytes body → length body < 2 ^ 31 → Replies o blocks asked body a → Replies o blocks asked body b → a ≡ b
one_reply o blocks (Ok ask) body a b bytes short p q = asked_one o blocks ask body a b (record { bytes = bytes; short = omega (arith, short) }) p q
one_reply o blocks (Err fault) body a b bytes short p q = p ∙ sym q
