-- One connection, piece by piece.
use Rattle.std.proofs.Common.{◌≢◌, Err, ◌≡◌, ◌≤◌, ◌<◌, ◌⊎◌, inl, inr, ◌+◌, ◌-◌, ℕ, true, List, [], ◌∷◌, ◌++◌, length, take, drop, map, refl, sym, ap, ◌∙◌, arith, subst, append_assoc, length-append, Option, Some, None, Result, All}
use Rattle.std.proofs.lemmas.List.{append-nil, take-append-le, take_at, drop_at, map_push, nil_from_length}
use Rattle.std.proofs.lemmas.List.Concat.{flat_map-append}
use Rattle.std.proofs.lemmas.List.Elements.{All-push, All-nil, All-head, All-tail}
use Rattle.std.specs.List.{flat_map}
use mathlib.Core.List.{IsPrefix}
use Rattle.httparse.specs.Grammar.{print_request}
use Rattle.al_base.specs.Causes.{Left, Wrote, IsAtEnd, Rose}
use Rattle.al_block.specs.declared.block.Block.{Block}
use Rattle.al_eval.specs.State.{State}
use Rattle.al_answers.specs.Answers.{memory_answer}
use Rattle.al_answers.specs.declared.answer.Answer.{Answer}
use Rattle.al_http.specs.Requests.{Message, GoesOn, IsBadHead, IsClosed, IsOpen, IsRefusedHead, IsRequest, closes, spell, stream_of, IsUnfinished}
use Rattle.al_http.specs.declared.asking.SizeFault.{SizeFault}
use Rattle.al_routes.specs.Asks.{Asks, IsMemory}
use Rattle.al_routes.specs.declared.request.FormFault.{FormFault}
use Rattle.al_routes.specs.declared.request.Request.{Request}
use Rattle.al_session.specs.declared.inbox.Piece.{Piece}
use Rattle.al_session.specs.declared.inbox.Stop.{Stop}
use Rattle.al_session.specs.declared.inbox.Stop.TheVariants as stops
use Rattle.al_session.specs.declared.link.Ended.{Ended}
use Rattle.al_session.specs.declared.link.Ended.TheVariants as ended
use Rattle.al_states.specs.declared.told.Told.{Told}
use Rattle.al_states.specs.Held.{Held}
use Rattle.al_states.specs.Replies.{Replies, IsAnswer, Grows, IsAnswered}
use Rattle.al_session.specs.Taking.{Grown, IsCounted, Nexts}
use Rattle.al_session.specs.Connection.{most_requests, told_text, IsToldOf, Answers, last_front, GrowsBy, Grow, Serving, Serves, AreOpen, IsRefusal, bad_head_text, refused_text, RefusesBy, EndsBy, EndsAs, IsWritten}
use Rattle.al_session.proofs.TakingLemmas.{left_then, left_none}

-- ---- lists of blocks

prefix_self : (xs : List Block) → IsPrefix xs xs
prefix_self xs = ([], append-nil xs)

prefix_then : (xs ys zs : List Block) → IsPrefix xs ys → IsPrefix ys zs → IsPrefix xs zs
prefix_then xs ys zs p q = (p.0 ++ q.0, sym (append_assoc xs p.0 q.0) ∙ ap (λ ws. ws ++ q.0) p.1 ∙ q.1)

prefix_longer : (xs ys : List Block) → IsPrefix xs ys → length xs ≤ length ys
prefix_longer xs ys p = omega (arith, ap length p.1, length-append xs p.0)

prefix_take : (n : ℕ) (xs ys : List Block) → IsPrefix xs ys → n ≤ length xs → take n ys ≡ take n xs
prefix_take n xs ys p fits = sym (ap (take n) p.1) ∙ take-append-le n xs p.0 fits

prefix_of : (body : List ℕ) (xs ys : List Block) (a : Answer) → Grows body xs ys a → IsPrefix xs ys
prefix_of body xs ys a (inl same) = ([], append-nil xs ∙ sym same)
prefix_of body xs ys a (inr more) = (more.0 ∷ [], sym more.2)

-- ---- answers

-- an answer stays one as the blocks grow, and the front before may have been less
answer_grows : (o : State) (xs ys : List Block) (low high : ℕ) (ask : Result Request FormFault) (body : List ℕ) (t : Told) → IsPrefix xs ys → low ≤ high → IsAnswer o xs high ask body t → IsAnswer o ys low ask body t
answer_grows o xs ys low high ask body t p le x = record {
  low_is = omega (arith, le, x.low_is);
  within = (let more = prefix_longer xs ys p in omega (arith, x.within, more));
  reply = subst (λ list. Replies o list ask body t.answer ⊎ (t.answer ≡ memory_answer)) (sym (prefix_take t.front xs ys p x.within)) x.reply;
}

answers_grow : (o : State) (xs ys : List Block) (low : ℕ) (ms : List Message) (ts : List Told) → IsPrefix xs ys → Answers o xs low ms ts → Answers o ys low ms ts
answers_grow o xs ys low [] [] p h = tt
answers_grow o xs ys low (m ∷ ms) (t ∷ ts) p h = ((h.0.0, h.0.1, answer_grows o xs ys low low h.0.0 m.body t p (omega arith) h.0.2), answers_grow o xs ys t.front ms ts p h.1)
answers_grow o xs ys low [] (t ∷ ts) p h = absurd h
answers_grow o xs ys low (m ∷ ms) [] p h = absurd h

answers_more : (o : State) (blocks : List Block) (low : ℕ) (ms : List Message) (ts : List Told) (m : Message) (t : Told) → Answers o blocks low ms ts → IsToldOf o blocks (last_front low ts) m t → Answers o blocks low (ms ++ m ∷ []) (ts ++ t ∷ [])
answers_more o blocks low [] [] m t h x = (x, tt)
answers_more o blocks low (n ∷ ms) (u ∷ ts) m t h x = (h.0, answers_more o blocks u.front ms ts m t h.1 x)
answers_more o blocks low [] (u ∷ ts) m t h x = absurd h
answers_more o blocks low (n ∷ ms) [] m t h x = absurd h

last_front-push : (low : ℕ) (ts : List Told) (t : Told) → last_front low (ts ++ t ∷ []) ≡ t.front
last_front-push low [] t = refl
last_front-push low (u ∷ ts) t = last_front-push u.front ts t

-- ---- growing

-- what was sent in place of an answer tells of the same block, or of no memory
sent_grows : (body : List ℕ) (xs ys : List Block) (a sent : Answer) → Grows body xs ys a → (sent ≡ a) ⊎ (sent ≡ memory_answer) → GrowsBy body xs ys sent
sent_grows body xs ys a sent (inl stays) which = inl stays
sent_grows body xs ys a sent (inr (b, is, more, says)) (inl same) = inr (b, is, more, inl (same ∙ says))
sent_grows body xs ys a sent (inr (b, is, more, says)) (inr none) = inr (b, is, more, inr none)

grow_more : (xs ys zs : List Block) (ms : List Message) (ts : List Told) (m : Message) (t : Told) → Grow xs ms ts ys → GrowsBy m.body ys zs t.answer → Grow xs (ms ++ m ∷ []) (ts ++ t ∷ []) zs
grow_more xs ys zs [] [] m t h x = (zs, subst (λ list. GrowsBy m.body list zs t.answer) h x, refl)
grow_more xs ys zs (n ∷ ms) (u ∷ ts) m t h x = (h.0, h.1, grow_more h.0 ys zs ms ts m t h.2 x)
grow_more xs ys zs [] (u ∷ ts) m t h x = absurd h
grow_more xs ys zs (n ∷ ms) [] m t h x = absurd h

-- ---- texts

wrote_then : (a b c : Option (List ℕ)) (x y : List ℕ) → Wrote a b x → Wrote b c y → Wrote a c (x ++ y)
wrote_then None b c x y p q = tt
wrote_then (Some m) None c x y p q = absurd p
wrote_then (Some m) (Some n) None x y p q = absurd q
wrote_then (Some m) (Some n) (Some o) x y p q = q ∙ ap (λ zs. zs ++ y) p ∙ append_assoc m x y

pub wrote_none : (a : Option (List ℕ)) → Wrote a a []
wrote_none None = tt
wrote_none (Some m) = sym (append-nil m)

-- the texts as one
joined : (told : List Told) → flat_map (λ text. text) (map told_text told) ≡ flat_map told_text told
joined [] = refl
joined (t ∷ told) = ap (λ zs. told_text t ++ zs) (joined told)

joined_none : (told : List Told) → flat_map told_text told ≡ flat_map (λ text. text) (map told_text told ++ [])
joined_none told = sym (ap (flat_map (λ text. text)) (append-nil (map told_text told)) ∙ joined told)

joined_more : (told : List Told) (text : List ℕ) → flat_map told_text told ++ text ≡ flat_map (λ text. text) (map told_text told ++ text ∷ [])
joined_more told text = sym (flat_map-append (λ text. text) (map told_text told) (text ∷ []) ∙ ap (λ zs. zs ++ (text ++ [])) (joined told) ∙ ap (λ zs. flat_map told_text told ++ zs) (append-nil text))

flat_push : (told : List Told) (t : Told) → flat_map told_text (told ++ t ∷ []) ≡ flat_map told_text told ++ told_text t
flat_push told t = flat_map-append told_text told (t ∷ []) ∙ ap (λ zs. flat_map told_text told ++ zs) (append-nil (told_text t))

stream_more : (requests : List Message) (r : Message) (rest : List ℕ) → stream_of requests (spell r ++ rest) ≡ stream_of (requests ++ r ∷ []) rest
stream_more requests r rest =
    sym (append_assoc (flat_map spell requests) (spell r) rest)
    ∙ ap (λ zs. zs ++ rest) (ap (λ zs. flat_map spell requests ++ zs) (sym (append-nil (spell r))) ∙ sym (flat_map-append spell requests (r ∷ [])))

pub length_more : (requests : List Message) (r : Message) → length (flat_map spell (requests ++ r ∷ [])) ≡ length (flat_map spell requests) + length (spell r)
length_more requests r =
    ap length (flat_map-append spell requests (r ∷ []) ∙ ap (λ zs. flat_map spell requests ++ zs) (append-nil (spell r))) ∙ length-append (flat_map spell requests) (spell r)

-- ---- while it is served

pub begins : (h : Held) (a w : Option (List ℕ)) → Serving h h a a w w [] [] []
begins h a w = record {
  cut = left_none a;
  each = All-nil IsRequest;
  going = All-nil IsOpen;
  written = wrote_none w;
  origin = refl;
  lists = prefix_self h.blocks;
  grown = refl;
  answers = tt;
  top = omega arith;
}

-- more bytes wait
pub took : (before after : Held) (a b c w v : Option (List ℕ)) (old new : List ℕ) (requests : List Message) (told : List Told) → Serving before after a b w v old requests told → Grown old new b c → Serving before after a c w v new requests told
took before after a b c w v old new requests told s p = record {
  cut = subst (Left a c) (append_assoc (flat_map spell requests) old p.got ∙ ap (λ zs. flat_map spell requests ++ zs) (sym p.more)) (left_then a b c (stream_of requests old) p.got s.cut p.left);
  each = s.each;
  going = s.going;
  written = s.written;
  origin = s.origin;
  lists = s.lists;
  grown = s.grown;
  answers = s.answers;
  top = s.top;
}

-- a request was answered, whatever was written of the answer
pub record Replied (before after : Held) (a b : Option (List ℕ)) (rest : List ℕ) (requests : List Message) (told : List Told) : Type 0 where
  pub cut : Left a b (stream_of requests rest)
  pub each : All IsRequest requests
  pub origin : after.origin ≡ before.origin
  pub lists : IsPrefix before.blocks after.blocks
  pub grown : Grow before.blocks requests told after.blocks
  pub answers : Answers after.origin after.blocks (length before.blocks) requests told
  pub top : last_front (length before.blocks) told ≤ length after.blocks

-- what was sent is an answer: the one that was given, or that there is no memory
sent_is : (o : State) (blocks : List Block) (low : ℕ) (ask : Result Request FormFault) (body : List ℕ) (t : Told) (sent : Answer) → (sent ≡ t.answer) ⊎ (sent ≡ memory_answer) → IsAnswer o blocks low ask body t → IsAnswer o blocks low ask body (record { front = t.front; answer = sent })
sent_is o blocks low ask body t sent (inl same) x = record {
  low_is = x.low_is;
  within = x.within;
  reply = subst (λ a. Replies o (take t.front blocks) ask body a ⊎ (a ≡ memory_answer)) (sym same) x.reply;
}
sent_is o blocks low ask body t sent (inr none) x = record { low_is = x.low_is; within = x.within; reply = inr none }

-- the body of a request that waits
body_of : (waiting : List ℕ) (m : Message) (rest : List ℕ) (used size : ℕ) → used ≡ length (print_request m.head) → size ≡ length m.body → waiting ≡ spell m ++ rest → take size (drop used waiting) ≡ m.body
body_of waiting m rest used size is long same =
    ap (λ zs. take size (drop used zs)) (same ∙ append_assoc (print_request m.head) m.body rest)
    ∙ ap (take size) (drop_at (print_request m.head) (m.body ++ rest) used (sym is))
    ∙ take_at m.body rest size (sym long)

-- the same, of what is seen of the bytes that wait
pub body_seen : (waiting seen : List ℕ) (m : Message) (rest : List ℕ) (used size : ℕ) → seen ≡ waiting → used ≡ length (print_request m.head) → size ≡ length m.body → waiting ≡ spell m ++ rest → take (used + size - used) (drop used seen) ≡ m.body
body_seen waiting seen m rest used size view is long same =
    let n : used + size - used ≡ size = omega arith in
    ap (λ k. take k (drop used seen)) n ∙ ap (λ zs. take size (drop used zs)) view ∙ body_of waiting m rest used size is long same

pub rest_of : (waiting : List ℕ) (m : Message) (rest : List ℕ) (used size : ℕ) → used ≡ length (print_request m.head) → size ≡ length m.body → waiting ≡ spell m ++ rest → drop (used + size) waiting ≡ rest
rest_of waiting m rest used size is long same =
    ap (drop (used + size)) same ∙ drop_at (spell m) rest (used + size) (omega (arith, is, long, length-append (print_request m.head) m.body))

-- the ledger's answer to the request that waits was sent, or that there is no memory
pub answered : (before mid after : Held) (a b w v : Option (List ℕ)) (waiting rest body : List ℕ) (requests : List Message) (told : List Told) (m : Message) (ask : Result Request FormFault) (t : Told) (sent : Answer) → Serving before mid a b w v waiting requests told → IsRequest m
    → IsMemory ask ⊎ Asks m.head.method m.head.target ask → waiting ≡ spell m ++ rest → body ≡ m.body → IsAnswered mid after ask body t → (sent ≡ t.answer) ⊎ (sent ≡ memory_answer)
    → Replied before after a b rest (requests ++ m ∷ []) (told ++ record { front = t.front; answer = sent } ∷ [])
answered before mid after a b w v waiting rest body requests told m ask t sent s valid asks is same x which =
    let grows = prefix_of body mid.blocks after.blocks t.answer x.grows in
    let out : Told = record { front = t.front; answer = sent } in
    let first : IsAnswer after.origin after.blocks (length mid.blocks) ask body out = sent_is after.origin after.blocks (length mid.blocks) ask body t sent which x.told in
    let second : IsAnswer after.origin after.blocks (last_front (length before.blocks) told) ask body out = answer_grows after.origin after.blocks after.blocks (last_front (length before.blocks) told) (length mid.blocks) ask body out (prefix_self after.blocks) s.top first in
    let third : IsAnswer after.origin after.blocks (last_front (length before.blocks) told) ask m.body out = subst (λ bytes. IsAnswer after.origin after.blocks (last_front (length before.blocks) told) ask bytes out) same second in
    let old : Answers after.origin mid.blocks (length before.blocks) requests told = subst (λ o. Answers o mid.blocks (length before.blocks) requests told) (sym x.origin) s.answers in
    record {
      cut = subst (Left a b) (ap (stream_of requests) is ∙ stream_more requests m rest) s.cut;
      each = All-push IsRequest requests m s.each valid;
      origin = x.origin ∙ s.origin;
      lists = prefix_then before.blocks mid.blocks after.blocks s.lists grows;
      grown = grow_more before.blocks mid.blocks after.blocks requests told m out s.grown (subst (λ bytes. GrowsBy bytes mid.blocks after.blocks sent) same (sent_grows body mid.blocks after.blocks t.answer sent x.grows which));
      answers = answers_more after.origin after.blocks (length before.blocks) requests told m out (answers_grow after.origin mid.blocks after.blocks (length before.blocks) requests told grows old) (ask, asks, third);
      top = rw (last_front-push (length before.blocks) told out) x.told.within;
    }

-- ---- whether it goes on

-- where each request leaves it open, it goes on
pub open_all : (requests : List Message) → All IsOpen requests → GoesOn requests
open_all [] all = tt
open_all (m ∷ []) all = tt
open_all (m ∷ n ∷ ms) all = (All-head IsOpen m (n ∷ ms) all, open_all (n ∷ ms) (All-tail IsOpen m (n ∷ ms) all))

-- whatever the last request says
open_before : (requests : List Message) (m : Message) → All IsOpen requests → GoesOn (requests ++ m ∷ [])
open_before [] m all = tt
open_before (n ∷ []) m all = (All-head IsOpen n [] all, tt)
open_before (n ∷ k ∷ ms) m all = (All-head IsOpen n (k ∷ ms) all, open_before (k ∷ ms) m (All-tail IsOpen n (k ∷ ms) all))

closed_last : (requests : List Message) (m : Message) → closes m ≡ true → IsClosed (requests ++ m ∷ [])
closed_last [] m close = close
closed_last (n ∷ []) m close = close
closed_last (n ∷ k ∷ ms) m close = closed_last (k ∷ ms) m close

-- the answer was written, and the connection goes on
pub goes_on : (before after : Held) (a b w v u : Option (List ℕ)) (rest : List ℕ) (requests : List Message) (told : List Told) (m : Message) (t : Told) → Replied before after a b rest (requests ++ m ∷ []) (told ++ t ∷ []) → All IsOpen requests → Wrote w v (flat_map told_text told)
    → Wrote v u (told_text t) → IsOpen m → Serving before after a b w u rest (requests ++ m ∷ []) (told ++ t ∷ [])
goes_on before after a b w v u rest requests told m t x going written put stays = record {
  cut = x.cut;
  each = x.each;
  going = All-push IsOpen requests m going stays;
  written = subst (Wrote w u) (sym (flat_push told t)) (wrote_then w v u (flat_map told_text told) (told_text t) written put);
  origin = x.origin;
  lists = x.lists;
  grown = x.grown;
  answers = x.answers;
  top = x.top;
}

-- ---- its ends

-- no text stands behind the answers
ends_whole : (before after : Held) (a b w v : Option (List ℕ)) (waiting : List ℕ) (requests : List Message) (told : List Told) (end : Ended) → Serving before after a b w v waiting requests told → AreOpen end requests → IsWritten end (flat_map told_text told) (map told_text told ++ [])
    → EndsAs end b (stream_of requests waiting) requests waiting [] → Serves before after a b w v end
ends_whole before after a b w v waiting requests told end s going texts ends = (
  stream_of requests waiting,
  flat_map told_text told,
  requests,
  told,
  waiting,
  [],
  s.cut,
  s.written,
  record { cut = refl; each = s.each; going = going; texts = texts; ends = ends; origin = s.origin; lists = s.lists; grown = s.grown; answers = s.answers; top = s.top },
)

-- a text stands behind the answers, and this part of it was written
ends_behind : (before after : Held) (a b w v u : Option (List ℕ)) (waiting text part : List ℕ) (requests : List Message) (told : List Told) (end : Ended) → Serving before after a b w v waiting requests told → AreOpen end requests
    → IsWritten end (flat_map told_text told ++ part) (map told_text told ++ text ∷ []) → EndsAs end b (stream_of requests waiting) requests waiting (text ∷ []) → Wrote v u part → Serves before after a b w u end
ends_behind before after a b w v u waiting text part requests told end s going texts ends put = (
  stream_of requests waiting,
  flat_map told_text told ++ part,
  requests,
  told,
  waiting,
  text ∷ [],
  s.cut,
  wrote_then w v u (flat_map told_text told) part s.written put,
  record { cut = refl; each = s.each; going = going; texts = texts; ends = ends; origin = s.origin; lists = s.lists; grown = s.grown; answers = s.answers; top = s.top },
)

-- the source ended behind a request
pub finished : (before after : Held) (a b w v : Option (List ℕ)) (waiting : List ℕ) (requests : List Message) (told : List Told) → Serving before after a b w v waiting requests told → length waiting ≡ 0 → IsAtEnd b → Serves before after a b w v ended.Finished
finished before after a b w v waiting requests told s none end = ends_whole before after a b w v waiting requests told ended.Finished s (open_all requests s.going) (joined_none told) (refl, inl (nil_from_length waiting none, s.going, end))

-- a request ended the connection, and its answer was written
pub closed : (before after : Held) (a b w v u : Option (List ℕ)) (rest : List ℕ) (requests : List Message) (told : List Told) (m : Message) (t : Told) → Replied before after a b rest (requests ++ m ∷ []) (told ++ t ∷ []) → All IsOpen requests → Wrote w v (flat_map told_text told)
    → Wrote v u (told_text t) → closes m ≡ true → Serves before after a b w u ended.Finished
closed before after a b w v u rest requests told m t x going written put close = (
  stream_of (requests ++ m ∷ []) rest,
  flat_map told_text (told ++ t ∷ []),
  requests ++ m ∷ [],
  told ++ t ∷ [],
  rest,
  [],
  x.cut,
  subst (Wrote w u) (sym (flat_push told t)) (wrote_then w v u (flat_map told_text told) (told_text t) written put),
  record {
    cut = refl;
    each = x.each;
    going = open_before requests m going;
    texts = joined_none (told ++ t ∷ []);
    ends = (refl, inr (closed_last requests m close));
    origin = x.origin;
    lists = x.lists;
    grown = x.grown;
    answers = x.answers;
    top = x.top;
  },
)

-- the source ended inside a request
pub cut_short : (before after : Held) (a b w v : Option (List ℕ)) (waiting : List ℕ) (requests : List Message) (told : List Told) (at : ℕ) → Serving before after a b w v waiting requests told → 0 < length waiting → IsUnfinished waiting → IsAtEnd b
    → at ≡ length (flat_map spell requests) + length waiting → Serves before after a b w v (ended.CutShort at)
cut_short before after a b w v waiting requests told at s some part end is =
    ends_whole before after a b w v waiting requests told (ended.CutShort at) s s.going (joined_none told) (refl, some, part, end, is ∙ sym (length-append (flat_map spell requests) waiting))

pub source_failed : (before after : Held) (a b w v : Option (List ℕ)) (waiting : List ℕ) (requests : List Message) (told : List Told) → Serving before after a b w v waiting requests told → IsUnfinished waiting → Serves before after a b w v ended.SourceFault
source_failed before after a b w v waiting requests told s part = ends_whole before after a b w v waiting requests told ended.SourceFault s s.going (joined_none told) (refl, part)

-- bytes may have left the source that do not wait
pub no_memory : (before after : Held) (a b c w v : Option (List ℕ)) (waiting lost : List ℕ) (requests : List Message) (told : List Told) → Serving before after a b w v waiting requests told → Left b c lost → Serves before after a c w v ended.Memory
no_memory before after a b c w v waiting lost requests told s left =
    let more : Grown waiting (waiting ++ lost) b c = record { got = lost; more = refl; left = left } in
    ends_whole before after a c w v (waiting ++ lost) requests told ended.Memory (took before after a b c w v waiting (waiting ++ lost) requests told s more) s.going (joined_none told) refl

-- nothing was taken
pub unserved : (h : Held) (a w : Option (List ℕ)) → Serves h h a a w w ended.Memory
unserved h a w = no_memory h h a a a w w [] [] [] [] (begins h a w) (left_none a)

pub spent : (before after : Held) (a b w v : Option (List ℕ)) (waiting : List ℕ) (requests : List Message) (told : List Told) → Serving before after a b w v waiting requests told → length requests ≡ most_requests → Serves before after a b w v ended.Spent
spent before after a b w v waiting requests told s all = ends_whole before after a b w v waiting requests told ended.Spent s s.going (joined_none told) (refl, all)

-- the text that refuses a piece was written, or the sink failed
refused_by : (before after : Held) (a b w v u : Option (List ℕ)) (waiting text : List ℕ) (requests : List Message) (told : List Told) (ending end : Ended) → Serving before after a b w v waiting requests told → IsRefusal waiting (text ∷ []) → (Wrote v u text → Serves before after a b w u ending) → RefusesBy text ending v u end
    → Serves before after a b w u end
refused_by before after a b w v u waiting text requests told ending end s refusal whole (inl (e, put)) = subst (Serves before after a b w u) (sym e) (whole put)
refused_by before after a b w v u waiting text requests told ending end s refusal whole (inr (e, (part, front, put))) =
    subst (Serves before after a b w u) (sym e)
    (ends_behind before after a b w v u waiting text part requests told ended.SinkFault s (open_all requests s.going) (map told_text told, text, part, refl, front, ap (λ zs. zs ++ part) (sym (joined told))) (inr refusal) put)

-- a bad head was refused
pub bad_head : (before after : Held) (a b w v u : Option (List ℕ)) (waiting : List ℕ) (requests : List Message) (told : List Told) (end : Ended) → Serving before after a b w v waiting requests told → IsBadHead waiting → RefusesBy bad_head_text ended.BadHead v u end → Serves before after a b w u end
bad_head before after a b w v u waiting requests told end s bad by =
    refused_by before after a b w v u waiting bad_head_text requests told ended.BadHead end s (inl (bad, refl))
    (λ put. ends_behind before after a b w v u waiting bad_head_text bad_head_text requests told ended.BadHead s s.going (joined_more told bad_head_text) (bad, refl) put) by

-- a head was refused for its body
pub unreadable : (before after : Held) (a b w v u : Option (List ℕ)) (waiting : List ℕ) (requests : List Message) (told : List Told) (fault : SizeFault) (end : Ended) → Serving before after a b w v waiting requests told → IsRefusedHead fault waiting → RefusesBy (refused_text fault) ended.Unreadable v u end
    → Serves before after a b w u end
unreadable before after a b w v u waiting requests told fault end s head by =
    refused_by before after a b w v u waiting (refused_text fault) requests told ended.Unreadable end s (inr (fault, head, refl))
    (λ put. ends_behind before after a b w v u waiting (refused_text fault) (refused_text fault) requests told ended.Unreadable s s.going (joined_more told (refused_text fault)) (fault, head, refl) put) by

ended_as : (before after : Held) (a b w v u : Option (List ℕ)) (end this : Ended) → u ≡ v → this ≡ end → Serves before after a b w v end → Serves before after a b w u this
ended_as before after a b w v u end this same is x = subst (λ o. Serves before after a b w o this) (sym same) (subst (Serves before after a b w v) (sym is) x)

-- taking stopped
stopped : (before after : Held) (a b c w v u : Option (List ℕ)) (waiting new : List ℕ) (requests : List Message) (told : List Told) (stop : Stop) (taken : ℕ) (end : Ended) → Serving before after a b w v waiting requests told → Nexts waiting new b c (Err stop)
    → taken ≡ length (flat_map spell requests) + length new → EndsBy stop taken (length new) v u end → Serves before after a c w u end
stopped before after a b c w v u waiting new requests told stops.End taken end s x is (same, inl (none, e)) =
    ended_as before after a c w v u ended.Finished end same e (finished before after a c w v new requests told (took before after a b c w v waiting new requests told s x.0) none x.2)
stopped before after a b c w v u waiting new requests told stops.End taken end s x is (same, inr (some, e)) =
    ended_as before after a c w v u (ended.CutShort taken) end same e (cut_short before after a c w v new requests told taken (took before after a b c w v waiting new requests told s x.0) some x.1 x.2 is)
stopped before after a b c w v u waiting new requests told stops.Fault taken end s x is (same, e) =
    ended_as before after a c w v u ended.SourceFault end same e (source_failed before after a c w v new requests told (took before after a b c w v waiting new requests told s x.0) x.1)
stopped before after a b c w v u waiting new requests told stops.BadHead taken end s x is by = bad_head before after a c w v u new requests told end (took before after a b c w v waiting new requests told s x.0) x.1 by
stopped before after a b c w v u waiting new requests told (stops.Refused fault) taken end s x is by =
    unreadable before after a c w v u new requests told fault end (took before after a b c w v waiting new requests told s x.0) x.1 by
stopped before after a b c w v u waiting new requests told stops.Memory taken end s x is (same, e) =
    ended_as before after a c w v u ended.Memory end same e (no_memory before after a b c w v waiting x.0 requests told s x.1)

-- the same, by a count of the bytes that wait
pub stopped_at : (before after : Held) (a b c w v u : Option (List ℕ)) (waiting new : List ℕ) (requests : List Message) (told : List Told) (stop : Stop) (taken count : ℕ) (end : Ended) → Serving before after a b w v waiting requests told → Nexts waiting new b c (Err stop) → count ≡ length new
    → taken ≡ length (flat_map spell requests) + count → EndsBy stop taken count v u end → Serves before after a c w u end
stopped_at before after a b c w v u waiting new requests told stop taken count end s x long is by =
    stopped before after a b c w v u waiting new requests told stop taken end s x (is ∙ ap (λ k. length (flat_map spell requests) + k) long) (subst (λ k. EndsBy stop taken k v u end) long by)

-- ---- counts of faults

-- where the connection ended otherwise
other_end : (end this : Ended) (f g : ℕ) → this ≡ end → (end ≡ ended.SourceFault → ⊥) → g ≡ f → (this ≡ ended.SourceFault → Rose f g) × (this ≢ ended.SourceFault → g ≡ f)
other_end end this f g is not same = (λ e. absurd (not (sym is ∙ e)), λ n. same)

finished_is_none : ended.Finished ≡ ended.SourceFault → ⊥
finished_is_none e = absurd cc

cut_is_none : (at : ℕ) → ended.CutShort at ≡ ended.SourceFault → ⊥
cut_is_none at e = absurd cc

bad_head_is_none : ended.BadHead ≡ ended.SourceFault → ⊥
bad_head_is_none e = absurd cc

unreadable_is_none : ended.Unreadable ≡ ended.SourceFault → ⊥
unreadable_is_none e = absurd cc

sink_is_none : ended.SinkFault ≡ ended.SourceFault → ⊥
sink_is_none e = absurd cc

memory_is_none : ended.Memory ≡ ended.SourceFault → ⊥
memory_is_none e = absurd cc

refusal_counts : (text : List ℕ) (ending : Ended) (v u : Option (List ℕ)) (end : Ended) (f g : ℕ) → RefusesBy text ending v u end → (ending ≡ ended.SourceFault → ⊥) → g ≡ f → (end ≡ ended.SourceFault → Rose f g) × (end ≢ ended.SourceFault → g ≡ f)
refusal_counts text ending v u end f g (inl (e, put)) not x = other_end ending end f g e not x
refusal_counts text ending v u end f g (inr (e, (part, front, put))) not x = other_end ended.SinkFault end f g e sink_is_none x

stop_counts : (stop : Stop) (taken waiting : ℕ) (v u : Option (List ℕ)) (end : Ended) (f g : ℕ) → EndsBy stop taken waiting v u end → IsCounted {A = Piece} f g (Err stop) → (end ≡ ended.SourceFault → Rose f g) × (end ≢ ended.SourceFault → g ≡ f)
stop_counts stops.End taken waiting v u end f g (same, inl (none, e)) x = other_end ended.Finished end f g e finished_is_none x
stop_counts stops.End taken waiting v u end f g (same, inr (some, e)) x = other_end (ended.CutShort taken) end f g e (cut_is_none taken) x
stop_counts stops.Fault taken waiting v u end f g (same, e) x = (λ is. x, λ n. absurd (n e))
stop_counts stops.BadHead taken waiting v u end f g by x = refusal_counts bad_head_text ended.BadHead v u end f g by bad_head_is_none x
stop_counts (stops.Refused fault) taken waiting v u end f g by x = refusal_counts (refused_text fault) ended.Unreadable v u end f g by unreadable_is_none x
stop_counts stops.Memory taken waiting v u end f g (same, e) x = other_end ended.Memory end f g e memory_is_none x

-- the source's count, which had stayed until taking stopped
pub stopped_counts : (stop : Stop) (taken waiting : ℕ) (v u : Option (List ℕ)) (end : Ended) (e f g : ℕ) → f ≡ e → EndsBy stop taken waiting v u end → IsCounted {A = Piece} f g (Err stop) → (end ≡ ended.SourceFault → Rose e g) × (end ≢ ended.SourceFault → g ≡ e)
stopped_counts stop taken waiting v u end e f g same by x = subst (λ k. (end ≡ ended.SourceFault → Rose k g) × (end ≢ ended.SourceFault → g ≡ k)) same (stop_counts stop taken waiting v u end f g by x)

-- an answer could not be written
pub answer_failed : (before after : Held) (a b w v u : Option (List ℕ)) (rest : List ℕ) (requests : List Message) (told : List Told) (m : Message) (t : Told) (part : List ℕ) → Replied before after a b rest (requests ++ m ∷ []) (told ++ t ∷ []) → All IsOpen requests → Wrote w v (flat_map told_text told)
    → IsPrefix part (told_text t) → Wrote v u part → Serves before after a b w u ended.SinkFault
answer_failed before after a b w v u rest requests told m t part x going written front put = (
  stream_of (requests ++ m ∷ []) rest,
  flat_map told_text told ++ part,
  requests ++ m ∷ [],
  told ++ t ∷ [],
  rest,
  [],
  x.cut,
  wrote_then w v u (flat_map told_text told) part written put,
  record {
    cut = refl;
    each = x.each;
    going = open_before requests m going;
    texts = (map told_text told, told_text t, part, append-nil (map told_text (told ++ t ∷ [])) ∙ map_push told_text told t, front, ap (λ zs. zs ++ part) (sym (joined told)));
    ends = inl refl;
    origin = x.origin;
    lists = x.lists;
    grown = x.grown;
    answers = x.answers;
    top = x.top;
  },
)
