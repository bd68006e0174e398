-- Pieces that are posted one after another.
use Rattle.std.proofs.Common.{◌≡◌, ◌≢◌, ◌≤◌, ◌<◌, ◌+◌, ℕ, false, List, [], ◌∷◌, ◌++◌, length, max, Ok, Err, refl, sym, ap, subst, ◌∙◌, inl, inr, arith, append-nil, append_assoc, length-append}
use Rattle.al_block.specs.declared.block.Block.{Block}
use Rattle.al_msgpack.specs.declared.val.Val.{Val}
use Rattle.al_msgpack.specs.declared.val.Val.TheVariants as vals
use Rattle.al_msgpack.specs.Places.{IsSpelling}
use Rattle.al_msgpack.specs.Spelling.{Spells, PlainIs}
use Rattle.al_msgpack.proofs.Verdicts.{prefix_free}
use Rattle.al_states.specs.Accepting.{Accepts}
use Rattle.al_states.specs.Held.{Held}
use Rattle.al_states.specs.declared.accepting.Accepted.{Accepted}
use Rattle.al_catchpoint.specs.Applying.{Applies, AreCut, AreTaken, IsApplied, IsFirst, IsStopped, Takes}
use Rattle.al_catchpoint.specs.declared.applying.ApplyStop.{ApplyStop}
use Rattle.al_catchpoint.specs.declared.applying.ApplyStop.TheVariants as stops

cut_then : (bytes : List ℕ) (ps qs : List (List ℕ)) (rest more : List ℕ) → AreCut bytes ps rest → AreCut rest qs more → AreCut bytes (ps ++ qs) more
cut_then bytes [] qs rest more e q = subst (λ z. AreCut z qs more) (sym e) q
cut_then bytes (p ∷ ps) qs rest more (left, first, c) q = (left, first, cut_then left ps qs rest more c q)

taken_then : (h : Held) (ps qs : List (List ℕ)) (m n : Held) → AreTaken h ps m → AreTaken m qs n → AreTaken h (ps ++ qs) n
taken_then h [] qs m n e q = subst (λ z. AreTaken z qs n) (sym e) q
taken_then h (p ∷ ps) qs m n (k, a, accepted, t) q = (k, a, accepted, taken_then k ps qs m n t q)

-- no piece is posted
pub takes_none : (h : Held) (bytes : List ℕ) → Takes h bytes h bytes
takes_none h bytes = ([], refl, refl)

-- the pieces of two parts
pub takes_then : (h m n : Held) (bytes rest more : List ℕ) → Takes h bytes m rest → Takes m rest n more → Takes h bytes n more
takes_then h m n bytes rest more (ps, c, t) (qs, d, u) = (ps ++ qs, cut_then bytes ps qs rest more c d, taken_then h ps qs m n t u)

-- one piece is posted
pub takes_one : (h n : Held) (bytes piece rest : List ℕ) (a : Accepted) → IsFirst bytes piece rest → Accepts h n piece (Ok a) → Takes h bytes n rest
takes_one h n bytes piece rest a first accepted = (piece ∷ [], (rest, first, refl), (n, a, accepted, refl))

-- ---- the blocks that are held grow

-- the blocks are these and more, over the same origin
pub record Grown (h now : Held) : Type 0 where
  pub more : List Block
  pub blocks : now.blocks ≡ h.blocks ++ more
  pub origin : now.origin ≡ h.origin

pub grown_none : (h : Held) → Grown h h
grown_none h = record { more = []; blocks = sym (append-nil h.blocks); origin = refl }

pub grown_then : (h m n : Held) → Grown h m → Grown m n → Grown h n
grown_then h m n p q = record {
  more = p.more ++ q.more;
  blocks = q.blocks ∙ ap (λ z. z ++ q.more) p.blocks ∙ append_assoc h.blocks p.more q.more;
  origin = q.origin ∙ p.origin;
}

pub grown_accepted : (h n : Held) (piece : List ℕ) (a : Accepted) → Accepts h n piece (Ok a) → Grown h n
grown_accepted h n piece a (inl same) = subst (λ z. Grown h z) (sym same.0) (grown_none h)
grown_accepted h n piece a (inr (b, spelled, next, after, is)) = record { more = b ∷ []; blocks = ap (λ z. z.blocks) after; origin = ap (λ z. z.origin) after }

grown_taken : (h : Held) (ps : List (List ℕ)) (now : Held) → AreTaken h ps now → Grown h now
grown_taken h [] now e = subst (λ z. Grown h z) e (grown_none h)
grown_taken h (p ∷ ps) now (m, a, accepted, t) = grown_then h m now (grown_accepted h m p a accepted) (grown_taken m ps now t)

pub takes_grows : (h now : Held) (bytes rest : List ℕ) → Takes h bytes now rest → Grown h now
takes_grows h now bytes rest (ps, c, t) = grown_taken h ps now t

-- ---- a second part

pub stopped_then : (h m n : Held) (bytes rest : List ℕ) (until : ℕ) → Takes h bytes m rest → Applies m rest until n (Err stops.Refused) → (more : List ℕ) × Takes h bytes n more × IsStopped n more
stopped_then h m n bytes rest until t (more, u, stopped) = (more, takes_then h m n bytes rest more t u, stopped)

pub short_then : (h m n : Held) (bytes rest : List ℕ) (until : ℕ) → Takes h bytes m rest → Applies m rest until n (Err stops.Memory) → (more : List ℕ) × Takes h bytes n more
short_then h m n bytes rest until t (more, u) = (more, takes_then h m n bytes rest more t u)

pub done_then : (h m n : Held) (bytes rest more : List ℕ) (until : ℕ) → Takes h bytes m rest → Applies m rest until n (Ok more) → Takes h bytes n more
done_then h m n bytes rest more until t p = takes_then h m n bytes rest more t p.0

-- a stop, whichever it is, of a part is one of the whole
pub applies_then : (h m n : Held) (bytes rest : List ℕ) (until : ℕ) (e : ApplyStop) → Takes h bytes m rest → Applies m rest until n (Err e) → Applies h bytes until n (Err e)
applies_then h m n bytes rest until stops.Refused t p = stopped_then h m n bytes rest until t p
applies_then h m n bytes rest until stops.Memory t p = short_then h m n bytes rest until t p

-- ---- one turn

-- a piece that is not posted stops the whole
pub stops_there : (h m n : Held) (bytes rest : List ℕ) (until : ℕ) (e : ApplyStop) → Takes h bytes m rest → IsApplied m rest n (Err e) → Applies h bytes until n (Err e)
stops_there h m n bytes rest until stops.Refused t (same, stopped) = (rest, subst (λ z. Takes h bytes z rest) (sym same) t, subst (λ z. IsStopped z rest) (sym same) stopped)
stops_there h m n bytes rest until stops.Memory t same = (rest, subst (λ z. Takes h bytes z rest) (sym same) t)

-- the next piece is posted
pub takes_next : (h m n : Held) (bytes rest more : List ℕ) → Takes h bytes m rest → IsApplied m rest n (Ok more) → Takes h bytes n more
takes_next h m n bytes rest more t (piece, first, a, accepted) = takes_then h m n bytes rest more t (takes_one m n rest piece more a first accepted)

added_length : (h n : Held) (piece : List ℕ) (a : Accepted) → Accepts h n piece (Ok a) → length n.blocks ≤ length h.blocks + 1
added_length h n piece a (inl same) = omega (arith, ap (λ z. length z.blocks) same.0)
added_length h n piece a (inr (b, spelled, next, after, is)) = omega (arith, ap (λ z. length z.blocks) after, length-append h.blocks (b ∷ []))

-- one block at most is added
pub next_bound : (h m n : Held) (rest more : List ℕ) (until : ℕ) → length m.blocks < until → IsApplied m rest n (Ok more) → length n.blocks ≤ max until (length h.blocks)
next_bound h m n rest more until below (piece, first, a, accepted) = omega (arith, below, added_length m n piece a accepted)

flag_spells : IsSpelling (vals.Flag false) (0xc2 ∷ [])
unfolding Spells
flag_spells = inl (PlainIs.no refl refl)

-- no bytes spell no value
empty_spelling : (v : Val) → IsSpelling v [] → ⊥
empty_spelling v p = prefix_free v (vals.Flag false) [] 0xc2 [] p flag_spells

first_shorter : (bytes piece rest : List ℕ) → IsFirst bytes piece rest → length rest < length bytes
first_shorter bytes piece rest (some, inl (v, spells, is, more)) = by piece spells is
  where
    by : (p : List ℕ) → IsSpelling v p → bytes ≡ p ++ rest → length rest < length bytes
    by [] q e = absurd (empty_spelling v q)
    by (x ∷ p) q e = omega (arith, ap length e, length-append (x ∷ p) rest)
first_shorter bytes piece rest (some, inr (bare, is, none)) = by bytes some
  where
    by : (b : List ℕ) → b ≢ [] → length rest < length b
    by [] some = absurd (some refl)
    by (x ∷ b) some = omega (arith, ap length none)

-- fewer bytes are left
pub next_shorter : (m n : Held) (rest more : List ℕ) → IsApplied m rest n (Ok more) → length more < length rest
next_shorter m n rest more (piece, first, a, accepted) = first_shorter rest piece more first
