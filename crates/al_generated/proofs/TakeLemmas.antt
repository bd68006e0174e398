-- A block in its ranges whose spelling is taken is the one that is taken.
use Rattle.std.proofs.Common.{inl, inr, ◌≡◌, ◌<◌, ℕ, suc, List, [], ◌∷◌, ◌++◌, length, ap, arith, subst, sym, ◌∙◌, Ok, None}
use Rattle.std.proofs.lemmas.List.{length-append}
use Rattle.al_block.specs.Block.{IsBlock, block, block_fault}
use Rattle.al_block.specs.Ranges.{BlockRanges}
use Rattle.al_block.specs.declared.block.Block.{Block}
use Rattle.al_block.proofs.Meaning.{once}
use Rattle.al_block.proofs.Ranged.{block_canonical}
use Rattle.al_msgpack.specs.Places.{IsSpelling}
use Rattle.al_msgpack.specs.Spelled.{spelled}
use Rattle.al_msgpack.specs.declared.val.Val.{Val}
use Rattle.al_msgpack.specs.declared.val.Val.TheVariants as values
use Rattle.al_msgpack.proofs.Canonical.{canonical_spells}
use Rattle.al_msgpack.proofs.Verdicts.{one_value}
use Rattle.al_states.specs.Accepting.{Accepts}
use Rattle.al_states.specs.Held.{Held}
use Rattle.al_states.specs.declared.accepting.Accepted.{Accepted}

abbrev pub text_of : Block → List ℕ
text_of b = spelled (values.Map (block.write b))

-- what the spelling of a block spells is that block
pub same_block : (b x : Block) (body : List ℕ) → BlockRanges b → body ≡ text_of b → IsBlock body x → x ≡ b
same_block b x body fits is got =
    let mine : IsSpelling (values.Map (block.write b)) body = subst (IsSpelling (values.Map (block.write b))) (sym is) (canonical_spells 16 (values.Map (block.write b)) (block_canonical b fits)) in
    let one : ◌≡◌ {A = Val} (values.Map (block.write x)) (values.Map (block.write b)) = one_value (values.Map (block.write x)) (values.Map (block.write b)) body got.spells mine in
    let is_block : IsBlock body b = record { spells = mine; sound = subst (λ (v : Val). block_fault (length body) v ≡ None) one got.sound } in
    once body x b got is_block

-- a block of a later round is not there
pub too_late : (blocks front behind : List Block) (kept : Block) (round : ℕ) → blocks ≡ front ++ kept ∷ behind → round ≡ suc (length front) → length blocks < round → ⊥
too_late blocks front behind kept round e r late =
    let long : length blocks ≡ length (front ++ kept ∷ behind) = ap (λ (xs : List Block). length xs) e in
    absurd (omega (arith, long, length-append front (kept ∷ behind), r, late))

pub took : (old new : Held) (b : Block) (body : List ℕ) (a : Accepted) → BlockRanges b → body ≡ text_of b → Accepts old new body (Ok a) → length old.blocks < b.header.round → new ≡ record old { blocks = old.blocks ++ b ∷ [] }
took old new b body a fits is (inl (same, (x, got, (kept, other, (front, behind, e, round), told)))) late =
    let one = same_block b x body fits is got in
    absurd (too_late old.blocks front behind kept x.header.round e round (subst (λ (y : Block). length old.blocks < y.header.round) (sym one) late))
took old new b body a fits is (inr (x, got, round, added, told)) late =
    added ∙ ap (λ (y : Block). record old { blocks = old.blocks ++ y ∷ [] }) (same_block b x body fits is got)
