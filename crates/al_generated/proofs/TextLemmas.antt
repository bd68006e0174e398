-- The lines of a summary.
use Rattle.std.proofs.Common.{◌≡◌, ℕ, List, ◌++◌, length, take, ap, arith, sym, ◌∙◌, codes, Ok, Option, Some}
use Rattle.std.proofs.lemmas.List.{append_assoc, take_all}
use Rattle.al_answers.specs.Answers.{sum_of}
use Rattle.al_block.specs.Hashes.{header_hash_of}
use Rattle.al_digest.specs.Base32.{base32}
use Rattle.al_eval.specs.State.{State, counts_in, replay}
use Rattle.al_moves.proofs.Counts.{money_counted}
use Rattle.al_rewards.specs.declared.totals.Totals.{Totals}
use Rattle.al_rows.specs.Rows.{bare}
use Rattle.al_generated.specs.Summary.{line, number_line, summary}
use Rattle.al_states.specs.Held.{Held, money_in}
use Rattle.al_states.specs.Looking.{ShowsSupply}
use Rattle.al_states.specs.Rounds.{hash_after, of_state, totals_after}
use Rattle.al_states.specs.declared.looking.SupplyAnswer.{SupplyAnswer}

-- six pieces, one behind the other
pub behind : (a b c d e f o1 o2 o3 o4 o5 o6 : List ℕ) → o1 ≡ a → o2 ≡ o1 ++ b → o3 ≡ o2 ++ c → o4 ≡ o3 ++ d → o5 ≡ o4 ++ e → o6 ≡ o5 ++ f → o6 ≡ a ++ (b ++ (c ++ (d ++ (e ++ f))))
behind a b c d e f o1 o2 o3 o4 o5 o6 p1 p2 p3 p4 p5 p6 =
    p6 ∙ ap (λ x. x ++ f) (p5 ∙ ap (λ x. x ++ e) (p4 ∙ ap (λ x. x ++ d) (p3 ∙ ap (λ x. x ++ c) (p2 ∙ ap (λ x. x ++ b) p1))))
    ∙ append_assoc (((a ++ b) ++ c) ++ d) e f
    ∙ append_assoc ((a ++ b) ++ c) d (e ++ f)
    ∙ append_assoc (a ++ b) c (d ++ (e ++ f))
    ∙ append_assoc a b (c ++ (d ++ (e ++ f)))

some_is : (a b : Totals) → ◌≡◌ {A = Option Totals} (Some a) (Some b) → a ≡ b
some_is a b e = cc

-- the money that is shown after the last block is that of its state
pub money_is : (h : Held) (a : SupplyAnswer) (t : State) → ShowsSupply h (length h.blocks) a → replay h.origin h.blocks ≡ Ok t → sum_of a.totals ≡ money_in t
money_is h a t shows e =
    let whole : take (length h.blocks) h.blocks ≡ h.blocks = take_all (length h.blocks) h.blocks (omega arith) in
    let then : totals_after h.origin h.blocks (length h.blocks) ≡ Some (counts_in t) = ap (λ bs. of_state (λ (s : State). Some (counts_in s)) (replay h.origin bs)) whole ∙ ap (of_state (λ (s : State). Some (counts_in s))) e in
    ap sum_of (some_is a.totals (counts_in t) (shows.totals ∙ then)) ∙ sym (money_counted t.header.level (bare t.rows))

-- the hash that is shown is that of its last block
pub hash_is : (h : Held) (hash : List ℕ) (t : State) → Some hash ≡ hash_after h.origin h.blocks → replay h.origin h.blocks ≡ Ok t → hash ≡ header_hash_of t.header
hash_is h hash t shown e = (let x : Some hash ≡ Some (header_hash_of t.header) = shown ∙ ap (of_state (λ (s : State). Some (header_hash_of s.header))) e in cc)

pub summary_is : (blocks transactions front floor money : ℕ) (hash : List ℕ) (t : State) (o1 o2 o3 o4 o5 o6 : List ℕ) → transactions ≡ t.header.counter → front ≡ t.header.round → floor ≡ 0 → hash ≡ base32 (header_hash_of t.header) → money ≡ money_in t
    → o1 ≡ number_line (codes "blocks") blocks → o2 ≡ o1 ++ number_line (codes "transactions") transactions → o3 ≡ o2 ++ number_line (codes "front") front → o4 ≡ o3 ++ number_line (codes "floor") floor → o5 ≡ o4 ++ line (codes "hash") hash → o6 ≡ o5 ++ number_line (codes "sum") money → o6 ≡ summary blocks t
summary_is blocks transactions front floor money hash t o1 o2 o3 o4 o5 o6 a b c d e p1 p2 p3 p4 p5 p6 =
    behind (number_line (codes "blocks") blocks) (number_line (codes "transactions") t.header.counter) (number_line (codes "front") t.header.round) (number_line (codes "floor") 0) (line (codes "hash") (base32 (header_hash_of t.header))) (number_line (codes "sum") (money_in t)) o1 o2 o3 o4 o5 o6
    p1 (p2 ∙ ap (λ n. o1 ++ number_line (codes "transactions") n) a) (p3 ∙ ap (λ n. o2 ++ number_line (codes "front") n) b) (p4 ∙ ap (λ n. o3 ++ number_line (codes "floor") n) c) (p5 ∙ ap (λ x. o4 ++ line (codes "hash") x) d) (p6 ∙ ap (λ n. o5 ++ number_line (codes "sum") n) e)
