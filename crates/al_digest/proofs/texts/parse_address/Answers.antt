use Rattle.std.proofs.Common.{◌≡◌, ◌≢◌, ◌++◌, List, ℕ, Bool, false, take, drop, rules, refl, sym, ap, ◌∙◌, ◌==◌, ◌<◌, subst}
use Rattle.std.proofs.lemmas.Bool.{false≢true}
use Rattle.std.proofs.lemmas.Bool.Decides.{Decides-eqb}
use Rattle.std.proofs.lemmas.List.{take-append-drop}
use Rattle.std.proofs.lemmas.List.Elements.{All-take}
use Rattle.std.proofs.lemmas.Slice.Eq.{slice_eq-Decides}
use Rattle.std.specs.Cmp.Lexicographic.{pointwise}
use Rattle.al_digest.specs.Texts.{check_of, AreBytes}
use Rattle.al_digest.proofs.Readings.{address_read}
use Rattle.al_digest.proofs.texts.parse_address.Goals as goal

pub returns-then-text-ne58-clause-text : goal.returns-then-text-ne58-clause-text
returns-then-text-ne58-clause-text c = λ address h is. address_read c.args.text.now _ (refl, c.if-text-ne58.true) tt address h is

pub returns-in_err-decode-clause-text : goal.returns-in_err-decode-clause-text
returns-in_err-decode-clause-text c = λ address h is. address_read c.args.text.now c.from_residual.result (search rules) (search rules) address h is

pub returns-then-eq-clause-bytes : goal.returns-then-eq-clause-bytes
returns-then-eq-clause-bytes c =
    let own : AreBytes 36 c.decode.new.bytes = (search rules, c.in_ok-decode.ensures.bytes) in
    let front : AreBytes 32 (take 32 c.decode.new.bytes) = (search rules, All-take (λ b. b < 256) 32 c.decode.new.bytes own.1) in
    subst (AreBytes 32) (sym c.front-address.ensures) front

pub returns-then-eq-clause-text : goal.returns-then-eq-clause-text
returns-then-eq-clause-text c = λ address h is. address_read c.args.text.now _ (search rules) (returns-then-eq-clause-bytes c) address h is

-- the bytes differ from those with the right check bytes
differs : (bytes address checked : List ℕ) (r : Bool) → address ≡ take 32 bytes → checked ≡ address ++ check_of address → r ≡ pointwise ◌==◌ checked bytes → r ≡ false → drop 32 bytes ≢ check_of (take 32 bytes)
differs bytes address checked r front right is other same =
    let whole : checked ≡ bytes = right ∙ ap (λ a. a ++ check_of a) front ∙ ap (λ zs. take 32 bytes ++ zs) (sym same) ∙ take-append-drop 32 bytes in
    false≢true (sym other ∙ (slice_eq-Decides Decides-eqb checked bytes r is).1 whole)

pub returns-else-eq-clause-reads : goal.returns-else-eq-clause-reads
returns-else-eq-clause-reads c = (c.decode.new.bytes, (search rules, c.in_ok-decode.ensures.bytes), c.in_ok-decode.ensures.reads, differs c.decode.new.bytes c.front-address.result.0 c.with_check.result c.eq.result c.front-address.ensures c.with_check.ensures c.eq.ensures c.if-eq.false)

pub returns-else-eq-clause-text : goal.returns-else-eq-clause-text
returns-else-eq-clause-text c = λ address h is. address_read c.args.text.now _ (returns-else-eq-clause-reads c) tt address h is
