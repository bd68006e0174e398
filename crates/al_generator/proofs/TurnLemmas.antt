-- A turn, and one turn more.
use Rattle.std.proofs.Common.{◌≡◌, ◌<◌, ◌+◌, ◌-◌, ℕ, suc, List, ◌++◌, Result, OnOk, sym, ap, ap₂, ◌∙◌, subst, arith, append_assoc, append-nil}
use Rattle.al_generator.specs.declared.progress.Progress.{Progress}
use Rattle.al_generator.specs.declared.progress.Hand.{Hand}
use Rattle.al_generator.specs.declared.turns.Made.{Made}
use Rattle.al_generator.specs.Draws.{after_hand, hand}
use Rattle.al_generator.specs.Turns.{act, turn, turns}

-- what was drawn is what the turn is of
pub turn_made : {A B : Type 0} (r : Result A B) (out next : List Made) (g now : Progress) (h : Hand) → now ≡ after_hand g → h ≡ hand g.x → OnOk r (next ≡ out ++ (act now h).0) → OnOk r (next ≡ out ++ (turn g).0)
turn_made r out next g now h state drew made =
    subst (λ (m : Progress). OnOk r (next ≡ out ++ (act m (hand g.x)).0)) state
    (subst (λ (k : Hand). OnOk r (next ≡ out ++ (act now k).0)) drew made)

one_less : (n i : ℕ) → i < n → n - i ≡ suc (n - (i + 1))
one_less n i l = omega (arith, l)

pub more_made : (n i : ℕ) (out next all : List Made) (g h : Progress) → i < n → next ≡ out ++ (turn g).0 → h ≡ (turn g).1 → out ++ (turns (n - i) g).0 ≡ all → next ++ (turns (n - (i + 1)) h).0 ≡ all
unfolding turns
more_made n i out next all g h l made state is =
    ap₂ (λ (a : List Made) (k : Progress). a ++ (turns (n - (i + 1)) k).0) made state
    ∙ append_assoc out (turn g).0 (turns (n - (i + 1)) (turn g).1).0
    ∙ ap (λ m. out ++ (turns m g).0) (sym (one_less n i l))
    ∙ is

pub more_state : (n i : ℕ) (all g h : Progress) → i < n → h ≡ (turn g).1 → (turns (n - i) g).1 ≡ all → (turns (n - (i + 1)) h).1 ≡ all
unfolding turns
more_state n i all g h l state is = ap (λ (k : Progress). (turns (n - (i + 1)) k).1) state ∙ ap (λ m. (turns m g).1) (sym (one_less n i l)) ∙ is

pub last_made : (n i : ℕ) (out all : List Made) (g : Progress) → n - i ≡ 0 → out ++ (turns (n - i) g).0 ≡ all → out ≡ all
unfolding turns
last_made n i out all g none is = sym (append-nil out) ∙ ap (λ m. out ++ (turns m g).0) (sym none) ∙ is

pub last_state : (n i : ℕ) (all g : Progress) → n - i ≡ 0 → (turns (n - i) g).1 ≡ all → g ≡ all
unfolding turns
last_state n i all g none is = ap (λ m. (turns m g).1) (sym none) ∙ is
