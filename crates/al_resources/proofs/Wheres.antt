-- A look-up that a rule may refuse, and then a step.
use Rattle.std.proofs.Common.{◌≡◌, ◌≤◌, ℕ, sym, ap, ◌∙◌, subst, Bool, true, Result, Ok, Err, arith}
use Rattle.al_rows.specs.Rows.{RowMap}
use Rattle.al_overlay.specs.declared.rule.Rule.{Rule}
use Rattle.al_overlay.specs.declared.rule.Stop.{Stop}
use Rattle.al_overlay.specs.declared.rule.Stop.TheVariants as stop
use Rattle.al_overlay.specs.Rules.{then_do}
use Rattle.al_overlay.specs.Work.{Worked, IsFixed, Starts, Gives, IsCounted, Does, DoesWhere}
use Rattle.al_resources.specs.Finds.{Finds}

fixed-then : {t : Bool} {a b c : Worked} → IsFixed t a b → IsFixed t b c → IsFixed t a c
fixed-then p q = record {
  level = q.level ∙ p.level;
  round = q.round ∙ p.round;
  special = q.special ∙ p.special;
  failures = omega arith;
  lender = q.lender ∙ p.lender;
  block = λ e. q.block e ∙ p.block e;
}

counted-later : {F T : Type 0} (r : Result T (Stop F)) (k m n : ℕ) → k ≤ m → IsCounted r m n → IsCounted r k n
counted-later (Ok x) k m n l h = tt
counted-later (Err (stop.Rule r)) k m n l h = tt
counted-later (Err (stop.View v)) k m n l h = omega arith
counted-later (Err stop.Memory) k m n l h = tt

starts-then : {F T : Type 0} (r : Result T (Stop F)) (a b c : Worked) → b.start ≡ a.start → Starts r b c → Starts r a c
starts-then (Ok x) a b c p q = q ∙ p
starts-then (Err e) a b c p q = tt

-- what is found goes into the step
pub finds-then : {F T U : Type 0} (t : Bool) (A : Type 0) (due : Result T Rule) (next : Result RowMap Rule) (f : T → Result RowMap Rule) (a b c : Worked) (r : Result T (Stop F)) (s : Result U (Stop F)) (x : T) → Finds t A due a b r → r ≡ Ok x → Does t next b c s → (t ≡ true → b.now ≡ a.now → next ≡ f x) → DoesWhere t A (then_do due f) a c s
finds-then {F} {T} {U} t A due next f a b c r s x d is n same =
    let h = subst (λ (z : Result T (Stop F)). Finds t A due a b z) is d in
    record {
      fixed = fixed-then h.fixed n.fixed;
      gives = λ told asks. subst (λ z. Gives z s c.now) (same told (h.now told) ∙ ap (λ z. then_do z f) (sym (h.found told asks))) (n.gives told);
      starts = λ told. starts-then s a b c (h.start told) (n.starts told);
      cause = counted-later s a.failures b.failures c.failures h.fixed.failures n.cause;
    }
