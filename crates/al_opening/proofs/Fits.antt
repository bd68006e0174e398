-- Keepers that open a chain leave no gap.
use Rattle.std.proofs.Common.{ℕ, zero, suc, Option, None, Some, refl, sym, subst}
use Rattle.al_opening.specs.Opening.{RoundsOpen, IsGap, IsGenesis, IsTables}

pub fits : (n : ℕ) (t : Option ℕ) (b : Option (ℕ × ℕ)) → RoundsOpen n t b → IsGap t b → ⊥
fits zero None b h gap = gap.0 (subst (IsGenesis None) (sym h) tt)
fits (suc n) None b h gap = gap.0 (subst (IsGenesis None) (sym h) refl)
fits zero (Some t) b h gap = gap.0 (subst (IsGenesis (Some t)) (sym h.1) h.0)
fits (suc n) (Some t) b h gap = gap.1 (subst (IsTables (Some t)) (sym h.3) (h.2, h.0))
