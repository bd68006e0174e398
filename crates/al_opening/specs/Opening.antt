-- What a ledger begins from.
use Rattle.std.specs.Prelude.{◌≡◌, ℕ, suc, zero, ◌-◌, ◌≤◌, max, ⊤}
use Rattle.std.specs.declared.option.Option.{Option}
use Rattle.std.specs.declared.option.Option.TheVariants.{None, Some}
use Rattle.al_opening.specs.declared.opening.Opening.{Opening}
use Rattle.al_opening.specs.declared.opening.Opening.TheVariants.{Genesis, Tables}

-- the first block that tables of a round need
abbrev pub needed : ℕ → ℕ
needed round = max 1 (round - 999)

-- the genesis is what to begin from
abbrev pub IsGenesis : Option ℕ → Option (ℕ × ℕ) → Type 0
IsGenesis None None = ⊤
IsGenesis None (Some b) = b.0 ≡ 1
IsGenesis (Some t) None = t ≡ 0
IsGenesis (Some t) (Some b) = ⊥

-- the tables are what to begin from
abbrev pub IsTables : Option ℕ → Option (ℕ × ℕ) → Type 0
IsTables None b = ⊥
IsTables (Some t) None = ⊥
IsTables (Some t) (Some b) = (b.0 ≤ needed t) × (t ≤ b.1)

abbrev pub IsOpening : Option ℕ → Option (ℕ × ℕ) → Opening → Type 0
IsOpening t b Genesis = IsGenesis t b
IsOpening t b (Tables round from) = (t ≡ Some round) × (from ≡ needed round) × IsTables t b

-- neither is
abbrev pub IsGap : Option ℕ → Option (ℕ × ℕ) → Type 0
IsGap t b = (IsGenesis t b → ⊥) × (IsTables t b → ⊥)

-- what the rounds of keepers are that open a chain of so many blocks: the blocks are kept from a round that the tables need to the last, or all of them where the tables have no round
abbrev pub RoundsOpen : ℕ → Option ℕ → Option (ℕ × ℕ) → Type 0
RoundsOpen zero None b = b ≡ None
RoundsOpen (suc n) None b = b ≡ Some (1, suc n)
RoundsOpen zero (Some t) b = (t ≡ 0) × (b ≡ None)
RoundsOpen (suc n) (Some t) b = (t ≤ suc n) × (first : ℕ) × (first ≤ needed t) × (b ≡ Some (first, suc n))

abbrev pub PlanFits : Type 0
PlanFits = (n : ℕ) (t : Option ℕ) (b : Option (ℕ × ℕ)) → RoundsOpen n t b → IsGap t b → ⊥
