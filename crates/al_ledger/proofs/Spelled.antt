-- What kept bytes spell.
use Rattle.std.proofs.Common.{◌≡◌, refl, sym, subst, suc, List, ℕ, Option, None, Result, Ok, Err, IfOk}
use Rattle.al_block.specs.declared.block.Block.{Block}
use Rattle.al_block.specs.declared.decoding.BlockFault.{BlockFault}
use Rattle.al_block.specs.declared.decoding.BlockFault.TheVariants as faults
use Rattle.al_block.specs.Block.{BlockAnswers, BlockMeans, IsBlock}
use Rattle.al_block.proofs.Meaning.{once}
use Rattle.al_ledger.specs.declared.accepting.AcceptRefusal.{AcceptRefusal}
use Rattle.al_ledger.specs.declared.accepting.AcceptRefusal.TheVariants as refusals
use Rattle.al_ledger.specs.Repeating.{Forks, IsOfForm, IsReadAs}

-- bytes that are at fault spell no block
none_spelled : (bytes : List ℕ) (fault : BlockFault) → IsOfForm fault → ((r : Result Block BlockFault) → BlockMeans bytes r → BlockAnswers (Err fault) r) → IsReadAs bytes None
none_spelled bytes (faults.Decode f) form only = λ b is. (let h : ◌≡◌ {A = Result Block BlockFault} (Ok b) (Err (faults.Decode f)) = only (Ok b) is in absurd cc)
none_spelled bytes (faults.Field name) form only = λ b is. (let h : ◌≡◌ {A = Result Block BlockFault} (Ok b) (Err (faults.Field name)) = only (Ok b) is in absurd cc)
none_spelled bytes (faults.Range name) form only = λ b is. (let h : ◌≡◌ {A = Result Block BlockFault} (Ok b) (Err (faults.Range name)) = only (Ok b) is in absurd cc)
none_spelled bytes faults.Memory form only = absurd form

pub spells_none : {E : Type 0} (bytes : List ℕ) (fault : BlockFault) (r : Result (Option Block) E) → IfOk r (λ b. (b ≡ None) × IsOfForm fault) → ((r : Result Block BlockFault) → BlockMeans bytes r → BlockAnswers (Err fault) r) → IfOk r (IsReadAs bytes)
spells_none bytes fault (Ok b) (none, form) only = subst (IsReadAs bytes) (sym none) (none_spelled bytes fault form only)
spells_none bytes fault (Err e) h only = tt

-- a block of another round is none of this
pub other_forks : {F G : Type 0} (kept : List ℕ) (front round : ℕ) (b : Block) (e : AcceptRefusal F G) → e ≡ refusals.WrongRound (suc front) front → IsBlock kept b → (b.header.round ≡ round → ⊥) → Forks kept front round e
other_forks {F} {G} kept front round b e is spells differs = subst (λ (x : AcceptRefusal F G). Forks kept front round x) (sym is)
    (refl, refl, λ d at. differs (subst (λ (x : Block). x.header.round ≡ round) (once kept d b at.0 spells) at.1))
