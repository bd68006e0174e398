-- A node's digest rests on what goes through the paths from it on.
use Rattle.std.proofs.Common.{◌≡◌, ℕ, zero, suc, true, List, [], ◌∷◌, ◌++◌, length, refl, ap, ap₂}
use Rattle.al_digest.specs.Digests.{node_digest_of}
use Rattle.al_trie.specs.Root.{Through, starts, child, each_byte, node}
use Rattle.al_trie.proofs.Paths.{starts_front, starts_trans}

pub node_same : (of other : List ℕ → Through) (n : ℕ) (p : List ℕ) → ((q : List ℕ) → starts p q ≡ true → of q ≡ other q) → node of n p ≡ node other n p
unfolding node
node_same of other zero p h = refl
node_same of other (suc n) p h =
    let each : (b : ℕ) → child p b (of (p ++ b ∷ [])) (node of n (p ++ b ∷ [])) ≡ child p b (other (p ++ b ∷ [])) (node other n (p ++ b ∷ [])) =
    λ b. ap₂ (child p b) (h (p ++ b ∷ []) (starts_front p (b ∷ []))) (node_same of other n (p ++ b ∷ []) (λ q s. h q (starts_trans p (p ++ b ∷ []) q (starts_front p (b ∷ [])) s))) in
    let same : ◌≡◌ {A = ℕ → List ℕ} (λ b. child p b (of (p ++ b ∷ [])) (node of n (p ++ b ∷ []))) (λ b. child p b (other (p ++ b ∷ [])) (node other n (p ++ b ∷ []))) = λ i b. each b i in
    ap (λ (f : ℕ → List ℕ). node_digest_of (length p ∷ p ++ each_byte 256 0 f)) same
