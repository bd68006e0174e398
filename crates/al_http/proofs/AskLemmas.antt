-- What a head asks is what its method and target ask.
use Rattle.std.proofs.Common.{◌≡◌, ◌⊎◌, ℕ, List, subst, sym, ◌∙◌}
use Rattle.std.specs.Prelude.{IsUtf8}
use Rattle.httparse.specs.Grammar.{RequestHead, IsRequestHead}
use Rattle.al_http.specs.declared.head.Head.{Head}
use Rattle.al_http.specs.Heads.{IsHeadOf}
use Rattle.al_routes.specs.Asks.{Answer, Asks, IsMemory}

pub head_asks : (h : RequestHead) (head : Head) (method target : List ℕ) (result : Answer) → IsHeadOf h head → method ≡ head.method → target ≡ head.target → IsMemory result ⊎ Asks method target result → IsMemory result ⊎ Asks h.method h.target result
head_asks h head method target result x same_method same_target asks =
    subst (λ (m : List ℕ). IsMemory result ⊎ Asks m h.target result) (same_method ∙ x.method) (subst (λ (t : List ℕ). IsMemory result ⊎ Asks method t result) (same_target ∙ x.target) asks)

-- a target is text
pub target_is_text : (h : RequestHead) (head : Head) (target : List ℕ) → IsRequestHead h → IsHeadOf h head → target ≡ head.target → IsUtf8 target
target_is_text h head target valid x same = subst IsUtf8 (sym (same ∙ x.target)) valid.target_text
