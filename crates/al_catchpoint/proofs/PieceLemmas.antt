-- Where the first piece of bytes ends.
use Rattle.std.proofs.Common.{◌≡◌, ◌≢◌, ◌≤◌, ℕ, List, [], ◌∷◌, ◌++◌, length, take, drop, refl, sym, ap, subst, ◌∙◌, arith, append-nil, append_assoc, length-append, inl, inr, le_refl, take_all}
use Rattle.std.proofs.lemmas.List.{drop_all, drop_at, take_at}
use Rattle.al_msgpack.specs.declared.val.Val.{Val}
use Rattle.al_msgpack.specs.Places.{IsMalformed, IsSpelling, IsTrailing, IsTruncated}
use Rattle.al_msgpack.proofs.Verdicts.{prefix_free}
use Rattle.al_catchpoint.specs.Applying.{HasNoFront, IsFirst}

-- where nothing is spelled at the front, all bytes are the first piece
pub all_first : (bytes : List ℕ) → bytes ≢ [] → HasNoFront bytes → IsFirst bytes (take (length bytes) bytes) (drop (length bytes) bytes)
all_first bytes some bare = (some, inr (bare, take_all (length bytes) bytes (le_refl (length bytes)), drop_all (length bytes) bytes (le_refl (length bytes))))

-- the bytes are a front of a spelling: a shorter spelling is none of theirs
front_bare : (w : Val) (bytes more : List ℕ) → IsSpelling w (bytes ++ more) → HasNoFront bytes
front_bare w bytes more p v front [] q is = refl
front_bare w bytes more p v front (next ∷ rest) q is =
    absurd (prefix_free v w front next (rest ++ more) q (subst (λ z. IsSpelling w z) (regroup bytes is) p))
  where
    regroup : (b : List ℕ) → b ≡ front ++ next ∷ rest → b ++ more ≡ front ++ next ∷ (rest ++ more)
    regroup b e = subst (λ z. z ++ more ≡ front ++ next ∷ (rest ++ more)) (sym e) (append_assoc front (next ∷ rest) more)

pub spelled_first : (v : Val) (bytes : List ℕ) → bytes ≢ [] → IsSpelling v bytes → IsFirst bytes (take (length bytes) bytes) (drop (length bytes) bytes)
spelled_first v bytes some p = all_first bytes some (front_bare v bytes [] (subst (λ z. IsSpelling v z) (sym (append-nil bytes)) p))

pub truncated_first : (bytes : List ℕ) (at : ℕ) → bytes ≢ [] → IsTruncated bytes at → IsFirst bytes (take (length bytes) bytes) (drop (length bytes) bytes)
truncated_first bytes at some p = all_first bytes some (front_bare p.val bytes (p.next ∷ p.more) p.spells)

pub malformed_first : (bytes : List ℕ) (at : ℕ) → bytes ≢ [] → IsMalformed bytes at → IsFirst bytes (take (length bytes) bytes) (drop (length bytes) bytes)
malformed_first bytes at some p = all_first bytes some (λ v front rest q is. absurd (p.none v front rest is q))

-- the spelling in front is the first piece
pub trailing_first : (bytes : List ℕ) (at : ℕ) → bytes ≢ [] → IsTrailing bytes at → IsFirst bytes (take at bytes) (drop at bytes)
trailing_first bytes at some p =
    let piece : take at bytes ≡ p.front = subst (λ z. take at z ≡ p.front) (sym p.is) (take_at p.front (p.next ∷ p.more) at (sym p.at_is)) in
    let rest : drop at bytes ≡ p.next ∷ p.more = subst (λ z. drop at z ≡ p.next ∷ p.more) (sym p.is) (drop_at p.front (p.next ∷ p.more) at (sym p.at_is)) in
    (some, inl (p.val, subst (λ z. IsSpelling p.val z) (sym piece) p.spells, p.is ∙ sym (joined piece rest), λ e. absurd (gone (sym rest ∙ e))))
  where
    joined : {a b c d : List ℕ} → a ≡ b → c ≡ d → a ++ c ≡ b ++ d
    joined e f = λ i. e i ++ f i

    gone : p.next ∷ p.more ≡ [] → ⊥
    gone e = cc

-- it ends within the bytes
pub trailing_within : (bytes : List ℕ) (at : ℕ) → IsTrailing bytes at → at ≤ length bytes
trailing_within bytes at p = omega (arith, p.at_is, ap length p.is, length-append p.front (p.next ∷ p.more))
