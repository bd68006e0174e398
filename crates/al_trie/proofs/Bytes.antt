-- The bytes that are digested of a child and of a node.
use Rattle.std.proofs.Common.{◌≡◌, ℕ, zero, suc, ◌+◌, ◌-◌, ◌<◌, List, [], ◌∷◌, ◌++◌, length, drop, refl, sym, ap, ap₂, ◌∙◌, arith, append_assoc, length-drop, add-one, Result, Ok, Err, is_ok, OnOk, if◌then◌else◌}
use Rattle.sha2.proofs.Facts512.{length-sha512_256}
use Rattle.al_digest.specs.Digests.{node_digest_of}
use Rattle.al_trie.specs.Root.{Through, Sole, Several, child, each_byte, node}

pub node_is : (of : List ℕ → Through) (n : ℕ) (path : List ℕ) → node of (suc n) path ≡ node_digest_of (length path ∷ path ++ each_byte 256 0 (λ b. child path b (of (path ++ b ∷ [])) (node of n (path ++ b ∷ []))))
unfolding node
node_is of n path = refl

pub node_long : (of : List ℕ → Through) (n : ℕ) (path : List ℕ) → 0 < n → length (node of n path) ≡ 32
unfolding node
node_long of zero path l = absurd (omega arith)
node_long of (suc n) path l = length-sha512_256 _

four : (out d : List ℕ) (a c b : ℕ) → (((out ++ a ∷ []) ++ c ∷ []) ++ b ∷ []) ++ d ≡ out ++ a ∷ c ∷ b ∷ d
four out d a c b = append_assoc ((out ++ a ∷ []) ++ c ∷ []) (b ∷ []) d ∙ append_assoc (out ++ a ∷ []) (c ∷ []) (b ∷ d) ∙ append_assoc out (a ∷ []) (c ∷ b ∷ d)

pub spelled_sole : (out path x inner : List ℕ) (b : ℕ) → length x ≡ 36 → length path < 36 → (((out ++ 0 ∷ []) ++ (35 - length path) ∷ []) ++ b ∷ []) ++ drop (length path + 1) x ≡ out ++ child path b (Sole x) inner
spelled_sole out path x inner b long short =
    four out (drop (length path + 1) x) 0 (35 - length path) b
    ∙ ap₂ (λ (n : ℕ) (ys : List ℕ). out ++ 0 ∷ n ∷ b ∷ ys) (omega (arith, length-drop (suc (length path)) x)) (ap (λ k. drop k x) (add-one (length path)))

pub spelled_many : (out path digest inner : List ℕ) (b : ℕ) → digest ≡ inner → length inner ≡ 32 → (((out ++ 1 ∷ []) ++ 32 ∷ []) ++ b ∷ []) ++ digest ≡ out ++ child path b Several inner
spelled_many out path digest inner b same long =
    four out digest 1 32 b
    ∙ ap₂ (λ (n : ℕ) (ys : List ℕ). out ++ 1 ∷ n ∷ b ∷ ys) (sym long) same

pub node_spelled : (of : List ℕ → Through) (path bytes : List ℕ) (depth : ℕ) → length path ≡ depth → depth < 36 → bytes ≡ (([] ++ depth ∷ []) ++ path) ++ each_byte 256 0 (λ b. child path b (of (path ++ b ∷ [])) (node of (35 - length path) (path ++ b ∷ [])))
    → node_digest_of bytes ≡ node of (36 - length path) path
node_spelled of path bytes depth long short is =
    ap node_digest_of is
    ∙ ap (λ k. node_digest_of ((k ∷ path) ++ each_byte 256 0 (λ b. child path b (of (path ++ b ∷ [])) (node of (35 - length path) (path ++ b ∷ []))))) (sym long)
    ∙ sym (node_is of (35 - length path) path)
    ∙ ap (λ k. node of k path) (let l = long in omega arith)

pub on_appended : {E : Type 0} (r : Result (Unit {0}) E) (new old other target : List ℕ) → new ≡ (if is_ok r then old ++ other else old) → old ++ other ≡ target → OnOk r (new ≡ target)
on_appended (Ok x) new old other target is same = is ∙ same
on_appended (Err e) new old other target is same = tt
