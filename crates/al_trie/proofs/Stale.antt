-- How many nodes are stale, as one node changes.
use Rattle.std.proofs.Common.{◌≡◌, ℕ, zero, suc, ◌+◌, ◌≤◌, true, false, cond, ◌&&◌, is_none, List, [], ◌∷◌, ◌++◌, set, slice_get, Some, sym, ap, ◌∙◌, arith}
use Rattle.std.proofs.lemmas.Option.{same_Some}
use Rattle.al_trie.specs.declared.arena.Node.{Node}
use Rattle.al_trie.specs.Arena.{stale}

abbrev pub weight : Node → ℕ
weight n = cond (n.live && is_none n.summary) 1 0

weight-le : (n : Node) → weight n ≤ 1
weight-le n = elim (n.live && is_none n.summary) as (λ b. cond b 1 0 ≤ 1) [ true ↦ omega arith | false ↦ omega arith ]

pub stale-set_le : (nodes : List Node) (i : ℕ) (m : Node) → stale (set nodes i m) ≤ stale nodes + 1
stale-set_le [] i m = omega arith
stale-set_le (n ∷ nodes) zero m = let a = weight-le m in omega arith
stale-set_le (n ∷ nodes) (suc i) m = let a = stale-set_le nodes i m in omega arith

pub stale-set_same : (nodes : List Node) (i : ℕ) (n m : Node) → slice_get nodes i ≡ Some n → weight m ≡ weight n → stale (set nodes i m) ≡ stale nodes
stale-set_same [] i n m h e = cc
stale-set_same (k ∷ nodes) zero n m h e = ap (λ w. w + stale nodes) (e ∙ ap weight (sym (same_Some k n h)))
stale-set_same (k ∷ nodes) (suc i) n m h e = ap (λ w. weight k + w) (stale-set_same nodes i n m h e)

pub stale-set_fresh : (nodes : List Node) (i : ℕ) (n m : Node) → slice_get nodes i ≡ Some n → weight n ≡ 1 → weight m ≡ 0 → stale (set nodes i m) + 1 ≡ stale nodes
stale-set_fresh [] i n m h e z = cc
stale-set_fresh (k ∷ nodes) zero n m h e z = let w : weight k ≡ 1 = ap weight (same_Some k n h) ∙ e in omega arith
stale-set_fresh (k ∷ nodes) (suc i) n m h e z = let a = stale-set_fresh nodes i n m h e z in omega arith

pub stale-push : (nodes : List Node) (m : Node) → stale (nodes ++ m ∷ []) ≡ stale nodes + weight m
stale-push [] m = omega arith
stale-push (n ∷ nodes) m = let a = stale-push nodes m in omega arith
