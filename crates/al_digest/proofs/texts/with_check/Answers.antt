use Rattle.std.proofs.Common.{◌≡◌, ℕ, List, [], ◌∷◌, ◌++◌, ◌≤◌, length, take, drop, ap, ◌∙◌, arith}
use Rattle.std.proofs.lemmas.List.{take_at, take_all, drop_at, append-nil, length-drop}
use borrow.Rule.Slice.PartMut.{put_mid}
use Rattle.al_digest.specs.Digests.{bare_digest_of}
use Rattle.al_digest.specs.Texts.{check_of}
use Rattle.al_digest.proofs.texts.with_check.Goals as goal

-- four bytes written behind 32
behind : (xs ys : List ℕ) → length xs ≡ 32 → put_mid 32 4 (xs ++ 0 ∷ 0 ∷ 0 ∷ 0 ∷ []) ys ≡ xs ++ ys
behind xs ys long =
    ap (λ zs. zs ++ (ys ++ drop 4 (drop 32 (xs ++ 0 ∷ 0 ∷ 0 ∷ 0 ∷ [])))) (take_at xs (0 ∷ 0 ∷ 0 ∷ 0 ∷ []) 32 long)
    ∙ ap (λ zs. xs ++ (ys ++ drop 4 zs)) (drop_at xs (0 ∷ 0 ∷ 0 ∷ 0 ∷ []) 32 long)
    ∙ ap (λ zs. xs ++ zs) (append-nil ys)

pub returns : goal.returns
returns c =
    behind c.copy_from_slice.new.self c.copy_from_slice-2.new.self c.copy_from_slice.ensures.len
    ∙ ap (λ zs. zs ++ c.copy_from_slice-2.new.self) c.copy_from_slice.ensures.after
    ∙ ap (λ zs. c.args.address.now.0 ++ zs) (c.copy_from_slice-2.ensures.after ∙ ap (λ zs. take 4 (drop 28 zs)) c.bare_digest.ensures.value ∙ take_all 4 (check_of c.args.address.now.0) short)
  where
    short : length (check_of c.args.address.now.0) ≤ 4
    short = omega (arith, length-drop 28 (bare_digest_of c.args.address.now.0), c.bare_digest.ensures.size, ap length c.bare_digest.ensures.value)
