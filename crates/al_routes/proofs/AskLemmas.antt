-- What is asked, put together of the parts of a target.
use Rattle.std.proofs.Common.{◌≡◌, inl, ℕ, List, Bool, true, false, not, nat_eq, refl, sym, ◌∙◌, subst}
use Rattle.std.specs.Cmp.Lexicographic.{pointwise, same_text}
use Rattle.al_routes.specs.Asks.{Answer, Asks, AsksBy, Pieces, method_of, path_of, query_of}
use Rattle.al_routes.specs.Paths.{IsPath, pieces_of}
use Rattle.al_routes.specs.declared.paths.Kind.{Kind}

pub asks_by : (kind : Kind) (method target path query : List ℕ) (pieces : Pieces) (r : Answer) → path ≡ path_of target → query ≡ query_of target → pieces ≡ pieces_of path → IsPath kind path → method ≡ method_of kind → AsksBy kind pieces query r → Asks method target r
asks_by kind method target path query pieces r front back cut is same asked =
    inl (
      kind,
      subst (IsPath kind) front is,
      inl (
        same,
        subst (λ s. AsksBy kind (pieces_of s) (query_of target) r) front
            (subst (λ q. AsksBy kind (pieces_of path) q r) back
            (subst (λ ps. AsksBy kind ps query r) cut asked)),
      ),
    )

-- what a test of two texts for a difference has told
pub same_texts : (xs ys : List ℕ) (differ : Bool) → differ ≡ not (pointwise nat_eq xs ys) → differ ≡ false → xs ≡ ys
same_texts xs ys differ is none = same_text xs ys (by (pointwise nat_eq xs ys) (sym is ∙ none))
  where
    by : (same : Bool) → not same ≡ false → true ≡ same
    by true e = refl
    by false e = cc
