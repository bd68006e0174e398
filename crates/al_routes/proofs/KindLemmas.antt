-- A path has one kind.
use Rattle.std.proofs.Common.{◌≡◌, ◌||◌, ◌⊎◌, inl, inr, ℕ, Bool, true, false, not, List, [], ◌∷◌, refl, sym, ap, ◌∙◌, bytes_eq}
use Rattle.std.specs.Cmp.Lexicographic.{bytes_decides}
use Rattle.al_routes.specs.declared.paths.Kind.{Kind}
use Rattle.al_routes.specs.declared.paths.Kind.TheVariants as kinds
use Rattle.al_routes.specs.Paths.{Piece, word, any, form, pieces_of, Fits, IsPath}

-- two forms of different lengths, or with different texts at one place
abbrev clash : List Piece → List Piece → Bool
clash [] [] = false
clash [] (q ∷ qs) = true
clash (p ∷ ps) [] = true
clash (word v ∷ ps) (word w ∷ qs) = not (bytes_eq v w) || clash ps qs
clash (word v ∷ ps) (any ∷ qs) = clash ps qs
clash (any ∷ ps) (word w ∷ qs) = clash ps qs
clash (any ∷ ps) (any ∷ qs) = clash ps qs

same_texts : (v w : List ℕ) (b : Bool) → v ≡ w → (not (bytes_eq v w) || b) ≡ true → b ≡ true
same_texts v w b is c =
    let yes : bytes_eq v w ≡ true = (bytes_decides v w).1 is in
    sym (ap (λ (e : Bool). not e || b) yes) ∙ c

never : (ps qs : List Piece) (ts : List (List ℕ)) → clash ps qs ≡ true → Fits ps ts → Fits qs ts → ⊥
never [] [] ts c x y = cc
never [] (q ∷ qs) [] c x y = y
never [] (q ∷ qs) (t ∷ ts) c x y = x
never (p ∷ ps) [] [] c x y = x
never (p ∷ ps) [] (t ∷ ts) c x y = y
never (p ∷ ps) (q ∷ qs) [] c x y = x
never (word v ∷ ps) (word w ∷ qs) (t ∷ ts) c x y = never ps qs ts (same_texts v w (clash ps qs) (sym x.0 ∙ y.0) c) x.1 y.1
never (word v ∷ ps) (any ∷ qs) (t ∷ ts) c x y = never ps qs ts c x.1 y.1
never (any ∷ ps) (word w ∷ qs) (t ∷ ts) c x y = never ps qs ts c x.1 y.1
never (any ∷ ps) (any ∷ qs) (t ∷ ts) c x y = never ps qs ts c x.1 y.1

apart : (a b : Kind) → (a ≡ b) ⊎ (clash (form a) (form b) ≡ true)
apart kinds.Blocks kinds.Blocks = inl refl
apart kinds.Blocks b = inr refl
apart kinds.Account kinds.Account = inl refl
apart kinds.Account b = inr refl
apart kinds.Asset kinds.Asset = inl refl
apart kinds.Asset b = inr refl
apart kinds.App kinds.App = inl refl
apart kinds.App b = inr refl
apart kinds.BoxOf kinds.BoxOf = inl refl
apart kinds.BoxOf b = inr refl
apart kinds.Creator kinds.Creator = inl refl
apart kinds.Creator b = inr refl
apart kinds.Online kinds.Online = inl refl
apart kinds.Online b = inr refl
apart kinds.Circulation kinds.Circulation = inl refl
apart kinds.Circulation b = inr refl
apart kinds.Supply kinds.Supply = inl refl
apart kinds.Supply b = inr refl
apart kinds.Standing kinds.Standing = inl refl
apart kinds.Standing b = inr refl

pub one_kind : (path : List ℕ) (a b : Kind) → IsPath a path → IsPath b path → a ≡ b
one_kind path a b x y = by (apart a b)
  where
    by : (a ≡ b) ⊎ (clash (form a) (form b) ≡ true) → a ≡ b
    by (inl e) = e
    by (inr c) = absurd (never (form a) (form b) (pieces_of path) c x y)
