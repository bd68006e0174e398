-- The paths that are served.
use Rattle.std.specs.Prelude.{◌≡◌, ◌<◌, ◌==◌, ℕ, List, [], ◌∷◌, ◌++◌, length, codes, Option, Some, None, Result, Ok, Err, ⊤}
use Rattle.std.specs.List.{slice_split}
use Rattle.matchit.specs.Rows.{RowsOf, param_token}
use Rattle.matchit.specs.Order.{placed}
use Rattle.matchit.specs.Route.{Scan, parse_route}
use Rattle.matchit.specs.Router.{RouteOf, route_from}
use Rattle.matchit.specs.declared.error.InsertError.{InsertError}
use Rattle.al_routes.specs.declared.paths.Kind.{Kind}
use Rattle.al_routes.specs.declared.paths.Kind.TheVariants as kinds

-- ---- the grammar of paths

-- a piece of a form: this text, or any text that is not empty
pub data Piece : Type 0 where
  word : List ℕ → Piece
  any : Piece

-- what stands behind the first two slashes
abbrev pub behind : Kind → List Piece
behind kinds.Blocks = word (codes "blocks") ∷ []
behind kinds.Account = word (codes "accounts") ∷ any ∷ []
behind kinds.Asset = word (codes "accounts") ∷ any ∷ word (codes "assets") ∷ any ∷ []
behind kinds.App = word (codes "accounts") ∷ any ∷ word (codes "apps") ∷ any ∷ []
behind kinds.BoxOf = word (codes "apps") ∷ any ∷ word (codes "boxes") ∷ any ∷ []
behind kinds.Creator = word (codes "creators") ∷ any ∷ []
behind kinds.Online = word (codes "online") ∷ any ∷ []
behind kinds.Circulation = word (codes "circulation") ∷ []
behind kinds.Supply = word (codes "supply") ∷ []
behind kinds.Standing = word (codes "status") ∷ []

-- nothing stands before the first slash
abbrev pub form : Kind → List Piece
form kind = word [] ∷ word (codes "v1") ∷ behind kind

-- what stands before, between and behind the slashes
abbrev pub pieces_of : List ℕ → List (List ℕ)
pieces_of path = slice_split (λ b. b == 47) path

-- the texts are of this form
abbrev pub Fits : List Piece → List (List ℕ) → Type 0
Fits [] [] = ⊤
Fits [] (t ∷ ts) = ⊥
Fits (p ∷ ps) [] = ⊥
Fits (word w ∷ ps) (t ∷ ts) = (t ≡ w) × Fits ps ts
Fits (any ∷ ps) (t ∷ ts) = (0 < length t) × Fits ps ts

-- a path of this kind
abbrev pub IsPath : Kind → List ℕ → Type 0
IsPath kind path = Fits (form kind) (pieces_of path)

-- the kind of a path, or that it has none
abbrev pub IsKindOf : List ℕ → Option Kind → Type 0
IsKindOf path (Some kind) = IsPath kind path
IsKindOf path None = (kind : Kind) → IsPath kind path → ⊥

-- ---- the same paths as the router keeps them

-- a route and its kind placed among rows
abbrev pub with_row : Result Scan InsertError → Kind → RowsOf (RouteOf Kind) → RowsOf (RouteOf Kind)
with_row (Ok s) kind rows = placed (s.pattern, route_from s kind) rows
with_row (Err e) kind rows = rows

-- the routes in the order in which they are put in, the last first
abbrev pub routes : List (List ℕ × Kind)
routes =
    (codes "/v1/status", kinds.Standing) ∷ (codes "/v1/supply", kinds.Supply) ∷ (codes "/v1/circulation", kinds.Circulation)
    ∷ (codes "/v1/online/{a}", kinds.Online) ∷ (codes "/v1/creators/{id}", kinds.Creator)
    ∷ (codes "/v1/apps/{id}/boxes/{hex}", kinds.BoxOf) ∷ (codes "/v1/accounts/{a}/apps/{id}", kinds.App)
    ∷ (codes "/v1/accounts/{a}/assets/{id}", kinds.Asset) ∷ (codes "/v1/accounts/{a}", kinds.Account)
    ∷ (codes "/v1/blocks", kinds.Blocks) ∷ []

-- the rows of routes that are put in one after the other
abbrev pub rows_of_routes : List (List ℕ × Kind) → RowsOf (RouteOf Kind)
rows_of_routes [] = []
rows_of_routes (r ∷ rs) = with_row (parse_route r.0) r.1 (rows_of_routes rs)

-- the rows of all paths
abbrev pub table : RowsOf (RouteOf Kind)
table = rows_of_routes routes

-- a piece as the router's tokens
abbrev pub token : Piece → List ℕ
token (word w) = w
token any = param_token ∷ []

-- a form as the router's tokens
abbrev pub tokens : List Piece → List ℕ
tokens [] = []
tokens (p ∷ []) = token p
tokens (p ∷ q ∷ ps) = token p ++ 47 ∷ tokens (q ∷ ps)
