-- What a method and a target ask, in the order in which they are read: the path's kind, the method, the path's pieces from left to right, the query.
use Rattle.std.specs.Prelude.{◌≡◌, ◌≢◌, ◌==◌, ◌⊎◌, ℕ, List, [], get_or, codes, Result, Ok, Err}
use Rattle.std.specs.List.{before_first, after_first}
use Rattle.al_routes.specs.declared.paths.Kind.{Kind}
use Rattle.al_routes.specs.declared.paths.Kind.TheVariants as kinds
use Rattle.al_routes.specs.declared.request.Request.{Request}
use Rattle.al_routes.specs.declared.request.Request.TheVariants as asks
use Rattle.al_routes.specs.declared.request.FormFault.{FormFault}
use Rattle.al_routes.specs.declared.request.FormFault.TheVariants as faults
use Rattle.al_routes.specs.Paths.{IsPath, pieces_of}
use Rattle.al_routes.specs.Texts.{IsAddress, IsName, IsNothing, IsNumber, IsRound, IsSpan}

-- ---- the parts of a target

-- what stands before the first question mark, or all
abbrev pub path_of : List ℕ → List ℕ
path_of target = before_first (λ b. b == 63) target

-- what stands behind the first question mark, or nothing
abbrev pub query_of : List ℕ → List ℕ
query_of target = after_first (λ b. b == 63) target

-- the piece of a path at a place, or nothing
abbrev pub piece : ℕ → List (List ℕ) → List ℕ
piece n pieces = get_or pieces n []

-- ---- what is asked

-- the pieces of a path
abbrev pub Pieces : Type 0
Pieces = List (List ℕ)

-- a request, or the first fault
abbrev pub Answer : Type 0
Answer = Result Request FormFault

-- the text is read as a value and then the next step follows, or it has none and that is the fault
abbrev pub First : {A : Type 0} → (A → Type 0) → FormFault → Answer → (A → Type 0) → Type 0
First {A = A} Is fault result next = ((x : A) × Is x × next x) ⊎ (((x : A) → Is x → ⊥) × (result ≡ Err fault))

-- the method of a kind of path
abbrev pub method_of : Kind → List ℕ
method_of kinds.Blocks = codes "POST"
method_of kinds.Account = codes "GET"
method_of kinds.Asset = codes "GET"
method_of kinds.App = codes "GET"
method_of kinds.BoxOf = codes "GET"
method_of kinds.Creator = codes "GET"
method_of kinds.Online = codes "GET"
method_of kinds.Circulation = codes "GET"
method_of kinds.Supply = codes "GET"
method_of kinds.Standing = codes "GET"

-- no query
abbrev pub AsksPost : List ℕ → Answer → Type 0
AsksPost query r = First (IsNothing query) faults.BadQuery r (λ u. r ≡ Ok asks.Post)

-- an address, a round
abbrev pub AsksAccount : Pieces → List ℕ → Answer → Type 0
AsksAccount pieces query r =
    First (IsAddress (piece 3 pieces)) faults.BadAddress r (λ address.
    First (IsRound query) faults.BadQuery r (λ round. r ≡ Ok (asks.Account address round)))

-- an address, an id, a round
abbrev pub AsksAsset : Pieces → List ℕ → Answer → Type 0
AsksAsset pieces query r =
    First (IsAddress (piece 3 pieces)) faults.BadAddress r (λ address.
    First (IsNumber (piece 5 pieces)) faults.BadId r (λ id.
    First (IsRound query) faults.BadQuery r (λ round. r ≡ Ok (asks.Asset address id round))))

-- an address, an id, a round
abbrev pub AsksApp : Pieces → List ℕ → Answer → Type 0
AsksApp pieces query r =
    First (IsAddress (piece 3 pieces)) faults.BadAddress r (λ address.
    First (IsNumber (piece 5 pieces)) faults.BadId r (λ id.
    First (IsRound query) faults.BadQuery r (λ round. r ≡ Ok (asks.App address id round))))

-- an id, the name of a box, a round
abbrev pub AsksBox : Pieces → List ℕ → Answer → Type 0
AsksBox pieces query r =
    First (IsNumber (piece 3 pieces)) faults.BadId r (λ app.
    First (IsName (piece 5 pieces)) faults.BadBox r (λ name.
    First (IsRound query) faults.BadQuery r (λ round. r ≡ Ok (asks.BoxOf app name round))))

-- an id, a round
abbrev pub AsksCreator : Pieces → List ℕ → Answer → Type 0
AsksCreator pieces query r =
    First (IsNumber (piece 3 pieces)) faults.BadId r (λ id.
    First (IsRound query) faults.BadQuery r (λ round. r ≡ Ok (asks.Creator id round)))

-- an address, a round
abbrev pub AsksOnline : Pieces → List ℕ → Answer → Type 0
AsksOnline pieces query r =
    First (IsAddress (piece 3 pieces)) faults.BadAddress r (λ address.
    First (IsRound query) faults.BadQuery r (λ round. r ≡ Ok (asks.Online address round)))

-- a round, a round of votes
abbrev pub AsksCirculation : List ℕ → Answer → Type 0
AsksCirculation query r = First (IsSpan query) faults.BadQuery r (λ s. r ≡ Ok (asks.Circulation s.0 s.1))

-- a round
abbrev pub AsksSupply : List ℕ → Answer → Type 0
AsksSupply query r = First (IsRound query) faults.BadQuery r (λ round. r ≡ Ok (asks.Supply round))

-- no query
abbrev pub AsksStanding : List ℕ → Answer → Type 0
AsksStanding query r = First (IsNothing query) faults.BadQuery r (λ u. r ≡ Ok asks.Standing)

-- what each kind of path asks by its pieces and its query
abbrev pub AsksBy : Kind → Pieces → List ℕ → Answer → Type 0
AsksBy kinds.Blocks pieces query r = AsksPost query r
AsksBy kinds.Account pieces query r = AsksAccount pieces query r
AsksBy kinds.Asset pieces query r = AsksAsset pieces query r
AsksBy kinds.App pieces query r = AsksApp pieces query r
AsksBy kinds.BoxOf pieces query r = AsksBox pieces query r
AsksBy kinds.Creator pieces query r = AsksCreator pieces query r
AsksBy kinds.Online pieces query r = AsksOnline pieces query r
AsksBy kinds.Circulation pieces query r = AsksCirculation query r
AsksBy kinds.Supply pieces query r = AsksSupply query r
AsksBy kinds.Standing pieces query r = AsksStanding query r

-- the method is the kind's, or that is the fault
abbrev pub AsksAt : Kind → List ℕ → List ℕ → Answer → Type 0
AsksAt kind method target r =
    ((method ≡ method_of kind) × AsksBy kind (pieces_of (path_of target)) (query_of target) r)
    ⊎ ((method ≢ method_of kind) × (r ≡ Err faults.Method))

-- the path is of no kind
abbrev pub HasNoRoute : List ℕ → Type 0
HasNoRoute target = (kind : Kind) → IsPath kind (path_of target) → ⊥

-- what a method and a target ask, or the first fault
abbrev pub Asks : List ℕ → List ℕ → Answer → Type 0
Asks method target r =
    ((kind : Kind) × IsPath kind (path_of target) × AsksAt kind method target r)
    ⊎ (HasNoRoute target × (r ≡ Err faults.NoRoute))

-- memory was short
abbrev pub IsMemory : Answer → Type 0
IsMemory r = r ≡ Err faults.Memory

-- a method and a target ask one thing, or have one first fault
abbrev pub OneAnswer : Type 0
OneAnswer = (method target : List ℕ) (r s : Answer) → Asks method target r → Asks method target s → r ≡ s
