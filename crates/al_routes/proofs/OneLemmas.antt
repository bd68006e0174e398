-- A method and a target have one answer.
use Rattle.std.proofs.Common.{◌≡◌, ◌≤◌, ◌^◌, ◌==◌, inl, inr, ℕ, List, [], ◌∷◌, ◌++◌, codes, get_or, refl, sym, ap, ap₂, ◌∙◌, arith, subst, Option, Some, None, Ok, true, false}
use Rattle.std.proofs.lemmas.Fmt.{decimal_injective}
use Rattle.std.proofs.lemmas.List.{append_cancel_left}
use Rattle.std.specs.Fmt.{decimal}
use Rattle.std.specs.List.{before_first, after_first}
use Rattle.al_base.proofs.NameLemmas.{name_is}
use Rattle.al_base.specs.Name.{name_of}
use Rattle.al_base.specs.declared.address.Address.{Address}
use Rattle.al_base.specs.declared.name.BoxName.{BoxName}
use Rattle.al_digest.proofs.Readings.{address_read}
use Rattle.al_digest.specs.Texts.{address_text_of}
use Rattle.al_routes.specs.Asks.{Answer, Asks, AsksAt, AsksBox, AsksBy, First, Pieces, path_of, piece, query_of}
use Rattle.al_routes.specs.Paths.{pieces_of}
use Rattle.al_routes.specs.Texts.{IsAddress, IsBoth, IsName, IsNothing, IsNumber, IsRound, IsSpan, IsLow, round_text, span_text}
use Rattle.al_routes.specs.declared.paths.Kind.{Kind}
use Rattle.al_routes.specs.declared.paths.Kind.TheVariants as kinds
use Rattle.al_routes.specs.declared.request.FormFault.{FormFault}
use Rattle.al_routes.specs.declared.request.FormFault.TheVariants as faults
use Rattle.al_routes.specs.declared.request.Request.{Request}
use Rattle.al_routes.specs.declared.request.Request.TheVariants as asks
use Rattle.al_routes.proofs.KindLemmas.{one_kind}
use Rattle.al_routes.proofs.QueryLemmas.{NoAmp, first_read, round_clear, second_read}

-- ---- each reader has one value

one_decimal : (m n : ℕ) → m ≤ 2 ^ 62 → n ≤ 2 ^ 62 → decimal m ≡ decimal n → m ≡ n
one_decimal m n x y same = decimal_injective m n (omega (arith, x)) (omega (arith, y)) same

one_number : (text : List ℕ) (m n : ℕ) → IsNumber text m → IsNumber text n → m ≡ n
one_number text m n x y = one_decimal m n x.0 y.0 (sym x.1 ∙ y.1)

one_address : (text : List ℕ) (a b : Address) → IsAddress text a → IsAddress text b → a ≡ b
one_address text a b x y =
    let ok : Ok a ≡ Ok b = address_read (address_text_of a) (Ok a) refl x.0 b y.0 (sym x.1 ∙ y.1) in
    cc

one_name : (text : List ℕ) (a b : BoxName) → IsName text a → IsName text b → a ≡ b
one_name text a b x y =
    let ok : Ok (name_of a) ≡ Ok (name_of b) = sym x.1 ∙ y.1 in
    let same : name_of a ≡ name_of b = cc in
    name_is a b x.0 y.0 same

one_round : (query : List ℕ) (r s : Option ℕ) → IsRound query r → IsRound query s → r ≡ s
one_round query r s (low, is) (under, so) = by r s low under (sym is ∙ so)
  where
    by : (r s : Option ℕ) → IsLow r → IsLow s → round_text r ≡ round_text s → r ≡ s
    by None None x y same = refl
    by None (Some n) x y same = cc
    by (Some m) None x y same = cc
    by (Some m) (Some n) x y same = ap Some (one_decimal m n x y (append_cancel_left (codes "round=") (decimal m) (decimal n) same))

round_no_vote : (xs ys : List ℕ) → codes "round=" ++ xs ≡ codes "vote=" ++ ys → ⊥
round_no_vote xs ys same = let first : 114 ≡ 118 = ap (λ (t : List ℕ). get_or t 0 0) same in absurd (omega (arith, first))

-- an ampersand stands in no round
amp_there : (xs ys : List ℕ) → NoAmp (xs ++ 38 ∷ ys) → ⊥
amp_there [] ys h = let other : true ≡ false = h.0 in cc
amp_there (x ∷ xs) ys h = amp_there xs ys h.1

abbrev Two : Type 0
Two = Option ℕ × Option ℕ

abbrev two : Option ℕ → Option ℕ → Two
two round vote = (round, vote)

-- two rounds of one text
one_both : (query : List ℕ) (x y : ℕ × ℕ) → IsBoth query x → IsBoth query y → (x.0 ≡ y.0) × (x.1 ≡ y.1)
one_both query x y a b =
    let f = first_read query (before_first (λ b. b == 38) query) x refl a in
    let g = first_read query (before_first (λ b. b == 38) query) y refl b in
    let u = second_read query (after_first (λ b. b == 38) query) x refl a in
    let v = second_read query (after_first (λ b. b == 38) query) y refl b in (
      one_decimal x.0 y.0 f.0 g.0 (append_cancel_left (codes "round=") (decimal x.0) (decimal y.0) (sym f.1 ∙ g.1)),
      one_decimal x.1 y.1 u.0 v.0 (append_cancel_left (codes "vote=") (decimal x.1) (decimal y.1) (sym u.1 ∙ v.1)),
    )

-- a round alone is no round with votes
alone : (m n w : ℕ) → m ≤ 2 ^ 62 → codes "round=" ++ decimal m ≡ codes "round=" ++ (decimal n ++ (codes "&vote=" ++ decimal w)) → ⊥
alone m n w low same = amp_there (codes "round=" ++ decimal n) (codes "vote=" ++ decimal w) (subst NoAmp same (round_clear m low))

one_text : (r v s w : Option ℕ) → IsLow r → IsLow v → IsLow s → IsLow w → span_text r v ≡ span_text s w → two r v ≡ two s w
one_text r None s None a b c d same = ap (λ t. two t None) (one_round (round_text r) r s (a, refl) (c, same))
one_text None None None (Some w) a b c d same = cc
one_text (Some m) None None (Some w) a b c d same = absurd (round_no_vote (decimal m) (decimal w) same)
one_text None None (Some n) (Some w) a b c d same = cc
one_text (Some m) None (Some n) (Some w) a b c d same = absurd (alone m n w a same)
one_text None (Some v) None None a b c d same = cc
one_text None (Some v) (Some n) None a b c d same = absurd (round_no_vote (decimal n) (decimal v) (sym same))
one_text None (Some v) None (Some w) a b c d same = ap (λ t. two None (Some t)) (one_decimal v w b d (append_cancel_left (codes "vote=") (decimal v) (decimal w) same))
one_text None (Some v) (Some n) (Some w) a b c d same = absurd (round_no_vote (decimal n ++ (codes "&vote=" ++ decimal w)) (decimal v) (sym same))
one_text (Some m) (Some v) None None a b c d same = cc
one_text (Some m) (Some v) (Some n) None a b c d same = absurd (alone n m v c (sym same))
one_text (Some m) (Some v) None (Some w) a b c d same = absurd (round_no_vote (decimal m ++ (codes "&vote=" ++ decimal v)) (decimal w) same)
one_text (Some m) (Some v) (Some n) (Some w) a b c d same =
    let h = one_both (span_text (Some m) (Some v)) (m, v) (n, w) (a, b, refl) (c, d, same) in
    ap₂ (λ x y. two (Some x) (Some y)) h.0 h.1

one_span : (query : List ℕ) (s t : Option ℕ × Option ℕ) → IsSpan query s → IsSpan query t → s ≡ t
one_span query (r, v) (s, w) (a, b, is) (c, d, so) = one_text r v s w a b c d (sym is ∙ so)

one_nothing : (query : List ℕ) (u v : Unit {0}) → IsNothing query u → IsNothing query v → u ≡ v
one_nothing query u v x y = refl

-- ---- the chain of readers

one_first : {A : Type 0} (Is : A → Type 0) (fault : FormFault) (r s : Answer) (p q : A → Type 0) → ((x y : A) → Is x → Is y → x ≡ y) → ((x : A) → p x → q x → r ≡ s) → First Is fault r p → First Is fault s q → r ≡ s
one_first Is fault r s p q one more (inl (x, a, u)) (inl (y, b, v)) = more y (subst p (one x y a b) u) v
one_first Is fault r s p q one more (inl (x, a, u)) (inr (none, v)) = absurd (none x a)
one_first Is fault r s p q one more (inr (none, u)) (inl (y, b, v)) = absurd (none y b)
one_first Is fault r s p q one more (inr (none, u)) (inr (nothing, v)) = u ∙ sym v

-- a round behind what was read
abbrev Asked : List ℕ → (Option ℕ → Request) → Answer → Type 0
Asked query f r = First (IsRound query) faults.BadQuery r (λ round. r ≡ Ok (f round))

one_asked : (query : List ℕ) (f : Option ℕ → Request) (r s : Answer) → Asked query f r → Asked query f s → r ≡ s
one_asked query f r s x y = one_first (IsRound query) faults.BadQuery r s (λ round. r ≡ Ok (f round)) (λ round. s ≡ Ok (f round)) (one_round query) (λ round a b. a ∙ sym b) x y

-- an address and a round
abbrev AskedOf : List ℕ → List ℕ → (Address → Option ℕ → Request) → Answer → Type 0
AskedOf text query f r = First (IsAddress text) faults.BadAddress r (λ address. Asked query (f address) r)

one_of : (text query : List ℕ) (f : Address → Option ℕ → Request) (r s : Answer) → AskedOf text query f r → AskedOf text query f s → r ≡ s
one_of text query f r s x y = one_first (IsAddress text) faults.BadAddress r s (λ address. Asked query (f address) r) (λ address. Asked query (f address) s) (one_address text) (λ address. one_asked query (f address) r s) x y

-- an id and a round
abbrev AskedById : List ℕ → List ℕ → (ℕ → Option ℕ → Request) → Answer → Type 0
AskedById text query f r = First (IsNumber text) faults.BadId r (λ id. Asked query (f id) r)

one_by_id : (text query : List ℕ) (f : ℕ → Option ℕ → Request) (r s : Answer) → AskedById text query f r → AskedById text query f s → r ≡ s
one_by_id text query f r s x y = one_first (IsNumber text) faults.BadId r s (λ id. Asked query (f id) r) (λ id. Asked query (f id) s) (one_number text) (λ id. one_asked query (f id) r s) x y

-- an address, an id and a round
abbrev AskedItem : List ℕ → List ℕ → List ℕ → (Address → ℕ → Option ℕ → Request) → Answer → Type 0
AskedItem who text query f r = First (IsAddress who) faults.BadAddress r (λ address. AskedById text query (f address) r)

one_item : (who text query : List ℕ) (f : Address → ℕ → Option ℕ → Request) (r s : Answer) → AskedItem who text query f r → AskedItem who text query f s → r ≡ s
one_item who text query f r s x y = one_first (IsAddress who) faults.BadAddress r s (λ address. AskedById text query (f address) r) (λ address. AskedById text query (f address) s) (one_address who) (λ address. one_by_id text query (f address) r s) x y

-- a name and a round
abbrev AskedNamed : List ℕ → List ℕ → (BoxName → Option ℕ → Request) → Answer → Type 0
AskedNamed text query f r = First (IsName text) faults.BadBox r (λ name. Asked query (f name) r)

one_named : (text query : List ℕ) (f : BoxName → Option ℕ → Request) (r s : Answer) → AskedNamed text query f r → AskedNamed text query f s → r ≡ s
one_named text query f r s x y = one_first (IsName text) faults.BadBox r s (λ name. Asked query (f name) r) (λ name. Asked query (f name) s) (one_name text) (λ name. one_asked query (f name) r s) x y

one_box : (pieces : Pieces) (query : List ℕ) (r s : Answer) → AsksBox pieces query r → AsksBox pieces query s → r ≡ s
one_box pieces query r s x y =
    one_first (IsNumber (piece 3 pieces)) faults.BadId r s
    (λ app. AskedNamed (piece 5 pieces) query (λ name round. asks.BoxOf app name round) r)
    (λ app. AskedNamed (piece 5 pieces) query (λ name round. asks.BoxOf app name round) s)
    (one_number (piece 3 pieces))
    (λ app. one_named (piece 5 pieces) query (λ name round. asks.BoxOf app name round) r s) x y

-- ---- the answer

one_by : (kind : Kind) (pieces : Pieces) (query : List ℕ) (r s : Answer) → AsksBy kind pieces query r → AsksBy kind pieces query s → r ≡ s
one_by kinds.Blocks pieces query r s x y = one_first (IsNothing query) faults.BadQuery r s (λ u. r ≡ Ok asks.Post) (λ u. s ≡ Ok asks.Post) (one_nothing query) (λ u a b. a ∙ sym b) x y
one_by kinds.Account pieces query r s x y = one_of (piece 3 pieces) query (λ address round. asks.Account address round) r s x y
one_by kinds.Asset pieces query r s x y = one_item (piece 3 pieces) (piece 5 pieces) query (λ address id round. asks.Asset address id round) r s x y
one_by kinds.App pieces query r s x y = one_item (piece 3 pieces) (piece 5 pieces) query (λ address id round. asks.App address id round) r s x y
one_by kinds.BoxOf pieces query r s x y = one_box pieces query r s x y
one_by kinds.Creator pieces query r s x y = one_by_id (piece 3 pieces) query (λ id round. asks.Creator id round) r s x y
one_by kinds.Online pieces query r s x y = one_of (piece 3 pieces) query (λ address round. asks.Online address round) r s x y
one_by kinds.Circulation pieces query r s x y = one_first (IsSpan query) faults.BadQuery r s (λ t. r ≡ Ok (asks.Circulation t.0 t.1)) (λ t. s ≡ Ok (asks.Circulation t.0 t.1)) (one_span query) (λ t a b. a ∙ sym b) x y
one_by kinds.Supply pieces query r s x y = one_asked query (λ round. asks.Supply round) r s x y
one_by kinds.Standing pieces query r s x y = one_first (IsNothing query) faults.BadQuery r s (λ u. r ≡ Ok asks.Standing) (λ u. s ≡ Ok asks.Standing) (one_nothing query) (λ u a b. a ∙ sym b) x y

one_at : (kind : Kind) (method target : List ℕ) (r s : Answer) → AsksAt kind method target r → AsksAt kind method target s → r ≡ s
one_at kind method target r s (inl (m, x)) (inl (n, y)) = one_by kind (pieces_of (path_of target)) (query_of target) r s x y
one_at kind method target r s (inl (m, x)) (inr (n, y)) = absurd (n m)
one_at kind method target r s (inr (m, x)) (inl (n, y)) = absurd (m n)
one_at kind method target r s (inr (m, x)) (inr (n, y)) = x ∙ sym y

pub one_answer : (method target : List ℕ) (r s : Answer) → Asks method target r → Asks method target s → r ≡ s
one_answer method target r s (inl (k, p, x)) (inl (l, q, y)) = one_at l method target r s (subst (λ j. AsksAt j method target r) (one_kind (path_of target) k l p q) x) y
one_answer method target r s (inl (k, p, x)) (inr (none, y)) = absurd (none k p)
one_answer method target r s (inr (none, x)) (inl (l, q, y)) = absurd (none l q)
one_answer method target r s (inr (none, x)) (inr (nothing, y)) = x ∙ sym y
