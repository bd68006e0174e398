-- Whether creators are those of rows can be told.
use Rattle.std.proofs.Common.{◌≡◌, ℕ, refl, sym, ap, ap₂, ◌∙◌, subst, List, [], ◌∷◌, Option, Some, None, Bool, true, false, cond, if◌then◌else◌, ◌&&◌, nat_eq}
use Rattle.std.specs.Cmp.{nat_eq_equiv, unsigned_tied}
use Rattle.std.proofs.lemmas.Bool.{eqb-true}
use Rattle.std.proofs.lemmas.Cmp.{nat_cmp_total}
use Rattle.std.specs.FinMap.{entries, find, get, get-from_entries, nat_cmp-IsAntisymmetric, same_entries_map, same_map}
use Rattle.std.specs.Option.{option_or}
use Rattle.std.specs.Ordering.{eq_by_cmp, nat_cmp}
use Rattle.al_base.specs.declared.address.Address.{Address}
use Rattle.al_base.specs.declared.key.Key.{Key}
use Rattle.al_base.specs.declared.key.Key.TheVariants as keys
use Rattle.al_moves.proofs.Follows.{same_is_true}
use Rattle.al_moves.proofs.Monies.{same_itself}
use Rattle.al_overlay.specs.Accounts.{same_address}
use Rattle.al_rows.specs.Finite.{first_some}
use Rattle.al_rows.specs.Rows.{bare, creator_at, creator_of, has_params}
use Rattle.al_rows.specs.declared.row.Row.{Row}
use Rattle.al_tables.specs.Tables.{CreatorMap, StoredMap}
use Rattle.al_ledger.specs.Creators.{AreCreatorsOf, agrees, and_params, creators_in, params_of, same_creators}

-- ---- the creators of rows

tied : (id i : ℕ) → eq_by_cmp nat_cmp id i ≡ nat_eq i id
tied id i = unsigned_tied id i ∙ nat_eq_equiv.symm id i

resource : (id i : ℕ) (who : Address) (row : Row) (others : List (ℕ × Address)) (rest : Option Address) → find nat_cmp id others ≡ rest
    → find nat_cmp id (and_params (keys.Resource who i) row others) ≡ option_or (creator_at id (keys.Resource who i) row) rest
resource id i who row others rest h = by_params (has_params row)
  where
    by_id : (b : Bool) → cond b (Some who) (find nat_cmp id others) ≡ option_or (if b && true then Some who else None) rest
    by_id true = refl
    by_id false = h

    with_none : (b : Bool) → rest ≡ option_or (if b && false then Some who else None) rest
    with_none true = refl
    with_none false = refl

    by_params : (p : Bool) → find nat_cmp id (if p then (i, who) ∷ others else others) ≡ option_or (if nat_eq i id && p then Some who else None) rest
    by_params true = ap (λ b. cond b (Some who) (find nat_cmp id others)) (tied id i) ∙ by_id (nat_eq i id)
    by_params false = h ∙ with_none (nat_eq i id)

row_first : (id : ℕ) (k : Key) (row : Row) (others : List (ℕ × Address)) (rest : Option Address) → find nat_cmp id others ≡ rest
    → find nat_cmp id (and_params k row others) ≡ option_or (creator_at id k row) rest
row_first id (keys.Account who) row others rest h = h
row_first id (keys.Resource who i) row others rest h = resource id i who row others rest h
row_first id (keys.Box app name) row others rest h = h

first_is : (id : ℕ) (es : List (Key × Row)) → find nat_cmp id (params_of es) ≡ first_some (λ e. creator_at id e.0 e.1) es
first_is id [] = refl
first_is id (e ∷ es) = row_first id e.0 e.1 (params_of es) (first_some (λ x. creator_at id x.0 x.1) es) (first_is id es)

in_map : (rows : StoredMap) → AreCreatorsOf rows (creators_in rows)
unfolding creators_in creator_of
in_map rows id = get-from_entries nat_cmp_total (params_of (entries (bare rows))) id ∙ first_is id (entries (bare rows))

-- ---- the test

and_first : (a b : Bool) → (a && b) ≡ true → a ≡ true
and_first true b e = refl
and_first false b e = e

pub and_second : (a b : Bool) → (a && b) ≡ true → b ≡ true
and_second true b e = e
and_second false b e = absurd (let x : ◌≡◌ {A = Bool} false true = e in cc)

are_same : (xs ys : List (ℕ × Address)) → same_creators xs ys ≡ true → xs ≡ ys
are_same [] [] e = refl
are_same [] (y ∷ ys) e = absurd (let x : ◌≡◌ {A = Bool} false true = e in cc)
are_same (x ∷ xs) [] e = absurd (let x : ◌≡◌ {A = Bool} false true = e in cc)
are_same (x ∷ xs) (y ∷ ys) e =
    let rest = and_second (nat_eq x.0 y.0) (same_address x.1 y.1 && same_creators xs ys) e in
    let id = eqb-true x.0 y.0 (and_first (nat_eq x.0 y.0) (same_address x.1 y.1 && same_creators xs ys) e) in
    let who = same_is_true x.1 y.1 (and_first (same_address x.1 y.1) (same_creators xs ys) rest) in
    let more = are_same xs ys (and_second (same_address x.1 y.1) (same_creators xs ys) rest) in
    λ n. (id n, who n) ∷ more n

pub and_true : (a b : Bool) → a ≡ true → b ≡ true → (a && b) ≡ true
and_true a b p q = ap₂ (λ x y. x && y) p q

same_here : (xs : List (ℕ × Address)) → same_creators xs xs ≡ true
same_here [] = refl
same_here (x ∷ xs) = and_true (nat_eq x.0 x.0) (same_address x.1 x.1 && same_creators xs xs) (nat_eq_equiv.refl x.0) (and_true (same_address x.1 x.1) (same_creators xs xs) (same_itself x.1) (same_here xs))

-- what agrees is of the rows
pub agreed : (rows : StoredMap) (creators : CreatorMap) → agrees rows creators ≡ true → AreCreatorsOf rows creators
unfolding agrees
agreed rows creators e = λ id. ap (λ (m : CreatorMap). get m id) (same_entries_map creators (creators_in rows) (are_same (entries creators) (entries (creators_in rows)) e)) ∙ in_map rows id

-- and what is of the rows agrees
pub agreeing : (rows : StoredMap) (creators : CreatorMap) → AreCreatorsOf rows creators → agrees rows creators ≡ true
unfolding agrees
agreeing rows creators h =
    let same : creators ≡ creators_in rows = same_map nat_cmp_total nat_cmp-IsAntisymmetric creators (creators_in rows) (λ id. h id ∙ sym (in_map rows id)) in
    subst (λ (m : CreatorMap). same_creators (entries m) (entries (creators_in rows)) ≡ true) (sym same) (same_here (entries (creators_in rows)))
