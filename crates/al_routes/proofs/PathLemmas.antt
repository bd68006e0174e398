-- Pieces of paths, and the router's tokens.
use Rattle.std.proofs.Common.{◌≡◌, ◌≢◌, ◌<◌, ◌==◌, ◌&&◌, ◌⊎◌, inl, inr, ℕ, suc, get_or, List, [], ◌∷◌, ◌++◌, Some, None, is_some, Bool, true, false, not, cond, refl, sym, ap, ◌∙◌, arith, subst, append-nil}
use Rattle.std.proofs.lemmas.Bool.Decides.{nat_tests}
use Rattle.std.specs.List.{onto_first, list_all}
use Rattle.matchit.specs.Rows.{RowsOf, param_token, catch_all_token}
use Rattle.matchit.specs.Seek.{first, has_slash}
use Rattle.matchit.specs.Router.{RouteOf}
use Rattle.matchit.proofs.OnLiterals.{matchit_on_literals}
use Rattle.al_routes.specs.declared.paths.Kind.{Kind}
use Rattle.al_routes.specs.declared.paths.Kind.TheVariants as kinds
use Rattle.al_routes.specs.Paths.{Piece, word, any, behind, form, pieces_of, Fits, IsPath, table, tokens}
use Rattle.al_routes.proofs.Seeking.{IsEnd, IsGood, IsPlain, Takes, HasRow, AreGood, sound, complete, and_left, and_right}

-- ---- texts of a form

-- no slash, and no token
abbrev pub IsText : List ℕ → Type 0
IsText [] = Unit {0}
IsText (b ∷ bs) = (b ≢ param_token) × ((b == 47) ≡ false) × IsText bs

abbrev pub are_texts : List Piece → Bool
are_texts [] = true
are_texts (word w ∷ ps) = list_all (λ b. not (b == 47) && not (b == 256)) w && are_texts ps
are_texts (any ∷ ps) = are_texts ps

is_text : (w : List ℕ) → list_all (λ b. not (b == 47) && not (b == 256)) w ≡ true → IsText w
is_text [] e = tt
is_text (b ∷ bs) e =
    let here : (not (b == 47) && not (b == 256)) ≡ true = and_left (not (b == 47) && not (b == 256)) (list_all (λ b. not (b == 47) && not (b == 256)) bs) e in
    (grind (arith, nat_tests), grind (arith, nat_tests), is_text bs (and_right (not (b == 47) && not (b == 256)) (list_all (λ b. not (b == 47) && not (b == 256)) bs) e))

text_clear : (w : List ℕ) → IsText w → has_slash w ≡ false
text_clear [] h = refl
text_clear (b ∷ bs) h = ap (λ (c : Bool). cond c true (has_slash bs)) h.1 ∙ text_clear bs h.2

-- ---- the first piece of a path

pieces_whole : (v : List ℕ) → has_slash v ≡ false → pieces_of v ≡ v ∷ []
pieces_whole [] h = refl
pieces_whole (b ∷ v) h = by (b == 47) refl h (pieces_whole v)
  where
    by : (c : Bool) → (b == 47) ≡ c → cond c true (has_slash v) ≡ false → (has_slash v ≡ false → pieces_of v ≡ v ∷ []) → cond c ([] ∷ pieces_of v) (onto_first b (pieces_of v)) ≡ (b ∷ v) ∷ []
    by true e m ih = cc
    by false e m ih = ap (onto_first b) (ih m)

pieces_at : (v rest : List ℕ) → has_slash v ≡ false → pieces_of (v ++ 47 ∷ rest) ≡ v ∷ pieces_of rest
pieces_at [] rest h = refl
pieces_at (b ∷ v) rest h = by (b == 47) refl h (pieces_at v rest)
  where
    by : (c : Bool) → (b == 47) ≡ c → cond c true (has_slash v) ≡ false → (has_slash v ≡ false → pieces_of (v ++ 47 ∷ rest) ≡ v ∷ pieces_of rest) → cond c ([] ∷ pieces_of (v ++ 47 ∷ rest)) (onto_first b (pieces_of (v ++ 47 ∷ rest))) ≡ (b ∷ v) ∷ pieces_of rest
    by true e m ih = cc
    by false e m ih = ap (onto_first b) (ih m)

-- a path has one piece, or a first one and a slash
pub record IsCut (path v rest : List ℕ) : Type 0 where
  pub clear : has_slash v ≡ false
  pub is : path ≡ v ++ 47 ∷ rest
  pub pieces : pieces_of path ≡ v ∷ pieces_of rest

abbrev pub Cuts : List ℕ → Type 0
Cuts path = ((has_slash path ≡ false) × (pieces_of path ≡ path ∷ [])) ⊎ ((v : List ℕ) × (rest : List ℕ) × IsCut path v rest)

cuts_of : (path : List ℕ) → Cuts path
cuts_of [] = inl (refl, refl)
cuts_of (b ∷ path) = by (b == 47) refl (cuts_of path)
  where
    more : (b == 47) ≡ false → Cuts path → Cuts (b ∷ path)
    more e (inl (clear, pieces)) = inl (
      ap (λ (c : Bool). cond c true (has_slash path)) e ∙ clear,
      ap (λ (c : Bool). cond c ([] ∷ pieces_of path) (onto_first b (pieces_of path))) e ∙ ap (onto_first b) pieces,
    )
    more e (inr (v, rest, cut)) = inr (
      b ∷ v,
      rest,
      record {
        clear = ap (λ (c : Bool). cond c true (has_slash v)) e ∙ cut.clear;
        is = ap (λ (s : List ℕ). b ∷ s) cut.is;
        pieces = ap (λ (c : Bool). cond c ([] ∷ pieces_of path) (onto_first b (pieces_of path))) e ∙ ap (onto_first b) cut.pieces;
      },
    )

    by : (c : Bool) → (b == 47) ≡ c → Cuts path → Cuts (b ∷ path)
    by true e cut =
        let slash : b ≡ 47 = grind (arith, nat_tests) in
        inr (
          [],
          path,
          record {
            clear = refl;
            is = ap (λ n. n ∷ path) slash;
            pieces = ap (λ (c : Bool). cond c ([] ∷ pieces_of path) (onto_first b (pieces_of path))) e;
          },
        )
    by false e cut = more e cut

some_piece : (path : List ℕ) → Fits [] (pieces_of path) → ⊥
some_piece path f = by (cuts_of path)
  where
    by : Cuts path → ⊥
    by (inl (clear, pieces)) = subst (Fits []) pieces f
    by (inr (v, rest, cut)) = subst (Fits []) cut.pieces f

-- ---- tokens in front

takes_text : (w p path : List ℕ) → IsText w → Takes (w ++ p) path → (rest : List ℕ) × (path ≡ w ++ rest) × Takes p rest
takes_text [] p path h t = (path, refl, t)
takes_text (b ∷ w) p path h (inl t) = absurd (h.0 t.0)
takes_text (b ∷ w) p path h (inr (n, (rest, e, t))) =
    let (after, is, u) = takes_text w p rest h.2 t in
    (after, e ∙ ap (λ (s : List ℕ). b ∷ s) is, u)

text_takes : (w p rest : List ℕ) → IsText w → Takes p rest → Takes (w ++ p) (w ++ rest)
text_takes [] p rest h t = t
text_takes (b ∷ w) p rest h t = inr (h.0, (w ++ rest, refl, text_takes w p rest h.2 t))

-- the tokens of a slash and more
takes_slash : (p path : List ℕ) → Takes (47 ∷ p) path → (rest : List ℕ) × (path ≡ 47 ∷ rest) × Takes p rest
takes_slash p path (inl t) = let f : 47 ≡ 256 = t.0 in absurd (omega (arith, f))
takes_slash p path (inr (n, (rest, e, t))) = (rest, e, t)

slash_takes : (p rest : List ℕ) → Takes p rest → Takes (47 ∷ p) (47 ∷ rest)
slash_takes p rest t = inr ((λ e. absurd (omega (arith, e))), (rest, refl, t))

-- ---- a form against a path, both ways

abbrev pub AreTexts : List Piece → Type 0
AreTexts [] = Unit {0}
AreTexts (word w ∷ ps) = IsText w × AreTexts ps
AreTexts (any ∷ ps) = AreTexts ps

are_texts_is : (ps : List Piece) → are_texts ps ≡ true → AreTexts ps
are_texts_is [] e = tt
are_texts_is (word w ∷ ps) e = (is_text w (and_left (list_all (λ b. not (b == 47) && not (b == 256)) w) (are_texts ps) e), are_texts_is ps (and_right (list_all (λ b. not (b == 47) && not (b == 256)) w) (are_texts ps) e))
are_texts_is (any ∷ ps) e = are_texts_is ps e

takes_fits : (p : Piece) (ps : List Piece) (path : List ℕ) → AreTexts (p ∷ ps) → Takes (tokens (p ∷ ps)) path → Fits (p ∷ ps) (pieces_of path)
takes_fits (word w) [] path h t =
    let (rest, e, end) = takes_text w [] path h.0 (subst (λ (s : List ℕ). Takes s path) (sym (append-nil w)) t) in
    let whole : path ≡ w = e ∙ ap (λ (s : List ℕ). w ++ s) end ∙ append-nil w in
    subst (Fits (word w ∷ [])) (sym (ap pieces_of whole ∙ pieces_whole w (text_clear w h.0))) (refl, tt)
takes_fits any [] path h (inl (q, (v, rest, some, clear, e, end))) =
    let whole : path ≡ v = e ∙ ap (λ (s : List ℕ). v ++ s) end ∙ append-nil v in
    subst (Fits (any ∷ [])) (sym (ap pieces_of whole ∙ pieces_whole v clear)) (some, tt)
takes_fits any [] path h (inr t) = absurd (t.0 refl)
takes_fits (word w) (q ∷ ps) path h t =
    let (after, e, u) = takes_text w (47 ∷ tokens (q ∷ ps)) path h.0 t in
    let (rest, f, s) = takes_slash (tokens (q ∷ ps)) after u in
    let whole : path ≡ w ++ 47 ∷ rest = e ∙ ap (λ (s : List ℕ). w ++ s) f in
    subst (Fits (word w ∷ q ∷ ps)) (sym (ap pieces_of whole ∙ pieces_at w rest (text_clear w h.0))) (refl, takes_fits q ps rest h.1 s)
takes_fits any (q ∷ ps) path h (inl (o, (v, after, some, clear, e, u))) =
    let (rest, f, s) = takes_slash (tokens (q ∷ ps)) after u in
    let whole : path ≡ v ++ 47 ∷ rest = e ∙ ap (λ (s : List ℕ). v ++ s) f in
    subst (Fits (any ∷ q ∷ ps)) (sym (ap pieces_of whole ∙ pieces_at v rest clear)) (some, takes_fits q ps rest h s)
takes_fits any (q ∷ ps) path h (inr t) = absurd (t.0 refl)

fits_takes : (p : Piece) (ps : List Piece) (path : List ℕ) → AreTexts (p ∷ ps) → Fits (p ∷ ps) (pieces_of path) → Takes (tokens (p ∷ ps)) path
fits_takes (word w) [] path h f = by (cuts_of path)
  where
    by : Cuts path → Takes w path
    by (inl (clear, pieces)) =
        let g = subst (Fits (word w ∷ [])) pieces f in
        subst (λ (s : List ℕ). Takes s path) (append-nil w) (subst (Takes (w ++ [])) (append-nil w ∙ sym g.0) (text_takes w [] [] h.0 refl))
    by (inr (v, rest, cut)) = let g = subst (Fits (word w ∷ [])) cut.pieces f in absurd (some_piece rest g.1)
fits_takes any [] path h f = by (cuts_of path)
  where
    by : Cuts path → Takes (param_token ∷ []) path
    by (inl (clear, pieces)) = let g = subst (Fits (any ∷ [])) pieces f in inl (refl, (path, [], g.0, clear, sym (append-nil path), refl))
    by (inr (v, rest, cut)) = let g = subst (Fits (any ∷ [])) cut.pieces f in absurd (some_piece rest g.1)
fits_takes (word w) (q ∷ ps) path h f = by (cuts_of path) (λ rest g. fits_takes q ps rest h.1 g)
  where
    by : Cuts path → ((rest : List ℕ) → Fits (q ∷ ps) (pieces_of rest) → Takes (tokens (q ∷ ps)) rest) → Takes (w ++ 47 ∷ tokens (q ∷ ps)) path
    by (inl (clear, pieces)) ih = let g = subst (Fits (word w ∷ q ∷ ps)) pieces f in absurd g.1
    by (inr (v, rest, cut)) ih =
        let g = subst (Fits (word w ∷ q ∷ ps)) cut.pieces f in
        subst (Takes (w ++ 47 ∷ tokens (q ∷ ps))) (ap (λ (s : List ℕ). s ++ 47 ∷ rest) (sym g.0) ∙ sym cut.is) (text_takes w (47 ∷ tokens (q ∷ ps)) (47 ∷ rest) h.0 (slash_takes (tokens (q ∷ ps)) rest (ih rest g.1)))
fits_takes any (q ∷ ps) path h f = by (cuts_of path) (λ rest g. fits_takes q ps rest h g)
  where
    by : Cuts path → ((rest : List ℕ) → Fits (q ∷ ps) (pieces_of rest) → Takes (tokens (q ∷ ps)) rest) → Takes (param_token ∷ 47 ∷ tokens (q ∷ ps)) path
    by (inl (clear, pieces)) ih = let g = subst (Fits (any ∷ q ∷ ps)) pieces f in absurd g.1
    by (inr (v, rest, cut)) ih =
        let g = subst (Fits (any ∷ q ∷ ps)) cut.pieces f in
        inl (refl, (v, 47 ∷ rest, g.0, cut.clear, cut.is, slash_takes (tokens (q ∷ ps)) rest (ih rest g.1)))

-- ---- the table

-- a test of `IsGood`
abbrev is_end : List ℕ → Bool
is_end [] = true
is_end (x ∷ t) = x == 47

abbrev is_good : List ℕ → Bool
is_good [] = true
is_good (x ∷ t) = cond (x == 256) (is_end t) true && (not (x == 257) && is_good t)

end_is : (t : List ℕ) → is_end t ≡ true → IsEnd t
end_is [] e = tt
end_is (x ∷ t) e = grind (arith, nat_tests)

good_is : (p : List ℕ) → is_good p ≡ true → IsGood p
good_is [] e = tt
good_is (x ∷ t) e =
    let here = and_left (cond (x == 256) (is_end t) true) (not (x == 257) && is_good t) e in
    let more = and_right (cond (x == 256) (is_end t) true) (not (x == 257) && is_good t) e in
    let other : not (x == 257) ≡ true = and_left (not (x == 257)) (is_good t) more in
    ((λ q. end_is t (sym (ap (λ (c : Bool). cond c (is_end t) true) (is_param q)) ∙ here)), not_all other, good_is t (and_right (not (x == 257)) (is_good t) more))
  where
    is_param : x ≡ param_token → (x == 256) ≡ true
    is_param q = grind (arith, nat_tests)

    not_all : not (x == 257) ≡ true → x ≢ catch_all_token
    not_all o = λ q. grind (arith, nat_tests)

abbrev are_good : RowsOf (RouteOf Kind) → Bool
are_good [] = true
are_good ((t, r) ∷ rest) = is_good t && are_good rest

are_good_is : (rs : RowsOf (RouteOf Kind)) → are_good rs ≡ true → AreGood rs
are_good_is [] e = tt
are_good_is ((t, r) ∷ rest) e = (good_is t (and_left (is_good t) (are_good rest) e), are_good_is rest (and_right (is_good t) (are_good rest) e))

table_good_test : are_good table ≡ true
unfolding matchit_on_literals
table_good_test = refl

table_good : AreGood table
table_good = are_good_is table table_good_test

-- each row has the tokens of its kind's form
abbrev RowsFit : RowsOf (RouteOf Kind) → Type 0
RowsFit [] = Unit {0}
RowsFit ((t, r) ∷ rest) = (t ≡ tokens (form r.value)) × RowsFit rest

table_fits : RowsFit table
unfolding matchit_on_literals
table_fits = (refl, (refl, (refl, (refl, (refl, (refl, (refl, (refl, (refl, (refl, tt))))))))))

row_fits : (rs : RowsOf (RouteOf Kind)) (p : List ℕ) (r : RouteOf Kind) → RowsFit rs → HasRow p r rs → p ≡ tokens (form r.value)
row_fits [] p r f m = absurd m
row_fits ((t, s) ∷ rest) p r f (inl m) = sym m.0 ∙ f.0 ∙ ap (λ (q : RouteOf Kind). tokens (form q.value)) m.1
row_fits ((t, s) ∷ rest) p r f (inr m) = row_fits rest p r f.1 m

-- a row of the kind
abbrev Listed : Kind → Type 0
Listed kind = (r : RouteOf Kind) × HasRow (tokens (form kind)) r table

abbrev HasKind : Kind → RowsOf (RouteOf Kind) → Type 0
HasKind kind rs = (r : RouteOf Kind) × HasRow (tokens (form kind)) r rs

listed : (kind : Kind) → HasKind kind table
unfolding matchit_on_literals
listed kinds.Blocks = (_, inr (inr (inr (inr (inl (refl, refl))))))
listed kinds.Account = (_, inr (inr (inl (refl, refl))))
listed kinds.Asset = (_, inr (inl (refl, refl)))
listed kinds.App = (_, inl (refl, refl))
listed kinds.BoxOf = (_, inr (inr (inr (inl (refl, refl)))))
listed kinds.Creator = (_, inr (inr (inr (inr (inr (inr (inl (refl, refl))))))))
listed kinds.Online = (_, inr (inr (inr (inr (inr (inr (inr (inl (refl, refl)))))))))
listed kinds.Circulation = (_, inr (inr (inr (inr (inr (inl (refl, refl)))))))
listed kinds.Supply = (_, inr (inr (inr (inr (inr (inr (inr (inr (inr (inl (refl, refl)))))))))))
listed kinds.Standing = (_, inr (inr (inr (inr (inr (inr (inr (inr (inl (refl, refl))))))))))

form_texts : (kind : Kind) → are_texts (form kind) ≡ true
form_texts kinds.Blocks = refl
form_texts kinds.Account = refl
form_texts kinds.Asset = refl
form_texts kinds.App = refl
form_texts kinds.BoxOf = refl
form_texts kinds.Creator = refl
form_texts kinds.Online = refl
form_texts kinds.Circulation = refl
form_texts kinds.Supply = refl
form_texts kinds.Standing = refl

form_good : (kind : Kind) → is_good (tokens (form kind)) ≡ true
form_good kinds.Blocks = refl
form_good kinds.Account = refl
form_good kinds.Asset = refl
form_good kinds.App = refl
form_good kinds.BoxOf = refl
form_good kinds.Creator = refl
form_good kinds.Online = refl
form_good kinds.Circulation = refl
form_good kinds.Supply = refl
form_good kinds.Standing = refl

-- ---- what the router answers

pub found_is : (path : List ℕ) (r : RouteOf Kind) → IsPlain path → first table path ≡ Some r → IsPath r.value path
found_is path r plain e =
    let (p, m, t) = sound 0 table path r table_good plain e in
    takes_fits (word []) (word (118 ∷ 49 ∷ []) ∷ behind r.value) path (are_texts_is (form r.value) (form_texts r.value)) (subst (λ (s : List ℕ). Takes s path) (row_fits table p r table_fits m) t)

pub missing_is : (path : List ℕ) → first table path ≡ None → (kind : Kind) → IsPath kind path → ⊥
missing_is path e kind f =
    let (r, m) = listed kind in
    let t = fits_takes (word []) (word (118 ∷ 49 ∷ []) ∷ behind kind) path (are_texts_is (form kind) (form_texts kind)) f in
    let found : is_some (first table path) ≡ true = complete (tokens (form kind)) r table path table_good (good_is (tokens (form kind)) (form_good kind)) m t in
    let no : true ≡ false = sym found ∙ ap is_some e in
    cc

-- the bytes of a text
pub plain_bytes : (bs : List ℕ) → ((i : ℕ) → get_or bs i 0 < 256) → IsPlain bs
plain_bytes [] h = tt
plain_bytes (b ∷ bs) h = ((λ e. let l : b < 256 = h 0 in absurd (omega (arith, e, l))), plain_bytes bs (λ i. h (suc i)))
