-- What stands in a canonical value is canonical.
use Rattle.std.proofs.Common.{◌≡◌, ℕ, Bool, true, List, [], ◌∷◌, refl, sym, ap, ◌∙◌, subst, inl, inr}
use Rattle.std.specs.List.{list_all}
use Rattle.std.specs.Str.{bytes_eq}
use Rattle.std.proofs.lemmas.Bool.{and_parts, and_from, cases_Bool}
use Rattle.al_msgpack.specs.declared.val.Val.{Val, out-Val}
use Rattle.al_msgpack.specs.declared.val.Val.TheOpen.{Val-F}
use Rattle.al_msgpack.specs.declared.val.Val.TheFolds as folds
use Rattle.al_msgpack.specs.declared.val.Val.TheViews as views
use Rattle.al_msgpack.specs.declared.val.Val.TheVariants as values
use Rattle.al_msgpack.specs.declared.val.Entry.{Entry}
use Rattle.al_msgpack.specs.Rising.{rises, keys, rising_step, member_step, canonical, are_canonical}
use Rattle.al_msgpack.proofs.Rising.{Pair, tested, keys_are, vals_are, members_are}
use Rattle.al_record.specs.Columns.{Open, value_at, map_in, map_of, list_in, list_of}

map_open : (w : Open) → rising_step (folds.map-Val Val Entry Bool Pair canonical tested w) ≡ true → are_canonical (map_in w) ≡ true
map_open (Val-F.Map es) h =
    let p = and_parts _ _ h in
    and_from _ _ (ap rises (sym (keys_are es)) ∙ p.0) (sym (vals_are es) ∙ p.1)
map_open w h = refl

list_open : (w : Open) → rising_step (folds.map-Val Val Entry Bool Pair canonical tested w) ≡ true → list_all canonical (list_in w) ≡ true
list_open (Val-F.List vs) h = sym (members_are vs) ∙ h
list_open w h = refl

pub map_canonical : (v : Val) → canonical v ≡ true → are_canonical (map_in (out-Val v)) ≡ true
map_canonical v h = map_open (out-Val v) (sym (folds.fold_out-Val Bool Pair rising_step member_step v) ∙ h)

pub list_canonical : (v : Val) → canonical v ≡ true → list_all canonical (list_in (out-Val v)) ≡ true
list_canonical v h = list_open (out-Val v) (sym (folds.fold_out-Val Bool Pair rising_step member_step v) ∙ h)

under_map : (name : List ℕ) (es : List Entry) → list_all (λ e. canonical e.val) es ≡ true → are_canonical (map_of (value_at name es)) ≡ true
under_map name [] h = refl
under_map name (e ∷ es) h =
    let p = and_parts _ _ h in
    elim (cases_Bool (bytes_eq name e.key)) [
      | inl t ↦ rw t (map_canonical e.val p.0)
      | inr t ↦ rw t (under_map name es p.1)
    ]

under_list : (name : List ℕ) (es : List Entry) → list_all (λ e. canonical e.val) es ≡ true → list_all canonical (list_of (value_at name es)) ≡ true
under_list name [] h = refl
under_list name (e ∷ es) h =
    let p = and_parts _ _ h in
    elim (cases_Bool (bytes_eq name e.key)) [
      | inl t ↦ rw t (list_canonical e.val p.0)
      | inr t ↦ rw t (under_list name es p.1)
    ]

pub keys_rise : (es : List Entry) → are_canonical es ≡ true → rises (keys es) ≡ true
keys_rise es h = (and_parts _ _ h).0

pub inner_canonical : (name : List ℕ) (es : List Entry) → are_canonical es ≡ true → are_canonical (map_of (value_at name es)) ≡ true
inner_canonical name es h = under_map name es (and_parts _ _ h).1

pub inners_canonical : (name : List ℕ) (es : List Entry) → are_canonical es ≡ true → list_all canonical (list_of (value_at name es)) ≡ true
inners_canonical name es h = under_list name es (and_parts _ _ h).1

pub of_map : (v : Val) (es : List Entry) → v ≡ values.Map es → canonical v ≡ true → are_canonical es ≡ true
of_map v es e h =
    let k : map_in (out-Val v) ≡ es = ap map_in (ap out-Val e ∙ views.outs-Map es) in
    subst (λ (xs : List Entry). are_canonical xs ≡ true) k (map_canonical v h)
