-- Parameters, kept fields and lists of records in their ranges.
use Rattle.std.proofs.Common.{◌≡◌, ◌<◌, ◌≤◌, ◌+◌, ◌^◌, ℕ, suc, true, false, List, [], ◌∷◌, length, map, Option, Some, None, refl, sym, ap, ap₂, ◌∙◌, arith, inl, inr}
use Rattle.std.specs.List.{AllByRecursion}
use Rattle.al_base.specs.declared.asset.AssetParams.{AssetParams}
use Rattle.al_msgpack.specs.declared.val.Val.{Val, out-Val}
use Rattle.al_msgpack.specs.declared.val.Val.TheVariants as values
use Rattle.al_msgpack.specs.declared.val.Val.TheViews as views
use Rattle.al_msgpack.specs.declared.val.Entry.{Entry}
use Rattle.al_msgpack.specs.Canonical as canon
use Rattle.al_msgpack.specs.Canonical.{IsCanonical}
use Rattle.al_record.specs.declared.fault.Fault.{Fault}
use Rattle.al_record.specs.Columns.{Format, IsRecord, first_of, member_open, members_fault}
use Rattle.al_bodies.specs.Bodies.{asset_params, params_fields}
use Rattle.al_bodies.specs.Ranges.{ParamsRanges}
use Rattle.al_bodies.proofs.Ranged.{AllRanged, array_32, count_same, ranged_record, ranged_canonical}

params_ranged : (depth : ℕ) (p : AssetParams) → ParamsRanges p → AllRanged depth params_fields p
params_ranged depth p r =
    (array_32 _ r.meta, (r.name, (r.url, (array_32 _ r.clawback, (r.decimals, (tt, (array_32 _ r.freeze, (array_32 _ r.manager, (array_32 _ r.reserve, (r.total, (r.unit, tt)))))))))))

pub params_record : (p : AssetParams) → ParamsRanges p → IsRecord asset_params p (asset_params.write p)
params_record p r = ranged_record 0 params_fields p refl (params_ranged 0 p r)

pub params_canonical : (depth : ℕ) (p : AssetParams) → ParamsRanges p → IsCanonical (suc depth) (values.Map (asset_params.write p))
params_canonical depth p r = ranged_canonical depth params_fields p refl refl refl (params_ranged depth p r)

-- ---- lists of records

module _ {X : Type 0} (Ranges : X → Type 0) (format : Format X) where
  members_canonical : (depth : ℕ) → ((x : X) → Ranges x → IsCanonical depth (values.Map (format.write x))) → (xs : List X) → AllByRecursion Ranges xs → AllByRecursion (IsCanonical depth) (map (λ es. values.Map es) (map format.write xs))
  members_canonical depth each [] h = tt
  members_canonical depth each (x ∷ xs) h = (each x h.0, members_canonical depth each xs h.1)

  pub list_canonical : (depth : ℕ) → ((x : X) → Ranges x → IsCanonical depth (values.Map (format.write x))) → (xs : List X) → length xs < 2 ^ 32 → AllByRecursion Ranges xs → IsCanonical (suc depth) (values.List (map (λ es. values.Map es) (map format.write xs)))
  unfolding IsCanonical
  list_canonical depth each xs lt h =
      let count : length (map (λ es. values.Map es) (map format.write xs)) ≡ length xs = count_same (λ (es : List Entry). values.Map es) (map format.write xs) ∙ count_same format.write xs in
      inr (canon.list _ refl (rw count lt) (members_canonical depth each xs h))

  pub list_sound : ((x : X) → Ranges x → IsRecord format x (format.write x)) → (xs : List X) → AllByRecursion Ranges xs → members_fault format.fault (map (λ es. values.Map es) (map format.write xs)) ≡ None
  list_sound each [] h = refl
  list_sound each (x ∷ xs) h = rw (views.outs-Map (format.write x), (each x h.0).sound) (list_sound each xs h.1)
