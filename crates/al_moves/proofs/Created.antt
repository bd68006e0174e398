-- The creators that differ, among the ids of which something is noted.
use Rattle.std.proofs.Common.{◌≡◌, ℕ, refl, sym, ap, ◌∙◌, subst, List, ◌∷◌, ◌++◌, map, Option, Some, None, true, if◌then◌else◌, Result, Ok, Err, IfOk}
use Rattle.std.specs.Ordering.{nat_cmp}
use Rattle.std.specs.BTreeMap.{BTreeMap}
use Rattle.std.specs.BTreeMap as tree
use Rattle.std.specs.List.Sorted.{IsStrictlySortedBy}
use Rattle.std.specs.FinMap.{nat_cmp-IsAntisymmetric}
use Rattle.std.specs.Cmp.Lexicographic.{nat_list_eq_equiv}
use Rattle.al_base.specs.declared.address.Address.{Address}
use Rattle.al_base.specs.declared.key.CreatorChange.{CreatorChange}
use Rattle.al_base.specs.declared.key.Key.{Key}
use Rattle.al_rows.specs.Finite.{overlaid}
use Rattle.al_rows.specs.Rows.{RowMap, creator_of}
use Rattle.al_overlay.specs.declared.creator.First.{First}
use Rattle.al_overlay.specs.declared.held.Held.{Held}
use Rattle.al_moves.specs.Created.{AreCreatorChanges, changed_by, changed_creator, changed_creators, creator_change_of, same_creator}
use Rattle.al_overlay.specs.Creators.{AreNoted, IsNoted, creator_noted}
use Rattle.al_overlay.specs.Held.{nows}
use Rattle.al_overlay.specs.Work.{HasOneCreator}
use Rattle.al_overlay.proofs.Creators.{creator_is, noted_at}
use Rattle.al_moves.proofs.Picks.{differing_key, differing_value, found, picked_at, picked_less, picked_ordered}

creator_itself : (who : Option Address) → same_creator who who ≡ true
creator_itself None = refl
creator_itself (Some a) = (nat_list_eq_equiv).refl a.0

-- what is answered of an id: its creator now, where it differs
abbrev answered : Option Address → Option Address → Option (Option Address)
answered before now = if same_creator before now then None else Some now

module _ (es : List (Key × Held)) (m : RowMap) where
  place : (e : ℕ × Option First) (p : ℕ × Option Address) → changed_by m es e ≡ Some p → e.0 ≡ p.0
  place e p h = differing_key (same_creator (creator_of m e.0) (creator_noted e.0 (creator_of m e.0) (Some e.1) (nows es))) e.0 (creator_noted e.0 (creator_of m e.0) (Some e.1) (nows es)) p h

  -- an id whose creator is the same is left out
  passed : (id : ℕ) (noted : Option First) (before after : Option Address) → before ≡ creator_of m id → after ≡ creator_noted id before (Some noted) (nows es) → true ≡ same_creator before after → None ≡ changed_by m es (id, noted)
  passed id noted before after is so same =
      ap (λ b. if b then None else Some (id, after)) same
      ∙ ap (changed_creator id before) so
      ∙ ap (λ who. changed_creator id who (creator_noted id who (Some noted) (nows es))) is

  pub left_out : (out : List CreatorChange) (id : ℕ) (noted : Option First) (rest all : List (ℕ × Option First)) (whole : List (ℕ × Option Address)) (before after : Option Address)
      → before ≡ creator_of m id → after ≡ creator_noted id before (Some noted) (nows es) → true ≡ same_creator before after → all ≡ (id, noted) ∷ rest
      → map creator_change_of out ++ changed_creators m es all ≡ whole → map creator_change_of out ++ changed_creators m es rest ≡ whole
  left_out out id noted rest all whole before after is so same next so_far =
      picked_less (changed_by m es) creator_change_of out (id, noted) rest (passed id noted before after is so same)
      ∙ ap (λ xs. map creator_change_of out ++ changed_creators m es xs) (sym next)
      ∙ so_far

  abbrev now : ℕ → Option Address
  now id = creator_of (overlaid (nows es) m) id

  each_noted : (id : ℕ) (noted : Option (Option First)) → IsNoted es id noted → HasOneCreator m id
      → found nat_cmp nat_cmp nat_cmp-IsAntisymmetric (λ n. n) (λ _ _. refl) (changed_by m es) place id noted ≡ answered (creator_of m id) (now id)
  each_noted id None h one =
      let same : creator_of m id ≡ now id = creator_is es m id None (creator_of m id) h refl one in
      sym (ap (answered (creator_of m id)) (sym same) ∙ ap (λ b. if b then None else Some (creator_of m id)) (creator_itself (creator_of m id)))
  each_noted id (Some o) h one =
      differing_value (same_creator (creator_of m id) (creator_noted id (creator_of m id) (Some o) (nows es))) id (creator_noted id (creator_of m id) (Some o) (nows es))
      ∙ ap (answered (creator_of m id)) (creator_is es m id (Some o) (creator_of m id) h refl one)

  changed_ids : (creators : BTreeMap ℕ (Option First)) → IsStrictlySortedBy nat_cmp (map (λ e. e.0) creators.entries) → AreNoted es creators → ((id : ℕ) → HasOneCreator m id)
      → AreCreatorChanges m (overlaid (nows es) m) (changed_creators m es creators.entries)
  changed_ids creators ordered noted one = record {
    ordered = picked_ordered nat_cmp nat_cmp nat_cmp-IsAntisymmetric (λ n. n) (λ _ _. refl) (changed_by m es) place creators.entries ordered;
    each = λ id.
        picked_at nat_cmp nat_cmp nat_cmp-IsAntisymmetric (λ n. n) (λ _ _. refl) (changed_by m es) place id creators.entries ordered
        ∙ each_noted id (tree.get nat_cmp creators id) (noted_at es creators id noted) (one id);
  }

  -- what a work answers, from the list that its loop makes
  pub answered_changes : {E : Type 0} (r : Result (List CreatorChange) E) (creators : BTreeMap ℕ (Option First)) → IsStrictlySortedBy nat_cmp (map (λ e. e.0) creators.entries) → AreNoted es creators
      → IfOk r (λ cs. map creator_change_of cs ≡ changed_creators m es creators.entries) → ((id : ℕ) → HasOneCreator m id) → IfOk r (λ cs. AreCreatorChanges m (overlaid (nows es) m) (map creator_change_of cs))
  answered_changes (Ok cs) creators ordered noted is one = subst (AreCreatorChanges m (overlaid (nows es) m)) (sym is) (changed_ids creators ordered noted one)
  answered_changes (Err e) creators ordered noted is one = tt
