-- What a history tells of the last rounds stays where it is pruned.
use Rattle.std.proofs.Common.{◌≡◌, ◌∙◌, ℕ, ◌+◌, ◌≤◌, refl, sym, ap, ap₂, subst, List, [], ◌∷◌, ◌++◌, map, filter, find, Option, Some, None, option_map, Bool, true, false, cond, not, ◌&&◌, ◌||◌, arith, le_refl, append_assoc}
use Rattle.std.proofs.Math.Dec.{eqb, leb, ltb}
use Rattle.std.proofs.lemmas.Bool.{and_parts, eqb-true, le-leb, le-ltb, leb-true}
use Rattle.std.proofs.Math.Bool.{and-false}
use Rattle.std.proofs.lemmas.List.Elements.{All-filter, All-nil, All-push, All-weaker}
use Rattle.std.proofs.lemmas.List.Folds.{list_any-append, list_any_none}
use Rattle.std.specs.Cmp.Lexicographic.{same_text}
use Rattle.std.specs.FinMap.{empty, get, same_map}
use Rattle.std.specs.List.{All, list_any}
use Rattle.std.specs.Option.{IsSome, option_or}
use Rattle.std.specs.Ordering.{eq_by_cmp}
use Rattle.al_base.specs.declared.address.Address.{Address}
use Rattle.al_base.specs.declared.online.LevelAt.{LevelAt}
use Rattle.al_base.specs.declared.online.OnlineData.{OnlineData}
use Rattle.al_base.specs.declared.online.Version.{Version}
use Rattle.al_base.specs.Keys.{address_cmp}
use Rattle.al_online.specs.Stakes.{OnlineMap, set_online, with_changes}
use Rattle.al_online.proofs.Snaps.{addresses_total, exact_addresses}
use Rattle.al_rows.specs.Finite.{or_below}
use Rattle.al_rows.specs.Rows.{same_bytes}
use Rattle.al_tables.specs.Tables.{is_kept_level, kept_levels, kept_versions, replaces}
use Rattle.al_history.specs.History.{RisesFrom, change_of, changes_to, level_of, snap_from, up_to}
use Rattle.al_history.specs.Laws.{HistoryIsPruned}
use Rattle.al_history.specs.Reading.{is_up_to}
use Rattle.al_history.proofs.Latest.{get-set}
use Rattle.al_history.proofs.Orders.{rises_kept}

-- ---- the last version of an account up to a round

module _ (r : ℕ) (who : Address) where
  abbrev speaks : Version → Bool
  speaks v = is_up_to r v && eq_by_cmp address_cmp who v.address

  abbrev latest : List Version → Option (Option OnlineData)
  latest [] = None
  latest (v ∷ vs) = option_or (latest vs) (cond (speaks v) (Some v.now) None)

  over_later : (later : Option (Option OnlineData)) (t : Bool) (now old : Option OnlineData) → or_below later (cond t now old) ≡ or_below (option_or later (cond t (Some now) None)) old
  over_later (Some x) t now old = refl
  over_later None true now old = refl
  over_later None false now old = refl

  without_it : (later : Option (Option OnlineData)) (old : Option OnlineData) → or_below later old ≡ or_below (option_or later None) old
  without_it (Some x) old = refl
  without_it None old = refl

  -- an account after the changes up to a round: by its last version, or what it was
  changes_are : (vs : List Version) (m : OnlineMap) → get (with_changes (changes_to r vs) m) who ≡ or_below (latest vs) (get m who)
  changes_are [] m = refl
  changes_are (v ∷ vs) m = by_test (changes_are vs m) (changes_are vs (set_online v.address v.now m)) (is_up_to r v)
    where
      by_test : get (with_changes (changes_to r vs) m) who ≡ or_below (latest vs) (get m who) → get (with_changes (changes_to r vs) (set_online v.address v.now m)) who ≡ or_below (latest vs) (get (set_online v.address v.now m) who)
          → (b : Bool) → get (with_changes (map change_of (cond b (v ∷ up_to r vs) (up_to r vs))) m) who ≡ or_below (option_or (latest vs) (cond (b && eq_by_cmp address_cmp who v.address) (Some v.now) None)) (get m who)
      by_test g h true =
          h
          ∙ ap (or_below (latest vs)) (get-set v.address v.now m who)
          ∙ over_later (latest vs) (eq_by_cmp address_cmp who v.address) v.now (get m who)
      by_test g h false = g ∙ without_it (latest vs) (get m who)

  -- ---- a version that is replaced is not the last

  some_or : (later own : Option (Option OnlineData)) → IsSome later → IsSome (option_or later own)
  some_or (Some x) own h = refl
  some_or None own h = absurd (let wrong : false ≡ true = h in cc)

  some_own : (later : Option (Option OnlineData)) (now : Option OnlineData) (t : Bool) → t ≡ true → IsSome (option_or later (cond t (Some now) None))
  some_own (Some x) now t e = refl
  some_own None now true e = refl
  some_own None now false e = absurd (let wrong : false ≡ true = e in cc)

  both : (a b : Bool) → a ≡ true → b ≡ true → (a && b) ≡ true
  both true true p q = refl
  both true false p q = absurd (let wrong : false ≡ true = q in cc)
  both false b p q = absurd (let wrong : false ≡ true = p in cc)

  either : (a b : Bool) → (a || b) ≡ true → a ≡ false → b ≡ true
  either true b p q = absurd (let wrong : true ≡ false = q in cc)
  either false b p q = p

  module _ (to : ℕ) (seen : to ≤ r + 320) (v : Version) (own : eq_by_cmp address_cmp who v.address ≡ true) where
    -- what replaces it speaks of the account as well
    replacing_speaks : (w : Version) → replaces to v w ≡ true → speaks w ≡ true
    replacing_speaks w e =
        let p = and_parts (same_bytes v.address.0 w.address.0) (ltb v.round w.round && leb (w.round + 320) to) e in
        let q = and_parts (ltb v.round w.round) (leb (w.round + 320) to) p.1 in
        let before : w.round + 320 ≤ to = leb-true (w.round + 320) to q.1 in
        let reached : is_up_to r w ≡ true = le-leb w.round r (omega arith) in
        let same : v.address ≡ w.address = ap (λ (bytes : List ℕ). record { 0 = bytes }) (same_text v.address.0 w.address.0 (sym p.0)) in
        both (is_up_to r w) (eq_by_cmp address_cmp who w.address) reached (subst (λ (a : Address). eq_by_cmp address_cmp who a ≡ true) same own)

    later_there : (vs : List Version) → list_any (replaces to v) vs ≡ true → IsSome (latest vs)
    later_there [] e = absurd (let wrong : false ≡ true = e in cc)
    later_there (w ∷ vs) e = by_test (later_there vs) (replaces to v w) refl
      where
        by_test : (list_any (replaces to v) vs ≡ true → IsSome (latest vs)) → (b : Bool) → replaces to v w ≡ b → IsSome (latest (w ∷ vs))
        by_test h true t = some_own (latest vs) w.now (speaks w) (replacing_speaks w t)
        by_test h false t = some_or (latest vs) (cond (speaks w) (Some w.now) None) (h (either (replaces to v w) (list_any (replaces to v) vs) e t))

  -- ---- only later versions replace

  not_below : (to : ℕ) (v w : Version) → w.round ≤ v.round → replaces to v w ≡ false
  not_below to v w l = ap (λ b. same_bytes v.address.0 w.address.0 && (b && leb (w.round + 320) to)) (le-ltb v.round w.round l) ∙ and-false (same_bytes v.address.0 w.address.0)

  only_later : (to : ℕ) (v : Version) (front vs : List Version) → All (λ w. w.round ≤ v.round) front → list_any (replaces to v) (front ++ v ∷ vs) ≡ list_any (replaces to v) vs
  only_later to v front vs h =
      list_any-append (replaces to v) front (v ∷ vs)
      ∙ ap (λ b. b || list_any (replaces to v) (v ∷ vs)) (list_any_none (replaces to v) front (All-weaker (λ (w : Version). w.round ≤ v.round) (λ (w : Version). replaces to v w ≡ false) (λ w l. not_below to v w l) front h))
      ∙ ap (λ b. b || list_any (replaces to v) vs) (not_below to v v (le_refl v.round))

  -- ---- the last version is kept

  stays : (later : Option (Option OnlineData)) (now : Option OnlineData) (t : Bool) → (t ≡ true → IsSome later) → later ≡ option_or later (cond t (Some now) None)
  stays (Some x) now t h = refl
  stays None now false h = refl
  stays None now true h = absurd (let wrong : false ≡ true = h refl in cc)

  module _ (to : ℕ) (seen : to ≤ r + 320) (all : List Version) where
    abbrev keep : Version → Bool
    keep v = not (list_any (replaces to v) all)

    kept_here : (v : Version) (vs : List Version) → list_any (replaces to v) all ≡ list_any (replaces to v) vs → latest (filter keep vs) ≡ latest vs → (b : Bool) → list_any (replaces to v) all ≡ b
        → latest (cond (not b) (v ∷ filter keep vs) (filter keep vs)) ≡ option_or (latest vs) (cond (speaks v) (Some v.now) None)
    kept_here v vs same h false e = ap (λ o. option_or o (cond (speaks v) (Some v.now) None)) h
    kept_here v vs same h true e = h ∙ stays (latest vs) v.now (speaks v) (λ t. later_there to seen v (and_parts (is_up_to r v) (eq_by_cmp address_cmp who v.address) t).1 vs (sym same ∙ e))

    kept_latest : (front vs : List Version) (n : ℕ) → front ++ vs ≡ all → All (λ w. w.round ≤ n) front → RisesFrom n vs → latest (filter keep vs) ≡ latest vs
    kept_latest front [] n e b h = refl
    kept_latest front (v ∷ vs) n e b h =
        let first : n ≤ v.round = h.0 in
        let before : All (λ w. w.round ≤ v.round) front = All-weaker (λ (w : Version). w.round ≤ n) (λ (w : Version). w.round ≤ v.round) (λ w l. omega arith) front b in
        let more : (front ++ v ∷ []) ++ vs ≡ all = append_assoc front (v ∷ []) vs ∙ e in
        let same : list_any (replaces to v) all ≡ list_any (replaces to v) vs = ap (list_any (replaces to v)) (sym e) ∙ only_later to v front vs before in
        kept_here v vs same (kept_latest (front ++ v ∷ []) vs v.round more (All-push (λ (w : Version). w.round ≤ v.round) front v before (le_refl v.round)) h.1) (list_any (replaces to v) all) refl

kept_online : (vs : List Version) (to r : ℕ) → to ≤ r + 320 → RisesFrom 0 vs → with_changes (changes_to r (kept_versions to vs)) empty ≡ with_changes (changes_to r vs) empty
kept_online vs to r seen h = same_map addresses_total exact_addresses (with_changes (changes_to r (kept_versions to vs)) empty) (with_changes (changes_to r vs) empty) (λ who.
    let nothing : OnlineMap = empty in
    changes_are r who (kept_versions to vs) nothing
    ∙ ap (λ (o : Option (Option OnlineData)). or_below o (get nothing who)) (kept_latest r who to seen vs [] vs 0 refl (All-nil (λ (w : Version). w.round ≤ 0)) h)
    ∙ sym (changes_are r who vs nothing))

-- ---- the levels

kept_level : (ls : List LevelAt) (to r : ℕ) → to ≤ r + 320 → level_of r (kept_levels to ls) ≡ level_of r ls
kept_level [] to r seen = refl
kept_level (k ∷ ls) to r seen = by_test (kept_level ls to r seen) (is_kept_level to k) refl
  where
    by_place : level_of r (kept_levels to ls) ≡ level_of r ls → (b : Bool) → option_map (λ (j : LevelAt). j.level) (cond b (Some k) (find (λ (j : LevelAt). eqb j.round r) (kept_levels to ls))) ≡ option_map (λ (j : LevelAt). j.level) (cond b (Some k) (find (λ (j : LevelAt). eqb j.round r) ls))
    by_place h true = refl
    by_place h false = h

    late_one : is_kept_level to k ≡ false → (b : Bool) → eqb k.round r ≡ b → level_of r ls ≡ option_map (λ (j : LevelAt). j.level) (cond b (Some k) (find (λ (j : LevelAt). eqb j.round r) ls))
    late_one t true e =
        let same : k.round ≡ r = eqb-true k.round r e in
        let kept : is_kept_level to k ≡ true = le-leb to (k.round + 320) (omega arith) in
        absurd (let wrong : false ≡ true = sym t ∙ kept in cc)
    late_one t false e = refl

    by_test : level_of r (kept_levels to ls) ≡ level_of r ls → (b : Bool) → is_kept_level to k ≡ b → level_of r (cond b (k ∷ kept_levels to ls) (kept_levels to ls)) ≡ level_of r (k ∷ ls)
    by_test h true t = by_place h (eqb k.round r)
    by_test h false t = h ∙ late_one t (eqb k.round r) refl

-- ---- the rounds

kept_snap : (vs : List Version) (ls : List LevelAt) (to r : ℕ) → to ≤ r + 320 → RisesFrom 0 vs → snap_from (kept_versions to vs) (kept_levels to ls) r ≡ snap_from vs ls r
kept_snap vs ls to r seen h = ap₂ (λ (o : OnlineMap) (level : Option ℕ). option_map (λ n. record { level = n; online = o }) level) (kept_online vs to r seen h) (kept_level ls to r seen)

pub pruned : HistoryIsPruned
pruned vs ls snaps low to h = record {
  rising = rises_kept (λ v. not (list_any (replaces to v) vs)) 0 vs h.rising;
  below = All-filter (λ v. not (list_any (replaces to v) vs)) (λ (v : Version). v.round ≤ to) vs h.below;
  levels_below = All-filter (is_kept_level to) (λ (k : LevelAt). k.round ≤ to) ls h.levels_below;
  gives = λ round a b. kept_snap vs ls to round (omega arith) h.rising ∙ h.gives round (omega arith) b;
  there = λ round a b. h.there round (omega arith) b;
}
