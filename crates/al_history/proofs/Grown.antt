-- A history that begins and grows.
use Rattle.std.proofs.Common.{◌≡◌, ◌∙◌, ℕ, suc, ◌<◌, ◌≤◌, refl, sym, ap, ap₂, subst, inl, inr, List, [], ◌∷◌, ◌++◌, map, find, Option, Some, None, option_map, Bool, true, false, cond, is_eq, Less, Equal, arith, le_refl}
use Rattle.std.proofs.Math.Dec.{eqb}
use Rattle.std.proofs.lemmas.Bool.{cases_lt, eq-eqb, eqb-true, le-leb}
use Rattle.std.proofs.lemmas.Cmp.{nat_cmp_total}
use Rattle.std.proofs.lemmas.List.{append-nil, map-append}
use Rattle.std.proofs.lemmas.List.Elements.{All-append, All-cons, All-head, All-nil, All-push, All-tail, All-weaker, filter-append}
use Rattle.std.specs.Cmp.{nat_cmp_is}
use Rattle.std.specs.FinMap.{empty, get, get-insert, insert}
use Rattle.std.specs.List.{All}
use Rattle.std.specs.Option.{IsSome}
use Rattle.al_base.specs.declared.online.LevelAt.{LevelAt}
use Rattle.al_base.specs.declared.online.OnlineChange.{OnlineChange}
use Rattle.al_base.specs.declared.online.Version.{Version}
use Rattle.al_online.specs.Laws.{Snaps}
use Rattle.al_online.specs.Stakes.{OnlineMap, Snap, first_snap, next_snap, with_changes}
use Rattle.al_history.specs.History.{IsHistory, RisesFrom, change_of, changes_to, level_of, snap_from, up_to, version_of}
use Rattle.al_history.specs.Laws.{HistoryBegins, HistoryGrows}
use Rattle.al_history.specs.Reading.{is_up_to}
use Rattle.al_history.proofs.Latest.{with-append}
use Rattle.al_history.proofs.Orders.{none_up_to, rises_less}

-- ---- versions of one round

abbrev news : ℕ → List OnlineChange → List Version
news n cs = map (version_of n) cs

news_rise : (n : ℕ) (cs : List OnlineChange) → RisesFrom n (news n cs)
news_rise n [] = tt
news_rise n (c ∷ cs) =
    let same : n ≤ n = omega arith in
    (same, news_rise n cs)

news_at : (n : ℕ) (cs : List OnlineChange) → All (λ v. v.round ≤ n) (news n cs)
news_at n [] = All-nil (λ (v : Version). v.round ≤ n)
news_at n (c ∷ cs) =
    let same : n ≤ n = omega arith in
    All-cons (λ (v : Version). v.round ≤ n) (version_of n c) (news n cs) same (news_at n cs)

as_they_were : (n : ℕ) (cs : List OnlineChange) → map change_of (news n cs) ≡ cs
as_they_were n [] = refl
as_they_were n (c ∷ cs) = ap (λ ds. c ∷ ds) (as_they_were n cs)

-- all of them are up to a round that is not below theirs
pub all_up_to : (n : ℕ) (vs : List Version) → All (λ v. v.round ≤ n) vs → up_to n vs ≡ vs
all_up_to n [] h = refl
all_up_to n (v ∷ vs) h =
    let first : v.round ≤ n = All-head (λ (w : Version). w.round ≤ n) v vs h in
    ap (λ b. cond b (v ∷ up_to n vs) (up_to n vs)) (le-leb v.round n first)
    ∙ ap (λ ws. v ∷ ws) (all_up_to n vs (All-tail (λ (w : Version). w.round ≤ n) v vs h))

rises_on : (n to : ℕ) (vs ws : List Version) → n ≤ to → RisesFrom n vs → All (λ v. v.round ≤ to) vs → RisesFrom to ws → RisesFrom n (vs ++ ws)
rises_on n to [] ws l h b more = rises_less n to ws l more
rises_on n to (v ∷ vs) ws l h b more = (h.0, rises_on v.round to vs ws (All-head (λ (w : Version). w.round ≤ to) v vs b) h.1 (All-tail (λ (w : Version). w.round ≤ to) v vs b) more)

-- the same where versions of a later round follow
before_news : (vs : List Version) (round n : ℕ) (cs : List OnlineChange) → round < n → changes_to round (vs ++ news n cs) ≡ changes_to round vs
before_news vs round n cs l =
    ap (map change_of) (filter-append (is_up_to round) vs (news n cs) ∙ ap (λ ws. up_to round vs ++ ws) (none_up_to round n (news n cs) l (news_rise n cs)) ∙ append-nil (up_to round vs))

-- all changes up to the new round
with_news : (vs : List Version) (to : ℕ) (cs : List OnlineChange) → All (λ v. v.round ≤ to) vs → changes_to (suc to) (vs ++ news (suc to) cs) ≡ changes_to to vs ++ cs
with_news vs to cs b =
    let later : All (λ v. v.round ≤ suc to) vs = All-weaker (λ (v : Version). v.round ≤ to) (λ (v : Version). v.round ≤ suc to) (λ v l. omega arith) vs b in
    ap (map change_of) (filter-append (is_up_to (suc to)) vs (news (suc to) cs) ∙ ap₂ (λ (us ws : List Version). us ++ ws) (all_up_to (suc to) vs later ∙ sym (all_up_to to vs b)) (all_up_to (suc to) (news (suc to) cs) (news_at (suc to) cs)))
    ∙ map-append change_of (up_to to vs) (news (suc to) cs)
    ∙ ap (λ ds. changes_to to vs ++ ds) (as_they_were (suc to) cs)

-- ---- one more level

before_level : (ls : List LevelAt) (round n level : ℕ) → round < n → level_of round (ls ++ record { round = n; level = level } ∷ []) ≡ level_of round ls
before_level [] round n level l = by_test (eqb n round) refl
  where
    by_test : (b : Bool) → eqb n round ≡ b → option_map (λ (k : LevelAt). k.level) (cond b (Some (record { round = n; level = level })) None) ≡ None
    by_test true e = absurd (let same : n ≡ round = eqb-true n round e in omega arith)
    by_test false e = refl
before_level (k ∷ ls) round n level l = by_test (before_level ls round n level l) (eqb k.round round)
  where
    by_test : level_of round (ls ++ record { round = n; level = level } ∷ []) ≡ level_of round ls → (b : Bool) → option_map (λ (j : LevelAt). j.level) (cond b (Some k) (find (λ (j : LevelAt). eqb j.round round) (ls ++ record { round = n; level = level } ∷ []))) ≡ option_map (λ (j : LevelAt). j.level) (cond b (Some k) (find (λ (j : LevelAt). eqb j.round round) ls))
    by_test h true = refl
    by_test h false = h

new_level : (ls : List LevelAt) (to level : ℕ) → All (λ l. l.round ≤ to) ls → level_of (suc to) (ls ++ record { round = suc to; level = level } ∷ []) ≡ Some level
new_level [] to level b = ap (λ t. option_map (λ (k : LevelAt). k.level) (cond t (Some (record { round = suc to; level = level })) None)) (eq-eqb (suc to) (suc to) refl)
new_level (k ∷ ls) to level b =
    let first : k.round ≤ to = All-head (λ (j : LevelAt). j.round ≤ to) k ls b in
    by_test (new_level ls to level (All-tail (λ (j : LevelAt). j.round ≤ to) k ls b)) first (eqb k.round (suc to)) refl
  where
    by_test : level_of (suc to) (ls ++ record { round = suc to; level = level } ∷ []) ≡ Some level → k.round ≤ to → (t : Bool) → eqb k.round (suc to) ≡ t → option_map (λ (j : LevelAt). j.level) (cond t (Some k) (find (λ (j : LevelAt). eqb j.round (suc to)) (ls ++ record { round = suc to; level = level } ∷ []))) ≡ Some level
    by_test h l true e = absurd (let same : k.round ≡ suc to = eqb-true k.round (suc to) e in omega arith)
    by_test h l false e = h

-- ---- one more round

below_new : (snaps : Snaps) (n round : ℕ) (s : Snap) → round < n → get snaps round ≡ get (insert snaps n s) round
below_new snaps n round s h = ap (λ r. cond (is_eq r) (Some s) (get snaps round)) (nat_cmp_is round n Less h) ∙ sym (get-insert nat_cmp_total snaps n s round)

at_new : (snaps : Snaps) (n round : ℕ) (s : Snap) → round ≡ n → Some s ≡ get (insert snaps n s) round
at_new snaps n round s e = ap (λ r. cond (is_eq r) (Some s) (get snaps round)) (nat_cmp_is round n Equal e) ∙ sym (get-insert nat_cmp_total snaps n s round)

-- what is told of a round, by its level and its changes
of_level : (cs : List OnlineChange) (level : Option ℕ) (n : ℕ) → level ≡ Some n → option_map (λ k. first_snap k cs) level ≡ Some (first_snap n cs)
of_level cs level n e = ap (option_map (λ k. first_snap k cs)) e

told_online : (cs : List OnlineChange) (level : Option ℕ) (last : Snap) → option_map (λ k. first_snap k cs) level ≡ Some last → last.online ≡ with_changes cs empty
told_online cs (Some n) last e =
    let same : first_snap n cs ≡ last = cc in
    sym (ap (λ (s : Snap). s.online) same)
told_online cs None last e = absurd (cc)

module _ (vs : List Version) (ls : List LevelAt) (snaps : Snaps) (low to level : ℕ) (cs : List OnlineChange) (last : Snap) (h : IsHistory vs ls snaps low to) (l : low ≤ to) (e : get snaps to ≡ Some last) where
  abbrev grown_versions : List Version
  grown_versions = vs ++ news (suc to) cs

  abbrev grown_levels : List LevelAt
  grown_levels = ls ++ record { round = suc to; level = level } ∷ []

  abbrev grown_snaps : Snaps
  grown_snaps = insert snaps (suc to) (next_snap level cs last)

  new_snap : snap_from grown_versions grown_levels (suc to) ≡ Some (next_snap level cs last)
  new_snap =
      of_level (changes_to (suc to) grown_versions) (level_of (suc to) grown_levels) level (new_level ls to level h.levels_below)
      ∙ ap (λ (ds : List OnlineChange). Some (first_snap level ds)) (with_news vs to cs h.below)
      ∙ ap (λ (o : OnlineMap). Some (record { level = level; online = o })) (with-append (changes_to to vs) cs empty ∙ ap (with_changes cs) (sym (told_online (changes_to to vs) (level_of to ls) last (h.gives to l (le_refl to) ∙ e))))

  old_snap : (round : ℕ) → round < suc to → snap_from grown_versions grown_levels round ≡ snap_from vs ls round
  old_snap round a = ap₂ (λ (ds : List OnlineChange) (k : Option ℕ). option_map (λ n. first_snap n ds) k) (before_news vs round (suc to) cs a) (before_level ls round (suc to) level a)

  grown_gives : (round : ℕ) → low ≤ round → round ≤ suc to → snap_from grown_versions grown_levels round ≡ get grown_snaps round
  grown_gives round a b = elim (cases_lt round (suc to)) [
    | inl c ↦ old_snap round c ∙ h.gives round a (omega arith) ∙ below_new snaps (suc to) round (next_snap level cs last) c
    | inr c ↦
        let here : round ≡ suc to = omega arith in
        ap (snap_from grown_versions grown_levels) here ∙ new_snap ∙ at_new snaps (suc to) round (next_snap level cs last) here
  ]

  grown_there : (round : ℕ) → low ≤ round → round ≤ suc to → IsSome (get grown_snaps round)
  grown_there round a b = elim (cases_lt round (suc to)) [
    | inl c ↦ subst (λ (o : Option Snap). IsSome o) (below_new snaps (suc to) round (next_snap level cs last) c) (h.there round a (omega arith))
    | inr c ↦
        let here : round ≡ suc to = omega arith in
        subst (λ (o : Option Snap). IsSome o) (at_new snaps (suc to) round (next_snap level cs last) here) refl
  ]

  grown : IsHistory grown_versions grown_levels grown_snaps low (suc to)
  grown = record {
    rising = rises_on 0 to vs (news (suc to) cs) (omega arith) h.rising h.below (rises_less to (suc to) (news (suc to) cs) (omega arith) (news_rise (suc to) cs));
    below = All-append (λ (v : Version). v.round ≤ suc to) vs (news (suc to) cs) (All-weaker (λ (v : Version). v.round ≤ to) (λ (v : Version). v.round ≤ suc to) (λ v a. omega arith) vs h.below) (news_at (suc to) cs);
    levels_below = All-push (λ (k : LevelAt). k.round ≤ suc to) ls (record { round = suc to; level = level }) (All-weaker (λ (k : LevelAt). k.round ≤ to) (λ (k : LevelAt). k.round ≤ suc to) (λ k a. omega arith) ls h.levels_below) (omega arith);
    gives = grown_gives;
    there = grown_there;
  }

pub grows : HistoryGrows
grows vs ls snaps low to level cs last h l e = grown vs ls snaps low to level cs last h l e

-- ---- round 0

pub begins : HistoryBegins
begins level cs =
    let nothing : Snaps = empty in
    record {
      rising = news_rise 0 cs;
      below = news_at 0 cs;
      levels_below = All-cons (λ (k : LevelAt). k.round ≤ 0) (record { round = 0; level = level }) [] (omega arith) (All-nil (λ (k : LevelAt). k.round ≤ 0));
      gives = λ round a b.
          let here : round ≡ 0 = omega arith in
          ap (snap_from (news 0 cs) (record { round = 0; level = level } ∷ [])) here
          ∙ ap (λ (ds : List OnlineChange). Some (first_snap level ds)) (ap (map change_of) (all_up_to 0 (news 0 cs) (news_at 0 cs)) ∙ as_they_were 0 cs)
          ∙ at_new nothing 0 round (first_snap level cs) here;
      there = λ round a b.
          let here : round ≡ 0 = omega arith in
          subst (λ (o : Option Snap). IsSome o) (at_new nothing 0 round (first_snap level cs) here) refl;
    }
