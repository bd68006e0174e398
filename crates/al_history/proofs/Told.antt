-- A memory that is read from a history shows the rounds of the state.
use Rattle.std.proofs.Common.{◌≡◌, ◌∙◌, ℕ, suc, ◌+◌, ◌-◌, ◌≤◌, refl, sym, ap, subst, List, [], ◌∷◌, map, take, drop, slice_get, Option, Some, None, option_map, Bool, true, false, cond, not, is_eq, nat_cmp, arith}
use Rattle.std.proofs.lemmas.Cmp.{nat_cmp_total}
use Rattle.std.proofs.lemmas.List.{map-append}
use Rattle.std.specs.FinMap.{empty, get, get-insert, insert, nat_cmp-IsAntisymmetric}
use Rattle.std.specs.List.{prefix_len}
use Rattle.std.specs.Option.{IsSome, unwrap_or}
use Rattle.al_base.specs.declared.online.LevelAt.{LevelAt}
use Rattle.al_base.specs.declared.online.OnlineChange.{OnlineChange}
use Rattle.al_base.specs.declared.online.Version.{Version}
use Rattle.al_online.specs.Laws.{Shows, Snaps}
use Rattle.al_online.specs.Memory.{Memory, and_round, top}
use Rattle.al_online.specs.Stakes.{OnlineMap, Snap, first_snap, next_snap, with_changes}
use Rattle.al_online.proofs.Shows.{shows_next}
use Rattle.al_history.specs.History.{IsHistory, RisesFrom, change_of, changes_to, level_of, up_to}
use Rattle.al_history.specs.Reading.{ComeToSame, IsReadTo, above, is_up_to}
use Rattle.al_history.proofs.Latest.{equal, with-append}
use Rattle.al_history.proofs.Orders.{above_above, front_is, rest_is, rises_kept, up_to_joins}

-- what is told where a level is, and 0 for it where none is
abbrev told : List Version → List LevelAt → ℕ → Snap
told vs ls round = first_snap (unwrap_or (level_of round ls) 0) (changes_to round vs)

told_of : (cs : List OnlineChange) (level : Option ℕ) (s : Option Snap) → option_map (λ n. first_snap n cs) level ≡ s → IsSome s → s ≡ Some (first_snap (unwrap_or level 0) cs)
told_of cs (Some n) s e h = sym e
told_of cs None s e h =
    let nothing : Option Snap = None in
    let some : IsSome nothing = subst (λ (o : Option Snap). IsSome o) (sym e) h in
    absurd (let wrong : false ≡ true = some in cc)

told_is : (vs : List Version) (ls : List LevelAt) (snaps : Snaps) (low to round : ℕ) → IsHistory vs ls snaps low to → low ≤ round → round ≤ to → get snaps round ≡ Some (told vs ls round)
told_is vs ls snaps low to round h l m = told_of (changes_to round vs) (level_of round ls) (get snaps round) (h.gives round l m) (h.there round l m)

-- ---- the first round

lone : (s : Snap) (i : ℕ) → i ≡ 0 → slice_get (s ∷ []) i ≡ Some s
lone s i e = ap (slice_get (s ∷ [])) e

first_told : (level : ℕ) (cs ds : List OnlineChange) → ComeToSame cs ds → first_snap level cs ≡ first_snap level ds
first_told level cs ds h = ap (λ (o : OnlineMap). record { level = level; online = o }) (h empty)

pub begun : (vs : List Version) (ls : List LevelAt) (base level : ℕ) (cs : List OnlineChange) (count : ℕ) (first rest : List Version) (m : Memory)
    → ComeToSame cs (map change_of first) → count ≡ prefix_len (is_up_to base) vs → first ≡ take count vs → rest ≡ drop count vs
    → level ≡ unwrap_or (level_of base ls) 0 → m ≡ record { base = base; snaps = first_snap level cs ∷ [] }
    → (snaps : Snaps) (low to : ℕ) → IsHistory vs ls snaps low to → low ≤ base → base ≤ to → IsReadTo vs snaps rest m
begun vs ls base level cs count first rest m same k f r l e snaps low to h above_low below_to =
    let front : first ≡ up_to base vs = f ∙ ap (λ i. take i vs) k ∙ front_is base 0 vs h.rising in
    let back : rest ≡ above base vs = r ∙ ap (λ i. drop i vs) k ∙ rest_is base 0 vs h.rising in
    let snap : first_snap level cs ≡ told vs ls base =
    first_told level cs (map change_of first) same
    ∙ ap (λ ws. first_snap level (map change_of ws)) front
    ∙ ap (λ n. first_snap n (changes_to base vs)) l in
    let made : IsReadTo vs snaps rest (record { base = base; snaps = first_snap level cs ∷ [] }) = record {
      later = back ∙ ap (λ n. above n vs) (let n : base ≡ base + 0 = omega arith in n);
      shown = λ round a b.
          let here : round ≡ base = omega arith in
          lone (first_snap level cs) (round - base) (omega arith)
          ∙ ap Some snap
          ∙ sym (told_is vs ls snaps low to base h above_low below_to)
          ∙ sym (ap (get snaps) here);
    } in
    subst (λ (x : Memory). IsReadTo vs snaps rest x) (sym e) made

-- ---- the next round

-- what is there is there once more
there_again : (snaps : Snaps) (n : ℕ) (s : Snap) → get snaps n ≡ Some s → (round : ℕ) → get (insert snaps n s) round ≡ get snaps round
there_again snaps n s e round = get-insert nat_cmp_total snaps n s round ∙ by_test (is_eq (nat_cmp round n)) refl
  where
    by_test : (b : Bool) → is_eq (nat_cmp round n) ≡ b → cond b (Some s) (get snaps round) ≡ get snaps round
    by_test true t = sym e ∙ sym (ap (get snaps) (nat_cmp-IsAntisymmetric round n (equal (nat_cmp round n) t)))
    by_test false t = refl

-- the accounts that were online, with the changes of the next round
joined : (vs : List Version) (r s : ℕ) (cs : List OnlineChange) (now : List Version) → r ≤ s → RisesFrom 0 vs → ComeToSame cs (map change_of now) → now ≡ up_to s (above r vs) → with_changes cs (with_changes (changes_to r vs) empty) ≡ with_changes (changes_to s vs) empty
joined vs r s cs now l h same front =
    same (with_changes (changes_to r vs) empty)
    ∙ ap (λ (ws : List Version). with_changes (map change_of ws) (with_changes (changes_to r vs) empty)) front
    ∙ sym (with-append (changes_to r vs) (map change_of (up_to s (above r vs))) empty)
    ∙ ap (λ (ds : List OnlineChange). with_changes ds empty) (sym (ap (map change_of) (up_to_joins r s 0 vs l h) ∙ map-append change_of (up_to r vs) (up_to s (above r vs))))

pub goes_on : (vs : List Version) (ls : List LevelAt) (next level : ℕ) (cs : List OnlineChange) (count : ℕ) (now later rest : List Version) (m n : Memory)
    → ComeToSame cs (map change_of now) → count ≡ prefix_len (is_up_to next) rest → now ≡ take count rest → later ≡ drop count rest
    → level ≡ unwrap_or (level_of next ls) 0 → next ≡ suc (top m) → n ≡ and_round level cs m → top n ≡ next
    → (snaps : Snaps) (low to : ℕ) → IsHistory vs ls snaps low to → low ≤ m.base → next ≤ to → IsReadTo vs snaps rest m → IsReadTo vs snaps later n
goes_on vs ls next level cs count now later rest m n same c f r l one e t snaps low to h above_low below_to was =
    let up : top m ≤ next = omega arith in
    let from : low ≤ top m = omega arith in
    let rises = subst (λ ws. RisesFrom 0 ws) (sym was.later) (rises_kept (λ v. not (is_up_to (top m) v)) 0 vs h.rising) in
    let front : now ≡ up_to next (above (top m) vs) = f ∙ ap (λ i. take i rest) c ∙ front_is next 0 rest rises ∙ ap (up_to next) was.later in
    let back : later ≡ above next vs = r ∙ ap (λ i. drop i rest) c ∙ rest_is next 0 rest rises ∙ ap (above next) was.later ∙ above_above (top m) next vs up in
    let last : get snaps (top m) ≡ Some (told vs ls (top m)) = told_is vs ls snaps low to (top m) h from (omega arith) in
    let online : with_changes cs (with_changes (changes_to (top m) vs) empty) ≡ with_changes (changes_to next vs) empty = joined vs (top m) next cs now up h.rising same front in
    let snap : next_snap level cs (told vs ls (top m)) ≡ told vs ls next =
    ap (λ (o : OnlineMap). record { level = level; online = o }) online
    ∙ ap (λ k. first_snap k (changes_to next vs)) l in
    let there : get snaps (suc (top m)) ≡ Some (next_snap level cs (told vs ls (top m))) =
    ap (get snaps) (sym one) ∙ told_is vs ls snaps low to next h (omega arith) below_to ∙ ap Some (sym snap) in
    let shown : Shows (and_round level cs m) snaps = λ round a b.
    shows_next m snaps level cs (told vs ls (top m)) was.shown last round a b
    ∙ there_again snaps (suc (top m)) (next_snap level cs (told vs ls (top m))) there round in
    record {
      later = back ∙ ap (λ k. above k vs) (sym t);
      shown = subst (λ (x : Memory). Shows x snaps) (sym e) shown;
    }

-- the same of an equal list
pub from_start : (vs ws : List Version) (ls : List LevelAt) (rest : List Version) (m : Memory) (base to : ℕ) → ws ≡ vs
    → ((snaps : Snaps) (low high : ℕ) → IsHistory ws ls snaps low high → low ≤ base → base ≤ high → IsReadTo ws snaps rest m)
    → base ≤ to → (snaps : Snaps) (low : ℕ) → IsHistory vs ls snaps low to → low ≤ base → IsReadTo vs snaps rest m
from_start vs ws ls rest m base to e read l snaps low h a =
    subst (λ (us : List Version). IsReadTo us snaps rest m) e (read snaps low to (subst (λ (us : List Version). IsHistory us ls snaps low to) (sym e) h) a l)
