-- A memory that shows a state's rounds goes on to.
use Rattle.std.proofs.Common.{◌≡◌, ◌∙◌, ℕ, zero, suc, ◌+◌, ◌-◌, ◌<◌, ◌≤◌, refl, sym, ap, subst, inl, inr, List, [], ◌∷◌, ◌++◌, length, length-append, length-drop, take, drop, slice_get, Ordering, Less, Equal, Option, Some, None, cond, is_eq, nat_cmp, arith}
use Rattle.std.proofs.lemmas.Bool.{cases_lt}
use Rattle.std.proofs.lemmas.Cmp.{nat_cmp_total}
use Rattle.std.proofs.lemmas.List.{length-take}
use Rattle.std.proofs.lemmas.Option.{slice_get_within}
use Rattle.std.specs.Cmp.{nat_cmp_is}
use Rattle.std.specs.FinMap.{get, get-insert, insert}
use Rattle.al_base.specs.declared.online.OnlineChange.{OnlineChange}
use Rattle.al_online.specs.Laws.{Shows, ShowsBefore, ShowsFrom, ShowsNext, Snaps}
use Rattle.al_online.specs.Memory.{Memory, and_round, followed, from_round, snap_at, top, without_last}
use Rattle.al_online.specs.Stakes.{Snap, next_snap}

get_front : {A : Type 0} (xs ys : List A) (i : ℕ) → i < length xs → slice_get (xs ++ ys) i ≡ slice_get xs i
get_front [] ys i h = absurd (omega arith)
get_front (x ∷ xs) ys zero h = refl
get_front (x ∷ xs) ys (suc i) h = get_front xs ys i (omega arith)

get_seam : {A : Type 0} (xs : List A) (y : A) → slice_get (xs ++ y ∷ []) (length xs) ≡ Some y
get_seam [] y = refl
get_seam (x ∷ xs) y = get_seam xs y

get_taken : {A : Type 0} (n : ℕ) (xs : List A) (i : ℕ) → i < n → slice_get (take n xs) i ≡ slice_get xs i
get_taken zero xs i h = absurd (omega arith)
get_taken (suc n) [] i h = refl
get_taken (suc n) (x ∷ xs) zero h = refl
get_taken (suc n) (x ∷ xs) (suc i) h = get_taken n xs i (omega arith)

get_dropped : {A : Type 0} (n : ℕ) (xs : List A) (i j : ℕ) → n + i ≡ j → slice_get (drop n xs) i ≡ slice_get xs j
get_dropped zero xs i j e = ap (slice_get xs) (let s : i ≡ j = omega arith in s)
get_dropped (suc n) [] i j e = refl
get_dropped (suc n) (x ∷ xs) i zero e = absurd (omega arith)
get_dropped (suc n) (x ∷ xs) i (suc j) e = get_dropped n xs i j (omega arith)

-- a round below the new one is as before, and the new one is new
below_new : (snaps : Snaps) (n round : ℕ) (s : Snap) → round < n → get snaps round ≡ get (insert snaps n s) round
below_new snaps n round s h = ap (λ r. cond (is_eq r) (Some s) (get snaps round)) (nat_cmp_is round n Less h) ∙ sym (get-insert nat_cmp_total snaps n s round)

at_new : (snaps : Snaps) (n round : ℕ) (s : Snap) → round ≡ n → Some s ≡ get (insert snaps n s) round
at_new snaps n round s e = ap (λ r. cond (is_eq r) (Some s) (get snaps round)) (nat_cmp_is round n Equal e) ∙ sym (get-insert nat_cmp_total snaps n s round)

module _ (m : Memory) (snaps : Snaps) (h : Shows m snaps) where
  -- the last round of the memory is there
  last_is : (last : Snap) → get snaps (top m) ≡ Some last → slice_get m.snaps (length m.snaps - 1) ≡ Some last
  last_is last e =
      let n : length m.snaps - 1 ≡ top m - m.base = omega arith in
      ap (slice_get m.snaps) n ∙ h (top m) (omega arith) (omega arith) ∙ e

  abbrev grown : Snap → Memory
  grown s = record m { snaps = m.snaps ++ s ∷ [] }

  shows_grown : (s : Snap) → 0 < length m.snaps → Shows (grown s) (insert snaps (suc (top m)) s)
  shows_grown s some round low high =
      let n : length (m.snaps ++ s ∷ []) ≡ length m.snaps + 1 = omega (arith, length-append m.snaps (s ∷ [])) in
      elim (cases_lt (round - m.base) (length m.snaps)) [
        | inl l ↦ get_front m.snaps (s ∷ []) (round - m.base) l ∙ h round low (omega arith) ∙ below_new snaps (suc (top m)) round s (omega arith)
        | inr g ↦
            let i : round - m.base ≡ length m.snaps = omega arith in
            ap (slice_get (m.snaps ++ s ∷ [])) i ∙ get_seam m.snaps s ∙ at_new snaps (suc (top m)) round s (omega arith)
      ]

  next_shows : (level : ℕ) (cs : List OnlineChange) (last : Snap) → get snaps (top m) ≡ Some last → Shows (and_round level cs m) (insert snaps (suc (top m)) (next_snap level cs last))
  next_shows level cs last e =
      let there = last_is last e in
      let some : length m.snaps - 1 < length m.snaps = slice_get_within m.snaps (length m.snaps - 1) last there in
      subst (λ (ts : List Snap). Shows (record m { snaps = m.snaps ++ ts }) (insert snaps (suc (top m)) (next_snap level cs last))) (sym (ap (followed level cs) there)) (shows_grown (next_snap level cs last) (omega arith))

  before_shows : m.base < top m → Shows (without_last m) snaps
  before_shows more round low high =
      let n : length (take (length m.snaps - 1) m.snaps) ≡ length m.snaps - 1 = omega (arith, length-take (length m.snaps - 1) m.snaps) in
      get_taken (length m.snaps - 1) m.snaps (round - m.base) (omega arith) ∙ h round low (omega arith)

  from_shows : (from : ℕ) → m.base ≤ from → from ≤ top m → Shows (from_round from m) snaps
  from_shows from low high round a b =
      let n : length (drop (from - m.base) m.snaps) ≡ length m.snaps - (from - m.base) = length-drop (from - m.base) m.snaps in
      get_dropped (from - m.base) m.snaps (round - from) (round - m.base) (omega arith) ∙ h round (omega arith) (omega arith)

pub shows_next : ShowsNext
shows_next m snaps level cs last h e = next_shows m snaps h level cs last e

pub shows_before : ShowsBefore
shows_before m snaps h l = before_shows m snaps h l

pub shows_from : ShowsFrom
shows_from m snaps from h low high = from_shows m snaps h from low high
