-- The memory of online accounts shows what the state keeps of each round.
use Rattle.std.proofs.Common.{◌≡◌, ◌-◌, ℕ, suc, List, [], ◌∷◌, refl, sym, ap, ◌∙◌, arith, subst, cond, slice_get, Some}
use Rattle.std.proofs.lemmas.Cmp.{nat_cmp_total}
use Rattle.std.specs.Cmp.{eq_by_cmp_equiv}
use Rattle.std.specs.FinMap.{empty, get, get-insert, insert}
use Rattle.al_base.specs.declared.online.OnlineChange.{OnlineChange}
use Rattle.al_online.specs.Laws.{Shows, Snaps}
use Rattle.al_online.specs.Memory.{Memory, and_round, top as last_round}
use Rattle.al_online.specs.Stakes.{Snap, next_snap}
use Rattle.al_online.proofs.Shows.{shows_next}
use Rattle.al_states.specs.Keeping.{Remembers}

-- what was put of a round is there
there : (snaps : Snaps) (round : ℕ) (s : Snap) → get (insert snaps round s) round ≡ Some s
there snaps round s = get-insert nat_cmp_total snaps round s round ∙ ap (λ b. cond b (Some s) (get snaps round)) ((eq_by_cmp_equiv nat_cmp_total).refl round)

-- round 0 alone
first_shows : (s : Snap) → Shows (record { base = 0; snaps = s ∷ [] }) (insert empty 0 s)
first_shows s round low high =
    let none : round ≡ 0 = omega arith in
    let snaps : Snaps = insert empty 0 s in
    subst (λ n. slice_get (s ∷ []) (n - 0) ≡ get snaps n) (sym none) (sym (there empty 0 s))

pub remembers_first : (memory : Memory) (s : Snap) → memory ≡ record { base = 0; snaps = s ∷ [] } → Remembers memory (insert empty 0 s) 0 s
remembers_first memory s is = subst (λ (m : Memory). Remembers m (insert empty 0 s) 0 s) (sym is) (record {
  shows = first_shows s;
  from_start = refl;
  top_is = refl;
  last_is = there empty 0 s;
})

-- one round more
pub remembers_more : (memory memory2 : Memory) (snaps : Snaps) (round : ℕ) (last next : Snap) (level : ℕ) (cs : List OnlineChange) → Remembers memory snaps round last → memory2 ≡ and_round level cs memory → last_round memory2 ≡ suc round → next ≡ next_snap level cs last
    → Remembers memory2 (insert snaps (suc round) next) (suc round) next
remembers_more memory memory2 snaps round last next level cs h grown at is =
    let shown : Shows (and_round level cs memory) (insert snaps (suc (last_round memory)) (next_snap level cs last)) = shows_next memory snaps level cs last h.shows h.last_is in
    let placed : Shows (and_round level cs memory) (insert snaps (suc round) (next_snap level cs last)) = subst (λ n. Shows (and_round level cs memory) (insert snaps (suc n) (next_snap level cs last))) h.top_is shown in
    let same : Shows (and_round level cs memory) (insert snaps (suc round) next) = subst (λ (s : Snap). Shows (and_round level cs memory) (insert snaps (suc round) s)) (sym is) placed in
    record {
      shows = subst (λ (m : Memory). Shows m (insert snaps (suc round) next)) (sym grown) same;
      from_start = ap (λ (m : Memory). m.base) grown ∙ h.from_start;
      top_is = at;
      last_is = ap (get (insert snaps (suc round) next)) at ∙ there snaps (suc round) next;
    }
