-- The loop over the rows of the states.
use Rattle.std.proofs.Common.{◌≡◌, refl, ap, subst, ◌∙◌, Option, Some, None, Result, Ok}
use Rattle.std.specs.FinMap.{FinMap, entries}
use Rattle.al_base.specs.Keys.{key_cmp}
use Rattle.al_base.specs.declared.key.Key.{Key}
use Rattle.al_catch.specs.Catching.{elements_of}
use Rattle.al_catchpoint.proofs.Gathered.{all_of}
use Rattle.al_catchpoint.proofs.Rest.{Gathered, Next, gathered_all, gathered_more}
use Rattle.al_catchpoint.specs.Gathering.{EndsAt, Gathers}
use Rattle.al_deltas.specs.Queue.{rows_after}
use Rattle.al_eval.specs.Refusals.{Refusal}
use Rattle.al_eval.specs.State.{State, replay}
use Rattle.al_rows.specs.Above.{rows_above}
use Rattle.al_rows.specs.declared.stored.Stored.{Stored}
use Rattle.al_states.proofs.KeepLemmas.{follows_replay}
use Rattle.al_states.specs.Keeping.{IsStates, blocks_of, held, origin_of}
use Rattle.al_states.specs.declared.states.States.{States}
use Rattle.al_trie.specs.Tries.{Elements}

-- the rows after the last block
abbrev pub newest_of : States → FinMap key_cmp Stored
newest_of st = rows_after st.deltas.deltas st.base

-- what holds of every state after the blocks, of these rows and elements
abbrev pub Gave : States → Option Key → Elements → Option Key → Elements → Type 0
Gave st after old last new = (s : State) → replay (held st).origin (held st).blocks ≡ Ok s → Gathers s.rows after old last new

-- the state after the blocks
abbrev pub last_of : (st : States) → IsStates st → State
last_of st k = record { chain = st.before.chain; header = st.before.header; rows = newest_of st; past = k.past; snaps = k.snaps }

pub replayed : (st : States) (k : IsStates st) → replay (held st).origin (held st).blocks ≡ Ok (last_of st k)
replayed st k = follows_replay (origin_of st.before.chain st.first st.base) (last_of st k) (blocks_of st.kept.items) st.deltas.deltas k.follows

gave : (st : States) → IsStates st → (after a : Option Key) (last : Option Key) (old new : Elements) → a ≡ after → Gave st a old last new → Gathers (newest_of st) after old last new
gave st k after a last old new same f = subst (λ b. Gathers (newest_of st) b old last new) same (f (last_of st k) (replayed st k))

pub pieces_next : (st : States) (after a last : Option Key) (k : Key) (old new : Elements) → IsStates st → Gathered (newest_of st) after old → a ≡ after → last ≡ Some k → Gave st a old last new → Next (newest_of st) after k new
pieces_next st after a last k old new is g same some f =
    let x = gave st is after a last old new same f in
    gathered_more (newest_of st) after 512 k old new g x.added (subst (λ l. EndsAt (rows_above after 512 (newest_of st)) l) some x.ends)

pub one_ok : (s t : State) (r : Result State Refusal) → r ≡ Ok s → r ≡ Ok t → s ≡ t
one_ok s t r p q = cc

none_left : (last : Option Key) → ((k : Key) → last ≡ Some k → ⊥) → last ≡ None
none_left None h = refl
none_left (Some k) h = absurd (h k refl)

pub pieces_end : (st : States) (after a last : Option Key) (old new : Elements) → IsStates st → Gathered (newest_of st) after old → a ≡ after → ((k : Key) → last ≡ Some k → ⊥) → Gave st a old last new → (s : State) → replay (held st).origin (held st).blocks ≡ Ok s → new ≡ elements_of s.rows
pieces_end st after a last old new is g same none f s e =
    let x = gave st is after a last old new same f in
    let here : new ≡ elements_of (newest_of st) = gathered_all (newest_of st) after 511 old new g x.added (subst (λ l. EndsAt (rows_above after 512 (newest_of st)) l) (none_left last none) x.ends) ∙ all_of (entries (newest_of st)) in
    here ∙ ap (λ (t : State). elements_of t.rows) (one_ok (last_of st is) s (replay (held st).origin (held st).blocks) (replayed st is) e)
