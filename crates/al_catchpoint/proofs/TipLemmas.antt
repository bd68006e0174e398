-- The label and the files of a catchpoint that was written are those of the chain.
use Rattle.std.proofs.Common.{◌≡◌, ◌≤◌, ◌<◌, ◌-◌, ◌∙◌, ℕ, zero, suc, List, [], ◌∷◌, length, map, get_or, slice_get, option_map, arith, refl, sym, ap, subst, true, Option, Some, None, IfSome, Err}
use Rattle.std.proofs.lemmas.List.{length-map}
use Rattle.al_base.specs.Folders.{FileMap}
use Rattle.al_block.specs.Block.{IsBlock}
use Rattle.al_block.specs.Hashes.{header_hash_of}
use Rattle.al_block.specs.declared.block.Block.{Block}
use Rattle.al_catch.specs.Catching.{CatchCause, Counts, HoldsBlocks, HoldsChunks, HoldsTip, IsCalm, IsTipName, KeepsBut, Leaves, TipCause, data_round, is_catchpoint_round, root_of_rows, rows_written}
use Rattle.al_catch.specs.Labels.{label_of, label_string}
use Rattle.al_catch.specs.declared.label.Label.{Label}
use Rattle.al_catch.specs.declared.writing.CatchRefusal.{CatchRefusal}
use Rattle.al_catch.specs.declared.writing.CatchRefusal.TheVariants as refusals
use Rattle.al_catch.specs.declared.writing.RowsWritten.{RowsWritten}
use Rattle.al_eval.specs.State.{State, counts_in}
use Rattle.al_states.proofs.CatchLemmas.{bytes_are}
use Rattle.al_states.proofs.KeepLemmas.{kept_block, kept_spelled, states_at}
use Rattle.al_states.specs.Held.{Held}
use Rattle.al_states.specs.Keeping.{IsStates, held}
use Rattle.al_states.specs.Replies.{IsBlockOf}
use Rattle.al_states.specs.Spellings.{block_string, spelling_at, string_of}
use Rattle.al_states.specs.declared.keeping.KeptBlock.{KeptBlock}
use Rattle.al_states.specs.declared.states.States.{States}
use Rattle.al_catchpoint.proofs.Longer.{rows_beside}
use Rattle.al_catchpoint.specs.Chains.{HoldsCatchpoint, IsData, IsLabelOf, shown_of}
use Rattle.al_catchpoint.specs.Faults.{IsOwnFault}
use Rattle.al_catchpoint.specs.Showing.{Standing, or_none, standing_at, string_at}

-- ---- causes

-- rows of a round with a catchpoint, which were not overtaken
pub own_rows : (A : Type 0) {F : Type 0} (interval round : ℕ) (a b : Counts) (e : CatchRefusal F) → is_catchpoint_round interval round ≡ true → IsCalm {A = A} (Err e) → CatchCause {A = A} interval round a b (Err e) → IsOwnFault e
own_rows A interval round a b (refusals.Overtaken at) has calm cause = absurd calm
own_rows A interval round a b (refusals.NotCatchpointRound n) has calm cause = absurd (let e = sym has ∙ cause.1 in cc)
own_rows A interval round a b (refusals.FolderFault f) has calm cause = tt
own_rows A interval round a b (refusals.Rows f) has calm cause = tt
own_rows A interval round a b refusals.Memory has calm cause = tt

-- the states at the front are calm
pub calm_at : (h : Held) (n : ℕ) (at : Standing) → at ≡ standing_at h n 0 → n ≡ length h.blocks → at.round ≡ length at.blocks
calm_at h n at is front = ap (λ (s : Standing). s.round) is ∙ front ∙ sym (length-map h.blocks block_string) ∙ ap (λ (s : Standing). length s.blocks) (sym is)

pub interval_has : (h old : Held) (interval round : ℕ) → interval ≡ h.origin.chain.catch_interval → h ≡ old → is_catchpoint_round old.origin.chain.catch_interval round ≡ true → is_catchpoint_round interval round ≡ true
interval_has h old interval round is same has = ap (λ n. is_catchpoint_round n round) (is ∙ ap (λ (x : Held). x.origin.chain.catch_interval) same) ∙ has

pub own_tip : (A : Type 0) {F : Type 0} (a b : Counts) (e : CatchRefusal F) → TipCause {A = A} a b (Err e) → IsOwnFault e
own_tip A a b (refusals.Overtaken at) cause = absurd cause
own_tip A a b (refusals.NotCatchpointRound n) cause = absurd cause
own_tip A a b (refusals.FolderFault f) cause = tt
own_tip A a b (refusals.Rows f) cause = tt
own_tip A a b refusals.Memory cause = tt

-- ---- the block of a round

there_at : {A : Type 0} (xs : List A) (i : ℕ) → i < length xs → (x : A) × (x ≡ get_or xs i x)
there_at [] i l = absurd (omega (arith, l))
there_at (x ∷ xs) zero l = (x, refl)
there_at (x ∷ xs) (suc i) l = there_at xs i (omega (arith, l))

spelled_option : (o : Option Block) → or_none (option_map block_string o) ≡ string_of o
spelled_option None = refl
spelled_option (Some b) = refl

got_mapped : (bs : List Block) (n : ℕ) → slice_get (map block_string bs) n ≡ option_map block_string (slice_get bs n)
got_mapped [] n = refl
got_mapped (b ∷ bs) zero = refl
got_mapped (b ∷ bs) (suc n) = got_mapped bs n

-- the spellings of all blocks show that of a round
pub string_is : (bs : List Block) (round : ℕ) → string_at (map block_string bs) round ≡ spelling_at bs round
string_is bs zero = refl
string_is bs (suc n) = ap or_none (got_mapped bs n) ∙ spelled_option (slice_get bs n)

pub shown_string : (h : Held) (d : ℕ) (at : Standing) (round : ℕ) → at ≡ standing_at h d 0 → string_at at.blocks round ≡ spelling_at h.blocks round
shown_string h d at round is = ap (λ (s : Standing). string_at s.blocks round) is ∙ string_is h.blocks round

-- ---- the label

module _ (s : States) (k : IsStates s) (w : RowsWritten) (l : Label) (at : Standing) (d : ℕ) (some : 0 < w.round) (within : w.round ≤ length (held s).blocks) (at_is : at ≡ standing_at (held s) d 0)
    (wrote : (t : State) → IsData (held s) w.round t → w ≡ rows_written w.round (shown_of t (held s).blocks))
    (labelled : (b : Block) → IsBlock (string_at at.blocks w.round) b → l ≡ label_of w.round (label_string (header_hash_of b.header) w.root w.totals)) (same : l.round ≡ w.round) where
  inside : w.round - 1 < length s.kept.items
  inside = omega (arith, some, within, length-map s.kept.items (λ (x : KeptBlock). x.block))

  abbrev kept : KeptBlock
  kept = (there_at s.kept.items (w.round - 1) inside).0

  kept_at : kept ≡ get_or s.kept.items (w.round - 1) kept
  kept_at = (there_at s.kept.items (w.round - 1) inside).1

  spells : IsBlock (string_at at.blocks w.round) kept.block
  spells = subst (λ bytes. IsBlock bytes kept.block) (bytes_are s k w.round some kept within kept_at ∙ sym (shown_string (held s) d at w.round at_is)) (kept_spelled s k w.round kept some within kept_at)

  abbrev state : State
  state = (states_at s (data_round w.round) k).state

  is_data : IsData (held s) w.round state
  is_data = (states_at s (data_round w.round) k).replayed

  pub label_of_tip : IsLabelOf (held s) l
  label_of_tip =
      let written = wrote state is_data in
      let string = label_string (header_hash_of kept.block.header) (root_of_rows state.rows) (counts_in state) in
      let told : l ≡ label_of w.round string = labelled kept.block spells ∙ ap (λ (x : RowsWritten). label_of w.round (label_string (header_hash_of kept.block.header) x.root x.totals)) written in
      record {
        state = state;
        is_data = subst (λ r. IsData (held s) r state) (sym same) is_data;
        last = kept.block;
        block = subst (λ r. IsBlockOf (held s).blocks r kept.block) (sym same) (kept_block s k w.round kept some within kept_at);
        is = told ∙ ap (λ r. label_of r string) (sym same);
      }

-- ---- the files

whole_of : (h : Held) (w : RowsWritten) (l : Label) (t : State) (f g : FileMap) → l.round ≡ w.round → IsData h w.round t → w ≡ rows_written w.round (shown_of t h.blocks) → HoldsChunks w.round t.rows f → KeepsBut (IsTipName w.round) (Some f) (Some g) → HoldsTip w l g → HoldsBlocks w.round (spelling_at h.blocks) g → HoldsCatchpoint h l g
whole_of h w l t f g same led wrote chunks keeps tip blocks = record {
  state = t;
  is_data = subst (λ r. IsData h r t) (sym same) led;
  chunks = subst (λ r. HoldsChunks r t.rows g) (sym same) (rows_beside w.round t.rows f g keeps chunks);
  tip = subst (λ x. HoldsTip x l g) (wrote ∙ ap (λ r. rows_written r (shown_of t h.blocks)) (sym same)) tip;
  blocks = subst (λ r. HoldsBlocks r (spelling_at h.blocks) g) (sym same) blocks;
}

blocks_shown : (round : ℕ) (one other : ℕ → List ℕ) (g : FileMap) → ((n : ℕ) → one n ≡ other n) → HoldsBlocks round one g → HoldsBlocks round other g
blocks_shown round one other g same holds n from most = holds n from most ∙ ap Some (same n)

pub whole_tip : (h : Held) (w : RowsWritten) (l : Label) (t : State) (at : Standing) (d : ℕ) (a b : Option FileMap) → at ≡ standing_at h d 0 → l.round ≡ w.round → IsData h w.round t → ((t : State) → IsData h w.round t → w ≡ rows_written w.round (shown_of t h.blocks)) → IfSome a (HoldsChunks w.round t.rows) → KeepsBut (IsTipName w.round) a b → Leaves a b (HoldsTip w l) → Leaves a b (HoldsBlocks w.round (λ n. string_at at.blocks n)) → Leaves a b (HoldsCatchpoint h l)
whole_tip h w l t at d None b is same led wrote chunks keeps tip blocks = tt
whole_tip h w l t at d (Some f) None is same led wrote chunks keeps tip blocks = absurd tip
whole_tip h w l t at d (Some f) (Some g) is same led wrote chunks keeps tip blocks =
    whole_of h w l t f g same led (wrote t led) chunks keeps tip (blocks_shown w.round (λ n. string_at at.blocks n) (spelling_at h.blocks) g (λ n. shown_string h d at n is) blocks)
