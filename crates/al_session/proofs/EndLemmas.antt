-- How a run ends that writes a catchpoint.
use Rattle.std.proofs.Common.{◌≡◌, ◌≤◌, ◌⊎◌, ◌∙◌, ℕ, suc, false, List, [], length, ap, subst, inl, inr, arith, Option, Some, Ok, Err}
use Rattle.al_base.specs.Folders.{FileMap}
use Rattle.al_catch.specs.Catching.{IsCatchName, KeepsBut, Leaves, is_catchpoint_round, label_line}
use Rattle.al_catch.specs.declared.label.Label.{Label}
use Rattle.al_catchpoint.specs.Applying.{Takes}
use Rattle.al_catchpoint.specs.Chains.{HoldsCatchpoint}
use Rattle.al_genesis.specs.Genesis.{IsGenesis}
use Rattle.al_genesis.specs.declared.genesis.Genesis.{Genesis}
use Rattle.al_session.proofs.FileLemmas.{IsUntaken, files_then, holds_before, input_before, keeps_then, leaves_behind, mute_ends, rose_inside, unread_ends}
use Rattle.al_session.proofs.RunLemmas.{unopened}
use Rattle.al_session.specs.Catching.{AreInputs, IsBehind, IsCatching, IsCatchpoint, IsNoRound, IsRefusedAt, IsUnsaved, begun}
use Rattle.al_session.specs.Ending.{IsEnded}
use Rattle.al_session.specs.Outside.{IsNoGenesis, IsShort, IsUnread, KeepsFiles, Outside, Refuses, Says, SaysAlone, Sends, block_line, catchpoint_line, most_blocks, most_genesis}
use Rattle.al_session.specs.Telling.{IsInput, TellsEnd, TellsUnread}
use Rattle.al_session.specs.Working.{IsLabelled, StopsBy}
use Rattle.al_session.specs.declared.input.ReadFault.{ReadFault}
use Rattle.al_session.specs.declared.working.CatchEnd.{CatchEnd}
use Rattle.al_session.specs.declared.working.CatchEnd.TheVariants as ends
use Rattle.al_states.specs.Held.{Held}
use Rattle.al_states.specs.Opening.{Opens}
use Rattle.al_states.specs.declared.opening.OpenFault.{OpenFault}
use Rattle.al_states.specs.declared.states.States.{States}
use Rattle.al_states.specs.Keeping.{held}

-- ---- after the work

-- there was no memory for the line
pub ended_short : (round : ℕ) (g : Genesis) (bytes : List ℕ) (before after : Outside) (n : ℕ) → IsShort before after n → KeepsBut (IsCatchName round) before.files after.files → IsEnded round g bytes before after n
ended_short round g bytes before after n short kept = (inr (inr (inr (inl short))), kept)

-- no catchpoint was written, and it was told why
pub ended_stopped : (round : ℕ) (g : Genesis) (bytes : List ℕ) (before after : Outside) (h now : Held) (front : ℕ) (end : CatchEnd) (n : ℕ) → h ≡ begun g → front ≡ length now.blocks → StopsBy h bytes round before.folder_faults after.folder_faults now end → IsUntaken before after → TellsEnd round front end before.written after.written before.sink_faults after.sink_faults n → KeepsBut (IsCatchName round) before.files after.files → IsEnded round g bytes before after n
ended_stopped round g bytes before after h now front ends.Behind n from at (takes, below) u (inl (is, says)) kept =
    let x : IsBehind round g bytes before after n = record {
      status = is;
      held = now;
      takes = subst (λ (z : Held). Takes z bytes now []) from takes;
      cause = below;
      line = record { taken = u.taken; source_kept = u.kept; says = says };
    } in
    (inl x, kept)
ended_stopped round g bytes before after h now front ends.Refused n from at (rest, takes, stops) u (inl (is, says)) kept =
    let x : IsRefusedAt g bytes before after n = record {
      status = is;
      held = now;
      rest = rest;
      takes = subst (λ (z : Held). Takes z bytes now rest) from takes;
      stops = stops;
      line = record { taken = u.taken; source_kept = u.kept; says = subst (λ (k : ℕ). Says (block_line (suc k)) before.written after.written before.sink_faults after.sink_faults) at says };
    } in
    (inr (inl x), kept)
ended_stopped round g bytes before after h now front (ends.Folder file) n from at rose u (inl (is, says)) kept =
    let x : IsUnsaved round before after n = record {
      status = is;
      file = file;
      cause = rose;
      line = record { taken = u.taken; source_kept = u.kept; says = says };
    } in
    (inr (inr (inl x)), kept)
ended_stopped round g bytes before after h now front ends.Behind n from at x u (inr mute) kept = ended_short round g bytes before after n (mute_ends before after n u mute) kept
ended_stopped round g bytes before after h now front ends.Refused n from at x u (inr mute) kept = ended_short round g bytes before after n (mute_ends before after n u mute) kept
ended_stopped round g bytes before after h now front (ends.Folder file) n from at x u (inr mute) kept = ended_short round g bytes before after n (mute_ends before after n u mute) kept
ended_stopped round g bytes before after h now front ends.Memory n from at x u mute kept = ended_short round g bytes before after n (mute_ends before after n u mute) kept

-- the catchpoint was written and its label sent
pub ended_written : (round : ℕ) (g : Genesis) (bytes : List ℕ) (before after : Outside) (h now : Held) (label : Label) (text line : List ℕ) (n : ℕ) → h ≡ begun g → IsLabelled h bytes round now label → Leaves before.files after.files (HoldsCatchpoint now label) → text ≡ label_line label → line ≡ text → IsUntaken before after → Sends line before.written after.written before.sink_faults after.sink_faults n → KeepsBut (IsCatchName round) before.files after.files → IsEnded round g bytes before after n
ended_written round g bytes before after h now label text line n from x files is same u sends kept =
    let y : IsCatchpoint round g bytes before after n = record {
      held = now;
      takes = subst (λ (z : Held). Takes z bytes now []) from x.takes;
      label = label;
      round_is = x.round_is;
      is_label = x.is_label;
      files = files;
      taken = u.taken;
      source_kept = u.kept;
      sends = subst (λ (z : List ℕ). Sends z before.written after.written before.sink_faults after.sink_faults n) (same ∙ is) sends;
    } in
    (inr (inr (inr (inr y))), kept)

-- ---- before the work

-- the first file was not read
pub first_unread : (first second : List ℕ) (round : ℕ) (before after : Outside) (fault : ReadFault) (n : ℕ) → IsInput most_genesis first before.files before.folder_faults after.folder_faults (Err fault) → KeepsFiles before.files after.files → IsUntaken before after → TellsUnread first fault before.written after.written before.sink_faults after.sink_faults n → IsCatching first second round before after n
first_unread first second round before after fault n input kept u told = by (unread_ends most_genesis first before after fault n input u told)
  where
    by : IsUnread most_genesis first before after n ⊎ IsShort before after n → IsCatching first second round before after n
    by (inl x) = inl (x, kept)
    by (inr x) = inr (inr (inr (inl (x, kept))))

-- it opens nothing
pub first_unopened : (first second : List ℕ) (round : ℕ) (before after : Outside) (file bytes : List ℕ) (fault : OpenFault) (n f g : ℕ) → IsInput most_genesis first before.files f g (Ok file) → bytes ≡ file → Opens bytes (Err fault) → KeepsFiles before.files after.files → IsUntaken before after → Refuses fault before.written after.written before.sink_faults after.sink_faults n → IsCatching first second round before after n
first_unopened first second round before after file bytes fault n f g input same opens kept u told = by (unopened first file before after fault n input.0 (subst (λ (z : List ℕ). Opens z (Err fault)) same opens) u told)
  where
    by : IsNoGenesis first before after n ⊎ IsShort before after n → IsCatching first second round before after n
    by (inl x) = inr (inl (x, kept))
    by (inr x) = inr (inr (inr (inl (x, kept))))

-- the second file was not read
pub second_unread : (first second : List ℕ) (round : ℕ) (before after : Outside) (middle : Option FileMap) (count : ℕ) (fault : ReadFault) (n : ℕ) → KeepsFiles before.files middle → before.folder_faults ≤ count → IsInput most_blocks second middle count after.folder_faults (Err fault) → KeepsFiles middle after.files → IsUntaken before after → TellsUnread second fault before.written after.written before.sink_faults after.sink_faults n → IsCatching first second round before after n
second_unread first second round before after middle count fault n early up input late u told = by (unread_ends most_blocks second before after fault n (input_before most_blocks second before.files middle before.folder_faults count after.folder_faults (Err fault) early up input) u told)
  where
    by : IsUnread most_blocks second before after n ⊎ IsShort before after n → IsCatching first second round before after n
    by (inl x) = inr (inr (inl (x, files_then before.files middle after.files early late)))
    by (inr x) = inr (inr (inr (inl (x, files_then before.files middle after.files early late))))

-- both files were read, and the first opens
pub record IsRead (first second : List ℕ) (before : Outside) (now : Option FileMap) (count : ℕ) (states : States) (bytes : List ℕ) : Type 0 where
  pub genesis : Genesis
  pub inputs : AreInputs first second before genesis bytes
  pub held_is : held states ≡ begun genesis
  pub kept : KeepsFiles before.files now
  pub up : before.folder_faults ≤ count

pub both_read : (first second : List ℕ) (before : Outside) (middle now : Option FileMap) (f g k l count : ℕ) (states : States) (file opened bytes : List ℕ) → IsInput most_genesis first before.files f g (Ok file) → opened ≡ file → Opens opened (Ok states) → KeepsFiles before.files middle → IsInput most_blocks second middle k l (Ok bytes) → KeepsFiles middle now → before.folder_faults ≤ count → IsRead first second before now count states bytes
both_read first second before middle now f g k l count states file opened bytes one same opens early two late up = record {
  genesis = opens.1.0;
  inputs = record {
    file = file;
    holds = one.0;
    short = one.1;
    decodes = subst (λ (z : List ℕ). IsGenesis z opens.1.0) same opens.1.1;
    holds_blocks = holds_before before.files middle second (Some bytes) early two.0;
    few = two.1;
  };
  held_is = opens.1.2;
  kept = files_then before.files middle now early late;
  up = up;
}

-- the round has no catchpoint
pub no_round : (first second : List ℕ) (round : ℕ) (before after : Outside) (count : ℕ) (states : States) (bytes : List ℕ) (interval n : ℕ) → IsRead first second before after.files count states bytes → interval ≡ (held states).origin.chain.catch_interval → is_catchpoint_round interval round ≡ false → n ≡ 6 → IsUntaken before after → Says (catchpoint_line 2) before.written after.written before.sink_faults after.sink_faults → IsCatching first second round before after n
no_round first second round before after count states bytes interval n x at none is u says =
    let same : interval ≡ x.genesis.chain.catch_interval = at ∙ ap (λ (z : Held). z.origin.chain.catch_interval) x.held_is in
    let y : IsNoRound round x.genesis before after n = record {
      status = is;
      cause = subst (λ (k : ℕ). is_catchpoint_round k round ≡ false) same none;
      line = record { taken = u.taken; source_kept = u.kept; says = says };
    } in
    inr (inr (inr (inr (x.genesis, bytes, x.inputs, inl (y, x.kept)))))

-- what the files and the count of faults were before, where they are told of a later moment
abbrev pub at : Outside → Option FileMap → ℕ → Outside
at o files count = record o { files = files; folder_faults = count }

said_before : (before after : Outside) (files : Option FileMap) (count : ℕ) (line : List ℕ) → SaysAlone line (at before files count) after → SaysAlone line before after
said_before before after files count line x = record { taken = x.taken; source_kept = x.source_kept; says = x.says }

-- an end of the work is one of the run
pub ended_before : (round : ℕ) (g : Genesis) (bytes : List ℕ) (before after : Outside) (files : Option FileMap) (count n : ℕ) → KeepsFiles before.files files → before.folder_faults ≤ count → IsEnded round g bytes (at before files count) after n → IsEnded round g bytes before after n
ended_before round g bytes before after files count n same up (inl x, kept) = (inl (record { status = x.status; held = x.held; takes = x.takes; cause = x.cause; line = said_before before after files count _ x.line }), keeps_then (IsCatchName round) before.files files after.files same kept)
ended_before round g bytes before after files count n same up (inr (inl x), kept) = (inr (inl (record { status = x.status; held = x.held; rest = x.rest; takes = x.takes; stops = x.stops; line = said_before before after files count _ x.line })), keeps_then (IsCatchName round) before.files files after.files same kept)
ended_before round g bytes before after files count n same up (inr (inr (inl x)), kept) = (inr (inr (inl (record { status = x.status; file = x.file; cause = rose_inside before.folder_faults count after.folder_faults after.folder_faults up (omega arith) x.cause; line = said_before before after files count _ x.line }))), keeps_then (IsCatchName round) before.files files after.files same kept)
ended_before round g bytes before after files count n same up (inr (inr (inr (inl x))), kept) = (inr (inr (inr (inl (record { status = x.status; silent = record { taken = x.silent.taken; written = x.silent.written; source_kept = x.silent.source_kept; sink_kept = x.silent.sink_kept } })))), keeps_then (IsCatchName round) before.files files after.files same kept)
ended_before round g bytes before after files count n same up (inr (inr (inr (inr x))), kept) = (
  inr (inr (inr (inr (record {
    held = x.held;
    takes = x.takes;
    label = x.label;
    round_is = x.round_is;
    is_label = x.is_label;
    files = leaves_behind (HoldsCatchpoint x.held x.label) before.files files after.files same x.files;
    taken = x.taken;
    source_kept = x.source_kept;
    sends = x.sends;
  })))),
  keeps_then (IsCatchName round) before.files files after.files same kept,
)

-- the work was done
pub worked : (first second : List ℕ) (round : ℕ) (before after : Outside) (files : Option FileMap) (count : ℕ) (states : States) (bytes : List ℕ) (n : ℕ) → (x : IsRead first second before files count states bytes) → IsEnded round x.genesis bytes (at before files count) after n → IsCatching first second round before after n
worked first second round before after files count states bytes n x ended = inr (inr (inr (inr (x.genesis, bytes, x.inputs, inr (ended_before round x.genesis bytes before after files count n x.kept x.up ended)))))
