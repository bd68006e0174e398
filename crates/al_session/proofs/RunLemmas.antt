-- A run of the program that comes to serving, or to making a chain.
use Rattle.std.proofs.Common.{◌≤◌, ◌⊎◌, length, ◌≡◌, ◌≢◌, ◌∙◌, ℕ, List, sym, subst, inl, inr, Option, Some, Ok, Err}
use Rattle.al_base.specs.Causes.{Rose}
use Rattle.al_catch.specs.Catching.{KeepsBut}
use Rattle.al_catch.specs.declared.label.Label.{Label}
use Rattle.al_eval.specs.State.{State, replay}
use Rattle.al_generated.specs.Catchpoints.{GenerateCause, HasCatchpoints, IsOwnName, whole_summary}
use Rattle.al_generated.specs.Chain.{generated_blocks, origin}
use Rattle.al_generated.specs.declared.chain.GenerateRefusal.{GenerateRefusal}
use Rattle.al_generated.specs.declared.chain.GenerateRefusal.TheVariants as refusals
use Rattle.al_session.specs.declared.link.Ended.{Ended}
use Rattle.al_session.specs.declared.link.Ended.TheVariants as ended
use Rattle.al_states.specs.declared.states.States.{States}
use Rattle.al_states.specs.declared.opening.OpenFault.{OpenFault}
use Rattle.al_states.specs.declared.opening.OpenFault.TheVariants as faults
use Rattle.al_states.proofs.OpenLemmas.{refused_digit}
use Rattle.al_session.specs.Connection.{Serves}
use Rattle.al_session.specs.Generating.{IsGeneration, IsSummed, IsUnwritten, most_generated}
use Rattle.al_session.specs.Outside.{Holds, IsDigit, IsNoGenesis, IsShort, IsUnread, Outside, Refuses, Sends, most_genesis}
use Rattle.al_session.specs.Sessions.{IsServed, IsSession, RunsOf, status_of}
use Rattle.al_session.specs.Telling.{TellsRefusal}
use Rattle.al_session.proofs.FileLemmas.{IsUntaken, mute_ends}
use Rattle.al_states.specs.Held.{Held}
use Rattle.al_states.specs.Keeping.{IsStates, held}
use Rattle.al_states.specs.Opening.{Opens}
use Rattle.al_words.specs.declared.line.Line.{Line}
use Rattle.al_words.specs.declared.line.Line.TheVariants as lines
use Rattle.al_states.proofs.KeepLemmas.{states_valid}
use Rattle.al_states.proofs.SoundLemmas.{states_money}

-- the file opens, and the connection was served
pub served_session : (name file : List ℕ) (before after : Outside) (n : ℕ) (s t : States) (e : Ended) → Holds before.files name (Some file) → length file ≤ most_genesis → Opens file (Ok s) → Serves (held s) (held t) before.left after.left before.written after.written e → IsStates t → (e ≡ ended.SourceFault → Rose before.source_faults after.source_faults) → (e ≡ ended.SinkFault → Rose before.sink_faults after.sink_faults)
    → (e ≢ ended.SourceFault → after.source_faults ≡ before.source_faults) × (e ≢ ended.SinkFault → after.sink_faults ≡ before.sink_faults) → n ≡ status_of e
    → IsSession name before after n
served_session name file before after n s t e holds short opened serves kept source sink stay is =
    let x : IsServed name before after n = record {
      file = file;
      holds = holds;
      short = short;
      genesis = opened.1.0;
      decodes = opened.1.1;
      held = held t;
      end = e;
      serves = subst (λ (h : Held). Serves h (held t) before.left after.left before.written after.written e) opened.1.2 serves;
      valid = states_valid t kept;
      money = states_money t kept;
      status = is;
      source_fault = source;
      sink_fault = sink;
      source_kept = stay.0;
      sink_kept = stay.1;
    } in
    inr (inr (inr x))

-- the number that is shown of a file that opens nothing is a digit
pub shown_digit : (file : List ℕ) (f : OpenFault) → Opens file (Err f) → IsDigit f
shown_digit file (faults.Genesis n) x = refused_digit file n x
shown_digit file faults.Memory x = tt

-- a run ends whose file opens nothing
pub unopened : (name file : List ℕ) (before after : Outside) (fault : OpenFault) (n : ℕ) → Holds before.files name (Some file) → Opens file (Err fault) → IsUntaken before after → Refuses fault before.written after.written before.sink_faults after.sink_faults n → IsNoGenesis name before after n ⊎ IsShort before after n
unopened name file before after (faults.Genesis number) n holds refused u told = inl (record {
  status = told.0;
  number = number;
  cause = (file, holds, refused);
  line = record { taken = u.taken; source_kept = u.kept; says = told.1 };
})
unopened name file before after faults.Memory n holds refused u told = inr (mute_ends before after n u told)

-- a session whose file was not read, or opens nothing
pub unread_session : (name : List ℕ) (before after : Outside) (n : ℕ) → IsUnread most_genesis name before after n ⊎ IsShort before after n → IsSession name before after n
unread_session name before after n (inl x) = inl x
unread_session name before after n (inr x) = inr (inr (inl x))

pub unopened_session : (name : List ℕ) (before after : Outside) (n : ℕ) → IsNoGenesis name before after n ⊎ IsShort before after n → IsSession name before after n
unopened_session name before after n (inl x) = inr (inl x)
unopened_session name before after n (inr x) = inr (inr (inl x))

-- ---- a chain

-- the summary was sent
pub summed : (number blocks : ℕ) (before after : Outside) (n : ℕ) (s : State) (labels : List Label) (text bytes : List ℕ) → replay origin (generated_blocks number blocks) ≡ Ok s → HasCatchpoints number blocks labels before.files after.files → text ≡ whole_summary blocks s labels → bytes ≡ text → IsUntaken before after → Sends bytes before.written after.written before.sink_faults after.sink_faults n → KeepsBut (IsOwnName blocks) before.files after.files → IsGeneration number blocks before after n
summed number blocks before after n s labels text bytes replayed holds is same u sends kept =
    let x : IsSummed number blocks before after n = record {
      state = s;
      replayed = replayed;
      labels = labels;
      holds = holds;
      taken = u.taken;
      source_kept = u.kept;
      sends = subst (λ (z : List ℕ). Sends z before.written after.written before.sink_faults after.sink_faults n) (same ∙ is) sends;
    } in
    (inl x, kept)

-- no summary was sent
pub unmade : (A : Type 0) (number blocks : ℕ) (before after : Outside) (n : ℕ) (refusal : GenerateRefusal) → GenerateCause {A = A} number blocks before.folder_faults after.folder_faults (Err refusal) → IsUntaken before after → TellsRefusal refusal before.written after.written before.sink_faults after.sink_faults n → KeepsBut (IsOwnName blocks) before.files after.files → IsGeneration number blocks before after n
unmade A number blocks before after n refusals.Refused cause u told kept = (inr (inr (mute_ends before after n u told)), kept)
unmade A number blocks before after n refusals.Memory cause u told kept = (inr (inr (mute_ends before after n u told)), kept)
unmade A number blocks before after n (refusals.Folder round file) cause u (inl (is, says)) kept =
    let x : IsUnwritten before after n = record { status = is; round = round; file = file; cause = cause; line = record { taken = u.taken; source_kept = u.kept; says = says } } in
    (inr (inl x), kept)
unmade A number blocks before after n (refusals.Folder round file) cause u (inr mute) kept = (inr (inr (mute_ends before after n u mute)), kept)

-- a line that makes a chain ran
pub generated_runs : (line : Option Line) (number blocks : ℕ) (before after : Outside) (n : ℕ) → line ≡ Some (lines.Generate number blocks) → blocks ≤ most_generated → IsGeneration number blocks before after n → RunsOf line before after n
generated_runs line number blocks before after n is few x = subst (λ l. RunsOf l before after n) (sym is) (inl (few, x))
