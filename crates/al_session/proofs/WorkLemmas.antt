-- The work on a catchpoint, step by step.
use Rattle.std.proofs.Common.{◌≡◌, ◌≤◌, ◌<◌, ◌+◌, ◌-◌, ◌∙◌, ℕ, ◌%◌, ◌∷◌, Bool, true, false, ◌&&◌, not, nat_lt, nat_eq, List, [], length, take, refl, sym, ap, subst, inl, inr, arith, length-append, Option, Some, None, Result, Ok, Err, IfOk, IfSome}
use Rattle.std.proofs.lemmas.Bool.{ltb-true}
use Rattle.std.proofs.Math.Seq.{take-append_seam}
use Rattle.al_base.specs.Folders.{FileMap}
use Rattle.al_block.specs.declared.block.Block.{Block}
use Rattle.al_catch.specs.Catching.{HoldsChunks, IsCatchName, IsRowsName, IsTipName, KeepsBut, Leaves, is_catchpoint_round, rows_written}
use Rattle.al_catch.specs.declared.writing.RowsWritten.{RowsWritten}
use Rattle.al_catch.specs.declared.label.Label.{Label}
use Rattle.al_catchpoint.specs.Applying.{Applies, AreCut, IsFirst, Takes}
use Rattle.al_catchpoint.specs.Chains.{HoldsCatchpoint, IsData, IsLabelOf, shown_of}
use Rattle.al_catchpoint.specs.declared.applying.ApplyStop.{ApplyStop}
use Rattle.al_catchpoint.specs.declared.applying.ApplyStop.TheVariants as stops
use Rattle.al_catchpoint.proofs.Longer.{catchpoint_longer, keeps_more, kept_both, label_longer, leaves_more, longer}
use Rattle.al_catchpoint.proofs.Takings.{Grown, takes_grows, takes_then}
use Rattle.al_eval.specs.State.{State, replay}
use Rattle.al_session.proofs.FileLemmas.{rose_inside}
use Rattle.al_session.specs.Working.{IsLabelled, Reaches, StopsBy, Works, stop_end}
use Rattle.al_session.specs.declared.working.CatchEnd.{CatchEnd}
use Rattle.al_session.specs.declared.working.CatchEnd.TheVariants as ends
use Rattle.al_states.specs.Held.{Held, IsValid}

-- ---- the bytes that are left

first_within : (bytes piece rest : List ℕ) → IsFirst bytes piece rest → length rest ≤ length bytes
first_within bytes piece rest (some, inl (v, spells, is, more)) = omega (arith, ap length is, length-append piece rest)
first_within bytes piece rest (some, inr (bare, is, none)) = omega (arith, ap length none)

cut_within : (bytes : List ℕ) (ps : List (List ℕ)) (rest : List ℕ) → AreCut bytes ps rest → length rest ≤ length bytes
cut_within bytes [] rest e = omega (arith, ap length e)
cut_within bytes (p ∷ ps) rest (more, first, cut) = omega (arith, first_within bytes p more first, cut_within more ps rest cut)

-- no more bytes are left than there were
pub takes_within : (h now : Held) (bytes rest : List ℕ) → Takes h bytes now rest → length rest ≤ length bytes
takes_within h now bytes rest (ps, cut, taken) = cut_within bytes ps rest cut

-- ---- posting

-- posting stopped
pub stop_ends : (h now : Held) (bytes : List ℕ) (until : ℕ) (stop : ApplyStop) (round f g : ℕ) → Applies h bytes until now (Err stop) → StopsBy h bytes round f g now (stop_end stop)
stop_ends h now bytes until stops.Refused round f g x = x
stop_ends h now bytes until stops.Memory round f g x = tt

-- all bytes were posted, where fewer blocks are held
pub all_posted : (h now : Held) (bytes rest : List ℕ) (until : ℕ) → Applies h bytes until now (Ok rest) → length now.blocks < until → Takes h bytes now []
all_posted h now bytes rest until (takes, most, inl none) below = subst (λ z. Takes h bytes now z) none takes
all_posted h now bytes rest until (takes, most, inr reached) below = absurd (omega (arith, reached, below))

-- so many blocks are held
pub reached : (h now : Held) (bytes rest : List ℕ) (round front : ℕ) → length h.blocks ≤ round → front ≡ length now.blocks → round ≤ front → Applies h bytes round now (Ok rest) → Reaches h bytes round now (Ok rest)
reached h now bytes rest round front below is up (takes, most, either) = (takes, omega (arith, below, is, up, most))

-- what stopped a later step stopped the whole
pub stops_then : (h m now : Held) (bytes rest : List ℕ) (round f g k : ℕ) (end : CatchEnd) → Takes h bytes m rest → f ≤ g → StopsBy m rest round g k now end → StopsBy h bytes round f k now end
stops_then h m now bytes rest round f g k ends.Behind t up (u, below) = (takes_then h m now bytes rest [] t u, below)
stops_then h m now bytes rest round f g k ends.Refused t up (more, u, stopped) = (more, takes_then h m now bytes rest more t u, stopped)
stops_then h m now bytes rest round f g k (ends.Folder file) t up rose = rose_inside f g k k up (omega arith) rose
stops_then h m now bytes rest round f g k ends.Memory t up x = tt

-- what stopped below a round stopped below a later one
pub stops_lower : (h now : Held) (bytes : List ℕ) (low round f g : ℕ) (end : CatchEnd) → low ≤ round → StopsBy h bytes low f g now end → StopsBy h bytes round f g now end
stops_lower h now bytes low round f g ends.Behind up (t, below) = (t, omega (arith, up, below))
stops_lower h now bytes low round f g ends.Refused up x = x
stops_lower h now bytes low round f g (ends.Folder file) up x = x
stops_lower h now bytes low round f g ends.Memory up x = tt

-- ---- a longer chain

grown_is : (h now : Held) (x : Grown h now) → longer h x.more ≡ now
grown_is h now x = λ i. record { origin = sym x.origin i; blocks = sym x.blocks i }

-- the label of a round that is held
pub label_later : (h now : Held) (l : Label) → Grown h now → l.round ≤ length h.blocks → IsLabelOf h l → IsLabelOf now l
label_later h now l x within p = subst (λ z. IsLabelOf z l) (grown_is h now x) (label_longer h x.more l within p)

pub catchpoint_later : (h now : Held) (l : Label) (a b : Option FileMap) → Grown h now → l.round ≤ length h.blocks → Leaves a b (HoldsCatchpoint h l) → Leaves a b (HoldsCatchpoint now l)
catchpoint_later h now l a b x within p = leaves_more (HoldsCatchpoint h l) (HoldsCatchpoint now l) a b (λ files holds. subst (λ z. HoldsCatchpoint z l files) (grown_is h now x) (catchpoint_longer h x.more l files within holds)) p

front_of : (h now : Held) (round : ℕ) → Grown h now → round ≡ length h.blocks + 320 → replay now.origin (take (round - 320) now.blocks) ≡ replay h.origin h.blocks
front_of h now round x is =
    let low : round - 320 ≡ length h.blocks = omega (arith, is) in
    ap (λ (k : ℕ). replay now.origin (take k now.blocks)) low
    ∙ ap (λ (z : List Block). replay now.origin (take (length h.blocks) z)) x.blocks
    ∙ ap (λ (z : List Block). replay now.origin z) (take-append_seam h.blocks x.more)
    ∙ ap (λ (z : State). replay z h.blocks) x.origin

-- the rows after the blocks that were held 320 rounds before
pub data_is : (h now : Held) (round : ℕ) (s : State) → Grown h now → round ≡ length h.blocks + 320 → IsData now round s → replay h.origin h.blocks ≡ Ok s
data_is h now round s x is led = sym (front_of h now round x is) ∙ led

pub is_data : (h now : Held) (round : ℕ) (s : State) → Grown h now → round ≡ length h.blocks + 320 → replay h.origin h.blocks ≡ Ok s → IsData now round s
is_data h now round s x is replayed = front_of h now round x is ∙ replayed

-- ---- the round

and_right : (a b : Bool) → a && b ≡ true → b ≡ true
and_right true b e = e
and_right false true e = refl
and_right false false e = e

and_left : (a b : Bool) → a && b ≡ true → a ≡ true
and_left true b e = refl
and_left false true e = e
and_left false false e = e

-- a round that has a catchpoint lies above 320
pub round_high : (interval round : ℕ) → is_catchpoint_round interval round ≡ true → 320 < round
round_high interval round e = ltb-true 320 round (and_left (nat_lt 320 round) (nat_eq (round % interval) 0) (and_right (not (nat_eq interval 0)) (nat_lt 320 round && nat_eq (round % interval) 0) e))

-- ---- the files

rows_are : (round : ℕ) (name : List ℕ) → IsRowsName round name → IsCatchName round name
rows_are round name own = (own.0, own.2)

tips_are : (round : ℕ) (name : List ℕ) → IsTipName round name → IsCatchName round name
tips_are round name own = (own.0, own.2)

pub rows_kept : (round : ℕ) (a b : Option FileMap) → KeepsBut (IsRowsName round) a b → KeepsBut (IsCatchName round) a b
rows_kept round a b kept = keeps_more (IsRowsName round) (IsCatchName round) a b (rows_are round) kept

pub all_kept : (round other : ℕ) (a b c : Option FileMap) → other ≡ round → KeepsBut (IsRowsName round) a b → KeepsBut (IsTipName other) b c → KeepsBut (IsCatchName round) a c
all_kept round other a b c is first second = kept_both (IsRowsName round) (IsTipName round) (IsCatchName round) a b c (rows_are round) (tips_are round) first (subst (λ (r : ℕ). KeepsBut (IsTipName r) b c) is second)

-- where the rows stand, so does what needs them
pub whole_then : (P : List ℕ → Type 0) (R : FileMap → Type 0) (Q : Label → FileMap → Type 0) (a b c : Option FileMap) (result : Result Label CatchEnd) → KeepsBut P a b → Leaves a b R → (IfSome b R → IfOk result (λ l. Leaves b c (Q l))) → IfOk result (λ l. Leaves a c (Q l))
whole_then P R Q None b c (Ok l) kept first second = tt
whole_then P R Q (Some a) None c (Ok l) kept first second = absurd kept
whole_then P R Q (Some a) (Some b) None (Ok l) kept first second = second first
whole_then P R Q (Some a) (Some b) (Some c) (Ok l) kept first second = second first
whole_then P R Q a b c (Err end) kept first second = tt

-- ---- the whole

-- what was made of the bytes that were left was made of all
pub works_then : (h m now : Held) (bytes rest : List ℕ) (round other f g k : ℕ) (result : Result Label CatchEnd) → Takes h bytes m rest → other ≡ round → f ≤ g → Works m rest other g k now result → Works h bytes round f k now result
works_then h m now bytes rest round other f g k (Ok l) t is up x = record {
  takes = takes_then h m now bytes rest [] t x.takes;
  round_is = x.round_is ∙ is;
  is_label = x.is_label;
}
works_then h m now bytes rest round other f g k (Err end) t is up x = subst (λ (r : ℕ). StopsBy h bytes r f k now end) is (stops_then h m now bytes rest other f g k end t up x)

-- the label of the round that was reached, after all that was posted then
pub tip_round : (h m now : Held) (bytes rest : List ℕ) (round : ℕ) (l : Label) → Takes h bytes m rest → Takes m rest now [] → length m.blocks ≡ round → IsLabelOf m l → l.round ≡ round → IsLabelled h bytes round now l
tip_round h m now bytes rest round l first later at is same = record {
  takes = takes_then h m now bytes rest [] first later;
  round_is = same;
  is_label = label_later m now l (takes_grows m now rest [] later) (omega (arith, at, same)) is;
}

-- ---- the rows that were written

-- the rows after the blocks that are held, for a round
abbrev pub AreRowsOf : Held → ℕ → RowsWritten → Type 0
AreRowsOf h round w = (s : State) → replay h.origin h.blocks ≡ Ok s → w ≡ rows_written round (shown_of s h.blocks)

pub rows_round : (h : Held) (w : RowsWritten) (round : ℕ) → IsValid h.origin h.blocks → AreRowsOf h round w → w.round ≡ round
rows_round h w round valid rows = ap (λ (x : RowsWritten). x.round) (rows valid.0 valid.1)

replayed_by : (h m : Held) (s : State) → m ≡ h → replay m.origin m.blocks ≡ Ok s → replay h.origin h.blocks ≡ Ok s
replayed_by h m s same e = ap (λ (x : Held). replay x.origin x.blocks) (sym same) ∙ e

pub rows_then : (h m : Held) (w : RowsWritten) (round : ℕ) → m ≡ h → w.round ≡ round → AreRowsOf h round w → AreRowsOf m w.round w
rows_then h m w round same is rows = λ s e. rows s (replayed_by h m s same e) ∙ ap (λ r. rows_written r (shown_of s h.blocks)) (sym is)

pub interval_then : (h now : Held) (round : ℕ) → Grown h now → is_catchpoint_round h.origin.chain.catch_interval round ≡ true → is_catchpoint_round now.origin.chain.catch_interval round ≡ true
interval_then h now round x has = ap (λ (o : State). is_catchpoint_round o.chain.catch_interval round) x.origin ∙ has

-- the whole catchpoint stands, where the rows were written first
pub whole_work : (h m now : Held) (w : RowsWritten) (round : ℕ) (a b c : Option FileMap) (result : Result Label CatchEnd) → IsValid h.origin h.blocks → m ≡ h → w.round ≡ round → KeepsBut (IsRowsName round) a b → ((s : State) → replay h.origin h.blocks ≡ Ok s → Leaves a b (HoldsChunks round s.rows))
    → ((s : State) → replay m.origin m.blocks ≡ Ok s → IfSome b (HoldsChunks w.round s.rows) → IfOk result (λ l. Leaves b c (HoldsCatchpoint now l))) → IfOk result (λ l. Leaves a c (HoldsCatchpoint now l))
whole_work h m now w round a b c result valid same is kept wrote finished =
    whole_then (IsRowsName round) (HoldsChunks w.round valid.0.rows) (HoldsCatchpoint now) a b c result kept (subst (λ r. Leaves a b (HoldsChunks r valid.0.rows)) (sym is) (wrote valid.0 valid.1)) (finished valid.0 (ap (λ (x : Held). replay x.origin x.blocks) same ∙ valid.1))
