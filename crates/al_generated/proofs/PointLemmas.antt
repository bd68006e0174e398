-- The catchpoints of a chain that is made.
use Rattle.std.proofs.Common.{◌⊎◌, ◌≡◌, ◌<◌, ◌≤◌, ◌+◌, ◌*◌, ◌-◌, ◌%◌, ◌/◌, ◌^◌, ◌&&◌, ℕ, zero, suc, nat_lt, nat_eq, Bool, true, false, All, List, [], ◌∷◌, ◌++◌, append-nil, length, map, take, ap, ap₂, arith, subst, sym, refl, ◌∙◌, Result, Ok, Err, IfSome, Option, Some, None}
use Rattle.std.proofs.lemmas.Bool.{ltb-true}
use Rattle.std.proofs.lemmas.Bool.Decides.{nat_tests}
use Rattle.std.proofs.lemmas.List.{append_assoc, take-append-le, take_all}
use Rattle.std.proofs.lemmas.List.Elements.{All-nil, All-cons, All-head, All-tail, All-push}
use Rattle.al_base.specs.Causes.{Rose}
use Rattle.al_base.specs.Folders.{FileMap}
use Rattle.al_block.specs.Block.{most_bytes}
use Rattle.al_block.specs.Hashes.{header_hash_of}
use Rattle.al_block.specs.declared.block.Block.{Block}
use Rattle.al_catch.specs.Catching.{HoldsChunks, IsCatchName, IsRowsName, IsTipName, KeepsBut, Leaves, data_round, is_catchpoint_round, rows_written}
use Rattle.al_catch.specs.declared.label.Label.{Label}
use Rattle.al_catch.specs.declared.writing.RowsWritten.{RowsWritten}
use Rattle.al_catchpoint.proofs.Longer.{catchpoint_kept, catchpoint_longer, kept_both, label_longer, others_kept, rows_named, tip_named}
use Rattle.al_catchpoint.specs.Chains.{HoldsCatchpoint, IsData, IsLabelOf, WriteCause, shown_of}
use Rattle.al_catchpoint.specs.declared.writing.WriteFault.{WriteFault}
use Rattle.al_catchpoint.specs.declared.writing.WriteFault.TheVariants as faults
use Rattle.al_eval.specs.State.{State, replay, step}
use Rattle.al_eval.specs.Steps.{Refusal}
use Rattle.al_generator.specs.declared.progress.Progress.{Progress}
use Rattle.al_states.specs.Due.{due_block}
use Rattle.al_states.specs.Held.{Held}
use Rattle.al_states.specs.Keeping.{IsStates, held}
use Rattle.al_states.specs.Spellings.{block_string}
use Rattle.al_states.specs.declared.states.States.{States}
use Rattle.al_states.proofs.KeepLemmas.{last_state, led_to_last}
use Rattle.al_generated.specs.Catchpoints.{GenerateCause, HasCatchpoints, IsOwnName, catch_interval, catch_rounds, chain_of}
use Rattle.al_generated.specs.Chain.{generated_blocks, items_behind, next_block, origin}
use Rattle.al_generated.specs.Making.{HasPoint, IsMade, IsMaking, IsStopped, MakingCause, refusal_at}
use Rattle.al_generated.specs.declared.chain.GenerateRefusal.{GenerateRefusal}
use Rattle.al_generated.specs.declared.chain.GenerateRefusal.TheVariants as refusals
use Rattle.al_generated.proofs.MadeLemmas.{held_long, last_led, leads}

-- ---- more blocks

grows : (number n k : ℕ) → (more : List Block) × (generated_blocks number (k + n) ≡ generated_blocks number n ++ more)
unfolding generated_blocks
grows number n zero = ([], ap (generated_blocks number) (let e : 0 + n ≡ n = omega arith in e) ∙ sym (append-nil (generated_blocks number n)))
grows number n (suc k) =
    let x = grows number n k in
    let next = next_block number (k + n) (replay origin (generated_blocks number (k + n))) in
    (x.0 ++ next, ap (generated_blocks number) (let e : suc k + n ≡ suc (k + n) = omega arith in e) ∙ ap (λ (bs : List Block). bs ++ next) x.1 ∙ append_assoc (generated_blocks number n) x.0 next)

pub blocks_more : (number n m : ℕ) → n ≤ m → (more : List Block) × (generated_blocks number m ≡ generated_blocks number n ++ more)
blocks_more number n m le =
    let e : (m - n) + n ≡ m = omega (arith, le) in
    subst (λ k. (more : List Block) × (generated_blocks number k ≡ generated_blocks number n ++ more)) e (grows number n (m - n))

-- the first of them
first_blocks : (number n m : ℕ) → n ≤ m → length (generated_blocks number n) ≡ n → take n (generated_blocks number m) ≡ generated_blocks number n
first_blocks number n m le long =
    let x = blocks_more number n m le in
    ap (λ (bs : List Block). take n bs) x.1 ∙ take-append-le n (generated_blocks number n) x.0 (omega (arith, long)) ∙ take_all n (generated_blocks number n) (omega (arith, long))

data_blocks : (number n round : ℕ) → n + 320 ≡ round → length (generated_blocks number n) ≡ n → take (data_round round) (generated_blocks number round) ≡ generated_blocks number n
data_blocks number n round e long =
    let data_at : data_round round ≡ n = omega (arith, e) in
    ap (λ k. take k (generated_blocks number round)) data_at ∙ first_blocks number n round (omega (arith, e)) long

ok_same : (s t : State) → ◌≡◌ {A = Result State Refusal} (Ok s) (Ok t) → s ≡ t
ok_same s t e = cc

-- ---- the rows of a catchpoint

-- what was written of the rows after the first n blocks
pub record HasRows (number n round : ℕ) (w : RowsWritten) (before now : Option FileMap) : Type 0 where
  pub state : State
  pub replayed : replay origin (generated_blocks number n) ≡ Ok state
  pub written : w ≡ rows_written round (shown_of state [])
  pub files : Leaves before now (HoldsChunks round state.rows)

pub of_rows : (number n round : ℕ) (s : States) (g : Progress) (m : IsMade number n s g) (w : RowsWritten) (a b : Option FileMap)
    → ((t : State) → replay (held s).origin (held s).blocks ≡ Ok t → w ≡ rows_written round (shown_of t (held s).blocks))
    → ((t : State) → replay (held s).origin (held s).blocks ≡ Ok t → Leaves a b (HoldsChunks round t.rows)) → HasRows number n round w a b
of_rows number n round s g m w a b says files =
    let last = last_state s m.states in
    let at = led_to_last s m.states in
    record { state = last; replayed = leads number n s last m.held_is at; written = says last at; files = files last at }

pub round_of : (number n round : ℕ) (w : RowsWritten) (a b : Option FileMap) → HasRows number n round w a b → w.round ≡ round
round_of number n round w a b h = ap (λ (x : RowsWritten). x.round) h.written

-- its rows are those of the longer chain
data_in : (number n round : ℕ) (s : States) (w : RowsWritten) (a b : Option FileMap) (h : HasRows number n round w a b) → n + 320 ≡ round → length (generated_blocks number n) ≡ n → held s ≡ chain_of number round → IsData (held s) w.round h.state
data_in number n round s w a b h e long is =
    ap (λ (x : Held). replay x.origin (take (data_round w.round) x.blocks)) is
    ∙ ap (λ k. replay origin (take (data_round k) (generated_blocks number round))) (round_of number n round w a b h)
    ∙ ap (λ (bs : List Block). replay origin bs) (data_blocks number n round e long)
    ∙ h.replayed

pub rows_in : (number n round : ℕ) (s : States) (w : RowsWritten) (a b : Option FileMap) → HasRows number n round w a b → n + 320 ≡ round → length (generated_blocks number n) ≡ n → held s ≡ chain_of number round
    → (t : State) → IsData (held s) w.round t → w ≡ rows_written w.round (shown_of t (held s).blocks)
rows_in number n round s w a b h e long is t known =
    let one : h.state ≡ t = ok_same h.state t (sym (data_in number n round s w a b h e long is) ∙ known) in
    h.written ∙ ap (λ (x : State). rows_written round (shown_of x [])) one ∙ ap (λ k. rows_written k (shown_of t [])) (sym (round_of number n round w a b h))

leaves_on : (P Q : FileMap → Type 0) (a b c : Option FileMap) → Leaves a b P → (IfSome b P → Leaves b c Q) → Leaves a c Q
leaves_on P Q None b c p q = _
leaves_on P Q (Some a) None c p q = absurd p
leaves_on P Q (Some a) (Some b) None p q = q p
leaves_on P Q (Some a) (Some b) (Some c) p q = q p

if_some_at : (P Q : FileMap → Type 0) (b : Option FileMap) → P ≡ Q → IfSome b P → IfSome b Q
if_some_at P Q b e p = subst (λ (X : FileMap → Type 0). IfSome b X) e p

-- the whole catchpoint
pub pointed : (number n round : ℕ) (s : States) (g : Progress) (w : RowsWritten) (a b c : Option FileMap) (l : Label) → IsMade number round s g → HasRows number n round w a b → n + 320 ≡ round → length (generated_blocks number n) ≡ n
    → IsLabelOf (held s) l × (l.round ≡ w.round) → ((t : State) → IsData (held s) w.round t → IfSome b (HoldsChunks w.round t.rows) → Leaves b c (HoldsCatchpoint (held s) l)) → HasPoint number round l a c
pointed number n round s g w a b c l m h e long label whole =
    let at = round_of number n round w a b h in
    let known = data_in number n round s w a b h e long m.held_is in
    record {
      round_is = label.1 ∙ at;
      label = subst (λ (x : Held). IsLabelOf x l) m.held_is label.0;
      files = leaves_on (HoldsChunks round h.state.rows) (HoldsCatchpoint (chain_of number round) l) a b c h.files
          (λ p. subst (λ (x : Held). Leaves b c (HoldsCatchpoint x l)) m.held_is (whole h.state known (subst (λ k. IfSome b (HoldsChunks k h.state.rows)) (sym at) p)));
    }

-- ---- causes

pub rose_on : (a b c : ℕ) → a ≤ b → Rose b c → Rose a c
rose_on a b c le rose = omega (arith, le, rose)

pub making_cause : (A B : Type 0) (number n blocks before now : ℕ) (e : GenerateRefusal) → n ≤ blocks → MakingCause {A = A} number n (Err e) → GenerateCause {A = B} number blocks before now (Err e)
making_cause A B number n blocks before now refusals.Refused le (k, less, stops) = (k, (omega (arith, le, less)), stops)
making_cause A B number n blocks before now (refusals.Folder round file) le h = absurd h
making_cause A B number n blocks before now refusals.Memory le h = _

pub write_cause : (A B : Type 0) (number blocks round before mid now : ℕ) (f : WriteFault) → before ≤ mid → WriteCause {A = A} mid now (Err f) → GenerateCause {A = B} number blocks before now (Err (refusal_at round f))
write_cause A B number blocks round before mid now (faults.Folder file) le h = rose_on before mid now le h
write_cause A B number blocks round before mid now faults.Memory le h = _

pub cause_on : (A B : Type 0) (number n blocks before mid now : ℕ) (e : GenerateRefusal) → n ≤ blocks → before ≤ mid → GenerateCause {A = A} number n mid now (Err e) → GenerateCause {A = B} number blocks before now (Err e)
cause_on A B number n blocks before mid now refusals.Refused le later (k, less, stops) = (k, (omega (arith, le, less)), stops)
cause_on A B number n blocks before mid now (refusals.Folder round file) le later h = rose_on before mid now later h
cause_on A B number n blocks before mid now refusals.Memory le later h = _

-- ---- the catchpoints so far

both_all : {X : Type 0} (P Q R : X → Type 0) (xs : List X) → ((x : X) → P x → Q x → R x) → All P xs → All Q xs → All R xs
both_all P Q R [] f p q = All-nil R
both_all P Q R (x ∷ xs) f p q = All-cons R x xs (f x (All-head P x xs p) (All-head Q x xs q)) (both_all P Q R xs f (All-tail P x xs p) (All-tail Q x xs q))

rounds_more : (ls : List Label) (l : Label) → map (λ (x : Label). x.round) (ls ++ l ∷ []) ≡ map (λ (x : Label). x.round) ls ++ l.round ∷ []
rounds_more [] l = refl
rounds_more (x ∷ ls) l = ap (λ rs. x.round ∷ rs) (rounds_more ls l)

-- the labels of the first k catchpoints, over the first n blocks
pub record HasPoints (number n k : ℕ) (ls : List Label) (before now : Option FileMap) : Type 0 where
  pub rounds : map (λ l. l.round) ls ≡ catch_rounds k
  pub within : All (λ l. l.round ≤ n) ls
  pub labels : All (IsLabelOf (chain_of number n)) ls
  pub files : Leaves before now (λ files. All (λ l. HoldsCatchpoint (chain_of number n) l files) ls)

pub no_points : (number : ℕ) (a : Option FileMap) → HasPoints number 0 0 [] a a
no_points number None = record { rounds = refl; within = All-nil (λ (l : Label). l.round ≤ 0); labels = All-nil (IsLabelOf (chain_of number 0)); files = tt }
no_points number (Some a) = record { rounds = refl; within = All-nil (λ (l : Label). l.round ≤ 0); labels = All-nil (IsLabelOf (chain_of number 0)); files = All-nil (λ (l : Label). HoldsCatchpoint (chain_of number 0) l a) }

longer_label : (number n m : ℕ) (l : Label) → n ≤ m → length (generated_blocks number n) ≡ n → l.round ≤ n → IsLabelOf (chain_of number n) l → IsLabelOf (chain_of number m) l
longer_label number n m l le long within p =
    let x = blocks_more number n m le in
    subst (λ (bs : List Block). IsLabelOf (record { origin = origin; blocks = bs }) l) (sym x.1) (label_longer (chain_of number n) x.0 l (omega (arith, long, within)) p)

longer_files : (number n m : ℕ) (l : Label) (files : FileMap) → n ≤ m → length (generated_blocks number n) ≡ n → l.round ≤ n → HoldsCatchpoint (chain_of number n) l files → HoldsCatchpoint (chain_of number m) l files
longer_files number n m l files le long within p =
    let x = blocks_more number n m le in
    subst (λ (bs : List Block). HoldsCatchpoint (record { origin = origin; blocks = bs }) l files) (sym x.1) (catchpoint_longer (chain_of number n) x.0 l files (omega (arith, long, within)) p)

-- files that are told over a longer chain, where those of a later round were written
files_on : (number n m round : ℕ) (ls : List Label) (a b c : Option FileMap) → n ≤ m → n < round → round < 2 ^ 64 → length (generated_blocks number n) ≡ n → All (λ (l : Label). l.round ≤ n) ls
    → Leaves a b (λ files. All (λ l. HoldsCatchpoint (chain_of number n) l files) ls) → KeepsBut (IsCatchName round) b c → Leaves a c (λ files. All (λ l. HoldsCatchpoint (chain_of number m) l files) ls)
files_on number n m round ls None b c le less few long within p kept = _
files_on number n m round ls (Some a) None c le less few long within p kept = absurd p
files_on number n m round ls (Some a) (Some b) None le less few long within p kept = kept
files_on number n m round ls (Some a) (Some b) (Some c) le less few long within p kept =
    both_all (λ (l : Label). l.round ≤ n) (λ (l : Label). HoldsCatchpoint (chain_of number n) l b) (λ (l : Label). HoldsCatchpoint (chain_of number m) l c) ls
    (λ l w h. longer_files number n m l c le long w (catchpoint_kept (chain_of number n) l b c (others_kept (IsCatchName round) round l.round b c (λ name own. own) (λ e. absurd (omega (arith, e, less, w))) few (omega (arith, w, less, few)) kept) h)) within p

same_files : (number n m : ℕ) (ls : List Label) (a b : Option FileMap) → n ≤ m → length (generated_blocks number n) ≡ n → All (λ (l : Label). l.round ≤ n) ls
    → Leaves a b (λ files. All (λ l. HoldsCatchpoint (chain_of number n) l files) ls) → Leaves a b (λ files. All (λ l. HoldsCatchpoint (chain_of number m) l files) ls)
same_files number n m ls None b le long within p = _
same_files number n m ls (Some a) None le long within p = p
same_files number n m ls (Some a) (Some b) le long within p =
    both_all (λ (l : Label). l.round ≤ n) (λ (l : Label). HoldsCatchpoint (chain_of number n) l b) (λ (l : Label). HoldsCatchpoint (chain_of number m) l b) ls (λ l w h. longer_files number n m l b le long w h) within p

push_files : (number m : ℕ) (ls : List Label) (l : Label) (a b c : Option FileMap) → Leaves a b (λ files. Unit {0}) → Leaves a c (λ files. All (λ x. HoldsCatchpoint (chain_of number m) x files) ls) → Leaves b c (HoldsCatchpoint (chain_of number m) l)
    → Leaves a c (λ files. All (λ x. HoldsCatchpoint (chain_of number m) x files) (ls ++ l ∷ []))
push_files number m ls l None b c told p q = _
push_files number m ls l (Some a) None c told p q = absurd told
push_files number m ls l (Some a) (Some b) None told p q = q
push_files number m ls l (Some a) (Some b) (Some c) told p q = All-push (λ (x : Label). HoldsCatchpoint (chain_of number m) x c) ls l p q

told_of : (P : FileMap → Type 0) (a b : Option FileMap) → Leaves a b P → Leaves a b (λ files. Unit {0})
told_of P None b p = _
told_of P (Some a) None p = p
told_of P (Some a) (Some b) p = _

-- one more
pub point_more : (number n k round : ℕ) (ls : List Label) (l : Label) (a b c : Option FileMap) → n < round → round < 2 ^ 64 → round ≡ 800 * suc k → length (generated_blocks number n) ≡ n
    → HasPoints number n k ls a b → HasPoint number round l b c → KeepsBut (IsCatchName round) b c → HasPoints number round (suc k) (ls ++ l ∷ []) a c
point_more number n k round ls l a b c less few is long h p kept =
    let le : n ≤ round = omega (arith, less) in
    let at = p.round_is in
    record {
      rounds = rounds_more ls l ∙ ap₂ (λ (xs : List ℕ) (r : ℕ). xs ++ r ∷ []) h.rounds (at ∙ is);
      within = All-push (λ (x : Label). x.round ≤ round) ls l (both_all (λ (x : Label). x.round ≤ n) (λ (x : Label). x.round ≤ n) (λ (x : Label). x.round ≤ round) ls (λ x w v. omega (arith, w, less)) h.within h.within) (omega (arith, at));
      labels = All-push (IsLabelOf (chain_of number round)) ls l (both_all (λ (x : Label). x.round ≤ n) (IsLabelOf (chain_of number n)) (IsLabelOf (chain_of number round)) ls (λ x w v. longer_label number n round x le long w v) h.within h.labels) p.label;
      files = push_files number round ls l a b c (told_of (λ files. All (λ x. HoldsCatchpoint (chain_of number n) x files) ls) a b h.files) (files_on number n round round ls a b c le less few long h.within h.files kept) p.files;
    }

-- all of them, over the whole chain
pub all_points : (number n k blocks : ℕ) (ls : List Label) (a b : Option FileMap) → n ≤ blocks → k ≡ blocks / 800 → length (generated_blocks number n) ≡ n → HasPoints number n k ls a b → HasCatchpoints number blocks ls a b
all_points number n k blocks ls a b le is long h = record {
  rounds = h.rounds ∙ ap catch_rounds is;
  labels = both_all (λ (x : Label). x.round ≤ n) (IsLabelOf (chain_of number n)) (IsLabelOf (chain_of number blocks)) ls (λ x w v. longer_label number n blocks x le long w v) h.within h.labels;
  files = same_files number n blocks ls a b le long h.within h.files;
}

pub own_kept : (blocks round : ℕ) (a b c : Option FileMap) → round ≤ blocks → round % 800 ≡ 0 → KeepsBut (IsOwnName blocks) a b → KeepsBut (IsCatchName round) b c → KeepsBut (IsOwnName blocks) a c
own_kept blocks round a b c le is p q = kept_both (IsOwnName blocks) (IsCatchName round) (IsOwnName blocks) a b c (λ name own. own) (λ name own. (round, le, is, own)) p q

pub round_kept : (round : ℕ) (a b c : Option FileMap) → KeepsBut (IsRowsName round) a b → KeepsBut (IsTipName round) b c → KeepsBut (IsCatchName round) a c
round_kept round a b c p q = kept_both (IsRowsName round) (IsTipName round) (IsCatchName round) a b c (rows_named round) (tip_named round) p q

-- ---- rounds

pub multiple : (k round : ℕ) → round ≡ 800 * suc k → round % 800 ≡ 0
multiple k round e = omega (arith, e)

pub is_point : (k round : ℕ) → round ≡ 800 * suc k → is_catchpoint_round catch_interval round ≡ true
is_point k round e =
    let more : 320 < round = omega (arith, e) in
    let above : nat_lt 320 round ≡ true = grind (arith, nat_tests, more) in
    let even : nat_eq (round % 800) 0 ≡ true = ap (λ x. nat_eq x 0) (multiple k round e) in
    ap₂ (λ x y. x && y) above even

and_first : (a b : Bool) → a && b ≡ true → a ≡ true
and_first true b e = refl
and_first false b e = cc

-- a round that has a catchpoint is above 320
pub point_high : (round : ℕ) → is_catchpoint_round catch_interval round ≡ true → 320 < round
point_high round e = ltb-true 320 round (and_first (nat_lt 320 round) (nat_eq (round % 800) 0) e)

pub interval_of : (number n round : ℕ) (s : States) (g : Progress) → IsMade number n s g → is_catchpoint_round catch_interval round ≡ true → is_catchpoint_round (held s).origin.chain.catch_interval round ≡ true
interval_of number n round s g m e = ap (λ (h : Held). is_catchpoint_round h.origin.chain.catch_interval round) m.held_is ∙ e

-- the states are the same but for what is held
pub made_again : (number n : ℕ) (s t : States) (g : Progress) → IsMade number n s g → IsStates t → held t ≡ held s → IsMade number n t g
made_again number n s t g m kept same = record { states = kept; held_is = same ∙ m.held_is; progress = m.progress }

pub long_of : (number n : ℕ) (s : States) (g : Progress) → IsMade number n s g → n ≤ 100000 → length (generated_blocks number n) ≡ n
long_of number n s g m few = sym (ap (λ (h : Held). length h.blocks) m.held_is) ∙ held_long number n s g m (omega (arith, few))

-- ---- one block more, and many

stop_cause : {A : Type 0} (number n : ℕ) (t : State) (b : Block) (r : Result A GenerateRefusal) → replay origin (generated_blocks number n) ≡ Ok t → b ≡ due_block t 0 (items_behind number n) → IsStopped t b r → MakingCause number (suc n) r
stop_cause number n t b (Ok a) at is h = _
stop_cause number n t b (Err refusals.Refused) at is h = (n, omega arith, record { before = t; replayed = at; stops = subst (λ (x : Block). ((r : Refusal) × (step t x ≡ Err r)) ⊎ (most_bytes < length (block_string x))) is h })
stop_cause number n t b (Err (refusals.Folder round file)) at is h = h
stop_cause number n t b (Err refusals.Memory) at is h = _

-- what stops the next block stops the chain
pub stops_at : {A : Type 0} (number n : ℕ) (s : States) (g : Progress) (b : Block) (r : Result A GenerateRefusal) → IsMade number n s g → n < 2 ^ 50
    → ((t : State) → replay origin (generated_blocks number n) ≡ Ok t → b ≡ due_block t 0 (items_behind number n))
    → ((t : State) → replay (held s).origin (held s).blocks ≡ Ok t → b.header.round ≡ suc (length (held s).blocks) → b.header.prev ≡ header_hash_of t.header → IsStopped t b r) → MakingCause number (suc n) r
stops_at number n s g b r m few due stops =
    let last = last_state s m.states in
    let at = leads number n s last m.held_is (led_to_last s m.states) in
    let is = due last at in
    let round = (last_led number n s g m few).round in
    let long = held_long number n s g m few in
    let next : b.header.round ≡ last.header.round + 1 = ap (λ (x : Block). x.header.round) is in
    stop_cause number n last b r at is (stops last (led_to_last s m.states) (omega (arith, next, round, long)) (ap (λ (x : Block). x.header.prev) is))

pub making_on : (A B : Type 0) (number n blocks : ℕ) (e : GenerateRefusal) → n ≤ blocks → MakingCause {A = A} number n (Err e) → MakingCause {A = B} number blocks (Err e)
making_on A B number n blocks refusals.Refused le (k, less, stops) = (k, (omega (arith, le, less)), stops)
making_on A B number n blocks (refusals.Folder round file) le h = h
making_on A B number n blocks refusals.Memory le h = _

pub front_at : (number n front round : ℕ) (s : States) (g : Progress) → IsMade number n s g → n ≤ round → round ≤ 100000 → front ≡ length (held s).blocks → IsMade number front s g
front_at number n front round s g m le few at = (let long = held_long number n s g m (omega (arith, le, few)) in subst (λ k. IsMade number k s g) (sym (at ∙ long)) m)

pub front_within : (front round : ℕ) (s : States) (g : Progress) → (number : ℕ) × (n : ℕ) × IsMade number n s g × (n ≤ round) → round ≤ 100000 → front ≡ length (held s).blocks → front ≤ round
front_within front round s g (number, n, m, le) few at = (let long = held_long number n s g m (omega (arith, le, few)) in omega (arith, at, long, le))

pub still_making : (s t : States) (g h : Progress) (k round : ℕ) → (number : ℕ) × (n : ℕ) × IsMade number n s g × (n ≤ round) → ((number n : ℕ) → IsMade number n s g → n ≤ round → IsMade number k t h) → k < round → round ≤ 100000 → IsMaking t h
still_making s t g h k round (number, n, m, le) f less few = (number, k, f number n m le, omega (arith, less, few))

-- ---- a catchpoint, step by step

-- the states at the round of its rows
module _ (number n round : ℕ) (s : States) (g : Progress) (le : n + 320 ≤ round) (few : round ≤ 100000) where
  pub at_rows : n ≤ round - 320
  at_rows = omega (arith, le)

  module _ (made : IsMade number (round - 320) s g) where
    pub rows_due : round ≡ length (held s).blocks + 320
    rows_due = (let long = held_long number (round - 320) s g made (omega (arith, few)) in omega (arith, long, le))

    pub rows_long : length (generated_blocks number (round - 320)) ≡ round - 320
    rows_long = long_of number (round - 320) s g made (omega (arith, few))

    pub rows_sum : (round - 320) + 320 ≡ round
    rows_sum = omega (arith, le)

pub tip_due : (number round : ℕ) (s : States) (g : Progress) (w : RowsWritten) → IsMade number round s g → round ≤ 100000 → w.round ≡ round → 320 < round → (320 < w.round) × (w.round ≤ length (held s).blocks)
tip_due number round s g w m few at high = (let long = held_long number round s g m (omega (arith, few)) in (omega (arith, at, high), omega (arith, at, long)))

pub tip_kept : (round other : ℕ) (a b c : Option FileMap) → other ≡ round → KeepsBut (IsRowsName round) a b → KeepsBut (IsTipName other) b c → KeepsBut (IsCatchName round) a c
tip_kept round other a b c is p q = round_kept round a b c p (subst (λ r. KeepsBut (IsTipName r) b c) is q)
