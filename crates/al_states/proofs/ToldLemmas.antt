-- The answers of the states.
use Rattle.std.proofs.Common.{true≢false, ◌≡◌, ◌⊎◌, ◌≤◌, ◌+◌, inl, inr, ℕ, suc, Bool, true, false, not, if◌then◌else◌, nat_lt, List, [], ◌∷◌, ◌++◌, length, take, refl, sym, ap, ap₂, ◌∙◌, arith, subst, length-append, unwrap_or, Option, Some, None, IfOk, IfSome, option_map, Result, Ok, Err}
use Rattle.std.proofs.lemmas.List.{take_all}
use Rattle.std.proofs.lemmas.Bool.{le-ltb, lt-ltb}
use Rattle.std.proofs.lemmas.Result.{IfOk-weaker}
use Rattle.std.specs.Option.{option_copied}
use Rattle.al_base.specs.declared.address.Address.{Address}
use Rattle.al_base.specs.declared.key.Key.{Key}
use Rattle.al_base.specs.declared.key.Key.TheVariants as keys
use Rattle.al_base.specs.declared.name.BoxName.{BoxName}
use Rattle.al_rows.specs.declared.row.Row.{Row}
use Rattle.al_rows.specs.declared.row.Row.TheVariants as rows
use Rattle.al_rows.specs.declared.stored.Stored.{Stored}
use Rattle.al_rows.specs.declared.view.Never.{Never}
use Rattle.al_rows.specs.Rows.{IsKept, same_bytes}
use Rattle.al_block.specs.declared.block.Block.{Block}
use Rattle.al_block.specs.declared.decoding.BlockFault.{BlockFault}
use Rattle.al_block.specs.declared.decoding.BlockFault.TheVariants as faults
use Rattle.al_block.specs.Block.{IsBlock, BlockMeansUnless}
use Rattle.al_block.specs.Hashes.{header_hash_of}
use Rattle.al_eval.specs.State.{State, step, row_at, level_at}
use Rattle.al_eval.specs.Refusals.{refusal_of}
use Rattle.al_eval.specs.Sound.{IsStepRefusal}
use Rattle.al_eval.specs.declared.before.EvalRefusal.{EvalRefusal}
use Rattle.al_eval.specs.declared.before.EvalRefusal.TheVariants as evals
use Rattle.al_answers.specs.Answers.{IsSound, memory_answer}
use Rattle.al_answers.specs.declared.answer.Answer.{Answer}
use Rattle.al_answers.specs.declared.answer.Answer.TheVariants as answers
use Rattle.al_answers.specs.declared.answer.ErrorName.TheVariants as errors
use Rattle.al_answers.specs.Answers.{nothing}
use Rattle.al_routes.specs.declared.request.FormFault.{FormFault}
use Rattle.al_routes.specs.declared.request.FormFault.TheVariants as forms
use Rattle.al_routes.specs.declared.request.Request.{Request}
use Rattle.al_routes.specs.declared.request.Request.TheVariants as asks
use Rattle.al_msgpack.specs.declared.fault.DecodeFault.TheVariants as places
use Rattle.al_states.specs.declared.told.Told.{Told}
use Rattle.al_states.specs.declared.states.States.{States}
use Rattle.al_states.specs.Keeping.{IsStates, held}
use Rattle.al_states.proofs.KeepLemmas.{last_state, led_to_last}
use Rattle.std.proofs.lemmas.Slice.Eq.{bytes_eq-Decides}
use Rattle.al_states.specs.declared.looking.CirculationAnswer.{CirculationAnswer}
use Rattle.al_states.specs.declared.looking.CreatorAnswer.{CreatorAnswer}
use Rattle.al_states.specs.declared.looking.RowAnswer.{RowAnswer}
use Rattle.al_states.specs.declared.looking.StakeAnswer.{StakeAnswer}
use Rattle.al_states.specs.declared.looking.StatusAnswer.{StatusAnswer}
use Rattle.al_states.specs.declared.looking.SupplyAnswer.{SupplyAnswer}
use Rattle.al_states.specs.declared.looking.LookRefusal.{LookRefusal}
use Rattle.al_states.specs.declared.looking.LookRefusal.TheVariants as unshown
use Rattle.al_states.specs.declared.accepting.Accepted.{Accepted}
use Rattle.al_states.specs.declared.accepting.AcceptRefusal.{AcceptRefusal}
use Rattle.al_states.specs.declared.accepting.AcceptRefusal.TheVariants as refusals
use Rattle.al_states.specs.Accepting.{Accepts, IsBroken, IsNext, IsRefused, accept_answer, eval_answer, outer_fault, outer_refusal, refusal_answer}
use Rattle.al_states.specs.Held.{Held}
use Rattle.al_states.specs.Looking.{LooksAt, LooksBack, ShowsCirculation, ShowsCreator, ShowsRow, ShowsStake, ShowsStatus, ShowsSupply, front_of, round_of}
use Rattle.al_states.specs.Rounds.{circulation_after, creator_after, hash_after, lookback, stake_after, totals_after}
use Rattle.al_states.specs.Showing.{IsLooked, IsShown, account_shown, app_shown, asset_shown, box_shown, circulation_shown, creator_shown, row_shown, stake_shown, status_shown, supply_shown}
use Rattle.al_states.specs.Replies.{Replies, Posts, IsRepeated, IsAnswered, account_of, app_of, asset_of, below_lookback, box_of, fork, form_answer, judged, looked_at, looked_back, online_of, refused, shown_or, taken, too_new, wrong_prev, wrong_round}

when_false : {A : Type 0} (b : Bool) (x y : A) → b ≡ false → (if b then x else y) ≡ y
when_false true x y e = absurd (true≢false e)
when_false false x y e = refl

when_true : {A : Type 0} (b : Bool) (x y : A) → b ≡ true → (if b then x else y) ≡ x
when_true true x y e = refl
when_true false x y e = absurd (true≢false (sym e))

-- ---- look-ups

-- what is shown where an option holds of it
shown_map : {A B : Type 0} (front round : ℕ) (show : B → Answer) (f : A → B) (o : Option A) → shown_or front round show (option_map f o) ≡ shown_or front round (λ x. show (f x)) o
shown_map front round show f None = refl
shown_map front round show f (Some x) = refl

alike : {A : Type 0} (show : ℕ → ℕ → ℕ → A → Answer) (f g r s v w : ℕ) (o p : Option A) → f ≡ g → r ≡ s → v ≡ w → o ≡ p → shown_or f r (show f r v) o ≡ shown_or g s (show g s w) p
alike show f g r s v w o p a b c d =
    ap (λ x. shown_or x r (show x r v) o) a
    ∙ ap (λ x. shown_or g x (show g x v) o) b
    ∙ ap (λ x. shown_or g s (show g s x) o) c
    ∙ ap (shown_or g s (show g s w)) d

-- what a look-up after a round gives is the answer that is due there
at_told : {A : Type 0} (h : Held) (round : Option ℕ) (Shows : ℕ → A → Type 0) (show : A → Answer) (due : ℕ → Answer) (r : Result A LookRefusal) (x : Answer)
    → ((a : A) → Shows (round_of h round) a → show a ≡ due (round_of h round)) → LooksAt h round Shows r → IsShown show r x → x ≡ looked_at (front_of h) round due
at_told h round Shows show due (Ok a) x each looks is =
    is ∙ each a looks.1 ∙ sym (when_false (nat_lt (front_of h) (round_of h round)) _ _ (le-ltb (front_of h) (round_of h round) looks.0))
at_told h round Shows show due (Err (unshown.TooNew front)) x each looks is =
    is ∙ ap too_new looks.0 ∙ sym (when_true (nat_lt (front_of h) (round_of h round)) _ _ (lt-ltb (front_of h) (round_of h round) looks.1))
at_told h round Shows show due (Err (unshown.BelowLookback front)) x each looks is = absurd looks
at_told h round Shows show due (Err unshown.Memory) x each looks is = absurd is

-- the same of what consensus asks
back_told : {A : Type 0} (h : Held) (round : Option ℕ) (Shows : ℕ → A → Type 0) (show : A → Answer) (due : ℕ → Answer) (r : Result A LookRefusal) (x : Answer)
    → ((a : A) → Shows (round_of h round) a → show a ≡ due (round_of h round)) → LooksBack h round Shows r → IsShown show r x → x ≡ looked_back (front_of h) round due
back_told h round Shows show due (Ok a) x each looks is =
    is ∙ each a looks.2
    ∙ sym (when_false (nat_lt (round_of h round + lookback) (front_of h)) _ _ (le-ltb (round_of h round + lookback) (front_of h) looks.1))
    ∙ sym (when_false (nat_lt (front_of h) (round_of h round)) _ _ (le-ltb (front_of h) (round_of h round) looks.0))
back_told h round Shows show due (Err (unshown.TooNew front)) x each looks is =
    is ∙ ap too_new looks.0 ∙ sym (when_true (nat_lt (front_of h) (round_of h round)) _ _ (lt-ltb (front_of h) (round_of h round) looks.1))
back_told h round Shows show due (Err (unshown.BelowLookback front)) x each looks is =
    let within : round_of h round ≤ front_of h = omega (arith, looks.1) in
    is ∙ ap below_lookback looks.0
    ∙ sym (when_true (nat_lt (round_of h round + lookback) (front_of h)) _ _ (lt-ltb (round_of h round + lookback) (front_of h) looks.1))
    ∙ sym (when_false (nat_lt (front_of h) (round_of h round)) _ _ (le-ltb (front_of h) (round_of h round) within))
back_told h round Shows show due (Err unshown.Memory) x each looks is = absurd looks

-- an answer can be printed where what it shows can
sound_told : {A : Type 0} (show : A → Answer) (r : Result A LookRefusal) (x : Answer) → IfOk r (λ a. IsSound (show a)) → IsShown show r x → IsSound x
sound_told show (Ok a) x sound is = subst IsSound (sym is) sound
sound_told show (Err (unshown.TooNew front)) x sound is = let s : IsSound (too_new front) = tt in subst IsSound (sym is) s
sound_told show (Err (unshown.BelowLookback front)) x sound is = let s : IsSound (below_lookback front) = tt in subst IsSound (sym is) s
sound_told show (Err unshown.Memory) x sound is = absurd is

every : {A : Type 0} (P : A → Type 0) (r : Result A LookRefusal) → ((a : A) → P a) → IfOk r P
every P (Ok a) each = each a
every P (Err r) each = tt

sound_or : {A : Type 0} (front round : ℕ) (show : A → Answer) (o : Option A) → ((a : A) → IsSound (show a)) → IsSound (shown_or front round show o)
sound_or front round show None each = tt
sound_or front round show (Some a) each = each a

-- a look-up of a kind
module _ {A E : Type 0} (h : Held) (round : Option ℕ) (Shows : ℕ → A → Type 0) (show : A → Answer) (due : ℕ → Answer) (r : Result A LookRefusal) (out : Result Answer E) where
  at_replied : ((a : A) → Shows (round_of h round) a → show a ≡ due (round_of h round)) → IfOk r (λ a. IsSound (show a)) → LooksAt h round Shows r → IfOk out (IsShown show r)
      → IfOk out (λ x. IsSound x × ((body : List ℕ) → x ≡ looked_at (front_of h) round due))
  at_replied each sound looks shown =
      IfOk-weaker out (IsShown show r) (λ x. IsSound x × ((body : List ℕ) → x ≡ looked_at (front_of h) round due)) (λ x is. (sound_told show r x sound is, λ body. at_told h round Shows show due r x each looks is)) shown

  back_replied : ((a : A) → Shows (round_of h round) a → show a ≡ due (round_of h round)) → IfOk r (λ a. IsSound (show a)) → LooksBack h round Shows r → IfOk out (IsShown show r)
      → IfOk out (λ x. IsSound x × ((body : List ℕ) → x ≡ looked_back (front_of h) round due))
  back_replied each sound looks shown =
      IfOk-weaker out (IsShown show r) (λ x. IsSound x × ((body : List ℕ) → x ≡ looked_back (front_of h) round due)) (λ x is. (sound_told show r x sound is, λ body. back_told h round Shows show due r x each looks is)) shown

-- ---- rows

-- what a row shows after a round
abbrev row_due : Held → Key → (ℕ → ℕ → ℕ → Row → Answer) → ℕ → Answer
row_due h key show n = shown_or (front_of h) n (λ (s : Stored). show (front_of h) n (level_at h.origin h.blocks n) s.row) (row_at h.origin h.blocks n key)

row_told : (h : Held) (key : Key) (show : ℕ → ℕ → ℕ → Row → Answer) (n : ℕ) (a : RowAnswer) → ShowsRow h key n a → row_shown (λ a. show a.front a.round a.level) a ≡ row_due h key show n
row_told h key show n a x =
    let level = level_at h.origin h.blocks n in
    let o = row_at h.origin h.blocks n key in
    alike show a.front (front_of h) a.round n a.level level (option_copied a.row) (option_map (λ (s : Stored). s.row) o) x.front x.round_is x.level x.row
    ∙ shown_map (front_of h) n (show (front_of h) n level) (λ (s : Stored). s.row) o

account_sound : (front round level : ℕ) (who : Address) (x : Row) → IsKept (keys.Account who) x → IsSound (account_of front round level x)
account_sound front round level who (rows.Account r) kept = kept.0.1
account_sound front round level who (rows.Asset r) kept = tt
account_sound front round level who (rows.App r) kept = tt
account_sound front round level who (rows.Box r) kept = tt

row_sound : (front round level : ℕ) (who : Address) (o : Option Row) → IfSome o (IsKept (keys.Account who)) → IsSound (shown_or front round (account_of front round level) o)
row_sound front round level who None kept = tt
row_sound front round level who (Some x) kept = account_sound front round level who x kept

asset_sound : (front round : ℕ) (x : Row) → IsSound (asset_of front round x)
asset_sound front round (rows.Account r) = tt
asset_sound front round (rows.Asset r) = tt
asset_sound front round (rows.App r) = tt
asset_sound front round (rows.Box r) = tt

app_sound : (front round : ℕ) (x : Row) → IsSound (app_of front round x)
app_sound front round (rows.Account r) = tt
app_sound front round (rows.Asset r) = tt
app_sound front round (rows.App r) = tt
app_sound front round (rows.Box r) = tt

box_sound : (front round : ℕ) (x : Row) → IsSound (box_of front round x)
box_sound front round (rows.Account r) = tt
box_sound front round (rows.Asset r) = tt
box_sound front round (rows.App r) = tt
box_sound front round (rows.Box r) = tt

-- a kept account row is shown with its counts in their range
pub account_replied : {E : Type 0} (h : Held) (who : Address) (round : Option ℕ) (r : Result RowAnswer LookRefusal) (out : Result Answer E)
    → LooksAt h round (ShowsRow h (keys.Account who)) r → IfOk r (λ a. IfSome (option_copied a.row) (IsKept (keys.Account who))) → IfOk out (IsShown account_shown r) → IfOk out (IsLooked h (asks.Account who round))
account_replied h who round r out looks kept shown =
    at_replied h round (ShowsRow h (keys.Account who)) account_shown (row_due h (keys.Account who) account_of) r out (λ a x. row_told h (keys.Account who) account_of (round_of h round) a x)
    (IfOk-weaker r (λ a. IfSome (option_copied a.row) (IsKept (keys.Account who))) (λ a. IsSound (account_shown a)) (λ a k. row_sound a.front a.round a.level who (option_copied a.row) k) kept) looks shown

pub asset_replied : {E : Type 0} (h : Held) (who : Address) (id : ℕ) (round : Option ℕ) (r : Result RowAnswer LookRefusal) (out : Result Answer E)
    → LooksAt h round (ShowsRow h (keys.Resource who id)) r → IfOk out (IsShown asset_shown r) → IfOk out (IsLooked h (asks.Asset who id round))
asset_replied h who id round r out looks shown =
    at_replied h round (ShowsRow h (keys.Resource who id)) asset_shown (row_due h (keys.Resource who id) (λ f n l. asset_of f n)) r out (λ a x. row_told h (keys.Resource who id) (λ f n l. asset_of f n) (round_of h round) a x)
    (every (λ a. IsSound (asset_shown a)) r (λ a. sound_or a.front a.round (asset_of a.front a.round) (option_copied a.row) (asset_sound a.front a.round))) looks shown

pub app_replied : {E : Type 0} (h : Held) (who : Address) (id : ℕ) (round : Option ℕ) (r : Result RowAnswer LookRefusal) (out : Result Answer E)
    → LooksAt h round (ShowsRow h (keys.Resource who id)) r → IfOk out (IsShown app_shown r) → IfOk out (IsLooked h (asks.App who id round))
app_replied h who id round r out looks shown =
    at_replied h round (ShowsRow h (keys.Resource who id)) app_shown (row_due h (keys.Resource who id) (λ f n l. app_of f n)) r out (λ a x. row_told h (keys.Resource who id) (λ f n l. app_of f n) (round_of h round) a x)
    (every (λ a. IsSound (app_shown a)) r (λ a. sound_or a.front a.round (app_of a.front a.round) (option_copied a.row) (app_sound a.front a.round))) looks shown

pub box_replied : {E : Type 0} (h : Held) (app : ℕ) (name : BoxName) (round : Option ℕ) (r : Result RowAnswer LookRefusal) (out : Result Answer E)
    → LooksAt h round (ShowsRow h (keys.Box app name)) r → IfOk out (IsShown box_shown r) → IfOk out (IsLooked h (asks.BoxOf app name round))
box_replied h app name round r out looks shown =
    at_replied h round (ShowsRow h (keys.Box app name)) box_shown (row_due h (keys.Box app name) (λ f n l. box_of f n)) r out (λ a x. row_told h (keys.Box app name) (λ f n l. box_of f n) (round_of h round) a x)
    (every (λ a. IsSound (box_shown a)) r (λ a. sound_or a.front a.round (box_of a.front a.round) (option_copied a.row) (box_sound a.front a.round))) looks shown

-- ---- creators, money and stakes

pub creator_replied : {E : Type 0} (h : Held) (id : ℕ) (round : Option ℕ) (r : Result CreatorAnswer LookRefusal) (out : Result Answer E)
    → LooksAt h round (ShowsCreator h id) r → IfOk out (IsShown creator_shown r) → IfOk out (IsLooked h (asks.Creator id round))
creator_replied h id round r out looks shown =
    at_replied h round (ShowsCreator h id) creator_shown (λ n. shown_or (front_of h) n (answers.Creator (front_of h) n) (creator_after h.origin h.blocks n id)) r out (λ a x. ap creator_shown x)
    (every (λ a. IsSound (creator_shown a)) r (λ a. sound_or a.front a.round (answers.Creator a.front a.round) a.address (λ address. tt))) looks shown

supply_told : (h : Held) (n : ℕ) (a : SupplyAnswer) → ShowsSupply h n a → supply_shown a ≡ shown_or (front_of h) n (answers.Supply (front_of h) n) (totals_after h.origin h.blocks n)
supply_told h n a x = alike (λ f r v. answers.Supply f r) a.front (front_of h) a.round n 0 0 (Some a.totals) (totals_after h.origin h.blocks n) x.front x.round_is refl x.totals

supply_sound : (h : Held) (round : Option ℕ) (r : Result SupplyAnswer LookRefusal) → LooksAt h round (ShowsSupply h) r → IfOk r (λ a. IsSound (supply_shown a))
supply_sound h round (Ok a) looks = looks.1.sum
supply_sound h round (Err r) looks = tt

pub supply_replied : {E : Type 0} (h : Held) (round : Option ℕ) (r : Result SupplyAnswer LookRefusal) (out : Result Answer E)
    → LooksAt h round (ShowsSupply h) r → IfOk out (IsShown supply_shown r) → IfOk out (IsLooked h (asks.Supply round))
supply_replied h round r out looks shown =
    at_replied h round (ShowsSupply h) supply_shown (λ n. shown_or (front_of h) n (answers.Supply (front_of h) n) (totals_after h.origin h.blocks n)) r out (λ a x. supply_told h (round_of h round) a x)
    (supply_sound h round r looks) looks shown

pub stake_replied : {E : Type 0} (h : Held) (who : Address) (round : Option ℕ) (r : Result StakeAnswer LookRefusal) (out : Result Answer E)
    → LooksBack h round (ShowsStake h who) r → IfOk out (IsShown stake_shown r) → IfOk out (IsLooked h (asks.Online who round))
stake_replied h who round r out looks shown =
    back_replied h round (ShowsStake h who) stake_shown (λ n. shown_or (front_of h) n (online_of (front_of h) n) (stake_after h.origin h.blocks n who)) r out (λ a x. ap stake_shown x)
    (every (λ a. IsSound (stake_shown a)) r (λ a. sound_or a.front a.round (online_of a.front a.round) a.stake (λ stake. tt))) looks shown

abbrev circulation_due : Held → Option ℕ → ℕ → Answer
circulation_due h vote n = let v = unwrap_or vote (n + lookback) in shown_or (front_of h) n (answers.Circulation (front_of h) n v) (circulation_after h.origin h.blocks n v)

circulation_told : (h : Held) (vote : Option ℕ) (n : ℕ) (a : CirculationAnswer) → ShowsCirculation h vote n a → circulation_shown a ≡ circulation_due h vote n
circulation_told h vote n a x =
    let v = unwrap_or vote (n + lookback) in
    alike answers.Circulation a.front (front_of h) a.round n a.vote v (Some a.money) (circulation_after h.origin h.blocks n v) x.front x.round_is x.vote_is (x.money ∙ ap (circulation_after h.origin h.blocks n) x.vote_is)

pub circulation_replied : {E : Type 0} (h : Held) (round vote : Option ℕ) (r : Result CirculationAnswer LookRefusal) (out : Result Answer E)
    → LooksBack h round (ShowsCirculation h vote) r → IfOk out (IsShown circulation_shown r) → IfOk out (IsLooked h (asks.Circulation round vote))
circulation_replied h round vote r out looks shown =
    back_replied h round (ShowsCirculation h vote) circulation_shown (circulation_due h vote) r out (λ a x. circulation_told h vote (round_of h round) a x)
    (every (λ a. IsSound (circulation_shown a)) r (λ a. tt)) looks shown

pub status_replied : (h : Held) (a : StatusAnswer) → ShowsStatus h a → IsLooked h asks.Standing (status_shown a)
status_replied h a x = (tt, λ body. alike (λ f r v. answers.Standing f r) a.front (front_of h) a.floor 0 0 0 (Some a.hash) (hash_after h.origin h.blocks) x.front x.floor refl x.hash)

-- ---- answers

-- the blocks stay, and the answer is the reply over all of them, or there was no memory
pub answered_same : (h : Held) (asked : Result Request FormFault) (body : List ℕ) (a : Answer) (t : Told) → t ≡ record { front = length h.blocks; answer = a } → Replies h.origin h.blocks asked body a ⊎ (a ≡ memory_answer) → IsAnswered h h asked body t
answered_same h asked body a t is reply =
    let whole : take (length h.blocks) h.blocks ≡ h.blocks = take_all (length h.blocks) h.blocks (omega arith) in
    let x : IsAnswered h h asked body (record { front = length h.blocks; answer = a }) = record {
      origin = refl;
      grows = inl refl;
      front = refl;
      told = record {
        low_is = omega arith;
        within = omega arith;
        reply = subst (λ list. Replies h.origin list asked body a ⊎ (a ≡ memory_answer)) (sym whole) reply;
      };
    } in
    subst (IsAnswered h h asked body) (sym is) x

-- the answer to a fault of form can be printed
pub form_sound : (fault : FormFault) → IsSound (form_answer fault)
form_sound forms.BadAddress = tt
form_sound forms.BadId = tt
form_sound forms.BadBox = tt
form_sound forms.BadQuery = tt
form_sound forms.NoRoute = tt
form_sound forms.Method = tt
form_sound forms.Memory = tt

-- ---- posted bytes

judged_prev : (front : ℕ) (s : State) (b : Block) → same_bytes b.header.prev (header_hash_of s.header) ≡ false → judged front s b ≡ Some (wrong_prev front (header_hash_of s.header))
judged_prev front s b e = when_false (same_bytes b.header.prev (header_hash_of s.header)) _ _ e

judged_step : (front : ℕ) (s : State) (b : Block) → same_bytes b.header.prev (header_hash_of s.header) ≡ true → judged front s b ≡ refused front (step s b)
judged_step front s b e = when_true (same_bytes b.header.prev (header_hash_of s.header)) _ _ e

-- the answer to a block of the next round
next_posts : (o s : State) (blocks : List Block) (body : List ℕ) (b : Block) (continues : Bool) (a : Answer) → IsBlock body b → IsNext o blocks b continues s → judged (length blocks) s b ≡ Some a → Posts o blocks body a ⊎ (a ≡ memory_answer)
next_posts o s blocks body b continues a is next due = inl (inr (b, is, inr (inr (next.round, (s, next.replayed, due)))))

-- the refusal by the step
eval_posts : (o s : State) (blocks : List Block) (body : List ℕ) (b : Block) (e : EvalRefusal Never) → IsBlock body b → IsNext o blocks b true s → IsBroken s b (refusal_of e)
    → Posts o blocks body (eval_answer (length blocks) e) ⊎ (eval_answer (length blocks) e ≡ memory_answer)
eval_posts o s blocks body b (evals.Broken place rule) is next due = next_posts o s blocks body b true _ is next (judged_step (length blocks) s b next.prev ∙ ap (refused (length blocks)) due.0)
eval_posts o s blocks body b (evals.Header field) is next due = next_posts o s blocks body b true _ is next (judged_step (length blocks) s b next.prev ∙ ap (refused (length blocks)) due.0)
eval_posts o s blocks body b (evals.PoolShort pool owed) is next due = next_posts o s blocks body b true _ is next (judged_step (length blocks) s b next.prev ∙ ap (refused (length blocks)) due.0)
eval_posts o s blocks body b (evals.Expired place) is next due = next_posts o s blocks body b true _ is next (judged_step (length blocks) s b next.prev ∙ ap (refused (length blocks)) due.0)
eval_posts o s blocks body b (evals.View never) is next due = inr refl
eval_posts o s blocks body b evals.Memory is next due = absurd due

outside : (blocks : List Block) (next front : ℕ) → next ≡ suc (length blocks) → front ≡ length blocks → answers.Refused 409 errors.WrongRound (record nothing { front = Some front; next = Some next }) ≡ wrong_round (length blocks)
outside blocks next front n f = ap₂ (λ x y. answers.Refused 409 errors.WrongRound (record nothing { front = Some x; next = Some y })) f n

-- why bytes are refused is the answer
refused_posts : (o : State) (blocks : List Block) (body : List ℕ) (r : AcceptRefusal) → IsRefused o blocks body r → Posts o blocks body (refusal_answer r) ⊎ (refusal_answer r ≡ memory_answer)
refused_posts o blocks body (refusals.Undecodable f) h = inl (inl (f, h, refl))
refused_posts o blocks body (refusals.WrongRound next front) (b, is, (out, n, f)) = inl (inr (b, is, inl (out, outside blocks next front n f)))
refused_posts o blocks body (refusals.Fork hash front) (b, is, ((kept, here, other, hashed), f)) = inl (inr (b, is, inr (inl (kept, here, inr (other, ap₂ fork f hashed)))))
refused_posts o blocks body (refusals.WrongPrev hash front) (b, is, (s, next, hashed, f)) =
    next_posts o s blocks body b false (wrong_prev front hash) is next (judged_prev (length blocks) s b next.prev ∙ ap Some (sym (ap₂ wrong_prev f hashed)))
refused_posts o blocks body (refusals.Eval e front) (b, is, (s, next, due, f)) =
    subst (λ n. Posts o blocks body (eval_answer n e) ⊎ (eval_answer n e ≡ memory_answer)) (sym f) (eval_posts o s blocks body b e is next due)
refused_posts o blocks body refusals.Memory h = inr refl

-- a block that is taken
pub answered_taken : (h k : Held) (body : List ℕ) (b : Block) (front : ℕ) (t : Told) → k ≡ record h { blocks = h.blocks ++ b ∷ [] } → IsBlock body b → b.header.round ≡ suc (length h.blocks) → front ≡ length k.blocks → t ≡ record { front = length k.blocks; answer = taken front front } → IsAnswered h k (Ok asks.Post) body t
answered_taken h k body b front t grown is round at told =
    let new : Held = record h { blocks = h.blocks ++ b ∷ [] } in
    let long : length new.blocks ≡ suc (length h.blocks) = omega (arith, length-append h.blocks (b ∷ [])) in
    let whole : take (length new.blocks) new.blocks ≡ new.blocks = take_all (length new.blocks) new.blocks (omega arith) in
    let same : b.header.round ≡ length new.blocks = round ∙ sym long in
    let a : Answer = taken (length new.blocks) (length new.blocks) in
    let kept : IsRepeated new.blocks body b.header.round a = (b, (h.blocks, [], refl, round), inl (is, ap (taken (length new.blocks)) (sym same))) in
    let posts : Replies h.origin new.blocks (Ok asks.Post) body a = inr (b, is, inr (inl kept)) in
    let x : IsAnswered h new (Ok asks.Post) body (record { front = length new.blocks; answer = a }) = record {
      origin = refl;
      grows = inr (b, is, refl, refl);
      front = refl;
      told = record {
        low_is = omega (arith, long);
        within = omega arith;
        reply = subst (λ list. Replies h.origin list (Ok asks.Post) body a ⊎ (a ≡ memory_answer)) (sym whole) (inl posts);
      };
    } in
    let e1 : t ≡ record { front = length k.blocks; answer = taken (length k.blocks) (length k.blocks) } = told ∙ ap (λ n. record { front = length k.blocks; answer = taken n n }) at in
    let e2 : t ≡ record { front = length new.blocks; answer = a } = e1 ∙ ap (λ (z : Held). record { front = length z.blocks; answer = taken (length z.blocks) (length z.blocks) }) grown in
    let y : IsAnswered h new (Ok asks.Post) body t = subst (IsAnswered h new (Ok asks.Post) body) (sym e2) x in
    subst (λ (z : Held). IsAnswered h z (Ok asks.Post) body t) (sym grown) y

-- what comes of posted bytes is the answer to them
pub accept_answered : (before after : Held) (body : List ℕ) (r : Result Accepted AcceptRefusal) (t : Told) → Accepts before after body r → t ≡ record { front = length after.blocks; answer = accept_answer r } → IsAnswered before after (Ok asks.Post) body t
accept_answered before after body (Ok a) t (inl (same, (b, is, (kept, again, here, at)))) told =
    let answer : taken a.front a.round ≡ taken (length before.blocks) b.header.round = ap (λ (x : Accepted). taken x.front x.round) at in
    let posts : Posts before.origin before.blocks body (taken a.front a.round) = inr (b, is, inr (inl (kept, here, inl (again, answer)))) in
    subst (λ (h : Held). IsAnswered before h (Ok asks.Post) body t) (sym same) (answered_same before (Ok asks.Post) body (taken a.front a.round) t (told ∙ ap (λ (h : Held). record { front = length h.blocks; answer = taken a.front a.round }) same) (inl posts))
accept_answered before after body (Ok a) t (inr (b, is, round, grown, at)) told =
    let long : length after.blocks ≡ suc (length before.blocks) = ap (λ (h : Held). length h.blocks) grown ∙ (let x = length-append before.blocks (b ∷ []) in omega (arith, x)) in
    answered_taken before after body b b.header.round t grown is round (round ∙ sym long) (told ∙ ap (λ (x : Accepted). record { front = length after.blocks; answer = taken x.front x.round }) at)
accept_answered before after body (Err r) t (same, why) told =
    subst (λ (h : Held). IsAnswered before h (Ok asks.Post) body t) (sym same) (answered_same before (Ok asks.Post) body (refusal_answer r) t (told ∙ ap (λ (h : Held). record { front = length h.blocks; answer = refusal_answer r }) same) (refused_posts before.origin before.blocks body r why))

-- ---- refusals

-- the block is the next one, and continues the last one or does not
pub next_is : (s : States) (k : IsStates s) (b : Block) (same : Bool) → b.header.round ≡ suc (length (held s).blocks) → same_bytes b.header.prev s.before.hash ≡ same → IsNext (held s).origin (held s).blocks b same (last_state s k)
next_is s k b same round e = record { round = round; replayed = led_to_last s k; prev = ap (same_bytes b.header.prev) (sym k.hash_is) ∙ e }

pub flipped : (b c : Bool) → c ≡ not b → b ≡ not c
flipped true c e = ap not (sym e)
flipped false c e = ap not (sym e)

pub bytes_are : (a b : List ℕ) → a ≡ b → same_bytes a b ≡ true
bytes_are a b e = (bytes_eq-Decides a b).1 e

-- bytes that spell no block
pub fault_refused : (o : State) (blocks : List Block) (body : List ℕ) (f : BlockFault) → BlockMeansUnless body (Err f) → IsRefused o blocks body (outer_fault f)
fault_refused o blocks body (faults.Decode places.Memory) x = tt
fault_refused o blocks body (faults.Decode f) x = x
fault_refused o blocks body (faults.Field name) x = x
fault_refused o blocks body (faults.Range name) x = x
fault_refused o blocks body faults.Memory x = tt

-- a block that the step refuses
pub step_refused : (o s : State) (blocks : List Block) (body : List ℕ) (b : Block) (front : ℕ) (e : EvalRefusal Never) → IsBlock body b → IsNext o blocks b true s → IsStepRefusal s b (refusal_of e) → front ≡ length blocks → IsRefused o blocks body (outer_refusal front e)
step_refused o s blocks body b front (evals.Broken place rule) is next due f = (b, is, (s, next, due, f))
step_refused o s blocks body b front (evals.Header field) is next due f = (b, is, (s, next, due, f))
step_refused o s blocks body b front (evals.PoolShort pool owed) is next due f = (b, is, (s, next, due, f))
step_refused o s blocks body b front (evals.Expired place) is next due f = (b, is, (s, next, due, f))
step_refused o s blocks body b front (evals.View never) is next due f = (b, is, (s, next, due, f))
step_refused o s blocks body b front evals.Memory is next due f = tt
