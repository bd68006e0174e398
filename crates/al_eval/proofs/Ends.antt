-- What a step that ended answers.
use Rattle.std.proofs.Common.{All, slice_index_or, ◌≡◌, ◌∙◌, ◌≤◌, ◌<◌, ◌+◌, ◌-◌, ◌^◌, sym, ap, ap₂, subst, arith, ℕ, List, map, Result, Ok, Err}
use Rattle.al_base.specs.declared.account.Status.TheVariants.{Offline, Online}
use Rattle.al_base.specs.declared.key.CreatorChange.{CreatorChange}
use Rattle.al_block.specs.declared.block.Block.{Block}
use Rattle.al_block.specs.declared.header.Header.{Header}
use Rattle.al_deltas.specs.declared.delta.RoundDelta.{RoundDelta}
use Rattle.al_rows.specs.Limits.{max_balance}
use Rattle.al_rewards.specs.declared.totals.Totals.{Totals}
use Rattle.al_rewards.specs.Totals.{AreTotals, all_units, capped, raised}
use Rattle.al_rows.specs.Rows.{RowMap, bare}
use Rattle.al_overlay.specs.Rules.{then_do}
use Rattle.al_moves.specs.Changes.{AreChanges, change_of}
use Rattle.al_moves.specs.Money.{IsWithin, money}
use Rattle.al_moves.specs.Totals.{counts}
use Rattle.al_overlay.specs.Work.{Worked}
use Rattle.al_moves.proofs.Counts.{counts_fit, counts_raised, money_by, money_counted, total-le, units_by, units_within}
use Rattle.al_eval.specs.declared.before.Before.{Before}
use Rattle.al_eval.specs.declared.before.EvalRefusal.{EvalRefusal}
use Rattle.al_tail.specs.declared.tail.Entry.{Entry}
use Rattle.al_tail.specs.Past.{entry_of, live}
use Rattle.al_moves.specs.Created.{AreCreatorChanges, creator_change_of}
use Rattle.al_moves.specs.Online.{AreOnlineChanges, online_change_of}
use Rattle.al_base.specs.declared.online.OnlineChange.{OnlineChange}
use Rattle.al_overlay.specs.Work.{HasOneCreator}
use Rattle.al_bodies.specs.declared.body.Body.{Body}
use Rattle.al_bodies.specs.declared.body.Body.TheVariants as body
use Rattle.al_txn.specs.declared.txn.Item.{Item}
use Rattle.al_bodies.specs.declared.effect.Effect.{Effect}
use Rattle.al_bodies.specs.declared.effect.Effect.TheVariants as effect
use Rattle.al_bodies.specs.declared.effect.Inner.{Inner}
use Rattle.al_bodies.specs.declared.effect.Inner.TheVariants as inner
use Rattle.al_resources.specs.Effects.{EffectAsksOne, InnerAsksOne}
use Rattle.al_eval.specs.Body.{BodyAsksOne, IsItemInRange}
use Rattle.al_eval.specs.Sound.{AreInRange, Consistent, IsStep, IsStepRefusal, LeadsTo}
use Rattle.al_eval.specs.Refusals.{Refusal, Verdict, refused, failed, no_memory, refusal_of, IsDue}
use Rattle.al_eval.specs.Answers.{AskOne, CreatorsFollow, Evals, OnlineFollows, TotalsFollow}
use Rattle.al_eval.specs.Expiry.{all_expired}
use Rattle.al_eval.specs.Snaps.{snap_of}
use Rattle.al_eval.specs.Steps.{block_rows}
use Rattle.al_eval.specs.Pool.{units_before}
use Rattle.al_eval.specs.State.{State, after, before_of, counts_in, step}
use Rattle.al_eval.proofs.Sounds.{Leads, block_leads, block_refused, counts_after, due_of, step_keeps}
use Rattle.al_eval.proofs.Lives.{items_live}
use Rattle.al_eval.proofs.Onlines.{snap_follows}
use Rattle.al_eval.specs.Header.{first_fault, header_checks, rewards_checks, payset_fault, counter_fault, unless_fault}
use Rattle.al_eval.specs.Pool.{rewards_due, owed_by, pool_paid}
use Rattle.al_eval.proofs.Chains.{bare_stamped}

-- ---- the units

-- with at most the most money there are so few units that they can be counted
few_units : (level : ℕ) (m : RowMap) → money level m ≤ max_balance → capped (all_units (counts level m)) ≡ all_units (counts level m)
unfolding counts
few_units level m l =
    let online = total-le (units_by Online) (money_by level Online) m (λ k r. units_within level Online r) in
    let offline = total-le (units_by Offline) (money_by level Offline) m (λ k r. units_within level Offline r) in
    omega (arith, money_counted level m)

-- ---- the totals of a delta

ok_is : (m n : RowMap) → ◌≡◌ {A = Result RowMap Refusal} (Ok m) (Ok n) → m ≡ n
ok_is m n e = cc

few_money : (level : ℕ) (m : RowMap) → IsWithin level m → money level m < 2 ^ 64
unfolding IsWithin
few_money level m l = omega arith

-- the work's totals are those of the rows that are due
pub totals_follow : (due : Result RowMap Refusal) (s : Before) (h : Header) (old : RowMap) (new : Worked) (risen totals : Totals) (d : RoundDelta) → due ≡ Ok new.now → new.block ≡ old → new.level ≡ h.level
    → (AreTotals (raised h.level s.totals) → risen ≡ raised h.level s.totals) → (risen ≡ counts new.level new.block → IsWithin new.level new.block → IsWithin new.level new.now → totals ≡ counts new.level new.now) → d.totals ≡ totals
    → (n : RowMap) → due ≡ Ok n → raised h.level s.totals ≡ counts h.level old → IsWithin h.level old → IsWithin h.level n → d.totals ≡ counts h.level n
totals_follow due s h old new risen totals d is block level raise count told n e anew before after =
    let now : new.now ≡ n = ok_is new.now n (sym is ∙ e) in
    let fits : AreTotals (raised h.level s.totals) = subst AreTotals (sym anew) (counts_fit h.level old (few_money h.level old before)) in
    let one : risen ≡ counts new.level new.block = raise fits ∙ anew ∙ ap₂ counts (sym level) (sym block) in
    let all = count one (subst (λ l. IsWithin l new.block) (sym level) (subst (IsWithin h.level) (sym block) before)) (subst (λ l. IsWithin l new.now) (sym level) (subst (IsWithin h.level) (sym now) after)) in
    told ∙ all ∙ ap₂ counts level now

-- ---- the creators

inner_asks : (m : RowMap) → ((id : ℕ) → HasOneCreator m id) → (i : Inner) → InnerAsksOne m i
inner_asks m one (inner.Pay p) = tt
inner_asks m one (inner.Move t) = one t.asset

effect_asks : (m : RowMap) → ((id : ℕ) → HasOneCreator m id) → (e : Effect) → EffectAsksOne m e
effect_asks m one (effect.Create gu gs lu ls pages state) = tt
effect_asks m one (effect.SetState state) = tt
effect_asks m one effect.Remove = tt
effect_asks m one (effect.OptIn state) = tt
effect_asks m one (effect.SetLocal whose state) = tt
effect_asks m one effect.OptOut = tt
effect_asks m one (effect.PutBox name value) = tt
effect_asks m one (effect.RemoveBox name) = tt
effect_asks m one (effect.Inner i) = inner_asks m one i

ask_one : (m : RowMap) → ((id : ℕ) → HasOneCreator m id) → (effects : List Effect) (b : Body) → BodyAsksOne m effects b
ask_one m one effects (body.Pay p) = tt
ask_one m one effects (body.KeyReg k) = tt
ask_one m one effects (body.Config c) = one c.asset
ask_one m one effects (body.Move t) = one t.asset
ask_one m one effects (body.Freeze f) = one f.asset
ask_one m one effects (body.App a) = (λ _ id. one id, one a.app, λ k d l. effect_asks m one (slice_index_or effects k d))

-- where each id has at most one creator, so has each that a block asks for
pub all_ask : (m : RowMap) (items : List Item) → ((id : ℕ) → HasOneCreator m id) → AskOne m items
all_ask m items one = λ k d l. (let i = slice_index_or items k d in ask_one m one i.effects i.txn.body)

-- the changes of a work's creators are those of the rows that are due
pub creators_follow : (due : Result RowMap Refusal) (old before now : RowMap) (cs ds : List CreatorChange) → due ≡ Ok now → before ≡ old → ds ≡ cs → AreCreatorChanges before now (map creator_change_of cs) → (n : RowMap) → due ≡ Ok n → AreCreatorChanges old n (map creator_change_of ds)
creators_follow due old before now cs ds is block same changes n e =
    subst (λ xs. AreCreatorChanges old n (map creator_change_of xs)) (sym same) (subst (λ m. AreCreatorChanges m n (map creator_change_of cs)) block (subst (λ m. AreCreatorChanges before m (map creator_change_of cs)) (ok_is now n (sym is ∙ e)) changes))

-- and so are those of what consensus knows of accounts
pub online_follows : (due : Result RowMap Refusal) (old before now : RowMap) (cs ds : List OnlineChange) → due ≡ Ok now → before ≡ old → ds ≡ cs → AreOnlineChanges before now (map online_change_of cs) → (n : RowMap) → due ≡ Ok n → AreOnlineChanges old n (map online_change_of ds)
online_follows due old before now cs ds is block same changes n e =
    subst (λ xs. AreOnlineChanges old n (map online_change_of xs)) (sym same) (subst (λ m. AreOnlineChanges m n (map online_change_of cs)) block (subst (λ m. AreOnlineChanges before m (map online_change_of cs)) (ok_is now n (sym is ∙ e)) changes))

-- a consistent state has at most one creator of each id
one_creator : (s : State) → Consistent s → (id : ℕ) → HasOneCreator (bare s.rows) id
one_creator s consistent id = λ a b. consistent.resources.creators a b id

-- a block is in range where its transactions are
pub ranged_of : (b : Block) (items : List Item) → items ≡ b.items → All IsItemInRange items → AreInRange b
ranged_of b items e h = subst (All IsItemInRange) e h

-- ---- a step over a consistent state

-- the units of a consistent state can be counted
units_are : (s : State) → Consistent s → units_before (before_of s) ≡ all_units (counts_in s)
units_are s consistent = few_units s.header.level (bare s.rows) consistent.money

due_before : (s : State) (b : Block) → Consistent s → block_rows (before_of s) (units_before (before_of s)) (map entry_of s.past) b (bare s.rows) ≡ due_of s b
due_before s b consistent = ap (λ u. block_rows (before_of s) u (map entry_of s.past) b (bare s.rows)) (units_are s consistent)

-- the totals at the new level, before anything else changes
raised_before : (s : State) (b : Block) (n : RowMap) → Leads s b n → raised b.header.level (counts_in s) ≡ counts b.header.level (bare s.rows)
raised_before s b n leads =
    let up : s.header.level + (b.header.level - s.header.level) ≡ b.header.level = (let l = leads.rises in omega arith) in
    sym (subst (λ l. counts l (bare s.rows) ≡ raised l (counts s.header.level (bare s.rows))) up (counts_raised s.header.level (b.header.level - s.header.level) (bare s.rows) leads.exact))

fits_before : (s : State) (b : Block) (n : RowMap) → Leads s b n → IsWithin b.header.level (bare s.rows) × IsWithin b.header.level n
unfolding IsWithin
fits_before s b n leads = (leads.most, (let l = leads.within in omega arith))

ok_step : (s : State) (b : Block) (d : RoundDelta) → AreInRange b → Consistent s → (n : RowMap) × (due_of s b ≡ Ok n) × AreChanges (bare s.rows) n (map change_of d.changes)
    → ((n : RowMap) → due_of s b ≡ Ok n → AreCreatorChanges (bare s.rows) n (map creator_change_of d.creators))
    → ((n : RowMap) → due_of s b ≡ Ok n → AreOnlineChanges (bare s.rows) n (map online_change_of d.online))
    → ((n : RowMap) → due_of s b ≡ Ok n → raised b.header.level (counts_in s) ≡ counts b.header.level (bare s.rows) → IsWithin b.header.level (bare s.rows) → IsWithin b.header.level n → d.totals ≡ counts b.header.level n) → (t : State) × LeadsTo s b d t
unfolding step
ok_step s b d ranged consistent h created stakes follow =
    let leads = block_leads s b h.0 ranged consistent h.1 in
    let t = after s b h.0 in
    let fits = fits_before s b h.0 leads in
    let stepped : step s b ≡ Ok t = ap (λ d. then_do d (λ m. Ok (after s b m))) h.1 in (
      t,
      record {
        stepped = stepped;
        rows = subst (λ m. AreChanges (bare s.rows) m (map change_of d.changes)) (sym (bare_stamped b.header.round s.rows h.0)) h.2;
        creators = subst (λ m. AreCreatorChanges (bare s.rows) m (map creator_change_of d.creators)) (sym (bare_stamped b.header.round s.rows h.0)) (created h.0 h.1);
        totals = follow h.0 h.1 (raised_before s b h.0 leads) fits.0 fits.1 ∙ sym (counts_after s b h.0);
        online = ap (snap_of b.header.level) (bare_stamped b.header.round s.rows h.0) ∙ snap_follows s.header.level b.header.level (bare s.rows) h.0 d.online (stakes h.0 h.1);
        consistent = leads.consistent;
        sound = leads.sound;
        money = λ sound. step_keeps s t b ranged sound stepped;
      },
    )

due_err : (s : State) (b : Block) (r : Refusal) → due_of s b ≡ Err r → step s b ≡ Err r
unfolding step
due_err s b r e = ap (λ d. then_do d (λ m. Ok (after s b m))) e

refused_step : (s : State) (b : Block) (v : Verdict) → AreInRange b → Consistent s → IsDue (due_of s b) v → IsStepRefusal s b v
refused_step s b (refused r) ranged consistent h = (due_err s b r h, block_refused s b r ranged consistent h)
refused_step s b failed ranged consistent h = tt
refused_step s b no_memory ranged consistent h = tt

-- over what is due of a consistent state
due_step : {F : Type 0} (s : State) (b : Block) (r : Result RoundDelta (EvalRefusal F)) → AreInRange b → Consistent s → Evals (due_of s b) (bare s.rows) r → CreatorsFollow (due_of s b) (bare s.rows) r → OnlineFollows (due_of s b) (bare s.rows) r → TotalsFollow (due_of s b) (before_of s) b.header (bare s.rows) r → IsStep s b r
due_step s b (Ok d) ranged consistent h created stakes follow = ok_step s b d ranged consistent h created stakes follow
due_step s b (Err e) ranged consistent h created stakes follow = refused_step s b (refusal_of e) ranged consistent h

-- what is due depends on the live entries alone
due_live : (known : Before) (units : ℕ) (tail past : List Entry) (b : Block) (m : RowMap) → live b.header.round tail ≡ live b.header.round past → block_rows known units tail b m ≡ block_rows known units past b m
unfolding block_rows
due_live known units tail past b m alive = λ i.
    then_do (unless_fault (first_fault (header_checks known b.header)) m)
    (λ m. then_do (unless_fault (first_fault (rewards_checks (rewards_due known b.header.round units m) b.header)) m)
    (λ m. then_do (pool_paid known.chain.special.pool (owed_by known units b.header) m)
    (λ m. then_do (unless_fault (payset_fault b) m)
    (λ m. then_do (items_live known.chain b.header.level b.header.round 0 tail past known.header.counter 0 b.items m alive i)
    (λ n. then_do (all_expired b.header.round 0 b.header.expired n.rows)
    (λ k. unless_fault (counter_fault b.header n.counter) k))))))

-- what an answer says of what is due of rows
abbrev Says : {F : Type 0} → Result RowMap Refusal → Before → Block → RowMap → Result RoundDelta (EvalRefusal F) → Type 0
Says due known b rows r = Evals due rows r × CreatorsFollow due rows r × OnlineFollows due rows r × TotalsFollow due known b.header rows r

-- `eval` over a consistent state is the step
pub eval_is_step : {F : Type 0} (known : Before) (tail : List Entry) (rows : RowMap) (b : Block) (r : Result RoundDelta (EvalRefusal F)) → AreInRange b
    → (AskOne rows b.items → Evals (block_rows known (units_before known) tail b rows) rows r) → (((id : ℕ) → HasOneCreator rows id) → CreatorsFollow (block_rows known (units_before known) tail b rows) rows r)
    → (AskOne rows b.items → OnlineFollows (block_rows known (units_before known) tail b rows) rows r)
    → (AskOne rows b.items → TotalsFollow (block_rows known (units_before known) tail b rows) known b.header rows r)
    → (s : State) → known ≡ before_of s → live b.header.round tail ≡ live b.header.round (map entry_of s.past) → rows ≡ bare s.rows → Consistent s → IsStep s b r
eval_is_step known tail rows b r ranged h created stakes follow s is alive told consistent =
    let due : block_rows known (units_before known) tail b rows ≡ due_of s b =
    due_live known (units_before known) tail (map entry_of s.past) b rows alive
    ∙ ap (λ (k : Before). block_rows k (units_before k) (map entry_of s.past) b rows) is ∙ ap (λ (m : RowMap). block_rows (before_of s) (units_before (before_of s)) (map entry_of s.past) b m) told ∙ due_before s b consistent in
    let one : (id : ℕ) → HasOneCreator rows id = subst (λ m. (id : ℕ) → HasOneCreator m id) (sym told) (one_creator s consistent) in
    let asks = all_ask rows b.items one in
    let all : Says (due_of s b) (before_of s) b (bare s.rows) r = subst (λ m. Says (due_of s b) (before_of s) b m r) told (subst (λ (k : Before). Says (due_of s b) k b rows r) is (subst (λ d. Says d known b rows r) due (h asks, created one, stakes asks, follow asks))) in
    due_step s b r ranged consistent all.0 all.1 all.2 all.3
