-- One step after another, and a step that stops.
use Rattle.std.proofs.Common.{◌≡◌, ◌≤◌, ℕ, refl, sym, ap, ◌∙◌, subst, Bool, true, Result, Ok, Err, arith, IsErrAnd, OnOk, Option, Some, None}
use Rattle.std.proofs.lemmas.Result.{err_from_is_err_and}
use Rattle.al_base.specs.declared.key.Key.{Key}
use Rattle.al_rows.specs.declared.row.Row.{Row}
use Rattle.al_rows.specs.Finite.{set_at}
use Rattle.al_rows.specs.Rows.{RowMap}
use Rattle.al_overlay.specs.declared.rule.Rule.{Rule}
use Rattle.al_overlay.specs.declared.rule.Stop.{Stop}
use Rattle.al_overlay.specs.declared.rule.Stop.TheVariants as stop
use Rattle.al_overlay.specs.Rules.{then_do, unless_refused}
use Rattle.al_overlay.specs.Work.{Worked, IsFixed, Starts, Gives, IsCounted, Does, Looks, IsNoRule}

fixed-then : {t : Bool} {a b c : Worked} → IsFixed t a b → IsFixed t b c → IsFixed t a c
fixed-then p q = record {
  level = q.level ∙ p.level;
  round = q.round ∙ p.round;
  special = q.special ∙ p.special;
  failures = omega arith;
  lender = q.lender ∙ p.lender;
  block = λ e. q.block e ∙ p.block e;
}

pub fixed-itself : (t : Bool) (a : Worked) → IsFixed t a a
fixed-itself t a = record { level = refl; round = refl; special = refl; failures = omega arith; lender = refl; block = λ _. refl }

gives-stop : {F : Type 0} (T U : Type 0) (due : Result RowMap Rule) (f : RowMap → Result RowMap Rule) (e : Stop F) (m : RowMap) → Gives {T = T} due (Err e) m → Gives {T = U} (then_do due f) (Err e) m
gives-stop T U due f (stop.Rule r) m h = ap (λ z. then_do z f) h
gives-stop T U due f (stop.View v) m h = tt
gives-stop T U due f stop.Memory m h = tt

counted-stop : {F : Type 0} (T U : Type 0) (e : Stop F) (m n : ℕ) → IsCounted {T = T} (Err e) m n → IsCounted {T = U} (Err e) m n
counted-stop T U (stop.Rule r) m n h = tt
counted-stop T U (stop.View v) m n h = h
counted-stop T U stop.Memory m n h = tt

counted-later : {F T : Type 0} (r : Result T (Stop F)) (k m n : ℕ) → k ≤ m → IsCounted r m n → IsCounted r k n
counted-later (Ok x) k m n l h = tt
counted-later (Err (stop.Rule r)) k m n l h = tt
counted-later (Err (stop.View v)) k m n l h = omega arith
counted-later (Err stop.Memory) k m n l h = tt

starts-then : {F T : Type 0} (r : Result T (Stop F)) (a b c : Worked) → b.start ≡ a.start → Starts r b c → Starts r a c
starts-then (Ok x) a b c p q = q ∙ p
starts-then (Err e) a b c p q = tt

stops : {T E : Type 0} (s : Result T E) (e : E) → IsErrAnd s (λ x. x ≡ e) → s ≡ Err e
stops s e h = let p = err_from_is_err_and s h in p.1 ∙ ap Err p.2

-- the first stops
pub does-stop : {F T U : Type 0} (t : Bool) (due : Result RowMap Rule) (f : RowMap → Result RowMap Rule) (a b : Worked) (r : Result T (Stop F)) (s : Result U (Stop F)) (e : Stop F) → Does t due a b r → r ≡ Err e → IsErrAnd s (λ x. x ≡ e) → Does t (then_do due f) a b s
does-stop {F} {T} {U} t due f a b r s e d is so = subst (λ (z : Result U (Stop F)). Does t (then_do due f) a b z) (sym (stops s e so)) (
    let h = subst (λ (z : Result T (Stop F)). Does t due a b z) is d in
    record {
      fixed = h.fixed;
      gives = λ told. gives-stop T U due f e b.now (h.gives told);
      starts = λ _. tt;
      cause = counted-stop T U e a.failures b.failures h.cause;
    })

-- the first is done, and then the second
pub does-then : {F T U : Type 0} (t : Bool) (due next : Result RowMap Rule) (f : RowMap → Result RowMap Rule) (a b c : Worked) (r : Result T (Stop F)) (s : Result U (Stop F)) (x : T) → Does t due a b r → r ≡ Ok x → Does t next b c s → (t ≡ true → next ≡ f b.now) → Does t (then_do due f) a c s
does-then {F} {T} {U} t due next f a b c r s x d is n same =
    let h = subst (λ (z : Result T (Stop F)). Does t due a b z) is d in
    record {
      fixed = fixed-then h.fixed n.fixed;
      gives = λ told. subst (λ z. Gives z s c.now) (same told ∙ ap (λ z. then_do z f) (sym (h.gives told))) (n.gives told);
      starts = λ told. starts-then s a b c (h.starts told) (n.starts told);
      cause = counted-later s a.failures b.failures c.failures h.fixed.failures n.cause;
    }

-- a look-up stops, before anything is done
pub looks-stop : {F T U : Type 0} (t : Bool) (due : Result RowMap Rule) (a b : Worked) (r : Result T (Stop F)) (s : Result U (Stop F)) (e : Stop F) → Looks t a b r → r ≡ Err e → IsErrAnd s (λ x. x ≡ e) → Does t due a b s
looks-stop {F} {T} {U} t due a b r s e d is so = subst (λ (z : Result U (Stop F)). Does t due a b z) (sym (stops s e so)) (
    let h = subst (λ (z : Result T (Stop F)). Looks t a b z) is d in
    record {
      fixed = h.fixed;
      gives = λ told. no_rule e h.no_rule;
      starts = λ _. tt;
      cause = counted-stop T U e a.failures b.failures h.cause;
    })
  where
    no_rule : (e : Stop F) → IsNoRule {T = T} (Err e) → Gives {T = U} due (Err e) b.now
    no_rule (stop.Rule r) h = absurd h
    no_rule (stop.View v) h = tt
    no_rule stop.Memory h = tt

-- a look-up, and then the rest
pub looks-then : {F T U : Type 0} (t : Bool) (due next : Result RowMap Rule) (a b c : Worked) (r : Result T (Stop F)) (s : Result U (Stop F)) (x : T) → Looks t a b r → r ≡ Ok x → Does t next b c s → (t ≡ true → b.now ≡ a.now → next ≡ due) → Does t due a c s
looks-then {F} {T} {U} t due next a b c r s x d is n same = record {
  fixed = fixed-then d.fixed n.fixed;
  gives = λ told. subst (λ z. Gives z s c.now) (same told (d.now told)) (n.gives told);
  starts = λ told. starts-then s a b c (d.start told) (n.starts told);
  cause = counted-later s a.failures b.failures c.failures d.fixed.failures n.cause;
}

-- a test that changes nothing
pub asks-some : {F T : Type 0} (t : Bool) (a : Worked) (o : Option Rule) (r : Rule) → o ≡ Some r → Does {F = F} {T = T} t (unless_refused o a.now) a a (Err (stop.Rule r))
asks-some t a o r is = record { fixed = fixed-itself t a; gives = λ _. ap (λ o. unless_refused o a.now) is; starts = λ _. tt; cause = tt }

pub asks-none : {F T : Type 0} (t : Bool) (a : Worked) (o : Option Rule) (x : T) → o ≡ None → Does {F = F} {T = T} t (unless_refused o a.now) a a (Ok x)
asks-none t a o x is = record { fixed = fixed-itself t a; gives = λ _. ap (λ o. unless_refused o a.now) is; starts = λ _. refl; cause = tt }

-- a row is set
pub does-set : {F : Type 0} (t : Bool) (a b new : Worked) (k : Key) (v w : Option Row) → a ≡ b → new.level ≡ a.level → new.round ≡ a.round → new.special ≡ a.special → new.failures ≡ a.failures → new.lender ≡ a.lender → new.block ≡ a.block
    → new.now ≡ set_at a.now k v → v ≡ w → new.start ≡ a.start → Does {F = F} {T = Unit {0}} t (Ok (set_at b.now k w)) b new (Ok tt)
does-set {F} t a b new k v w same level round special failures lender block now value start =
    subst (λ (x : Worked). Does {F = F} {T = Unit {0}} t (Ok (set_at x.now k w)) x new (Ok tt)) same (record {
      fixed = record { level = level; round = round; special = special; failures = omega arith; lender = lender; block = λ _. block };
      gives = λ _. ap Ok (sym (now ∙ ap (set_at a.now k) value));
      starts = λ _. start;
      cause = tt;
    })

-- a row is set, or there is no answer
pub does-row : {F : Type 0} (t : Bool) (a b new : Worked) (r : Result (Unit {0}) (Stop F)) (k : Key) (v : Option Row) → a ≡ b → new.level ≡ a.level → new.round ≡ a.round → new.special ≡ a.special → a.failures ≤ new.failures → new.lender ≡ a.lender
    → (t ≡ true → new.block ≡ a.block) → (t ≡ true → OnOk r (new.now ≡ set_at a.now k v)) → (t ≡ true → OnOk r (new.start ≡ a.start)) → IsCounted r a.failures new.failures → IsNoRule r → Does t (Ok (set_at b.now k v)) b new r
does-row {F} t a b new r k v same level round special failures lender block now start cause none =
    subst (λ (x : Worked). Does t (Ok (set_at x.now k v)) x new r) same (record {
      fixed = record { level = level; round = round; special = special; failures = failures; lender = lender; block = block };
      gives = λ told. given r none (now told);
      starts = λ told. started r (start told);
      cause = cause;
    })
  where
    given : (r : Result (Unit {0}) (Stop F)) → IsNoRule r → OnOk r (new.now ≡ set_at a.now k v) → Gives (Ok (set_at a.now k v)) r new.now
    given (Ok x) n h = ap Ok (sym h)
    given (Err (stop.Rule e)) n h = absurd n
    given (Err (stop.View e)) n h = tt
    given (Err stop.Memory) n h = tt

    started : (r : Result (Unit {0}) (Stop F)) → OnOk r (new.start ≡ a.start) → Starts r a new
    started (Ok x) h = h
    started (Err e) h = tt

-- a step that gives what is due, or there is no answer
pub does-given : {F : Type 0} (t : Bool) (due : Worked → Result RowMap Rule) (a b new : Worked) (r : Result (Unit {0}) (Stop F)) → a ≡ b → new.level ≡ a.level → new.round ≡ a.round → new.special ≡ a.special → a.failures ≤ new.failures → new.lender ≡ a.lender
    → (t ≡ true → new.block ≡ a.block) → (t ≡ true → Gives (due a) r new.now) → (t ≡ true → OnOk r (new.start ≡ a.start)) → IsCounted r a.failures new.failures → Does t (due b) b new r
does-given {F} t due a b new r same level round special failures lender block gives start cause =
    subst (λ (x : Worked). Does t (due x) x new r) same (record {
      fixed = record { level = level; round = round; special = special; failures = failures; lender = lender; block = block };
      gives = gives;
      starts = λ told. started r (start told);
      cause = cause;
    })
  where
    started : (r : Result (Unit {0}) (Stop F)) → OnOk r (new.start ≡ a.start) → Starts r a new
    started (Ok x) h = h
    started (Err e) h = tt
