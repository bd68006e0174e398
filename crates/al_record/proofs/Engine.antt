-- What has no fault is the record of its value.
use Rattle.std.proofs.Common.{◌≡◌, ℕ, Bool, true, false, cond, inl, inr, List, [], ◌∷◌, Option, Some, None, refl, sym, ap, ap₂, ◌∙◌, map, Result, Ok, Err, subst}
use Rattle.std.proofs.lemmas.Bool.{cases_Bool}
use Rattle.std.specs.Str.{bytes_eq}
use Rattle.al_msgpack.specs.declared.val.Entry.{Entry}
use Rattle.al_record.specs.declared.fault.Fault.{Fault}
use Rattle.al_record.specs.declared.fault.ReadError.{ReadError}
use Rattle.std.specs.Result.{IsErrAnd}
use Rattle.al_record.specs.declared.fault.Fault.TheVariants.{Field}
use Rattle.al_record.specs.Columns.{fits, value_at, Head, heads, FieldOf, Format, rule, table, AllShown, fitting, field_fault, first_of, range_fault, first_fault, rules_of, with_entry, entries, IsRecord, Fails, Reads}
use Rattle.al_msgpack.specs.Rising.{rises, keys}
use Rattle.al_msgpack.specs.Rising.{are_canonical}
use Rattle.al_record.proofs.Canonical.{keys_rise}
use Rattle.al_record.proofs.Fields.{Fitting, put_again}
use Rattle.al_record.proofs.Order.{IsLess, IsBelow, Rising, below_more, rising, apart, apart_back, same_name}

abbrev pub names : List Head → List (List ℕ)
names rs = map (λ r. r.0) rs

-- the entries under the rules' names
abbrev pub row : List Head → List Entry → List Entry
row [] es = []
row (r ∷ rs) es = with_entry r.0 (value_at r.0 es) (row rs es)

known : (b : Bool) (f g : Option Fault) (name : List ℕ) → cond b f (Some (Field name)) ≡ None → (b ≡ true) × (f ≡ None)
known true f g name h = (refl, h)
known false f g name h = absurd cc

pub first_none : (f g : Option Fault) → first_of f g ≡ None → (f ≡ None) × (g ≡ None)
first_none None g h = (refl, h)
first_none (Some f) g h = absurd cc

pub absent : (k : List ℕ) (es : List Entry) → IsBelow k (keys es) → value_at k es ≡ None
absent k [] h = refl
absent k (e ∷ es) h = rw (apart k e.key h.0) (absent k es h.1)

row_nil : (rs : List Head) → row rs [] ≡ []
row_nil [] = refl
row_nil (r ∷ rs) = row_nil rs

-- an entry below the rules' names is not seen
row_skip : (rs : List Head) (e : Entry) (es : List Entry) → IsBelow e.key (names rs) → row rs (e ∷ es) ≡ row rs es
row_skip [] e es h = refl
row_skip (r ∷ rs) e es h = rw (apart_back e.key r.0 h.0) (ap (with_entry r.0 (value_at r.0 es)) (row_skip rs e es h.1))

-- a rule below the keys is not asked
pub rule_skip : (r : Head) (rs : List Head) (es : List Entry) → IsBelow r.0 (keys es) → field_fault (r ∷ rs) es ≡ field_fault rs es
rule_skip r rs [] h = refl
rule_skip r rs (e ∷ es) h = rw (apart r.0 e.key h.0, rule_skip r rs es h.1) refl

-- what fits stands under one of the names
above : (k : List ℕ) (rs : List Head) (e : Entry) → IsBelow k (names rs) → fitting rs e ≡ true → IsLess k e.key
above k [] e below h = absurd cc
above k (r ∷ rs) e below h =
    elim (cases_Bool (bytes_eq r.0 e.key)) [
      | inl t ↦ subst (λ (n : List ℕ). IsLess k n) (same_name _ _ t) below.0
      | inr t ↦ above k rs e below.1 (rw t at h)
    ]

-- each value under a rule's name is of its family
abbrev pub AllFit : List Head → List Entry → Type 0
AllFit [] es = Unit {0}
AllFit (r ∷ rs) es = Fitting r.1 (value_at r.0 es) × AllFit rs es

fit_nil : (rs : List Head) → AllFit rs []
fit_nil [] = tt
fit_nil (r ∷ rs) = (tt, fit_nil rs)

fit_skip : (rs : List Head) (e : Entry) (es : List Entry) → IsBelow e.key (names rs) → AllFit rs es → AllFit rs (e ∷ es)
fit_skip [] e es h a = tt
fit_skip (r ∷ rs) e es h a = (rw (apart_back e.key r.0 h.0) a.0, fit_skip rs e es h.1 a.1)

-- with no fault of the first pass, the rules' names lead to all entries
pub all_there : (rs : List Head) (es : List Entry) → Rising (names rs) → Rising (keys es) → field_fault rs es ≡ None → AllFit rs es × (row rs es ≡ es)
all_there [] [] rr re h = (tt, refl)
all_there [] (e ∷ es) rr re h = absurd cc
all_there (r ∷ rs) [] rr re h = (fit_nil (r ∷ rs), row_nil rs)
all_there (r ∷ rs) (e ∷ es) rr re h =
    let k = known (fitting (r ∷ rs) e) (field_fault (r ∷ rs) es) None e.key h in
    elim (cases_Bool (bytes_eq r.0 e.key)) [
      | inl t ↦
          let n = same_name _ _ t in
          let below : IsBelow r.0 (keys es) = subst (λ (m : List ℕ). IsBelow m (keys es)) (sym n) re.0 in
          let under : IsBelow e.key (names rs) = subst (λ (m : List ℕ). IsBelow m (names rs)) n rr.0 in
          let rest : field_fault rs es ≡ None = sym (rule_skip r rs es below) ∙ k.1 in
          let more = all_there rs es rr.1 re.1 rest in
          let f : fits r.1 e.val ≡ true = rw t at k.0 in
          ((rw t f, fit_skip rs e es under more.0), rw (t, row_skip rs e es under, more.1, n) refl)
      | inr t ↦
          let fit : fitting rs e ≡ true = rw t at k.0 in
          let less : IsLess r.0 e.key = above r.0 rs e rr.0 fit in
          let below : IsBelow r.0 (keys es) = below_more r.0 e.key (keys es) less re.0 in
          let rest : field_fault rs (e ∷ es) ≡ None = rw (fit, sym (rule_skip r rs es below)) k.1 in
          let more = all_there rs (e ∷ es) rr.1 re rest in
          ((rw (t, absent r.0 es below) tt, more.0), rw (t, absent r.0 es below) more.1)
    ]

entries_are : {X : Type 0} (fs : List (FieldOf X)) (x : X) (es : List Entry) → AllFit (heads (rules_of fs)) es → range_fault (rules_of fs) es ≡ None → AllShown fs x es → entries fs x ≡ row (heads (rules_of fs)) es
entries_are [] x es h g a = refl
entries_are (f ∷ fs) x es h g a =
    let k = first_none _ _ g in
    ap₂ (with_entry (rule f).name) (put_again f x _ a.0 h.0 k.0) (entries_are fs x es h.1 k.1 a.1)

-- what has no fault is the record of a value that shows it
pub is_record : {X : Type 0} (fs : List (FieldOf X)) (x : X) (es : List Entry) → rises (names (heads (rules_of fs))) ≡ true → are_canonical es ≡ true → first_fault (rules_of fs) es ≡ None → AllShown fs x es → IsRecord (table fs) x es
is_record fs x es rr re h a =
    let k = first_none _ _ h in
    let t = all_there (heads (rules_of fs)) es (rising _ rr) (rising _ (keys_rise es re)) k.0 in
    record { fields = sym t.1 ∙ sym (entries_are fs x es t.0 k.1 a); sound = h }

-- the answer of a reader whose check did not pass
pub passes_on : {X : Type 0} (format : Format X) (es : List Entry) (g : Option Fault) (e : ReadError) (r : Result X ReadError) → format.fault es ≡ g → Fails e g → IsErrAnd r (λ d. d ≡ e) → Reads format es r
passes_on format es g e (Ok x) h p q = absurd q
passes_on format es g e (Err d) h p q = rw (q, h) p
