-- An input has one meaning.
use Rattle.std.proofs.Common.{◌≡◌, ℕ, List, Some, None, Result, Ok, Err, refl, sym, ap, ◌∙◌}
use Rattle.std.proofs.lemmas.Bool.{false≢true}
use Rattle.al_base.specs.declared.key.Key.{Key}
use Rattle.al_msgpack.specs.declared.val.Val.{Val, out-Val}
use Rattle.al_msgpack.specs.declared.val.Val.TheVariants as values
use Rattle.al_msgpack.specs.declared.val.Val.TheViews as views
use Rattle.al_msgpack.specs.declared.val.Entry.{Entry}
use Rattle.al_msgpack.specs.declared.fault.DecodeFault.{DecodeFault}
use Rattle.al_msgpack.specs.Places.{IsSpelling, Means}
use Rattle.al_msgpack.proofs.Exact.{Fit}
use Rattle.al_msgpack.proofs.Sizes.{limit}
use Rattle.al_msgpack.proofs.Verdicts.{means_verdict, one_value}
use Rattle.al_record.specs.declared.fault.Fault.{Fault}
use Rattle.al_record.specs.declared.fault.Fault.TheVariants.{Field, Range}
use Rattle.al_record.specs.Columns.{map_in, member_open}
use Rattle.al_rows.specs.declared.row.Row.{Row}
use Rattle.al_rows.specs.Rows.{is_zero}
use Rattle.al_row_records.specs.declared.decoding.RowFault.{RowFault}
use Rattle.al_row_records.specs.declared.decoding.RowFault.TheVariants as faults
use Rattle.al_row_records.specs.RowRecords.{row_written, row_fault, value_fault, IsRecordUnder, IsRow, IsZeroRow, IsFaulty, RowMeans, RowMeansUnless, RowAnswers}
use Rattle.al_row_records.proofs.Same.{row_determined}

map_back : (es ds : List Entry) → values.Map es ≡ values.Map ds → es ≡ ds
map_back es ds e = ap map_in (sym (views.outs-Map es)) ∙ ap (λ (v : Val). map_in (out-Val v)) e ∙ ap map_in (views.outs-Map ds)

pub of_row : (k : Key) (input : List ℕ) (r : Row) → IsRecordUnder k input r → row_fault k (row_written r) ≡ None
of_row k input r m = ap (member_open (row_fault k)) (sym (views.outs-Map (row_written r))) ∙ m.sound

-- bytes spell at most one row
pub once : (k : Key) (input : List ℕ) (a b : Row) → IsRecordUnder k input a → IsRecordUnder k input b → a ≡ b
once k input a b m n =
    let same : row_written a ≡ row_written b = map_back (row_written a) (row_written b) (one_value _ _ input m.spells n.spells) in
    let sound = of_row k input a m in
    row_determined k a b (row_written a) (record { kind = m.kind; fields = refl; sound = sound }) (record { kind = n.kind; fields = same; sound = sound })

zero_apart : (k : Key) (input : List ℕ) (r : Row) → IsRow k input r → IsZeroRow k input → ⊥
zero_apart k input r m n = false≢true (sym m.1 ∙ ap is_zero (once k input r n.row m.0 n.is) ∙ n.zero)

some_back : (f g : Fault) → Some f ≡ Some g → f ≡ g
some_back f g e = cc

same_fault : (k : Key) (input : List ℕ) (f g : Fault) → IsFaulty k input f → IsFaulty k input g → f ≡ g
same_fault k input f g m n =
    let e = one_value m.value n.value input m.spells n.spells in
    some_back f g (sym m.fault ∙ ap (value_fault k) e ∙ n.fault)

none_some : (f : Fault) → None ≡ Some f → ⊥
none_some f e = absurd cc

sound_faulty : (k : Key) (input : List ℕ) (r : Row) (f : Fault) → IsRecordUnder k input r → IsFaulty k input f → ⊥
sound_faulty k input r f m n =
    let e = one_value _ n.value input m.spells n.spells in
    none_some f (sym m.sound ∙ ap (value_fault k) e ∙ n.fault)

means_same : (input : List ℕ) → Fit limit input → (r s : Result Val DecodeFault) → Means input r → Means input s → r ≡ s
means_same input fit r s p q = sym (means_verdict input fit r p) ∙ means_verdict input fit s q

spelled_faulty : (input : List ℕ) → Fit limit input → (v : Val) (f : DecodeFault) → IsSpelling v input → Means input (Err f) → ⊥
spelled_faulty input fit v f p q = let e = means_same input fit (Ok v) (Err f) p q in absurd cc

abbrev val_err : DecodeFault → Result Val DecodeFault
val_err f = Err f

decode_back : (f g : DecodeFault) → val_err f ≡ val_err g → f ≡ g
decode_back f g e = cc

field_back : (a b : List ℕ) → Field a ≡ Field b → a ≡ b
field_back a b e = cc

range_back : (a b : List ℕ) → Range a ≡ Range b → a ≡ b
range_back a b e = cc

field_range : (a b : List ℕ) → Field a ≡ Range b → ⊥
field_range a b e = absurd cc

same_meaning : (k : Key) (input : List ℕ) → Fit limit input → (r s : Result Row RowFault) → RowMeans k input r → RowMeans k input s → r ≡ s
same_meaning k input fit (Ok a) (Ok b) m n = ap (λ (x : Row). Ok x) (once k input a b m.0 n.0)
same_meaning k input fit (Ok a) (Err (faults.Decode f)) m n = absurd (spelled_faulty input fit _ f m.0.spells n)
same_meaning k input fit (Ok a) (Err (faults.Field x)) m n = absurd (sound_faulty k input a (Field x) m.0 n)
same_meaning k input fit (Ok a) (Err (faults.Range x)) m n = absurd (sound_faulty k input a (Range x) m.0 n)
same_meaning k input fit (Ok a) (Err faults.ZeroRow) m n = absurd (zero_apart k input a m n)
same_meaning k input fit (Err (faults.Decode f)) (Ok b) m n = absurd (spelled_faulty input fit _ f n.0.spells m)
same_meaning k input fit (Err (faults.Decode f)) (Err (faults.Decode g)) m n = ap (λ (x : DecodeFault). Err (faults.Decode x)) (decode_back f g (means_same input fit (Err f) (Err g) m n))
same_meaning k input fit (Err (faults.Decode f)) (Err (faults.Field x)) m n = absurd (spelled_faulty input fit n.value f n.spells m)
same_meaning k input fit (Err (faults.Decode f)) (Err (faults.Range x)) m n = absurd (spelled_faulty input fit n.value f n.spells m)
same_meaning k input fit (Err (faults.Decode f)) (Err faults.ZeroRow) m n = absurd (spelled_faulty input fit _ f n.is.spells m)
same_meaning k input fit (Err (faults.Field x)) (Ok b) m n = absurd (sound_faulty k input b (Field x) n.0 m)
same_meaning k input fit (Err (faults.Field x)) (Err (faults.Decode f)) m n = absurd (spelled_faulty input fit m.value f m.spells n)
same_meaning k input fit (Err (faults.Field x)) (Err (faults.Field y)) m n = ap (λ (z : List ℕ). Err (faults.Field z)) (field_back x y (same_fault k input (Field x) (Field y) m n))
same_meaning k input fit (Err (faults.Field x)) (Err (faults.Range y)) m n = absurd (field_range x y (same_fault k input (Field x) (Range y) m n))
same_meaning k input fit (Err (faults.Field x)) (Err faults.ZeroRow) m n = absurd (sound_faulty k input n.row (Field x) n.is m)
same_meaning k input fit (Err (faults.Range x)) (Ok b) m n = absurd (sound_faulty k input b (Range x) n.0 m)
same_meaning k input fit (Err (faults.Range x)) (Err (faults.Decode f)) m n = absurd (spelled_faulty input fit m.value f m.spells n)
same_meaning k input fit (Err (faults.Range x)) (Err (faults.Field y)) m n = absurd (field_range y x (same_fault k input (Field y) (Range x) n m))
same_meaning k input fit (Err (faults.Range x)) (Err (faults.Range y)) m n = ap (λ (z : List ℕ). Err (faults.Range z)) (range_back x y (same_fault k input (Range x) (Range y) m n))
same_meaning k input fit (Err (faults.Range x)) (Err faults.ZeroRow) m n = absurd (sound_faulty k input n.row (Range x) n.is m)
same_meaning k input fit (Err faults.ZeroRow) (Ok b) m n = absurd (zero_apart k input b n m)
same_meaning k input fit (Err faults.ZeroRow) (Err (faults.Decode f)) m n = absurd (spelled_faulty input fit _ f m.is.spells n)
same_meaning k input fit (Err faults.ZeroRow) (Err (faults.Field x)) m n = absurd (sound_faulty k input m.row (Field x) m.is n)
same_meaning k input fit (Err faults.ZeroRow) (Err (faults.Range x)) m n = absurd (sound_faulty k input m.row (Range x) m.is n)
same_meaning k input fit (Err faults.ZeroRow) (Err faults.ZeroRow) m n = refl
same_meaning k input fit (Err faults.Memory) s m n = absurd m
same_meaning k input fit r (Err faults.Memory) m n = absurd n

pub only_from : (k : Key) (input : List ℕ) → Fit limit input → (result r : Result Row RowFault) → RowMeansUnless k input result → RowMeans k input r → RowAnswers result r
only_from k input fit (Ok b) r m n = same_meaning k input fit r (Ok b) n m
only_from k input fit (Err (faults.Decode f)) r m n = same_meaning k input fit r (Err (faults.Decode f)) n m
only_from k input fit (Err (faults.Field x)) r m n = same_meaning k input fit r (Err (faults.Field x)) n m
only_from k input fit (Err (faults.Range x)) r m n = same_meaning k input fit r (Err (faults.Range x)) n m
only_from k input fit (Err faults.ZeroRow) r m n = same_meaning k input fit r (Err faults.ZeroRow) n m
only_from k input fit (Err faults.Memory) r m n = tt
