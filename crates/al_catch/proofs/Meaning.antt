-- An input has one meaning, by a format whose records determine their values.
use Rattle.std.proofs.Common.{◌≡◌, ℕ, List, ◌++◌, OnOk, Some, None, Result, Ok, Err, refl, sym, ap, subst, ◌∙◌}
use Rattle.al_msgpack.specs.declared.val.Val.{Val}
use Rattle.al_msgpack.specs.declared.val.Val.TheVariants as values
use Rattle.al_msgpack.specs.declared.val.Val.TheViews as views
use Rattle.al_msgpack.specs.declared.fault.DecodeFault.{DecodeFault}
use Rattle.al_msgpack.specs.Places.{IsSpelling, Means}
use Rattle.al_msgpack.specs.Spelled.{spelled}
use Rattle.al_msgpack.proofs.Canonical.{spells_only}
use Rattle.al_msgpack.proofs.Exact.{Fit}
use Rattle.al_msgpack.proofs.Sizes.{limit}
use Rattle.al_msgpack.proofs.Verdicts.{means_verdict, one_value}
use Rattle.al_record.specs.declared.fault.Fault.{Fault}
use Rattle.al_record.specs.declared.fault.Fault.TheVariants.{Field, Range}
use Rattle.al_record.specs.Columns.{Format, IsRecord, member_open}
use Rattle.al_record.proofs.Same.{Determined}
use Rattle.al_catch.specs.declared.decoding.FileFault.{FileFault}
use Rattle.al_catch.specs.declared.decoding.FileFault.TheVariants as faults
use Rattle.al_catch.specs.Decoding.{FileAnswers, FileMeans, FileMeansUnless, Holds, IsFaulty, value_fault}
use Rattle.al_catch.proofs.Same.{map_back}

of_value : {X : Type 0} (format : Format X) (input : List ℕ) (x : X) → Holds format input x → IsRecord format x (format.write x)
of_value format input x m = record {
  fields = refl;
  sound = ap (member_open format.fault) (sym (views.outs-Map (format.write x))) ∙ m.sound;
}

-- bytes spell the record of at most one value
pub once : {X : Type 0} (format : Format X) → Determined format → (input : List ℕ) (x y : X) → Holds format input x → Holds format input y → x ≡ y
once format d input x y m n =
    let same : format.write x ≡ format.write y = map_back _ _ (one_value _ _ input m.spells n.spells) in
    let r = of_value format input x m in
    d x y (format.write x) r (record { fields = same; sound = r.sound })

some_back : (f g : Fault) → Some f ≡ Some g → f ≡ g
some_back f g e = cc

same_fault : {X : Type 0} (format : Format X) (input : List ℕ) (f g : Fault) → IsFaulty format input f → IsFaulty format input g → f ≡ g
same_fault format input f g m n =
    let e = one_value m.value n.value input m.spells n.spells in
    some_back f g (sym m.fault ∙ ap (value_fault format) e ∙ n.fault)

none_some : (f : Fault) → None ≡ Some f → ⊥
none_some f e = absurd cc

sound_faulty : {X : Type 0} (format : Format X) (input : List ℕ) (b : X) (f : Fault) → Holds format input b → IsFaulty format input f → ⊥
sound_faulty format input b f m n =
    let e = one_value _ n.value input m.spells n.spells in
    none_some f (sym m.sound ∙ ap (value_fault format) e ∙ n.fault)

means_same : (input : List ℕ) → Fit limit input → (r s : Result Val DecodeFault) → Means input r → Means input s → r ≡ s
means_same input fit r s p q = sym (means_verdict input fit r p) ∙ means_verdict input fit s q

spelled_faulty : (input : List ℕ) → Fit limit input → (v : Val) (f : DecodeFault) → IsSpelling v input → Means input (Err f) → ⊥
spelled_faulty input fit v f p q = let e = means_same input fit (Ok v) (Err f) p q in absurd cc

abbrev val_err : DecodeFault → Result Val DecodeFault
val_err f = Err f

decode_back : (f g : DecodeFault) → val_err f ≡ val_err g → f ≡ g
decode_back f g e = cc

field_back : (a b : List ℕ) → Field a ≡ Field b → a ≡ b
field_back a b e = cc

range_back : (a b : List ℕ) → Range a ≡ Range b → a ≡ b
range_back a b e = cc

field_range : (a b : List ℕ) → Field a ≡ Range b → ⊥
field_range a b e = absurd cc

same_meaning : {X : Type 0} (format : Format X) → Determined format → (input : List ℕ) → Fit limit input → (r s : Result X FileFault) → FileMeans format input r → FileMeans format input s → r ≡ s
same_meaning format d input fit (Ok a) (Ok b) m n = ap Ok (once format d input a b m n)
same_meaning format d input fit (Ok a) (Err (faults.Decode f)) m n = absurd (spelled_faulty input fit _ f m.spells n)
same_meaning format d input fit (Ok a) (Err (faults.Field k)) m n = absurd (sound_faulty format input a (Field k) m n)
same_meaning format d input fit (Ok a) (Err (faults.Range k)) m n = absurd (sound_faulty format input a (Range k) m n)
same_meaning format d input fit (Err (faults.Decode f)) (Ok b) m n = absurd (spelled_faulty input fit _ f n.spells m)
same_meaning format d input fit (Err (faults.Decode f)) (Err (faults.Decode g)) m n = ap (λ (x : DecodeFault). Err (faults.Decode x)) (decode_back f g (means_same input fit (Err f) (Err g) m n))
same_meaning format d input fit (Err (faults.Decode f)) (Err (faults.Field k)) m n = absurd (spelled_faulty input fit n.value f n.spells m)
same_meaning format d input fit (Err (faults.Decode f)) (Err (faults.Range k)) m n = absurd (spelled_faulty input fit n.value f n.spells m)
same_meaning format d input fit (Err (faults.Field k)) (Ok b) m n = absurd (sound_faulty format input b (Field k) n m)
same_meaning format d input fit (Err (faults.Field k)) (Err (faults.Decode f)) m n = absurd (spelled_faulty input fit m.value f m.spells n)
same_meaning format d input fit (Err (faults.Field k)) (Err (faults.Field l)) m n = ap (λ (x : List ℕ). Err (faults.Field x)) (field_back k l (same_fault format input (Field k) (Field l) m n))
same_meaning format d input fit (Err (faults.Field k)) (Err (faults.Range l)) m n = absurd (field_range k l (same_fault format input (Field k) (Range l) m n))
same_meaning format d input fit (Err (faults.Range k)) (Ok b) m n = absurd (sound_faulty format input b (Range k) n m)
same_meaning format d input fit (Err (faults.Range k)) (Err (faults.Decode f)) m n = absurd (spelled_faulty input fit m.value f m.spells n)
same_meaning format d input fit (Err (faults.Range k)) (Err (faults.Field l)) m n = absurd (field_range l k (same_fault format input (Field l) (Range k) n m))
same_meaning format d input fit (Err (faults.Range k)) (Err (faults.Range l)) m n = ap (λ (x : List ℕ). Err (faults.Range x)) (range_back k l (same_fault format input (Range k) (Range l) m n))
same_meaning format d input fit (Err faults.Memory) s m n = absurd m
same_meaning format d input fit r (Err faults.Memory) m n = absurd n

pub only_from : {X : Type 0} (format : Format X) → Determined format → (input : List ℕ) → Fit limit input → (result r : Result X FileFault) → FileMeansUnless format input result → FileMeans format input r → FileAnswers result r
only_from format d input fit (Ok b) r m n = same_meaning format d input fit r (Ok b) n m
only_from format d input fit (Err (faults.Decode f)) r m n = same_meaning format d input fit r (Err (faults.Decode f)) n m
only_from format d input fit (Err (faults.Field k)) r m n = same_meaning format d input fit r (Err (faults.Field k)) n m
only_from format d input fit (Err (faults.Range k)) r m n = same_meaning format d input fit r (Err (faults.Range k)) n m
only_from format d input fit (Err faults.Memory) r m n = tt

-- the bytes that a value was decoded from are its spelling
pub back_from : {X : Type 0} {E : Type 0} (format : Format X) (r : Result (Unit {0}) E) (input : List ℕ) (x : X) (new old : List ℕ) → Holds format input x → OnOk r (new ≡ old ++ spelled (values.Map (format.write x))) → OnOk r (new ≡ old ++ input)
back_from format r input x new old m h = subst (λ (bytes : List ℕ). OnOk r (new ≡ old ++ bytes)) (spells_only 16 _ input m.spells) h
