-- An input has one meaning.
use Rattle.std.proofs.Common.{◌≡◌, ℕ, List, ◌++◌, length, OnOk, Some, None, Result, Ok, Err, refl, sym, ap, subst, ◌∙◌}
use Rattle.al_msgpack.specs.declared.val.Val.{Val}
use Rattle.al_msgpack.specs.declared.val.Val.TheVariants as values
use Rattle.al_msgpack.specs.declared.val.Val.TheViews as views
use Rattle.al_msgpack.specs.declared.fault.DecodeFault.{DecodeFault}
use Rattle.al_msgpack.specs.Places.{IsSpelling, Means}
use Rattle.al_msgpack.specs.Spelled.{spelled}
use Rattle.al_msgpack.proofs.Canonical.{spells_only}
use Rattle.al_msgpack.proofs.Exact.{Fit}
use Rattle.al_msgpack.proofs.Sizes.{limit}
use Rattle.al_msgpack.proofs.Verdicts.{means_verdict, one_value}
use Rattle.al_record.specs.declared.fault.Fault.{Fault}
use Rattle.al_record.specs.declared.fault.Fault.TheVariants.{Field, Range}
use Rattle.al_record.specs.Columns.{IsRecord, member_open}
use Rattle.al_record.proofs.Engine.{first_none}
use Rattle.al_txn.proofs.Members.{map_back}
use Rattle.al_block.specs.declared.block.Block.{Block}
use Rattle.al_block.specs.declared.decoding.BlockFault.{BlockFault}
use Rattle.al_block.specs.declared.decoding.BlockFault.TheVariants as faults
use Rattle.al_block.specs.Block.{block, block_fault, IsBlock, IsFaulty, BlockMeans, BlockMeansUnless, BlockAnswers}
use Rattle.al_block.proofs.Same.{block_determined}

pub of_block : (input : List ℕ) (b : Block) → IsBlock input b → IsRecord block b (block.write b)
of_block input b m = record {
  fields = refl;
  sound = ap (member_open block.fault) (sym (views.outs-Map (block.write b))) ∙ (first_none _ _ m.sound).0;
}

-- bytes spell at most one block
pub once : (input : List ℕ) (a b : Block) → IsBlock input a → IsBlock input b → a ≡ b
once input a b m n =
    let same : block.write a ≡ block.write b = map_back _ _ (one_value _ _ input m.spells n.spells) in
    let r = of_block input a m in
    block_determined a b (block.write a) r (record { fields = same; sound = r.sound })

some_back : (f g : Fault) → Some f ≡ Some g → f ≡ g
some_back f g e = cc

same_fault : (input : List ℕ) (f g : Fault) → IsFaulty input f → IsFaulty input g → f ≡ g
same_fault input f g m n =
    let e = one_value m.value n.value input m.spells n.spells in
    some_back f g (sym m.fault ∙ ap (block_fault (length input)) e ∙ n.fault)

none_some : (f : Fault) → None ≡ Some f → ⊥
none_some f e = absurd cc

sound_faulty : (input : List ℕ) (b : Block) (f : Fault) → IsBlock input b → IsFaulty input f → ⊥
sound_faulty input b f m n =
    let e = one_value _ n.value input m.spells n.spells in
    none_some f (sym m.sound ∙ ap (block_fault (length input)) e ∙ n.fault)

means_same : (input : List ℕ) → Fit limit input → (r s : Result Val DecodeFault) → Means input r → Means input s → r ≡ s
means_same input fit r s p q = sym (means_verdict input fit r p) ∙ means_verdict input fit s q

spelled_faulty : (input : List ℕ) → Fit limit input → (v : Val) (f : DecodeFault) → IsSpelling v input → Means input (Err f) → ⊥
spelled_faulty input fit v f p q = let e = means_same input fit (Ok v) (Err f) p q in absurd cc

abbrev val_err : DecodeFault → Result Val DecodeFault
val_err f = Err f

decode_back : (f g : DecodeFault) → val_err f ≡ val_err g → f ≡ g
decode_back f g e = cc

field_back : (a b : List ℕ) → Field a ≡ Field b → a ≡ b
field_back a b e = cc

range_back : (a b : List ℕ) → Range a ≡ Range b → a ≡ b
range_back a b e = cc

field_range : (a b : List ℕ) → Field a ≡ Range b → ⊥
field_range a b e = absurd cc

same_meaning : (input : List ℕ) → Fit limit input → (r s : Result Block BlockFault) → BlockMeans input r → BlockMeans input s → r ≡ s
same_meaning input fit (Ok a) (Ok b) m n = ap (λ (x : Block). Ok x) (once input a b m n)
same_meaning input fit (Ok a) (Err (faults.Decode f)) m n = absurd (spelled_faulty input fit _ f m.spells n)
same_meaning input fit (Ok a) (Err (faults.Field k)) m n = absurd (sound_faulty input a (Field k) m n)
same_meaning input fit (Ok a) (Err (faults.Range k)) m n = absurd (sound_faulty input a (Range k) m n)
same_meaning input fit (Err (faults.Decode f)) (Ok b) m n = absurd (spelled_faulty input fit _ f n.spells m)
same_meaning input fit (Err (faults.Decode f)) (Err (faults.Decode g)) m n = ap (λ (x : DecodeFault). Err (faults.Decode x)) (decode_back f g (means_same input fit (Err f) (Err g) m n))
same_meaning input fit (Err (faults.Decode f)) (Err (faults.Field k)) m n = absurd (spelled_faulty input fit n.value f n.spells m)
same_meaning input fit (Err (faults.Decode f)) (Err (faults.Range k)) m n = absurd (spelled_faulty input fit n.value f n.spells m)
same_meaning input fit (Err (faults.Field k)) (Ok b) m n = absurd (sound_faulty input b (Field k) n m)
same_meaning input fit (Err (faults.Field k)) (Err (faults.Decode f)) m n = absurd (spelled_faulty input fit m.value f m.spells n)
same_meaning input fit (Err (faults.Field k)) (Err (faults.Field l)) m n = ap (λ (x : List ℕ). Err (faults.Field x)) (field_back k l (same_fault input (Field k) (Field l) m n))
same_meaning input fit (Err (faults.Field k)) (Err (faults.Range l)) m n = absurd (field_range k l (same_fault input (Field k) (Range l) m n))
same_meaning input fit (Err (faults.Range k)) (Ok b) m n = absurd (sound_faulty input b (Range k) n m)
same_meaning input fit (Err (faults.Range k)) (Err (faults.Decode f)) m n = absurd (spelled_faulty input fit m.value f m.spells n)
same_meaning input fit (Err (faults.Range k)) (Err (faults.Field l)) m n = absurd (field_range l k (same_fault input (Field l) (Range k) n m))
same_meaning input fit (Err (faults.Range k)) (Err (faults.Range l)) m n = ap (λ (x : List ℕ). Err (faults.Range x)) (range_back k l (same_fault input (Range k) (Range l) m n))
same_meaning input fit (Err faults.Memory) s m n = absurd m
same_meaning input fit r (Err faults.Memory) m n = absurd n

pub only_from : (input : List ℕ) → Fit limit input → (result r : Result Block BlockFault) → BlockMeansUnless input result → BlockMeans input r → BlockAnswers result r
only_from input fit (Ok b) r m n = same_meaning input fit r (Ok b) n m
only_from input fit (Err (faults.Decode f)) r m n = same_meaning input fit r (Err (faults.Decode f)) n m
only_from input fit (Err (faults.Field k)) r m n = same_meaning input fit r (Err (faults.Field k)) n m
only_from input fit (Err (faults.Range k)) r m n = same_meaning input fit r (Err (faults.Range k)) n m
only_from input fit (Err faults.Memory) r m n = tt

-- the bytes that a block was decoded from are its spelling
pub back_from : {E : Type 0} (r : Result (Unit {0}) E) (input : List ℕ) (b : Block) (new old : List ℕ) → IsBlock input b → OnOk r (new ≡ old ++ spelled (values.Map (block.write b))) → OnOk r (new ≡ old ++ input)
back_from r input b new old m h = subst (λ (bytes : List ℕ). OnOk r (new ≡ old ++ bytes)) (spells_only 16 _ input m.spells) h
