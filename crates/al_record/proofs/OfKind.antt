-- Records that name their kind.
use Rattle.std.proofs.Common.{◌≡◌, ℕ, Bool, true, false, cond, List, [], Option, Some, None, Ok, Err, sym, ◌∙◌}
use Rattle.al_msgpack.specs.declared.val.Val.{Val, out-Val}
use Rattle.al_msgpack.specs.declared.val.Entry.{Entry}
use Rattle.al_record.specs.declared.fault.Fault.{Fault}
use Rattle.al_record.specs.declared.fault.Fault.TheVariants.{Field}
use Rattle.al_record.specs.declared.shape.Shape.{Shape}
use Rattle.al_record.specs.declared.shape.Shape.TheVariants as shapes
use Rattle.al_record.specs.Columns.{Open, Format, FieldOf, IsRecord, table, rules_of, first_fault, entries, fits, value_at, read_as, text_of, text_in, number_of, number_in}
use Rattle.al_record.specs.Kinds.{kind_at, text_kind, number_kind}

accepted : {K : Type 0} (b : Bool) (x y : K) (f : Fault) → cond b (Ok x) (Err f) ≡ Ok y → x ≡ y
accepted true x y f h = cc
accepted false x y f h = absurd cc

kind_is : {K : Type 0} (shape : Shape) (of : Open → K) (zero : K) (name : List ℕ) (o : Option Val) (k : K) → kind_at shape (λ v. of (out-Val v)) name o ≡ Ok k → read_as of zero o ≡ k
kind_is shape of zero name None k h = absurd cc
kind_is shape of zero name (Some v) k h = accepted (fits shape v) (of (out-Val v)) k (Field name) h

-- the kind is what its field shows
pub text_shown : (name : List ℕ) (es : List Entry) (k : List ℕ) → text_kind name es ≡ Ok k → k ≡ text_of (value_at name es)
text_shown name es k h = sym (kind_is shapes.Text text_in [] name (value_at name es) k h)

pub number_shown : (name : List ℕ) (es : List Entry) (k : ℕ) → number_kind name es ≡ Ok k → k ≡ number_of (value_at name es)
number_shown name es k h = sym (kind_is shapes.Number number_in 0 name (value_at name es) k h)

-- the record of one kind
pub of_kind : {X Y : Type 0} (format : Format X) (fs : List (FieldOf Y)) (x : X) (y : Y) (es : List Entry) → format.fault es ≡ first_fault (rules_of fs) es → format.write x ≡ entries fs y → IsRecord (table fs) y es → IsRecord format x es
of_kind format fs x y es f w r = record { fields = r.fields ∙ sym w; sound = f ∙ r.sound }
