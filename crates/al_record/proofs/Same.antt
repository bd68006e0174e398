-- A record determines its value.
use Rattle.std.proofs.Common.{◌≡◌, ℕ, List, [], ◌∷◌, map, Result, Ok, Err, refl, ap, ap₂}
use Rattle.al_msgpack.specs.declared.val.Entry.{Entry}
use Rattle.al_base.specs.declared.address.Address.{Address}
use Rattle.al_record.specs.declared.fault.ReadError.{ReadError}
use Rattle.al_record.specs.declared.fault.ReadError.TheVariants as errors
use Rattle.al_record.specs.Columns.{Format, IsRecord, Reads}
use Rattle.al_record.specs.Laws.{Answers}

abbrev pub Determined : {X : Type 0} → Format X → Type 0
Determined {X} format = (x y : X) (es : List Entry) → IsRecord format x es → IsRecord format y es → x ≡ y

-- the record of x is read as x
pub read_again : {X : Type 0} (format : Format X) → Determined format → (x : X) (es : List Entry) (r : Result X ReadError) → Reads format es r → IsRecord format x es → Answers x r
read_again format d x es (Ok y) h k = d y x es h k
read_again format d x es (Err errors.Memory) h k = refl
read_again format d x es (Err (errors.Fault f)) h k = let n = k.sound in absurd cc

pub same_addresses : (xs ys : List Address) → map (λ (a : Address). a.0) xs ≡ map (λ (a : Address). a.0) ys → xs ≡ ys
same_addresses [] [] h = refl
same_addresses [] (y ∷ ys) h = absurd cc
same_addresses (x ∷ xs) [] h = absurd cc
same_addresses (x ∷ xs) (y ∷ ys) h =
    let first : x.0 ≡ y.0 = cc in
    let rest : map (λ (a : Address). a.0) xs ≡ map (λ (a : Address). a.0) ys = cc in
    let same : x ≡ y = ap (λ (b : List ℕ). record { 0 = b }) first in
    ap₂ (λ (a : Address) (more : List Address). a ∷ more) same (same_addresses xs ys rest)
