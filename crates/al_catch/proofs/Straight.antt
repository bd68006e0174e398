-- What is appended of chunks.
use Rattle.std.proofs.Common.{◌≡◌, ◌==◌, ℕ, ◌+◌, true, false, codes, List, [], ◌∷◌, ◌++◌, length, OnErr, Result, Ok, Err, Option, refl, sym, ap, ◌∙◌, arith, append_assoc}
use Rattle.std.proofs.lemmas.Bool.{eqb-true}
use Rattle.al_msgpack.specs.declared.val.Val.{Val}
use Rattle.al_msgpack.specs.declared.val.Val.TheVariants as values
use Rattle.al_msgpack.specs.declared.val.Entry.{Entry}
use Rattle.al_msgpack.specs.Spelled.{map_head, spelled, entries_spelled}
use Rattle.al_record.specs.Columns.{number_put, with_entry}
use Rattle.al_record.specs.Code.{count_some}
use Rattle.al_record.proofs.Appended.{field_first, length_with, map_behind}
use Rattle.al_catch.specs.declared.chunk.Chunk.{Chunk}
use Rattle.al_catch.specs.declared.chunk.ChunkRow.{ChunkRow}
use Rattle.al_catch.specs.Records.{chunk, rows_put}

pub on_err : {T E : Type 0} (r : Result T E) (P : Type 0) → P → OnErr r P
on_err (Ok x) P p = tt
on_err (Err e) P p = p

pub no_rows : (rows : List ChunkRow) → (length rows == 0) ≡ true → 0 ≡ count_some (rows_put rows ∷ [])
no_rows [] h = refl
no_rows (r ∷ rs) h = (let e = eqb-true _ _ h in absurd (omega (arith, e)))

pub some_rows : (rows : List ChunkRow) → (length rows == 0) ≡ false → 1 ≡ count_some (rows_put rows ∷ [])
some_rows [] h = absurd cc
some_rows (r ∷ rs) h = refl

pub fields_of : (c : Chunk) (m n : ℕ) → m ≡ count_some (number_put c.number ∷ []) → n ≡ count_some (rows_put c.rows ∷ []) → m + n ≡ length (chunk.write c)
fields_of c m n p q =
    let rest = with_entry (codes "rows") (rows_put c.rows) [] in
    let first = length_with (codes "k") (number_put c.number) rest in
    let last = length_with (codes "rows") (rows_put c.rows) [] in
    omega (arith, p, q, first, last)

-- a head, a field, and the others behind it
pub fields_behind : (old mid more new : List ℕ) (n : ℕ) (name : List ℕ) (o : Option Val) (es : List Entry) → length (with_entry name o es) ≡ n → mid ≡ old ++ map_head n → more ≡ mid ++ entries_spelled (with_entry name o []) → new ≡ more ++ entries_spelled es → new ≡ old ++ spelled (values.Map (with_entry name o es))
fields_behind old mid more new n name o es counts headed first rest =
    let whole : new ≡ mid ++ entries_spelled (with_entry name o es) = rest ∙ ap (λ z. z ++ entries_spelled es) first ∙ append_assoc mid (entries_spelled (with_entry name o [])) (entries_spelled es) ∙ ap (λ z. mid ++ z) (sym (field_first name o es)) in
    map_behind old mid new n (with_entry name o es) counts headed whole
