-- What is appended of headers and blocks.
use Rattle.std.proofs.Common.{◌≡◌, ◌==◌, ℕ, ◌+◌, true, false, codes, List, [], ◌∷◌, length, refl, sym, ap, ◌∙◌, arith}
use Rattle.std.proofs.lemmas.Bool.{eqb-true, false_from_ne_true}
use Rattle.al_msgpack.specs.declared.val.Entry.{Entry}
use Rattle.al_record.specs.Columns.{is_empty, map_put, with_entry}
use Rattle.al_record.specs.Code.{count_some}
use Rattle.al_record.proofs.Appended.{length_with}
use Rattle.al_txn.specs.declared.txn.Item.{Item}
use Rattle.al_block.specs.declared.block.Block.{Block}
use Rattle.al_block.specs.Block.{block, items_put}
use Rattle.al_block.specs.Header.{header}

pub no_fields : (es : List Entry) (n : ℕ) → length es ≡ n → (n == 0) ≡ is_empty es
no_fields [] n h = rw (← h) refl
no_fields (e ∷ es) n h = false_from_ne_true _ (λ t. let z = eqb-true _ _ t in omega (arith, z, h))

pub no_items : (items : List Item) → (length items == 0) ≡ true → 0 ≡ count_some (items_put items ∷ [])
no_items [] h = refl
no_items (i ∷ is) h = (let e = eqb-true _ _ h in absurd (omega (arith, e)))

pub some_items : (items : List Item) → (length items == 0) ≡ false → 1 ≡ count_some (items_put items ∷ [])
some_items [] h = absurd cc
some_items (i ∷ is) h = refl

pub fields_of : (b : Block) (m n : ℕ) → m ≡ count_some (map_put (header.write b.header) ∷ []) → n ≡ count_some (items_put b.items ∷ []) → m + n ≡ length (block.write b)
fields_of b m n p q =
    let rest = with_entry (codes "t") (items_put b.items) [] in
    let first = length_with (codes "b") (map_put (header.write b.header)) rest in
    let last = length_with (codes "t") (items_put b.items) [] in
    omega (arith, p, q, first, last)
