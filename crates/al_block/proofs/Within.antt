-- What a decoded block holds is in its ranges.
use Rattle.std.proofs.Common.{◌≡◌, ◌+◌, ◌≤◌, ℕ, All, sum_by, List, [], ◌∷◌, length, None, codes, refl, sym, subst}
use Rattle.std.specs.List.{AllByRecursion}
use Rattle.std.proofs.lemmas.List.Elements.{All-from_recursion}
use Rattle.al_msgpack.specs.declared.val.Val.TheVariants as values
use Rattle.al_msgpack.specs.declared.val.Entry.{Entry}
use Rattle.al_msgpack.proofs.Canonical.{spells_only}
use Rattle.al_record.specs.Columns.{IsRecord, list_of, map_of, members_fault, value_at}
use Rattle.al_record.proofs.Engine.{first_none}
use Rattle.al_record.proofs.Laws.{record_shows}
use Rattle.al_bodies.specs.Effect.{inner_in}
use Rattle.al_bodies.specs.Ranges.{EffectInRange}
use Rattle.al_bodies.proofs.Bounds.{AllBounded, record_bounded}
use Rattle.al_txn.specs.declared.txn.Item.{Item}
use Rattle.al_txn.specs.Item.{item}
use Rattle.al_txn.proofs.InRange.{effects_in_range}
use Rattle.al_txn.proofs.Members.{members_are}
use Rattle.al_block.specs.declared.block.Block.{Block}
use Rattle.al_block.specs.Block.{block, block_fields, IsBlock}
use Rattle.al_block.specs.Header.{header, header_fields}
use Rattle.al_block.specs.Within.{IsWithin}
use Rattle.al_block.proofs.Lengths.{block_long}
use Rattle.al_block.proofs.Meaning.{of_block}

each_in_range : (items : List Item) → AllByRecursion (λ i. IsRecord item i (item.write i)) items → AllByRecursion (λ i. All EffectInRange i.effects) items
each_in_range [] h = tt
each_in_range (i ∷ is) h = (effects_in_range i (item.write i) h.0, each_in_range is h.1)

items_in_range : (b : Block) (es : List Entry) → IsRecord block b es → All (λ i. All EffectInRange i.effects) b.items
items_in_range b es r =
    let shown = record_shows block_fields b es refl r in
    let ranges = first_none _ _ (first_none _ _ r.sound).1 in
    let t : members_fault item.fault (list_of (value_at (codes "t") es)) ≡ None = (first_none _ _ ranges.1).0 in
    All-from_recursion (λ i. All EffectInRange i.effects) b.items (each_in_range b.items (members_are item b.items (list_of (value_at (codes "t") es)) shown.1.0 t))

-- the header in a block's record
header_of : (b : Block) (es : List Entry) → IsRecord block b es → IsRecord header b.header (map_of (value_at (codes "b") es))
header_of b es r =
    let shown = record_shows block_fields b es refl r in
    let ranges = first_none _ _ (first_none _ _ r.sound).1 in
    record { fields = sym shown.0; sound = ranges.0 }

header_bounded : (b : Block) (es : List Entry) → IsRecord block b es → AllBounded header_fields b.header
header_bounded b es r = record_bounded header_fields b.header (map_of (value_at (codes "b") es)) refl (header_of b es r)

few : (bytes : List ℕ) (b : Block) → IsBlock bytes b → sum_by (λ i. 1 + sum_by inner_in i.effects) b.items ≤ length bytes
few bytes b is = subst (λ (z : List ℕ). sum_by (λ i. 1 + sum_by inner_in i.effects) b.items ≤ length z) (spells_only 16 (values.Map (block.write b)) bytes is.spells) (block_long b)

pub is_within : (bytes : List ℕ) (b : Block) → IsBlock bytes b → IsWithin (length bytes) b
is_within bytes b is =
    let r = of_block bytes b is in
    let h = header_bounded b (block.write b) r in
    record {
      effects = items_in_range b (block.write b) r;
      transactions = few bytes b is;
      counter = h.1.1.1.1.1.1.1.1.1.1.0;
      round = h.1.1.1.1.1.1.1.0;
    }
