-- A spelling has at least a byte for each record in it.
use Rattle.std.proofs.Common.{ℕ, ◌+◌, ◌≤◌, ◌%◌, ◌^◌, Bool, true, false, nat_lt, if◌then◌else◌, codes, sum_by, List, [], ◌∷◌, ◌++◌, length, map, Option, Some, None, ap, arith}
use Rattle.std.proofs.lemmas.List.{length-append}
use Rattle.std.proofs.lemmas.List.Sums.{sum_by-cons}
use Rattle.al_msgpack.specs.declared.val.Val.{Val}
use Rattle.al_msgpack.specs.declared.val.Val.TheVariants as values
use Rattle.al_msgpack.specs.declared.val.Entry.{Entry}
use Rattle.al_msgpack.specs.Grammar.{digits}
use Rattle.al_msgpack.specs.Spelled.{string_head, list_head, map_head, spelled, all_spelled, entries_spelled}
use Rattle.al_msgpack.proofs.Spellings.{spelled_list, spelled_map, spelled_first}
use Rattle.al_record.specs.Columns.{Format, list_put, map_put, with_entry}
use Rattle.al_bodies.specs.declared.effect.Effect.{Effect}
use Rattle.al_bodies.specs.declared.effect.Effect.TheVariants as effects
use Rattle.al_bodies.specs.Effect.{effect, inner_in}
use Rattle.al_txn.specs.declared.txn.Item.{Item}
use Rattle.al_txn.specs.Txn.{txn}
use Rattle.al_txn.specs.Item.{effects_put, item}
use Rattle.al_block.specs.declared.block.Block.{Block}
use Rattle.al_block.specs.Block.{block, items_put}
use Rattle.al_block.specs.Header.{header}

-- ---- heads, fields and lists

some_head : (a b : Bool) (x y z : ℕ) (ds es : List ℕ) → 1 ≤ length (if a then x ∷ [] else if b then y ∷ ds else z ∷ es)
some_head true b x y z ds es = omega arith
some_head false true x y z ds es = omega arith
some_head false false x y z ds es = omega arith

map_long : (es : List Entry) → 1 + length (entries_spelled es) ≤ length (spelled (values.Map es))
map_long es =
    let n = length es in
    let head : 1 ≤ length (map_head n) = some_head (nat_lt n 16) (nat_lt n 0x10000) (0x80 + n) 0xde 0xdf (digits 2 n) (digits 4 (n % 2 ^ 32)) in
    omega (arith, head, ap length (spelled_map es), length-append (map_head n) (entries_spelled es))

-- the bytes of what is put under a name
abbrev put_length : Option Val → ℕ
put_length None = 0
put_length (Some v) = length (spelled v)

field_long : (name : List ℕ) (o : Option Val) (es : List Entry) → put_length o + length (entries_spelled es) ≤ length (entries_spelled (with_entry name o es))
field_long name None es = omega arith
field_long name (Some v) es =
    omega (arith, ap length (spelled_first (record { key = name; val = v }) es), length-append (string_head (length name) ++ name) (spelled v ++ entries_spelled es), length-append (spelled v) (entries_spelled es))

list_long : (vs : List Val) → length (all_spelled vs) ≤ put_length (list_put vs)
list_long [] = omega arith
list_long (v ∷ vs) = omega (arith, ap length (spelled_list (v ∷ vs)), length-append (list_head (length (v ∷ vs))) (all_spelled (v ∷ vs)))

-- ---- lists of records that have each at least so many bytes

module _ {X : Type 0} (format : Format X) (least : X → ℕ) (each : (x : X) → least x ≤ length (spelled (values.Map (format.write x)))) where
  members_long : (xs : List X) → sum_by least xs ≤ length (all_spelled (map (λ es. values.Map es) (map format.write xs)))
  members_long [] = omega arith
  members_long (x ∷ xs) =
      omega (arith, sum_by-cons least x xs, each x, members_long xs, length-append (spelled (values.Map (format.write x))) (all_spelled (map (λ es. values.Map es) (map format.write xs))))

  records_long : (xs : List X) → sum_by least xs ≤ put_length (list_put (map (λ es. values.Map es) (map format.write xs)))
  records_long xs = omega (arith, members_long xs, list_long (map (λ es. values.Map es) (map format.write xs)))

-- ---- transactions

one_inner : (x : Effect) → inner_in x ≤ 1
one_inner (effects.Create a b c d e f) = omega arith
one_inner (effects.SetState s) = omega arith
one_inner effects.Remove = omega arith
one_inner (effects.OptIn s) = omega arith
one_inner (effects.SetLocal w s) = omega arith
one_inner effects.OptOut = omega arith
one_inner (effects.PutBox n v) = omega arith
one_inner (effects.RemoveBox n) = omega arith
one_inner (effects.Inner t) = omega arith

effect_long : (x : Effect) → inner_in x ≤ length (spelled (values.Map (effect.write x)))
effect_long x = omega (arith, one_inner x, map_long (effect.write x))

-- an entry is its own transaction, and the inner ones
abbrev transactions_in : Item → ℕ
transactions_in i = 1 + sum_by inner_in i.effects

item_long : (i : Item) → transactions_in i ≤ length (spelled (values.Map (item.write i)))
item_long i =
    let rest = with_entry (codes "txn") (map_put (txn.write i.txn)) [] in
    omega (arith, map_long (item.write i), field_long (codes "fx") (effects_put i.effects) rest, records_long effect inner_in effect_long i.effects)

-- a block's spelling has at least as many bytes as it has transactions
pub block_long : (b : Block) → sum_by (λ i. 1 + sum_by inner_in i.effects) b.items ≤ length (spelled (values.Map (block.write b)))
block_long b =
    let rest = with_entry (codes "t") (items_put b.items) [] in
    omega (arith, map_long (block.write b), field_long (codes "b") (map_put (header.write b.header)) rest, field_long (codes "t") (items_put b.items) [], records_long item transactions_in item_long b.items)
