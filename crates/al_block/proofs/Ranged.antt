-- Headers and blocks in their ranges.
use Rattle.std.proofs.Common.{◌≡◌, ◌<◌, ◌≤◌, ◌^◌, ℕ, zero, suc, true, List, [], ◌∷◌, length, map, Option, Some, None, inl, inr, refl, sym, ap, ap₂, ◌∙◌, arith}
use Rattle.std.specs.List.{AllByRecursion, list_all}
use Rattle.al_base.specs.declared.address.Address.{Address}
use Rattle.al_digest.specs.Digests.{digest_of}
use Rattle.al_digest.specs.declared.hashing.Prefix.{Prefix}
use Rattle.al_msgpack.specs.declared.val.Val.{Val}
use Rattle.al_msgpack.specs.declared.val.Val.TheVariants as values
use Rattle.al_msgpack.specs.declared.val.Entry.{Entry}
use Rattle.al_msgpack.specs.Canonical as canon
use Rattle.al_msgpack.specs.Canonical.{IsNest, AreEntries, IsCanonical}
use Rattle.al_record.specs.Columns.{IsRecord}
use Rattle.al_record.specs.Laws.{IsShort, names_of}
use Rattle.al_bodies.specs.Ranges.{IsArray}
use Rattle.al_bodies.proofs.Ranged.{AllRanged, array_32, count_same, addresses_canonical, ranged_record, ranged_canonical}
use Rattle.al_bodies.proofs.RangedBodies.{list_canonical, list_sound}
use Rattle.al_txn.specs.Item.{item}
use Rattle.al_txn.specs.Ranges.{ItemRanges}
use Rattle.al_txn.proofs.RangedItem.{item_record, item_canonical}
use Rattle.al_block.specs.declared.block.Block.{Block}
use Rattle.al_block.specs.Block.{block, block_fields}
use Rattle.al_block.specs.declared.header.Header.{Header}
use Rattle.al_block.specs.Header.{header, header_fields}
use Rattle.al_block.specs.Ranges.{HeaderRanges, BlockRanges}

expired_are : (xs : List Address) → AllByRecursion (λ a. IsArray 32 a.0) xs → AllByRecursion (IsArray 32) (map (λ a. a.0) xs)
expired_are [] h = tt
expired_are (a ∷ xs) h = (h.0, expired_are xs h.1)

small : (n : ℕ) → n ≤ 2 ^ 62 → n < 2 ^ 64
small n le = omega (arith, le)

header_ranged : (depth : ℕ) (h : Header) → HeaderRanges h → AllRanged (suc depth) header_fields h
header_ranged depth h r =
    let keys = map (λ a. a.0) h.expired in
    let all = expired_are h.expired r.expired in
    let few : length keys ≤ 32 = rw (count_same (λ (a : Address). a.0) h.expired) r.few in (
      r.level,
      (
        ((few, all, r.apart), addresses_canonical depth keys (omega (arith, few)) all),
        (
          array_32 _ r.sink,
          (
            r.residue,
            (
              array_32 _ r.genesis_hash,
              (
                array_32 _ r.prev,
                (
                  r.rate,
                  ((r.round, small _ r.round), (r.recalc, (array_32 _ r.pool, ((r.counter, small _ r.counter), (r.ts, (array_32 _ r.payset, tt)))))),
                ),
              ),
            ),
          ),
        ),
      ),
    )

pub header_record : (h : Header) → HeaderRanges h → IsRecord header h (header.write h)
header_record h r = ranged_record 1 header_fields h refl (header_ranged 0 h r)

pub header_canonical : (depth : ℕ) (h : Header) → HeaderRanges h → IsCanonical (suc (suc depth)) (values.Map (header.write h))
header_canonical depth h r = ranged_canonical (suc depth) header_fields h refl refl refl (header_ranged depth h r)

-- ---- blocks

-- what nests so deep nests deeper
module _ (P Q : Val → Type 0) (f : (v : Val) → P v → Q v) where
  all_more : (vs : List Val) → AllByRecursion P vs → AllByRecursion Q vs
  all_more [] h = tt
  all_more (v ∷ vs) h = (f v h.0, all_more vs h.1)

  entries_more : (before : Option (List ℕ)) (es : List Entry) → AreEntries P before es → AreEntries Q before es
  entries_more before [] h = tt
  entries_more before (e ∷ es) (up, fits, lt, val, rest) = (up, fits, lt, f e.val val, entries_more (Some e.key) es rest)

  nest_more : (v : Val) → IsNest P v → IsNest Q v
  nest_more v (canon.list vs e lt h) = canon.list vs e lt (all_more vs h)
  nest_more v (canon.map es e lt h) = canon.map es e lt (entries_more None es h)

deeper : (depth : ℕ) (v : Val) → IsCanonical depth v → IsCanonical (suc depth) v
unfolding IsCanonical
deeper zero v h = inl h
deeper (suc depth) v (inl h) = inl h
deeper (suc depth) v (inr h) = inr (nest_more (IsCanonical depth) (IsCanonical (suc depth)) (deeper depth) v h)

items_canonical : (b : Block) → BlockRanges b → IsCanonical 15 (values.List (map (λ es. values.Map es) (map item.write b.items)))
items_canonical b r = list_canonical (ItemRanges 12) item 14 (λ i p. item_canonical 10 i p) b.items r.count r.items

pub payset_canonical : (b : Block) → BlockRanges b → IsCanonical 16 (values.List (map (λ es. values.Map es) (map item.write b.items)))
payset_canonical b r = deeper 15 _ (items_canonical b r)

block_ranged : (b : Block) → BlockRanges b → AllRanged 15 block_fields b
block_ranged b r = (
  ((header_record b.header r.front).sound, header_canonical 13 b.header r.front),
  ((refl, list_sound (ItemRanges 12) item (λ i p. item_record 10 i p) b.items r.items, items_canonical b r), tt),
)

pub block_record : (b : Block) → BlockRanges b → IsRecord block b (block.write b)
block_record b r = ranged_record 15 block_fields b refl (block_ranged b r)

pub block_canonical : (b : Block) → BlockRanges b → IsCanonical 16 (values.Map (block.write b))
block_canonical b r = ranged_canonical 15 block_fields b refl refl refl (block_ranged b r)
