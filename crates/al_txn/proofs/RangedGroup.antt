-- The list of a group's members has a spelling.
use Rattle.std.proofs.Common.{◌≡◌, ◌<◌, ◌^◌, ℕ, suc, codes, List, [], ◌∷◌, length, map, refl, sym, ap, ap₂, ◌∙◌, subst, arith, All}
use Rattle.std.specs.List.{AllByRecursion}
use Rattle.std.proofs.lemmas.List.Elements.{All-head, All-tail}
use Rattle.al_digest.specs.Digests.{digest_of, prefix_of}
use Rattle.al_digest.specs.declared.hashing.Prefix.{Prefix}
use Rattle.al_digest.proofs.Readings.{digest_are_bytes}
use Rattle.al_msgpack.specs.declared.val.Val.{Val}
use Rattle.al_msgpack.specs.declared.val.Val.TheVariants as values
use Rattle.al_msgpack.specs.Canonical.{IsCanonical}
use Rattle.al_record.specs.Columns.{FieldOf, addresses, with_entry, list_put, entries}
use Rattle.al_record.proofs.Tables.{written_canonical}
use Rattle.al_bodies.specs.Ranges.{IsArray}
use Rattle.al_bodies.proofs.Ranged.{are_short, count_same, addresses_canonical}
use Rattle.al_txn.specs.declared.txn.Item.{Item}
use Rattle.al_txn.specs.Ids.{txid_of, ungrouped, member_ids}

all_below : (b : List ℕ) → All (λ x. x < 256) b → AllByRecursion (λ x. x < 256) b
all_below [] h = tt
all_below (x ∷ b) h = (All-head (λ y. y < 256) x b h, all_below b (All-tail (λ y. y < 256) x b h))

is_array : (m : List ℕ) → (length m ≡ 32) × All (λ b. b < 256) m → IsArray 32 m
is_array m h = (all_below m h.1, h.0)

id_of : Item → List ℕ
id_of i = txid_of (ungrouped i.txn)

id_is_array : (i : Item) → IsArray 32 (id_of i)
unfolding id_of
id_is_array i = is_array _ (digest_are_bytes _)

ids_are : (items : List Item) → AllByRecursion (IsArray 32) (map id_of items)
ids_are [] = tt
ids_are (i ∷ items) = (id_is_array i, ids_are items)

members_are : (items : List Item) → member_ids items ≡ map (λ a. values.Bin a) (map id_of items)
unfolding id_of
members_are [] = refl
members_are (i ∷ items) = ap (λ (vs : List Val). values.Bin (txid_of (ungrouped i.txn)) ∷ vs) (members_are items)

-- the one field of a group's record
abbrev members : List (FieldOf (List (List ℕ)))
members = addresses (codes "txlist") 0 (λ ids. ids) ∷ []

ids_canonical : (ids : List (List ℕ)) → length ids < 2 ^ 32 → AllByRecursion (IsArray 32) ids → IsCanonical 16 (values.Map (entries members ids))
ids_canonical ids lt h = written_canonical 15 members ids refl (are_short (codes "txlist" ∷ []) refl) (omega arith) (addresses_canonical 14 ids lt h, tt)

pub group_canonical : (items : List Item) → length items < 2 ^ 32 → IsCanonical 16 (values.Map (with_entry (codes "txlist") (list_put (member_ids items)) []))
group_canonical items lt =
    subst (λ (vs : List Val). IsCanonical 16 (values.Map (with_entry (codes "txlist") (list_put vs) []))) (sym (members_are items))
    (ids_canonical (map id_of items) (rw (count_same id_of items) lt) (ids_are items))
