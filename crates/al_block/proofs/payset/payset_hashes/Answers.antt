use Rattle.std.proofs.Common.{◌≡◌, ◌++◌, [], List, ℕ, length, map, ap, ap₂, ◌∙◌}
use Rattle.std.proofs.lemmas.List.{length-map}
use Rattle.al_msgpack.specs.declared.val.Val.{Val}
use Rattle.al_msgpack.specs.declared.val.Val.TheVariants as values
use Rattle.al_msgpack.specs.Spelled.{list_head, spelled, all_spelled}
use Rattle.al_msgpack.specs.declared.val.Entry.{Entry}
use Rattle.al_digest.specs.Digests.{digest_of}
use Rattle.al_digest.specs.declared.hashing.Prefix.TheVariants as prefixes
use Rattle.al_record.proofs.Appended.{list_behind}
use Rattle.al_txn.specs.Item.{item}
use Rattle.al_txn.specs.declared.txn.Item.{Item}
use Rattle.al_block.proofs.payset.payset_hashes.Goals as goal

abbrev vals : List Item → List Val
vals xs = map (λ es. values.Map es) (map item.write xs)

-- a head and the entries behind it, in an empty output
whole : (old mid new : List ℕ) (n : ℕ) (xs ys : List Item) → old ≡ [] → n ≡ length xs → ys ≡ xs → mid ≡ old ++ list_head n → new ≡ mid ++ all_spelled (vals ys) → new ≡ spelled (values.List (vals xs))
whole old mid new n xs ys none counts same headed valued =
    list_behind [] mid new (length xs) (vals xs) (length-map (map item.write xs) (λ (es : List Entry). values.Map es) ∙ length-map xs item.write) (headed ∙ ap₂ (λ a m. a ++ list_head m) none counts) (valued ∙ ap (λ zs. mid ++ all_spelled (vals zs)) same)

pub returns-clause-payset : goal.returns-clause-payset
returns-clause-payset c =
    c.digest-payset.ensures.value ∙ ap (digest_of prefixes.Payset) (c.as_slice-2.ensures.value ∙ whole _ c.write_list_head.new.out.items c.write_items.new.out.items c.len-2.result c.args.b.now.items c.as_slice.result.now c.in_ok-bytes.ensures.items c.len-2.ensures c.as_slice.ensures c.in_ok-write_list_head.ensures.bytes c.in_ok-ids.ensures.bytes)
