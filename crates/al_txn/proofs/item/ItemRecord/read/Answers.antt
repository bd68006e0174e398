use Rattle.std.proofs.Common.{◌≡◌, refl, sym, codes, None, ◌∙◌, ◌≤◌, length, true, nat_le}
use Rattle.std.proofs.lemmas.Bool.{le-leb}
use Rattle.al_record.specs.Columns.{first_fault, rules_of, map_of, list_of, value_at, members_fault}
use Rattle.al_record.proofs.Canonical.{inner_canonical, inners_canonical}
use Rattle.al_record.proofs.Engine.{is_record}
use Rattle.al_record.proofs.OfKind.{of_kind}
use Rattle.al_txn.specs.declared.txn.Item.{Item}
use Rattle.al_bodies.specs.Effect.{effect}
use Rattle.al_txn.specs.Item.{item, item_fields, most_effects}
use Rattle.al_txn.specs.Txn.{txn}
use Rattle.al_txn.proofs.item.ItemRecord.read.Goals as goal

pub read_all-requires : goal.read_all-requires
read_all-requires c = rw c.list-vals.ensures (inners_canonical (codes "fx") c.args.entries.now c.requires)

pub read_txn-requires : goal.read_txn-requires
read_txn-requires c = rw c.map.ensures (inner_canonical (codes "txn") c.args.entries.now c.requires)

pub returns : goal.returns
returns c =
    let es = c.args.entries.now in
    let most = most_effects es in
    let r = c.in_ok-txn.ensures in
    let all = c.in_ok-effects.ensures in
    let i : Item = record { txn = c.in_ok-txn.txn; effects = c.in_ok-effects.effects } in
    let few : length (list_of (value_at (codes "fx") es)) ≤ most = rw (← c.list-vals.ensures, ← c.most_effects.ensures) c.if-vals-most_effects.false in
    let limit : nat_le (length (list_of (value_at (codes "fx") es))) most ≡ true = le-leb _ _ few in
    let fx : members_fault effect.fault (list_of (value_at (codes "fx") es)) ≡ None = rw (← c.list-vals.ensures) all.1 in
    let t : txn.fault (map_of (value_at (codes "txn") es)) ≡ None = rw (← c.map.ensures) r.sound in
    let none : first_fault (rules_of (item_fields most)) es ≡ None = rw (c.in_ok-check_fields.ensures, limit, fx, t) refl in
    of_kind item (item_fields most) i i es refl refl (is_record (item_fields most) i es refl c.requires none (all.0 ∙ c.list-vals.ensures, (sym r.fields ∙ c.map.ensures, tt)))
