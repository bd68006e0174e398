-- What is appended of transactions and entries.
use Rattle.std.proofs.Common.{◌≡◌, ◌==◌, ◌≤◌, ℕ, suc, ◌+◌, true, false, codes, List, [], ◌∷◌, ◌++◌, length, OnErr, Result, Ok, Err, take, drop, ◌-◌, Option, Some, None, refl, sym, ap, ◌∙◌, arith, append_assoc}
use Rattle.std.proofs.lemmas.Bool.{eqb-true}
use Rattle.std.proofs.lemmas.List.{length-append, take_all}
use Rattle.std.proofs.Transfers.{drop-appended}
use Rattle.al_msgpack.specs.declared.val.Val.{Val}
use Rattle.al_msgpack.specs.declared.val.Val.TheVariants as values
use Rattle.al_msgpack.specs.declared.val.Entry.{Entry}
use Rattle.al_msgpack.specs.Spelled.{string_head, map_head, spelled, entries_spelled}
use Rattle.al_msgpack.proofs.Spellings.{spelled_map}
use Rattle.al_record.specs.Code.{count_some}
use Rattle.al_record.specs.Columns.{is_empty, map_put, with_entry}
use Rattle.al_record.proofs.Appended.{field_first, field_there, length_with}
use Rattle.al_bodies.specs.declared.body.Body.{Body}
use Rattle.al_bodies.specs.declared.body.Body.TheVariants as bodies
use Rattle.al_bodies.specs.declared.effect.Effect.{Effect}
use Rattle.al_bodies.proofs.Straight.{not_empty}
use Rattle.al_txn.specs.declared.txn.Txn.{Txn}
use Rattle.al_txn.specs.declared.txn.Item.{Item}
use Rattle.al_txn.specs.Txn.{txn, with_group, written}
use Rattle.al_txn.specs.Item.{effects_put, item, item_front}
use Rattle.al_txn.proofs.Same.{named, word}

pub own_group : (t : Txn) (b : Body) → written (with_group t.group t) b ≡ written t b
own_group t (bodies.Pay p) = refl
own_group t (bodies.KeyReg k) = refl
own_group t (bodies.Config c) = refl
own_group t (bodies.Move m) = refl
own_group t (bodies.Freeze f) = refl
own_group t (bodies.App a) = refl

pub txn_some : (t : Txn) → is_empty (txn.write t) ≡ false
txn_some t = not_empty (codes "type") (values.Str (word t.body)) (txn.write t) (named t t.body)

map_there : (es : List Entry) → is_empty es ≡ false → map_put es ≡ Some (values.Map es)
map_there [] h = absurd cc
map_there (e ∷ es) h = refl

pub no_effects : (xs : List Effect) → (length xs == 0) ≡ true → 1 ≡ suc (count_some (effects_put xs ∷ []))
no_effects [] h = refl
no_effects (x ∷ xs) h = (let e = eqb-true _ _ h in absurd (omega (arith, e)))

pub some_effects : (xs : List Effect) → (length xs == 0) ≡ false → 2 ≡ suc (count_some (effects_put xs ∷ []))
some_effects [] h = absurd cc
some_effects (x ∷ xs) h = refl

-- a head and two parts
pub two_parts : (old mid more new a b c : List ℕ) → mid ≡ old ++ a → more ≡ mid ++ b → new ≡ more ++ c → new ≡ old ++ (a ++ (b ++ c))
two_parts old mid more new a b c p q r = r ∙ ap (λ z. z ++ c) (q ∙ ap (λ z. z ++ b) p ∙ append_assoc old a b) ∙ append_assoc old (a ++ b) c ∙ ap (λ z. old ++ z) (append_assoc a b c)

apart : (a b c d : List ℕ) → (a ++ (b ++ c)) ++ d ≡ a ++ (b ++ (c ++ d))
apart a b c d = append_assoc a (b ++ c) d ∙ ap (λ z. a ++ z) (append_assoc b c d)

-- an entry is its front and the transaction
pub item_spelled : (i : Item) → item_front i.effects ++ spelled (values.Map (txn.write i.txn)) ≡ spelled (values.Map (item.write i))
item_spelled i =
    let fx = effects_put i.effects in
    let w = txn.write i.txn in
    let name = codes "txn" in
    let rest = with_entry name (map_put w) [] in
    let es = with_entry (codes "fx") fx rest in
    let there = map_there w (txn_some i.txn) in
    let one : length rest ≡ 1 = ap (λ o. length (with_entry name o [])) there in
    let counts : length es ≡ suc (count_some (fx ∷ [])) = let h = length_with (codes "fx") fx rest in omega (arith, h, one) in
    let last : entries_spelled rest ≡ (string_head (length name) ++ name) ++ spelled (values.Map w) = ap (λ o. entries_spelled (with_entry name o [])) there ∙ field_there name (values.Map w) in
    let field = entries_spelled (with_entry (codes "fx") fx []) in
    apart (map_head (suc (count_some (fx ∷ [])))) field (string_head (length name) ++ name) (spelled (values.Map w))
    ∙ ap (λ z. map_head (suc (count_some (fx ∷ []))) ++ (field ++ z)) (sym last)
    ∙ ap (λ z. map_head (suc (count_some (fx ∷ []))) ++ z) (sym (field_first (codes "fx") fx rest))
    ∙ ap (λ n. map_head n ++ entries_spelled es) (sym counts)
    ∙ sym (spelled_map es)

pub item_behind : (old mid new : List ℕ) (i : Item) → mid ≡ old ++ item_front i.effects → new ≡ mid ++ spelled (values.Map (txn.write i.txn)) → new ≡ old ++ spelled (values.Map (item.write i))
item_behind old mid new i p q = q ∙ ap (λ z. z ++ spelled (values.Map (txn.write i.txn))) p ∙ append_assoc old (item_front i.effects) (spelled (values.Map (txn.write i.txn))) ∙ ap (λ z. old ++ z) (item_spelled i)

pub count_most : (os : List (Option Val)) → count_some os ≤ length os
count_most [] = omega arith
count_most (None ∷ os) = (let h = count_most os in omega (arith, h))
count_most (Some v ∷ os) = (let h = count_most os in omega (arith, h))

-- what was appended last
pub last_part : (mid new part w : List ℕ) (n : ℕ) → n ≡ length mid → part ≡ new → new ≡ mid ++ w → take (length part - n) (drop n part) ≡ w
last_part mid new part w n counts same whole =
    let e : part ≡ mid ++ w = same ∙ whole in
    let size : length (mid ++ w) - length mid ≡ length w = (let h = length-append mid w in omega (arith, h)) in
    let rest : drop (length mid) (mid ++ w) ≡ w = drop-appended mid (mid ++ w) w refl in
    rw (counts, e, size, rest) (take_all (length w) w (omega arith))

-- what holds anyhow holds after a refusal
pub on_err : {T E : Type 0} (r : Result T E) (P : Type 0) → P → OnErr r P
on_err (Ok x) P p = tt
on_err (Err e) P p = p
