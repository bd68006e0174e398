-- No id repeats in a generated chain, or two transactions that differ have one id.
use Rattle.std.proofs.Common.{◌≡◌, ◌∙◌, ◌≤◌, ◌<◌, ◌+◌, ◌*◌, ℕ, zero, suc, refl, sym, ap, subst, arith, List, [], ◌∷◌, ◌++◌, map, Bool, true, false, true≢false, ◌&&◌, ◌||◌, nat_le, ◌⊎◌, inl, inr, leb-true, Contains}
use Rattle.std.proofs.lemmas.List.{map-append}
use Rattle.std.proofs.lemmas.List.Elements.{Contains-append_left, Contains-append_right, Contains-push}
use Rattle.std.specs.Cmp.Lexicographic.{same_text}
use Rattle.std.specs.List.{AllByRecursion}
use Rattle.al_base.specs.Keys.{number_bytes}
use Rattle.al_digest.specs.declared.hashing.Prefix.TheVariants as prefixes
use Rattle.al_generator.specs.Genesis.{generated_bytes, generated_genesis}
use Rattle.al_generator.specs.Items.{item_of, items_of, txn_of}
use Rattle.al_generator.specs.Turns.{block}
use Rattle.al_generator.specs.declared.turns.Made.{Made}
use Rattle.al_rows.specs.Rows.{same_bytes}
use Rattle.al_tail.specs.declared.tail.Entry.{Entry}
use Rattle.al_tail.specs.Past.{entry_of, has_id}
use Rattle.al_txn.specs.Ids.{txid_of}
use Rattle.al_txn.specs.Ranges.{TxnRanges}
use Rattle.al_txn.specs.declared.txn.Item.{Item}
use Rattle.al_txn.specs.declared.txn.Txn.{Txn}
use Rattle.al_generated.specs.Chain.{items_behind, progress_after}
use Rattle.al_taken.specs.Taken.{HasOneId}
use Rattle.al_taken.proofs.AllHere.{Known}
use Rattle.al_taken.proofs.Events.{IsLow, Makes, Runs, block_ran, known_of, next_known}
use Rattle.al_taken.proofs.Items.{next_count}
use Rattle.al_taken.proofs.Blocks.{AreNew, runs_count}
use Rattle.al_taken.proofs.Spellings.{differ, digest_array, txn_ranged}

-- ---- how far the generator is

pub record IsFar (number n : ℕ) : Type 0 where
  pub low : IsLow (progress_after number n)
  pub few : (progress_after number n).count ≤ 8 * n

pub far : (number n : ℕ) → IsFar number n
unfolding progress_after
far number zero = record { low = record { asset = tt; app = tt }; few = omega arith }
far number (suc n) =
    let h = far number n in
    let r = block_ran (progress_after number n) h.low in
    record { low = r.low; few = omega (arith, r.few, h.few) }

-- what is known behind the first n blocks
abbrev pub known_after : ℕ → ℕ → Known
known_after number n = known_of (progress_after number n)

abbrev pub made_behind : ℕ → ℕ → List Made
made_behind number n = (block (progress_after number n)).0

pub block_runs : (number n : ℕ) → Runs (known_after number n) (made_behind number n) (known_after number (suc n))
unfolding progress_after
block_runs number n = (block_ran (progress_after number n) (far number n).low).runs

-- ---- where an entry comes from

-- the entry is that of a transaction of one of the blocks up to the n-th, from 0, whose number is at most the count
pub record Stood (number n count : ℕ) (e : Entry) : Type 0 where
  pub earlier : ℕ
  pub item : Item
  pub within : earlier ≤ n
  pub is_in : Contains (items_behind number earlier) item
  pub entry : e ≡ entry_of item.txn
  pub last : item.txn.last ≡ earlier + 11
  pub place : ℕ
  pub note : item.txn.note ≡ number_bytes place
  pub low : place ≤ count
  pub ranged : TxnRanges 15 item.txn

stood_more : (number m n c d : ℕ) (e : Entry) → m ≤ n → c ≤ d → Stood number m c e → Stood number n d e
stood_more number m n c d e l k h = record {
  earlier = h.earlier;
  item = h.item;
  within = omega (arith, h.within);
  is_in = h.is_in;
  entry = h.entry;
  last = h.last;
  place = h.place;
  note = h.note;
  low = omega (arith, h.low);
  ranged = h.ranged;
}

all_more : {A : Type 0} (P Q : A → Type 0) (xs : List A) → ((x : A) → P x → Q x) → AllByRecursion P xs → AllByRecursion Q xs
all_more P Q [] f h = tt
all_more P Q (x ∷ xs) f h = (f x h.0, all_more P Q xs f h.1)

all_append : {A : Type 0} (P : A → Type 0) (xs ys : List A) → AllByRecursion P xs → AllByRecursion P ys → AllByRecursion P (xs ++ ys)
all_append P [] ys h g = g
all_append P (x ∷ xs) ys h g = (h.0, all_append P xs ys h.1 g)

both_parts : (a b c : Bool) → ((a && b) || c) ≡ true → ((a ≡ true) × (b ≡ true)) ⊎ (c ≡ true)
both_parts true true c e = inl (refl, refl)
both_parts true false c e = inr e
both_parts false b c e = inr e

-- an id that stands is that of an entry
found : (P : Entry → Type 0) (round : ℕ) (id : List ℕ) (past : List Entry) → AllByRecursion P past → has_id round id past ≡ true → (e : Entry) × P e × (round ≤ e.last) × (e.id ≡ id)
found P round id [] h is = absurd (true≢false (sym is))
found P round id (e ∷ es) h is = by_parts (both_parts (nat_le round e.last) (same_bytes e.id id) (has_id round id es) is) (found P round id es h.1)
  where
    by_parts : ((nat_le round e.last ≡ true) × (same_bytes e.id id ≡ true)) ⊎ (has_id round id es ≡ true) → (has_id round id es ≡ true → (x : Entry) × P x × (round ≤ x.last) × (x.id ≡ id)) → (x : Entry) × P x × (round ≤ x.last) × (x.id ≡ id)
    by_parts (inl p) later = (e, h.0, leb-true round e.last p.0, same_text e.id id (sym p.1))
    by_parts (inr p) later = later p

-- ---- a block

abbrev hash : List ℕ
hash = generated_genesis.chain.hash

module _ (number n : ℕ) (soon : n < 100000) where
  abbrev Here : List Item → Type 0
  Here is = (i : Item) → Contains is i → Contains (items_behind number n) i

  ranged : (k : Known) (made : Made) → k.count ≤ 800000 → Makes k made → TxnRanges 15 (txn_of (suc n) hash made)
  ranged k made few makes = txn_ranged k few (suc n) (omega arith) hash (digest_array prefixes.Genesis generated_bytes) made makes

  first_here : (i : Item) (is : List Item) → Here (i ∷ is) → Contains (items_behind number n) i
  first_here i is here = here i (Contains-append_left (i ∷ []) is i (Contains-push [] i))

  rest_here : (i : Item) (is : List Item) → Here (i ∷ is) → Here is
  rest_here i is here x c = here x (Contains-append_right (i ∷ []) is x c)

  one_stood : (k : Known) (made : Made) → k.count ≤ 800000 → Makes k made → Contains (items_behind number n) (item_of (suc n) hash made) → Stood number n (k.count + 1) (entry_of (txn_of (suc n) hash made))
  one_stood k made few makes is_in = record {
    earlier = n;
    item = item_of (suc n) hash made;
    within = omega arith;
    is_in = is_in;
    entry = refl;
    last = omega arith;
    place = made.number;
    note = refl;
    low = omega (arith, makes.number);
    ranged = ranged k made few makes;
  }

  up : (k l : Known) (made : Made) (ms : List Made) → Runs k (made ∷ ms) l → k.count + 1 ≤ l.count
  up k l made ms h = omega (arith, runs_count (next_known k made.action) l ms h.1, next_count k made.action)

  -- two transactions with one id
  repeats : (k : Known) (made : Made) (past : List Entry) → k.count + 1 ≤ 800000 → Makes k made → Contains (items_behind number n) (item_of (suc n) hash made) → AllByRecursion (Stood number n k.count) past → has_id (suc n) (txid_of (txn_of (suc n) hash made)) past ≡ true → HasOneId number (suc n)
  repeats k made past few makes is_in stood is =
      let f = found (Stood number n k.count) (suc n) (txid_of (txn_of (suc n) hash made)) past stood is in
      let h = f.1 in
      let lasts : f.0.last ≡ h.earlier + 11 = ap (λ (e : Entry). e.last) h.entry ∙ h.last in
      record {
        one = h.item;
        other = item_of (suc n) hash made;
        earlier = h.earlier;
        later = n;
        in_order = h.within;
        near = omega (arith, f.2, lasts);
        within = omega arith;
        one_is = h.is_in;
        other_is = is_in;
        differ = differ h.item.txn (txn_of (suc n) hash made) h.place made.number h.ranged (ranged k made (omega arith) makes) h.note refl (omega (arith, h.low, makes.number)) (omega (arith, makes.number));
        same = sym (ap (λ (e : Entry). e.id) h.entry) ∙ f.3;
      }

  pub new_or : (past : List Entry) (k l : Known) (ms : List Made) → Runs k ms l → l.count ≤ 800000 → Here (items_of (suc n) hash ms) → AllByRecursion (Stood number n k.count) past → AreNew (suc n) past (items_of (suc n) hash ms) ⊎ HasOneId number (suc n)
  new_or past k l [] runs few here stood = inl tt
  new_or past k l (made ∷ ms) runs few here stood = by_test (has_id (suc n) (txid_of (txn_of (suc n) hash made)) past) refl
      (new_or (past ++ entry_of (txn_of (suc n) hash made) ∷ []) (next_known k made.action) l ms runs.1 few (rest_here (item_of (suc n) hash made) (items_of (suc n) hash ms) here) later_stood)
    where
      i : Item
      i = item_of (suc n) hash made

      fits : k.count + 1 ≤ 800000
      fits = omega (arith, up k l made ms runs, few)

      is_in : Contains (items_behind number n) (item_of (suc n) hash made)
      is_in = first_here (item_of (suc n) hash made) (items_of (suc n) hash ms) here

      later_stood : AllByRecursion (Stood number n (next_known k made.action).count) (past ++ entry_of i.txn ∷ [])
      later_stood = all_append (Stood number n (next_known k made.action).count) past (entry_of i.txn ∷ []) (all_more (Stood number n k.count) (Stood number n (next_known k made.action).count) past (λ e. stood_more number n n k.count (next_known k made.action).count e (omega arith) (omega (arith, next_count k made.action))) stood)
          (subst (λ (c : ℕ). Stood number n c (entry_of i.txn)) (sym (next_count k made.action)) (one_stood k made (omega (arith, fits)) runs.0 is_in), tt)

      by_test : (t : Bool) → has_id (suc n) (txid_of (txn_of (suc n) hash made)) past ≡ t → AreNew (suc n) (past ++ entry_of i.txn ∷ []) (items_of (suc n) hash ms) ⊎ HasOneId number (suc n) → AreNew (suc n) past (items_of (suc n) hash (made ∷ ms)) ⊎ HasOneId number (suc n)
      by_test true e r = inr (repeats k made past fits runs.0 is_in stood e)
      by_test false e (inl new) = inl (e, new)
      by_test false e (inr clash) = inr clash

  -- the entries of the block stand behind it
  pub block_stood : (k l : Known) (ms : List Made) → Runs k ms l → l.count ≤ 800000 → Here (items_of (suc n) hash ms) → AllByRecursion (Stood number n l.count) (map entry_of (map (λ i. i.txn) (items_of (suc n) hash ms)))
  block_stood k l [] runs few here = tt
  block_stood k l (made ∷ ms) runs few here =
      let one = one_stood k made (omega (arith, up k l made ms runs, few)) runs.0 (first_here (item_of (suc n) hash made) (items_of (suc n) hash ms) here) in (
        stood_more number n n (k.count + 1) l.count (entry_of (txn_of (suc n) hash made)) (omega arith) (up k l made ms runs) one,
        block_stood (next_known k made.action) l ms runs.1 few (rest_here (item_of (suc n) hash made) (items_of (suc n) hash ms) here),
      )

-- ---- the chain

-- the transactions of the first n blocks
abbrev pub past_txns : ℕ → ℕ → List Txn
past_txns number zero = []
past_txns number (suc n) = past_txns number n ++ map (λ i. i.txn) (items_behind number n)

pub all_stood : (number n : ℕ) → n ≤ 100000 → AllByRecursion (Stood number n (progress_after number n).count) (map entry_of (past_txns number n))
all_stood number zero l = tt
all_stood number (suc n) l =
    let k = known_after number n in
    let m = known_after number (suc n) in
    let runs = block_runs number n in
    let after = (far number (suc n)).few in
    let rises = runs_count k m (made_behind number n) runs in
    subst (AllByRecursion (Stood number (suc n) (progress_after number (suc n)).count)) (sym (map-append entry_of (past_txns number n) (map (λ (i : Item). i.txn) (items_behind number n))))
    (all_append (Stood number (suc n) m.count) (map entry_of (past_txns number n)) (map entry_of (map (λ (i : Item). i.txn) (items_behind number n)))
    (all_more (Stood number n k.count) (Stood number (suc n) m.count) (map entry_of (past_txns number n)) (λ e. stood_more number n (suc n) k.count m.count e (omega arith) (omega (arith, rises))) (all_stood number n (omega arith)))
    (all_more (Stood number n m.count) (Stood number (suc n) m.count) (map entry_of (map (λ (i : Item). i.txn) (items_behind number n))) (λ e. stood_more number n (suc n) m.count m.count e (omega arith) (omega arith))
    (block_stood number n (omega (arith, l)) k m (made_behind number n) runs (omega (arith, after, l)) (λ i c. c))))
