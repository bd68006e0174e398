-- The greatest last valid rounds of entries, where one more comes or the last is taken back.
use Rattle.std.proofs.Common.{◌≡◌, ℕ, List, [], ◌∷◌, ◌++◌, refl, sym, ap, ◌∙◌, subst, Option, Some, None, Bool, true, false, cond, ◌&&◌, ◌||◌, max, nat_le, IsSome, arith}
use Rattle.std.proofs.lemmas.List.{map-append, append-nil, append_assoc}
use Rattle.al_rows.specs.Rows.{same_bytes}
use Rattle.al_tail.specs.declared.latest.Mark.{Mark}
use Rattle.al_tail.specs.declared.latest.Mark.TheVariants.{Id}
use Rattle.al_tail.specs.declared.tail.Entry.{Entry}
use Rattle.al_tail.specs.declared.tail.Kept.{Kept}
use Rattle.al_tail.specs.Past.{later, greatest_last, has_id, is_no_lease}
use Rattle.al_tail.specs.Latest.{at, has_mark, id_mark, lease_mark, last_at, raised, entries_of, Knows, AllKnow, IsIndexed}
use Rattle.al_tail.proofs.Marks.{IsPut, has_id_mark, has_lease_mark, lease_stays, put_both, put_id}

-- ---- one entry more

later_swap : (m n : ℕ) (o : Option ℕ) → later m (Some (later n o)) ≡ later n (Some (later m o))
later_swap m n None = omega arith
later_swap m n (Some k) = omega arith

abbrev with : Bool → ℕ → Option ℕ → Option ℕ
with b n o = cond b (Some (later n o)) o

with_swap : (b c : Bool) (m n : ℕ) (o : Option ℕ) → with b m (with c n o) ≡ with c n (with b m o)
with_swap true true m n o = ap (λ (k : ℕ). Some k) (later_swap m n o)
with_swap true false m n o = refl
with_swap false true m n o = refl
with_swap false false m n o = refl

greatest_more : (test : Entry → Bool) (es : List Entry) (x : Entry) → greatest_last test (es ++ x ∷ []) ≡ with (test x) x.last (greatest_last test es)
greatest_more test [] x = refl
greatest_more test (e ∷ es) x = ap (with (test e) e.last) (greatest_more test es x) ∙ with_swap (test e) (test x) e.last x.last (greatest_last test es)

last_more : (es : List Entry) (e : Entry) (q : Mark) → last_at (es ++ e ∷ []) q ≡ raised e (last_at es) q
last_more es e q = greatest_more (has_mark q) es e

-- ---- an id

-- whether a last round that may be there is at least the round
abbrev pub reaches : ℕ → Option ℕ → Bool
reaches round None = false
reaches round (Some last) = nat_le round last

and_true : (b c : Bool) → (b && true || c) ≡ (b || c)
and_true true c = refl
and_true false c = refl

and_false : (b c : Bool) → (b && false || c) ≡ c
and_false true c = refl
and_false false c = refl

or_false : (b : Bool) → (b || false) ≡ b
or_false true = refl
or_false false = refl

le_max : (r m n : ℕ) → (nat_le r m || nat_le r n) ≡ nat_le r (max m n)
le_max r m n = grind arith

reaches_with : (b : Bool) (r m : ℕ) (o : Option ℕ) → (nat_le r m && b || reaches r o) ≡ reaches r (with b m o)
reaches_with true r m None = and_true (nat_le r m) false ∙ or_false (nat_le r m)
reaches_with true r m (Some n) = and_true (nat_le r m) (nat_le r n) ∙ le_max r m n
reaches_with false r m o = and_false (nat_le r m) (reaches r o)

-- an id is there exactly where the greatest last round of the entries with it is at least the round
pub has_id_reaches : (round : ℕ) (id : List ℕ) (es : List Entry) → has_id round id es ≡ reaches round (greatest_last (λ e. same_bytes e.id id) es)
has_id_reaches round id [] = refl
has_id_reaches round id (e ∷ es) =
    ap (λ b. nat_le round e.last && same_bytes e.id id || b) (has_id_reaches round id es) ∙ reaches_with (same_bytes e.id id) round e.last (greatest_last (λ e. same_bytes e.id id) es)

-- ---- entries that know what stood before them

knows_same : (f g : Mark → Option ℕ) (k : Kept) → ((q : Mark) → f q ≡ g q) → Knows f k → Knows g k
knows_same f g k h n = record { id = n.id ∙ h (id_mark k.entry); lease = λ e. n.lease e ∙ h (lease_mark k.entry) }

know_more : (front : List Entry) (ks : List Kept) (k : Kept) → AllKnow front ks → Knows (last_at (front ++ entries_of ks)) k → AllKnow front (ks ++ k ∷ [])
know_more front [] k h n = (subst (λ (es : List Entry). Knows (last_at es) k) (append-nil front) n, tt)
know_more front (j ∷ ks) k h n =
    (h.0, know_more (front ++ j.entry ∷ []) ks k h.1 (subst (λ (es : List Entry). Knows (last_at es) k) (sym (append_assoc front (j.entry ∷ []) (entries_of ks))) n))

know_fewer : (front : List Entry) (ks : List Kept) (k : Kept) → AllKnow front (ks ++ k ∷ []) → AllKnow front ks × Knows (last_at (front ++ entries_of ks)) k
know_fewer front [] k h = (tt, subst (λ (es : List Entry). Knows (last_at es) k) (sym (append-nil front)) h.0)
know_fewer front (j ∷ ks) k h =
    let r = know_fewer (front ++ j.entry ∷ []) ks k h.1 in
    ((h.0, r.0), subst (λ (es : List Entry). Knows (last_at es) k) (append_assoc front (j.entry ∷ []) (entries_of ks)) r.1)

-- ---- rounds of entries

entries_more : (ks : List Kept) (k : Kept) → entries_of (ks ++ k ∷ []) ≡ entries_of ks ++ k.entry ∷ []
entries_more ks k = map-append (λ (k : Kept). k.entry) ks (k ∷ [])

last_kept : (ks : List Kept) (k : Kept) (q : Mark) → last_at (entries_of (ks ++ k ∷ [])) q ≡ raised k.entry (last_at (entries_of ks)) q
last_kept ks k q = ap (λ (es : List Entry). last_at es q) (entries_more ks k) ∙ last_more (entries_of ks) k.entry q

-- the rounds with one entry more, which is kept behind the others
pub indexed_more : (rs ns : List (Mark × ℕ)) (ks js : List Kept) (k : Kept) (e : Entry) → IsIndexed rs ks → Knows (at rs) k → k.entry ≡ e → ((q : Mark) → at ns q ≡ raised e (at rs) q) → js ≡ ks ++ k ∷ [] → IsIndexed ns js
indexed_more rs ns ks js k e i n same h are = subst (λ (js : List Kept). IsIndexed ns js) (sym are) (record {
  rounds_are = λ q. h q ∙ ap (λ (e : Entry). raised e (at rs) q) (sym same) ∙ ap (with (has_mark q k.entry) k.entry.last) (i.rounds_are q) ∙ sym (last_kept ks k q);
  know = know_more [] ks k i.know (knows_same (at rs) (last_at (entries_of ks)) k i.rounds_are n);
})

back : (b : Bool) (n : ℕ) (o : Option ℕ) → cond b o (with b n o) ≡ o
back true n o = refl
back false n o = refl

indexed_fewer : (rs ns : List (Mark × ℕ)) (ks : List Kept) (k : Kept) → IsIndexed rs (ks ++ k ∷ []) → ((q : Mark) → at ns q ≡ cond (has_mark q k.entry) (last_at (entries_of ks) q) (at rs q)) → IsIndexed ns ks
indexed_fewer rs ns ks k i h = record {
  rounds_are = λ q. h q ∙ ap (cond (has_mark q k.entry) (last_at (entries_of ks) q)) (i.rounds_are q ∙ last_kept ks k q) ∙ back (has_mark q k.entry) k.entry.last (last_at (entries_of ks) q);
  know = (know_fewer [] ks k i.know).0;
}

there : (b : Bool) (n : ℕ) (o : Option ℕ) → b ≡ true → IsSome (with b n o)
there true n o e = refl
there false n o e = cc

last_has : (rs : List (Mark × ℕ)) (ks : List Kept) (k : Kept) (q : Mark) → IsIndexed rs (ks ++ k ∷ []) → has_mark q k.entry ≡ true → IsSome (at rs q)
last_has rs ks k q i e = subst IsSome (sym (i.rounds_are q ∙ last_kept ks k q)) (there (has_mark q k.entry) k.entry.last (last_at (entries_of ks) q) e)

-- the last entry's id has a round
pub id_has : (rs : List (Mark × ℕ)) (ks : List Kept) (k : Kept) (i : Mark) → IsIndexed rs (ks ++ k ∷ []) → i ≡ id_mark k.entry → IsSome (at rs i)
id_has rs ks k i ix ei = subst (λ (q : Mark). IsSome (at rs q)) (sym ei) (last_has rs ks k (id_mark k.entry) ix (has_id_mark k.entry))

-- and its lease, also after what stood under its id was put back
pub lease_has : (rs ms : List (Mark × ℕ)) (ks : List Kept) (k : Kept) (i l : Mark) → is_no_lease k.entry.lease ≡ false → IsIndexed rs (ks ++ k ∷ []) → i ≡ id_mark k.entry → l ≡ lease_mark k.entry → IsPut i k.id_before (at rs) (at ms) → IsSome (at ms l)
lease_has rs ms ks k i l n ix ei el first =
    subst IsSome (sym (lease_stays k.entry i l k.id_before (at rs) (at ms) ei el first)) (subst (λ (q : Mark). IsSome (at rs q)) (sym el) (last_has rs ks k (lease_mark k.entry) ix (has_lease_mark k.entry n)))

-- what stood under both marks of the last entry is put back
pub indexed_back : (rs ms ns : List (Mark × ℕ)) (ks : List Kept) (k : Kept) (i l : Mark) → is_no_lease k.entry.lease ≡ false → IsIndexed rs (ks ++ k ∷ []) → i ≡ id_mark k.entry → l ≡ lease_mark k.entry
    → IsPut i k.id_before (at rs) (at ms) → IsPut l k.lease_before (at ms) (at ns) → IsIndexed ns ks
indexed_back rs ms ns ks k i l n ix ei el first second =
    let known = (know_fewer [] ks k ix.know).1 in
    indexed_fewer rs ns ks k ix (put_both k.entry i l (last_at (entries_of ks)) (at rs) (at ms) (at ns) n ei el
    (subst (λ (o : Option ℕ). IsPut i o (at rs) (at ms)) known.id first)
    (subst (λ (o : Option ℕ). IsPut l o (at ms) (at ns)) (known.lease n) second))

-- what stood under the id of the last entry is put back, where it has no lease
pub indexed_id_back : (rs ns : List (Mark × ℕ)) (ks : List Kept) (k : Kept) (i : Mark) → is_no_lease k.entry.lease ≡ true → IsIndexed rs (ks ++ k ∷ []) → i ≡ id_mark k.entry
    → IsPut i k.id_before (at rs) (at ns) → IsIndexed ns ks
indexed_id_back rs ns ks k i n ix ei put =
    let known = (know_fewer [] ks k ix.know).1 in
    indexed_fewer rs ns ks k ix (put_id k.entry i (last_at (entries_of ks)) (at rs) (at ns) n ei (subst (λ (o : Option ℕ). IsPut i o (at rs) (at ns)) known.id put))

-- what a look-up of an id finds
pub id_found : (round : ℕ) (id : List ℕ) (rs : List (Mark × ℕ)) (ks : List Kept) (o : Option ℕ) → IsIndexed rs ks → o ≡ at rs (Id id) → reaches round o ≡ has_id round id (entries_of ks)
id_found round id rs ks o ix e = ap (reaches round) (e ∙ ix.rounds_are (Id id)) ∙ sym (has_id_reaches round id (entries_of ks))
