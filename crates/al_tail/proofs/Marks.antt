-- The marks of entries: their order, and what is put under the two of an entry.
use Rattle.std.proofs.Common.{◌≡◌, ℕ, List, refl, sym, ap, ◌∙◌, subst, Option, Some, Bool, true, false, not, cond, ◌&&◌, IsSome, Ordering, Less, Equal, Greater, is_eq, nat_cmp}
use Rattle.std.proofs.lemmas.Bool.{and_parts, and_from}
use Rattle.std.proofs.lemmas.Map.Text.{is_eq-slice_cmp}
use Rattle.std.specs.Ordering.{ordering_then}
use Rattle.std.specs.Cmp.Lexicographic.{slice_cmp, nat_list_cmp_total}
use Rattle.std.proofs.lemmas.Cmp.{tied_itself}
use Rattle.std.specs.BTreeMap.{is_at}
use Rattle.std.specs.FinMap.{nat_cmp-IsAntisymmetric, slice_cmp-IsAntisymmetric}
use Rattle.al_base.specs.declared.address.Address.{Address}
use Rattle.al_base.specs.Keys.{address_cmp}
use Rattle.al_rows.specs.Rows.{same_bytes}
use Rattle.al_tail.specs.declared.latest.Mark.{Mark}
use Rattle.al_tail.specs.declared.latest.Mark.TheVariants.{Id, Lease}
use Rattle.al_tail.specs.contracts.latest.MarkOrd.TheImpl as derived
use Rattle.al_tail.specs.declared.tail.Entry.{Entry}
use Rattle.al_tail.specs.Past.{is_no_lease, later}
use Rattle.al_tail.specs.Latest.{mark_cmp, has_mark, id_mark, lease_mark, raised}

-- the derived comparison is this order
same_orders : (a b : Mark) → (derived.cmp-value).it a b ≡ mark_cmp a b
same_orders (Id a) (Id b) = refl
same_orders (Id a) (Lease t m) = refl
same_orders (Lease s l) (Id b) = refl
same_orders (Lease s l) (Lease t m) = refl

pub derived_order : (derived.cmp-value).it ≡ mark_cmp
derived_order = λ i a b. same_orders a b i

then_eq : (r s : Ordering) → is_eq (ordering_then r s) ≡ (is_eq r && is_eq s)
then_eq Less s = refl
then_eq Equal s = refl
then_eq Greater s = refl

equal : (r : Ordering) → is_eq r ≡ true → r ≡ Equal
equal Less p = cc
equal Equal p = refl
equal Greater p = cc

bytes_back : (a b : List ℕ) → is_eq (slice_cmp nat_cmp a b) ≡ true → a ≡ b
bytes_back a b e = slice_cmp-IsAntisymmetric nat_cmp-IsAntisymmetric a b (equal (slice_cmp nat_cmp a b) e)

address_back : (s t : Address) → is_eq (address_cmp s t) ≡ true → s ≡ t
address_back s t e = ap (λ (n : List ℕ). record { 0 = n }) (bytes_back s.0 t.0 e)

-- the order tells all marks apart
same_mark : (k q : Mark) → is_at (mark_cmp k) q ≡ true → k ≡ q
same_mark (Id a) (Id b) e = ap Id (bytes_back a b e)
same_mark (Id a) (Lease t m) e = cc
same_mark (Lease s l) (Id b) e = cc
same_mark (Lease s l) (Lease t m) e =
    let p = and_parts (is_eq (address_cmp s t)) (is_eq (slice_cmp nat_cmp l m)) (sym (then_eq (address_cmp s t) (slice_cmp nat_cmp l m)) ∙ e) in
    λ i. Lease (address_back s t p.0 i) (bytes_back l m p.1 i)

itself : (bs : List ℕ) → is_eq (slice_cmp nat_cmp bs bs) ≡ true
itself bs = ap is_eq (tied_itself nat_list_cmp_total bs)

-- a mark is at itself
pub at_itself : (k : Mark) → is_at (mark_cmp k) k ≡ true
at_itself (Id a) = itself a
at_itself (Lease s l) = then_eq (address_cmp s s) (slice_cmp nat_cmp l l) ∙ and_from (is_eq (address_cmp s s)) (is_eq (slice_cmp nat_cmp l l)) (itself s.0) (itself l)

-- the mark of an entry that is of another one's kind
abbrev own : Mark → Entry → Mark
own (Id id) e = id_mark e
own (Lease sender lease) e = lease_mark e

-- an entry has a mark where its own of that kind is at it
has_at : (q : Mark) (e : Entry) → is_no_lease e.lease ≡ false → is_at (mark_cmp (own q e)) q ≡ has_mark q e
has_at (Id id) e n = is_eq-slice_cmp e.id id
has_at (Lease sender lease) e n =
    then_eq (address_cmp e.sender sender) (slice_cmp nat_cmp e.lease lease)
    ∙ ap (λ b. b && is_eq (slice_cmp nat_cmp e.lease lease)) (is_eq-slice_cmp e.sender.0 sender.0)
    ∙ ap (λ b. same_bytes e.sender.0 sender.0 && b) (is_eq-slice_cmp e.lease lease)
    ∙ ap (λ b. not b && (same_bytes e.sender.0 sender.0 && same_bytes e.lease lease)) (sym n)

pub has_id_mark : (e : Entry) → has_mark (id_mark e) e ≡ true
has_id_mark e = sym (is_eq-slice_cmp e.id e.id) ∙ at_itself (id_mark e)

pub has_lease_mark : (e : Entry) → is_no_lease e.lease ≡ false → has_mark (lease_mark e) e ≡ true
has_lease_mark e n = sym (has_at (lease_mark e) e n) ∙ at_itself (lease_mark e)

module _ {X : Type 0} where
  -- g is f with v under the mark k
  abbrev pub IsPut : Mark → Option X → (Mark → Option X) → (Mark → Option X) → Type 0
  IsPut k v f g = (q : Mark) → g q ≡ cond (is_at (mark_cmp k) q) v (f q)

  -- the value under the mark itself may be taken at what it is equal to
  at_same : (k q : Mark) (v : Mark → Option X) (z : Option X) → cond (is_at (mark_cmp k) q) (v k) z ≡ cond (is_at (mark_cmp k) q) (v q) z
  at_same k q v z = by_test (is_at (mark_cmp k) q) refl
    where
      by_test : (b : Bool) → is_at (mark_cmp k) q ≡ b → cond b (v k) z ≡ cond b (v q) z
      by_test true e = ap v (same_mark k q e)
      by_test false e = refl

  at_own : (q : Mark) (e : Entry) (v : Mark → Option X) (z : Option X) → is_no_lease e.lease ≡ false → cond (is_at (mark_cmp (own q e)) q) (v (own q e)) z ≡ cond (has_mark q e) (v q) z
  at_own q e v z n = at_same (own q e) q v z ∙ ap (λ b. cond b (v q) z) (has_at q e n)

  -- what is put under both marks of an entry, i and l
  pub put_both : (e : Entry) (i l : Mark) (v f m g : Mark → Option X) → is_no_lease e.lease ≡ false → i ≡ id_mark e → l ≡ lease_mark e → IsPut i (v (id_mark e)) f m → IsPut l (v (lease_mark e)) m g → (q : Mark) → g q ≡ cond (has_mark q e) (v q) (f q)
  put_both e i l v f m g n ei el first second q = in_turn q (subst (λ (k : Mark). IsPut k (v (id_mark e)) f m) ei first q) (subst (λ (k : Mark). IsPut k (v (lease_mark e)) m g) el second q)
    where
      in_turn : (q : Mark) → m q ≡ cond (is_at (mark_cmp (id_mark e)) q) (v (id_mark e)) (f q) → g q ≡ cond (is_at (mark_cmp (lease_mark e)) q) (v (lease_mark e)) (m q) → g q ≡ cond (has_mark q e) (v q) (f q)
      in_turn (Id id) a b = b ∙ a ∙ at_own (Id id) e v (f (Id id)) n
      in_turn (Lease s t) a b = b ∙ ap (cond (is_at (mark_cmp (lease_mark e)) (Lease s t)) (v (lease_mark e))) a ∙ at_own (Lease s t) e v (f (Lease s t)) n

  -- what is put under the id of an entry that has no lease
  pub put_id : (e : Entry) (i : Mark) (v f g : Mark → Option X) → is_no_lease e.lease ≡ true → i ≡ id_mark e → IsPut i (v (id_mark e)) f g → (q : Mark) → g q ≡ cond (has_mark q e) (v q) (f q)
  put_id e i v f g n ei put q = at_mark q (subst (λ (k : Mark). IsPut k (v (id_mark e)) f g) ei put q)
    where
      at_mark : (q : Mark) → g q ≡ cond (is_at (mark_cmp (id_mark e)) q) (v (id_mark e)) (f q) → g q ≡ cond (has_mark q e) (v q) (f q)
      at_mark (Id id) a = a ∙ at_same (id_mark e) (Id id) v (f (Id id)) ∙ ap (λ b. cond b (v (Id id)) (f (Id id))) (is_eq-slice_cmp e.id id)
      at_mark (Lease s t) a = a ∙ ap (λ b. cond (not b && (same_bytes e.sender.0 s.0 && same_bytes e.lease t)) (v (Lease s t)) (f (Lease s t))) (sym n)

  -- what is put under the id leaves what is under the lease
  pub lease_stays : (e : Entry) (i l : Mark) (v : Option X) (f m : Mark → Option X) → i ≡ id_mark e → l ≡ lease_mark e → IsPut i v f m → m l ≡ f l
  lease_stays e i l v f m ei el first = subst (λ (k : Mark). m k ≡ f k) (sym el) (subst (λ (k : Mark). IsPut k v f m) ei first (lease_mark e))

  some_there : (b : Bool) (x : X) (z : Option X) → b ≡ true → IsSome (cond b (Some x) z)
  some_there true x z e = refl
  some_there false x z e = cc

  -- what was put under a mark is there
  pub put_there : (k : Mark) (x : X) (f g : Mark → Option X) → IsPut k (Some x) f g → IsSome (g k)
  put_there k x f g p = subst IsSome (sym (p k)) (some_there (is_at (mark_cmp k) k) x (f k) (at_itself k))

  -- to put back what stood under a mark undoes what was put there
  pub put_undone : (k : Mark) (v : Option X) (f m g : Mark → Option X) → IsPut k v f m → IsPut k (f k) m g → (q : Mark) → g q ≡ f q
  put_undone k v f m g first second q =
      second q ∙ ap (cond (is_at (mark_cmp k) q) (f k)) (first q) ∙ at_same k q f (cond (is_at (mark_cmp k) q) v (f q)) ∙ same (is_at (mark_cmp k) q)
    where
      same : (b : Bool) → cond b (f q) (cond b v (f q)) ≡ f q
      same true = refl
      same false = refl

-- the rounds under both marks of an entry are raised, the one under its lease as it stands after the first
pub raised_both : (e : Entry) (i l : Mark) (f m g : Mark → Option ℕ) → is_no_lease e.lease ≡ false → i ≡ id_mark e → l ≡ lease_mark e → IsPut i (Some (later e.last (f i))) f m → IsPut l (Some (later e.last (m l))) m g → (q : Mark) → g q ≡ raised e f q
raised_both e i l f m g n ei el first second =
    let v : Mark → Option ℕ = λ q. Some (later e.last (f q)) in
    let first' : IsPut i (v (id_mark e)) f m = subst (λ (k : Mark). IsPut i (v k) f m) ei first in
    let same : m l ≡ f (lease_mark e) = lease_stays e i l (v (id_mark e)) f m ei el first' ∙ ap f el in
    let second' : IsPut l (v (lease_mark e)) m g = subst (λ (o : Option ℕ). IsPut l (Some (later e.last o)) m g) same second in
    put_both e i l v f m g n ei el first' second'

-- the round under the id of an entry that has no lease is raised
pub raised_id : (e : Entry) (i : Mark) (f g : Mark → Option ℕ) → is_no_lease e.lease ≡ true → i ≡ id_mark e → IsPut i (Some (later e.last (f i))) f g → (q : Mark) → g q ≡ raised e f q
raised_id e i f g n ei put =
    let v : Mark → Option ℕ = λ q. Some (later e.last (f q)) in
    put_id e i v f g n ei (subst (λ (k : Mark). IsPut i (v k) f g) ei put)
