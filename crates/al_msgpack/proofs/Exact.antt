-- Readers that are exact for a relation, and how they are put together.
use Rattle.std.proofs.Common.{◌≡◌, ℕ, ◌-◌, ◌<◌, ◌≤◌, Bool, true, false, cond, List, [], ◌∷◌, ◌++◌, length, Result, Ok, Err, refl, sym, ap, subst, ◌∙◌, append_assoc, arith, length-append, inl, inr, ◌⊎◌, ap₂, true≢false}
use Rattle.al_msgpack.specs.declared.fault.Fault.{Fault}
use Rattle.al_msgpack.specs.declared.fault.Fault.TheVariants.{Short, Bad}
use Rattle.al_msgpack.specs.Reading.{Read, ◌>>=◌, then_at, mapped, byte_at}
use Rattle.al_msgpack.specs.Grammar.{Spelling, Begins, AreBytes}

-- bytes of a length that is not too great
pub record Fit (n : ℕ) (text : List ℕ) : Type 0 where
  pub bytes : AreBytes text
  pub short : length text ≤ n

AreBytes-rest : (a b : List ℕ) → AreBytes (a ++ b) → AreBytes b
AreBytes-rest [] b h = h
AreBytes-rest (x ∷ a) b h = AreBytes-rest a b h.1

pub Fit-rest : (n : ℕ) (a b : List ℕ) → Fit n (a ++ b) → Fit (n - length a) b
Fit-rest n a b h = record { bytes = AreBytes-rest a b h.bytes; short = omega (arith, length-append a b, h.short) }

-- a spelling in front is taken, whatever follows
abbrev pub Takes : {A : Type 0} → Spelling A → (List ℕ → Read A) → Type 0
Takes {A} S r = (v : A) (b rest : List ℕ) → S v b → r (b ++ rest) ≡ Ok (v, rest)

-- some spelling of a value that can go on begins so
abbrev pub Goes : {A : Type 0} → Spelling A → (A → Type 0) → List ℕ → Type 0
Goes {A} S Q front = (v : A) × (more : List ℕ) × S v (front ++ more) × Q v

-- the byte at which no spelling goes on
pub record Faulty {A : Type 0} (S : Spelling A) (Q : A → Type 0) (bytes : List ℕ) (left : ℕ) : Type 0 where
  pub front : List ℕ
  pub byte : ℕ
  pub tail : List ℕ
  pub parts : bytes ≡ front ++ byte ∷ tail
  pub left_is : left ≡ length (byte ∷ tail)
  pub goes : Goes S Q front
  pub stops : Begins S (front ++ byte ∷ []) → ⊥

pub record Exact {A : Type 0} (n : ℕ) (S : Spelling A) (Q : A → Type 0) (r : List ℕ → Read A) : Type 0 where
  pub found : (bytes : List ℕ) (v : A) (rest : List ℕ) → Fit n bytes → r bytes ≡ Ok (v, rest) → (a : List ℕ) × (bytes ≡ a ++ rest) × S v a
  pub short : (bytes : List ℕ) → Fit n bytes → r bytes ≡ Err Short → Goes S Q bytes
  pub bad : (bytes : List ℕ) (left : ℕ) → Fit n bytes → r bytes ≡ Err (Bad left) → Faulty S Q bytes left

abbrev pub done : {A : Type 0} → A → Result A Fault
done x = Ok x

abbrev pub fail : {A : Type 0} → Fault → Result A Fault
fail e = Err e

pub ok_is : {A : Type 0} (x y : A) → done x ≡ done y → x ≡ y
ok_is x y e = cc

abbrev pub pair : {A : Type 0} → A → List ℕ → A × List ℕ
pair v a = (v, a)

pub pair_is : {A : Type 0} (v w : A) (a b : List ℕ) → done (pair v a) ≡ done (pair w b) → (v ≡ w) × (a ≡ b)
pair_is v w a b e = let p : pair v a ≡ pair w b = ok_is (pair v a) (pair w b) e in (ap (λ x. x.0) p, ap (λ x. x.1) p)

pub cons_is : (x y : ℕ) (a b : List ℕ) → x ∷ a ≡ y ∷ b → x ≡ y
cons_is x y a b e = cc

-- one of two fronts is a front of the other
split : (f m a c : List ℕ) → f ++ m ≡ a ++ c → ((x : List ℕ) × (a ≡ f ++ x)) ⊎ ((x : List ℕ) × (f ≡ a ++ x))
split [] m a c e = inl (a, refl)
split (y ∷ f) m [] c e = inr (y ∷ f, refl)
split (y ∷ f) m (z ∷ a) c e =
    let head : y ≡ z = cc in
    let tail : f ++ m ≡ a ++ c = cc in
    elim (split f m a c tail) [
      | inl p ↦ inl (p.0, rw (← head) (ap (λ t. y ∷ t) p.1))
      | inr p ↦ inr (p.0, rw (← head) (ap (λ t. y ∷ t) p.1))
    ]

-- ---- two readers in a row

abbrev pub Then : {A B : Type 0} → Spelling A → (A → Spelling B) → Spelling B
Then {A} {B} S T w b = (v : A) × (a : List ℕ) × (c : List ℕ) × (b ≡ a ++ c) × S v a × T v w c

module _ {A B : Type 0} (S : Spelling A) (T : A → Spelling B) (r : List ℕ → Read A) (s : A → List ℕ → Read B) where
  pub then_takes : Takes S r → ((v : A) (a : List ℕ) → S v a → Takes (T v) (s v)) → Takes (Then S T) (then_at r s)
  then_takes t u w b rest (v, a, c, e, p, q) =
      let regroup : b ++ rest ≡ a ++ (c ++ rest) = ap (λ x. x ++ rest) e ∙ append_assoc a c rest in
      rw (regroup, t v a (c ++ rest) p) (u v a p w c rest q)

  -- what is read of the whole, by what the first reader gives
  data Step (bytes : List ℕ) : Result (A × List ℕ) Fault → Type 0 where
    got : (v : A) (rest : List ℕ) → r bytes ≡ Ok (v, rest) → Step bytes (Ok (v, rest))
    failed : (e : Fault) → r bytes ≡ Err e → Step bytes (Err e)

  module _ (n : ℕ) (Q : A → Type 0) (R : B → Type 0) (t : Takes S r) (e1 : Exact n S Q r)
      (e2 : (v : A) (a : List ℕ) → S v a → length a ≤ n → Exact (n - length a) (T v) R (s v))
      (live : (v : A) (a : List ℕ) → S v a → Q v → (w : B) × (c : List ℕ) × T v w c × R w) where
    then_goes : (front : List ℕ) → Goes S Q front → Goes (Then S T) R front
    then_goes front (v, more, p, q) =
        let l = live v (front ++ more) p q in
        (l.0, more ++ l.1, (v, front ++ more, l.1, sym (append_assoc front more l.1), p, l.2), l.3)

    behind_goes : (v : A) (a front : List ℕ) → S v a → Goes (T v) R front → Goes (Then S T) R (a ++ front)
    behind_goes v a front p (w, more, q, good) = (w, more, (v, a, front ++ more, append_assoc a front more, p, q), good)

    fits : (bytes a rest : List ℕ) → bytes ≡ a ++ rest → Fit n bytes → Fit n (a ++ rest)
    fits bytes a rest e f = subst (λ x. Fit n x) e f

    shorter : (a rest : List ℕ) → Fit n (a ++ rest) → length a ≤ n
    shorter a rest f = omega (arith, f.short, length-append a rest)

    then_found : (bytes : List ℕ) (w : B) (rest : List ℕ) → Fit n bytes → then_at r s bytes ≡ Ok (w, rest) → (b : List ℕ) × (bytes ≡ b ++ rest) × Then S T w b
    then_found bytes w rest f e = by (r bytes) refl e
      where
        by : (x : Read A) → r bytes ≡ x → (x >>= λ y. s y.0 y.1) ≡ Ok (w, rest) → (b : List ℕ) × (bytes ≡ b ++ rest) × Then S T w b
        by (Ok (v, more)) is e =
            let a = e1.found bytes v more f is in
            let g = fits bytes a.0 more a.1 f in
            let c = (e2 v a.0 a.2 (shorter a.0 more g)).found more w rest (Fit-rest n a.0 more g) e in
            (a.0 ++ c.0, a.1 ∙ ap (λ x. a.0 ++ x) c.1 ∙ sym (append_assoc a.0 c.0 rest), (v, a.0, c.0, refl, a.2, c.2))
        by (Err d) is e = absurd cc

    then_short : (bytes : List ℕ) → Fit n bytes → then_at r s bytes ≡ Err Short → Goes (Then S T) R bytes
    then_short bytes f e = by (r bytes) refl e
      where
        by : (x : Read A) → r bytes ≡ x → (x >>= λ y. s y.0 y.1) ≡ Err Short → Goes (Then S T) R bytes
        by (Ok (v, more)) is e =
            let a = e1.found bytes v more f is in
            let g = fits bytes a.0 more a.1 f in
            let c = (e2 v a.0 a.2 (shorter a.0 more g)).short more (Fit-rest n a.0 more g) e in
            subst (λ x. Goes (Then S T) R x) (sym a.1) (behind_goes v a.0 more a.2 c)
        by (Err d) is e =
            let d-is : d ≡ Short = cc in
            then_goes bytes (e1.short bytes f (is ∙ ap (λ x. Err x) d-is))

    -- a spelling of the whole that begins so has the first part at its front
    same_first : (v : A) (a x : List ℕ) → S v a → (w : B) (b : List ℕ) → Then S T w b → b ≡ a ++ x → T v w x
    same_first v a x p w b (v', a', c', e', p', q') e =
        let one : done (pair v x) ≡ done (pair v' c') = sym (t v a x p) ∙ ap r (sym e ∙ e') ∙ t v' a' c' p' in
        let both = pair_is v v' x c' one in
        subst (λ y. T y w x) (sym both.0) (subst (λ y. T v' w y) (sym both.1) q')

    first_stops : (bytes front : List ℕ) (byte : ℕ) (tail : List ℕ) (left : ℕ) → bytes ≡ front ++ byte ∷ tail → r bytes ≡ Err (Bad left) → (Begins S (front ++ byte ∷ []) → ⊥) → Begins (Then S T) (front ++ byte ∷ []) → ⊥
    first_stops bytes front byte tail left parts bad stops (w, more, (v, a, c, e, p, q)) =
        elim (split (front ++ byte ∷ []) more a c e) [
          | inl x ↦ stops (v, x.0, subst (λ y. S v y) x.1 p)
          | inr x ↦
              let whole : bytes ≡ a ++ (x.0 ++ tail) = parts ∙ sym (append_assoc front (byte ∷ []) tail) ∙ ap (λ y. y ++ tail) x.1 ∙ append_assoc a x.0 tail in
              let taken : Err (Bad left) ≡ done (pair v (x.0 ++ tail)) = sym bad ∙ ap r whole ∙ t v a (x.0 ++ tail) p in
              absurd cc
        ]

    then_bad : (bytes : List ℕ) (left : ℕ) → Fit n bytes → then_at r s bytes ≡ Err (Bad left) → Faulty (Then S T) R bytes left
    then_bad bytes left f e = by (r bytes) refl e
      where
        by : (x : Read A) → r bytes ≡ x → (x >>= λ y. s y.0 y.1) ≡ Err (Bad left) → Faulty (Then S T) R bytes left
        by (Ok (v, more)) is e =
            let a = e1.found bytes v more f is in
            let g = fits bytes a.0 more a.1 f in
            let c = (e2 v a.0 a.2 (shorter a.0 more g)).bad more left (Fit-rest n a.0 more g) e in
            record {
              front = a.0 ++ c.front;
              byte = c.byte;
              tail = c.tail;
              parts = a.1 ∙ ap (λ x. a.0 ++ x) c.parts ∙ sym (append_assoc a.0 c.front (c.byte ∷ c.tail));
              left_is = c.left_is;
              goes = behind_goes v a.0 c.front a.2 c.goes;
              stops = λ h. c.stops (h.0, h.1, same_first v a.0 ((c.front ++ c.byte ∷ []) ++ h.1) a.2 h.0 _ h.2 (ap (λ x. x ++ h.1) (append_assoc a.0 c.front (c.byte ∷ [])) ∙ append_assoc a.0 (c.front ++ c.byte ∷ []) h.1));
            }
        by (Err d) is e =
            let d-is : d ≡ Bad left = cc in
            let bad : r bytes ≡ Err (Bad left) = is ∙ ap (λ x. Err x) d-is in
            let c = e1.bad bytes left f bad in
            record {
              front = c.front;
              byte = c.byte;
              tail = c.tail;
              parts = c.parts;
              left_is = c.left_is;
              goes = then_goes c.front c.goes;
              stops = λ h. first_stops bytes c.front c.byte c.tail left c.parts bad c.stops h;
            }

    pub then_exact : Exact n (Then S T) R (then_at r s)
    then_exact = record { found = then_found; short = then_short; bad = then_bad }

-- ---- the same under other names

pub takes_from : {A : Type 0} (S S' : Spelling A) (r r' : List ℕ → Read A) → ((v : A) (b : List ℕ) → S' v b → S v b) → ((bytes : List ℕ) → r' bytes ≡ r bytes) → Takes S r → Takes S' r'
takes_from S S' r r' back same t v b rest p = same (b ++ rest) ∙ t v b rest (back v b p)

module _ {A : Type 0} (S S' : Spelling A) (to : (v : A) (b : List ℕ) → S v b → S' v b) (back : (v : A) (b : List ℕ) → S' v b → S v b) (r r' : List ℕ → Read A) (same : (bytes : List ℕ) → r' bytes ≡ r bytes) where
  pub takes_as : Takes S r → Takes S' r'
  takes_as t v b rest p = same (b ++ rest) ∙ t v b rest (back v b p)

  pub exact_as : (n : ℕ) (Q Q' : A → Type 0) → ((v : A) → Q v → Q' v) → Exact n S Q r → Exact n S' Q' r'
  exact_as n Q Q' good e = record {
    found = λ bytes v rest f h. let a = e.found bytes v rest f (sym (same bytes) ∙ h) in (a.0, a.1, to v a.0 a.2);
    short = λ bytes f h. let a = e.short bytes f (sym (same bytes) ∙ h) in (a.0, a.1, to a.0 (bytes ++ a.1) a.2, good a.0 a.3);
    bad = λ bytes left f h.
        let a = e.bad bytes left f (sym (same bytes) ∙ h) in
        record {
          front = a.front;
          byte = a.byte;
          tail = a.tail;
          parts = a.parts;
          left_is = a.left_is;
          goes = (a.goes.0, a.goes.1, to a.goes.0 (a.front ++ a.goes.1) a.goes.2, good a.goes.0 a.goes.3);
          stops = λ b. a.stops (b.0, b.1, back b.0 _ b.2);
        };
  }

-- ---- a function of what is read

abbrev pub Mapped : {A B : Type 0} → (A → B) → Spelling A → Spelling B
Mapped {A} f S w b = (v : A) × (w ≡ f v) × S v b

module _ {A B : Type 0} (f : A → B) (S : Spelling A) (r : List ℕ → Read A) where
  pub mapped_takes : Takes S r → Takes (Mapped f S) (λ bytes. mapped f (r bytes))
  mapped_takes t w b rest (v, e, p) = rw (t v b rest p, e) refl

  mapped_ok : (x : Read A) (w : B) (rest : List ℕ) → mapped f x ≡ Ok (w, rest) → (v : A) × (w ≡ f v) × (x ≡ Ok (v, rest))
  mapped_ok (Ok (v, more)) w rest e =
      let p = pair_is (f v) w more rest e in
      (v, sym p.0, ap (λ y. Ok (v, y)) p.1)
  mapped_ok (Err d) w rest e = absurd cc

  mapped_err : (x : Read A) (d : Fault) → mapped f x ≡ Err d → x ≡ Err d
  mapped_err (Ok (v, more)) d e = absurd cc
  mapped_err (Err d') d e = ap (λ y. Err y) cc

  pub mapped_exact : (n : ℕ) (Q : A → Type 0) (R : B → Type 0) → ((v : A) → Q v → R (f v)) → Exact n S Q r → Exact n (Mapped f S) R (λ bytes. mapped f (r bytes))
  mapped_exact n Q R good e = record {
    found = λ bytes w rest fit h. let x = mapped_ok (r bytes) w rest h in let a = e.found bytes x.0 rest fit x.2 in (a.0, a.1, (x.0, x.1, a.2));
    short = λ bytes fit h. let a = e.short bytes fit (mapped_err (r bytes) Short h) in (f a.0, a.1, (a.0, refl, a.2), good a.0 a.3);
    bad = λ bytes left fit h.
        let a = e.bad bytes left fit (mapped_err (r bytes) (Bad left) h) in
        record {
          front = a.front;
          byte = a.byte;
          tail = a.tail;
          parts = a.parts;
          left_is = a.left_is;
          goes = (f a.goes.0, a.goes.1, (a.goes.0, refl, a.goes.2), good a.goes.0 a.goes.3);
          stops = λ b. a.stops (b.2.0, b.1, b.2.2);
        };
  }

-- ---- one byte

abbrev pub ByteOf : (ℕ → Bool) → Spelling ℕ
ByteOf ok v b = (b ≡ v ∷ []) × (v < 256) × (ok v ≡ true)

module _ (ok : ℕ → Bool) where
  pub byte_takes : Takes (ByteOf ok) (byte_at ok)
  byte_takes v b rest (e, small, good) = rw (e, good) refl

  abbrev byte_by : Bool → ℕ → List ℕ → Read ℕ
  byte_by t b rest = cond t (Ok (b, rest)) (Err (Bad (length (b ∷ rest))))

  byte_found : (t : Bool) (b : ℕ) (rest : List ℕ) (v : ℕ) (more : List ℕ) → byte_by t b rest ≡ Ok (v, more) → (t ≡ true) × (b ≡ v) × (rest ≡ more)
  byte_found true b rest v more e = let p = pair_is b v rest more e in (refl, p.0, p.1)
  byte_found false b rest v more e = absurd cc

  byte_bad : (t : Bool) (b : ℕ) (rest : List ℕ) (left : ℕ) → byte_by t b rest ≡ Err (Bad left) → (t ≡ false) × (left ≡ length (b ∷ rest))
  byte_bad true b rest left e = absurd cc
  byte_bad false b rest left e = (refl, cc)

  byte_short : (t : Bool) (b : ℕ) (rest : List ℕ) → byte_by t b rest ≡ Err Short → ⊥
  byte_short true b rest e = cc
  byte_short false b rest e = cc

  pub byte_exact : (n : ℕ) (Q : ℕ → Type 0) → (v : ℕ) → v < 256 → ok v ≡ true → Q v → Exact n (ByteOf ok) Q (byte_at ok)
  byte_exact n Q v small good q = record { found = found; short = short; bad = bad }
    where
      found : (bytes : List ℕ) (w : ℕ) (rest : List ℕ) → Fit n bytes → byte_at ok bytes ≡ Ok (w, rest) → (a : List ℕ) × (bytes ≡ a ++ rest) × ByteOf ok w a
      found [] w rest f e = absurd cc
      found (b ∷ bytes) w rest f e =
          let x = byte_found (ok b) b bytes w rest e in
          (w ∷ [], ap₂ (λ y z. y ∷ z) x.1 x.2, (refl, subst (λ y. y < 256) x.1 f.bytes.0, subst (λ y. ok y ≡ true) x.1 x.0))

      short : (bytes : List ℕ) → Fit n bytes → byte_at ok bytes ≡ Err Short → Goes (ByteOf ok) Q bytes
      short [] f e = (v, v ∷ [], (refl, small, good), q)
      short (b ∷ bytes) f e = absurd (byte_short (ok b) b bytes e)

      bad : (bytes : List ℕ) (left : ℕ) → Fit n bytes → byte_at ok bytes ≡ Err (Bad left) → Faulty (ByteOf ok) Q bytes left
      bad [] left f e = absurd cc
      bad (b ∷ bytes) left f e =
          let x = byte_bad (ok b) b bytes left e in
          record {
            front = [];
            byte = b;
            tail = bytes;
            parts = refl;
            left_is = x.1;
            goes = (v, v ∷ [], (refl, small, good), q);
            stops = λ h. true≢false (sym h.2.2 ∙ ap ok (sym (cons_is b h.0 h.1 [] h.2.0)) ∙ x.0);
          }

pub weaken : {A : Type 0} (n : ℕ) (S : Spelling A) (Q Q' : A → Type 0) (r : List ℕ → Read A) → ((v : A) → Q v → Q' v) → Exact n S Q r → Exact n S Q' r
weaken n S Q Q' r good e = exact_as S S (λ v b p. p) (λ v b p. p) r r (λ bytes. refl) n Q Q' good e

-- nothing is taken
abbrev pub PureOf : {A : Type 0} → A → Spelling A
PureOf x v b = (v ≡ x) × (b ≡ [])

abbrev pub pure_at : {A : Type 0} → A → List ℕ → Read A
pure_at x bytes = Ok (x, bytes)

pub pure_takes : {A : Type 0} (x : A) → Takes (PureOf x) (pure_at x)
pure_takes x v b rest (e, is) = rw (e, is) refl

pub pure_exact : {A : Type 0} (n : ℕ) (x : A) (Q : A → Type 0) → Q x → Exact n (PureOf x) Q (pure_at x)
pure_exact n x Q q = record {
  found = λ bytes v rest f e. let p = pair_is x v bytes rest e in ([], p.1, (sym p.0, refl));
  short = λ bytes f e. absurd cc;
  bad = λ bytes left f e. absurd cc;
}
