-- What is known of the bytes of a connection after each answer of `read_head` and of `Head::size`.
use Rattle.std.proofs.Common.{◌≡◌, ◌≤◌, ◌<◌, ◌⊎◌, inl, inr, ◌+◌, ◌-◌, ℕ, Bool, true, false, cond, nat_lt, ltb-true, ltb-false, true≢false, List, [], ◌∷◌, ◌++◌, length, take, drop, replicate, refl, sym, ap, ◌∙◌, arith, subst, append_assoc, length-append, Result, Ok, Err}
use Rattle.std.proofs.lemmas.List.{append-nil, take-append-drop, length-take-le, length-replicate, length-drop}
use Rattle.httparse.specs.Grammar.{RequestHead, ReadsRequest, print_request, HasNoRequest, MayBecomeRequest, EndsInTarget}
use Rattle.al_http.specs.declared.asking.SizeFault.{SizeFault}
use Rattle.al_http.specs.declared.asking.SizeFault.TheVariants as faults
use Rattle.al_http.specs.declared.head.BodySize.{BodySize}
use Rattle.al_http.specs.declared.head.BodySize.TheVariants.{Length, Coded, Bad}
use Rattle.al_http.specs.declared.head.Head.{Head}
use Rattle.al_http.specs.Limits.{most_body, most_head}
use Rattle.al_http.specs.Sizes.{size_read}
use Rattle.al_http.specs.Requests.{Message, IsRequest, spell, IsUnfinished, IsPartOfHead, IsRefusedHead}
use Rattle.al_http.specs.Heads.{IsHeadAt}

-- ---- the length of a body

-- a length, or why there is none
abbrev Size : Type 0
Size = Result ℕ SizeFault

abbrev is_read : Size → Bool
is_read (Ok n) = true
is_read (Err fault) = false

abbrev length_read : Size → ℕ
length_read (Ok n) = n
length_read (Err fault) = 0

same_length : (m n : ℕ) → ◌≡◌ {A = Size} (Ok m) (Ok n) → m ≡ n
same_length m n is = ap length_read is

-- what is read is not refused
pub read_not_refused : (n : ℕ) (fault : SizeFault) → ◌≡◌ {A = Size} (Ok n) (Err fault) → ⊥
read_not_refused n fault is = true≢false (ap is_read is)

-- a length within the limit is read
pub size_fits : (n : ℕ) → n ≤ most_body → size_read (Length n) ≡ Ok n
size_fits n fits = by_test (nat_lt most_body n) refl
  where
    by_test : (b : Bool) → nat_lt most_body n ≡ b → size_read (Length n) ≡ Ok n
    by_test true is = absurd (omega (arith, fits, ltb-true most_body n is))
    by_test false is = ap (λ t. cond t (Err faults.TooLarge) (Ok n)) is

-- what is read is a length within the limit
pub size_ok : (body : BodySize) (n : ℕ) → size_read body ≡ Ok n → (body ≡ Length n) × (n ≤ most_body)
size_ok Coded n e = absurd (read_not_refused n faults.Coding (sym e))
size_ok Bad n e = absurd (read_not_refused n faults.BadLength (sym e))
size_ok (Length m) n e = by_test (nat_lt most_body m) refl
  where
    by_test : (b : Bool) → nat_lt most_body m ≡ b → (Length m ≡ Length n) × (n ≤ most_body)
    by_test true is = absurd (read_not_refused n faults.TooLarge (sym (subst (λ (t : Bool). ◌≡◌ {A = Size} (cond t (Err faults.TooLarge) (Ok m)) (Ok n)) is e)))
    by_test false is =
        let same : m ≡ n = same_length m n (subst (λ (t : Bool). ◌≡◌ {A = Size} (cond t (Err faults.TooLarge) (Ok m)) (Ok n)) is e) in
        (ap Length same, omega (arith, ltb-false most_body m is, same))

-- ---- the bytes

-- no head yet: `HeadRead::Partial`
pub partial_unfinished : (buf : List ℕ) → length buf ≤ most_head → HasNoRequest buf → MayBecomeRequest buf → IsUnfinished buf
partial_unfinished buf short none may = inr (record { short = short; none = none; may = by_case may })
  where
    some : (h : RequestHead) (more : List ℕ) → ReadsRequest (buf ++ more) h [] → 0 < length more
    some h [] x = absurd (none h [] (subst (λ bytes. ReadsRequest bytes h []) (append-nil buf) x))
    some h (b ∷ bs) x = omega arith

    by_case : MayBecomeRequest buf → IsPartOfHead buf ⊎ EndsInTarget buf
    by_case (inl (more, h, reads)) = inl (more, h, some h more reads, reads.0, reads.1 ∙ append-nil (print_request h))
    by_case (inr target) = inr target

-- a whole head whose body is refused
pub refused_head : (buf : List ℕ) (head : Head) (h : RequestHead) (fault : SizeFault) → IsHeadAt buf head h → size_read head.body ≡ Err fault → IsRefusedHead fault buf
refused_head buf head h fault x e = (h, drop head.used buf, x.reads, x.limits, ap size_read (sym x.is.body) ∙ e)

-- a whole head, and less than its body
pub body_unfinished : (buf : List ℕ) (head : Head) (h : RequestHead) (size : ℕ) → IsHeadAt buf head h → size_read head.body ≡ Ok size → length buf < head.used + size → IsUnfinished buf
body_unfinished buf head h n x read short = inl (more, m, some, is, same)
  where
    more : List ℕ
    more = replicate (n - length (drop head.used buf)) 0

    m : Message
    m = record { head = h; body = drop head.used buf ++ replicate (n - length (drop head.used buf)) 0 }

    ok : (head.body ≡ Length n) × (n ≤ most_body)
    ok = size_ok head.body n read

    parts : length buf ≡ head.used + length (drop head.used buf)
    parts = (let all = ap length x.reads.1 in omega (arith, all, length-append (print_request h) (drop head.used buf), x.is.used))

    long : n ≡ length {A = ℕ} (drop head.used buf ++ replicate (n - length (drop head.used buf)) 0)
    long = omega (arith, parts, short, length-append {A = ℕ} (drop head.used buf) (replicate (n - length (drop head.used buf)) 0), length-replicate {A = ℕ} (n - length (drop head.used buf)) 0)

    some : 0 < length {A = ℕ} (replicate (n - length (drop head.used buf)) 0)
    some = omega (arith, parts, short, length-replicate {A = ℕ} (n - length (drop head.used buf)) 0)

    is : IsRequest (record { head = h; body = drop head.used buf ++ replicate (n - length (drop head.used buf)) 0 })
    is = record {
      head = x.reads.0;
      limits = x.limits;
      size = sym x.is.body ∙ ok.0 ∙ ap Length long;
      most = omega (arith, ok.1, long);
    }

    same : buf ++ replicate (n - length (drop head.used buf)) 0 ≡ print_request h ++ (drop head.used buf ++ replicate (n - length (drop head.used buf)) 0)
    same = ap (λ bytes. bytes ++ replicate (n - length (drop head.used buf)) 0) x.reads.1 ∙ append_assoc (print_request h) (drop head.used buf) (replicate (n - length (drop head.used buf)) 0)

-- a whole head and its whole body: a request stands at the front
pub whole_request : (buf : List ℕ) (head : Head) (h : RequestHead) (size : ℕ) → IsHeadAt buf head h → size_read head.body ≡ Ok size → head.used + size ≤ length buf
    → (m : Message) × (rest : List ℕ) × IsRequest m × (m.head ≡ h) × (size ≡ length m.body) × (m.body ≡ take size (drop head.used buf)) × (buf ≡ spell m ++ rest)
whole_request buf head h n x read fits =
    let ok = size_ok head.body n read in
    let behind : List ℕ = drop head.used buf in
    let m : Message = record { head = h; body = take n behind } in
    let long : length (take n behind) ≡ n = length-take-le n behind (omega (arith, fits, length-drop head.used buf)) in (
      m,
      drop n behind,
      record {
        head = x.reads.0;
        limits = x.limits;
        size = sym x.is.body ∙ ok.0 ∙ ap Length (sym long);
        most = omega (arith, ok.1, long);
      },
      refl,
      sym long,
      refl,
      x.reads.1 ∙ ap (λ bytes. print_request h ++ bytes) (sym (take-append-drop n behind)) ∙ sym (append_assoc (print_request h) (take n behind) (drop n behind)),
    )
