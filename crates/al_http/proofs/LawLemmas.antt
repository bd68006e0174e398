-- The one way to cut a stream into requests.
use Rattle.std.proofs.Common.{◌≡◌, ◌⊎◌, inl, inr, ℕ, true, false, List, [], ◌∷◌, ◌++◌, length, take, drop, refl, sym, ap, ◌∙◌, arith, append_assoc, length-append, All, Err, true≢false}
use Rattle.std.proofs.lemmas.List.{append-nil, take_at, drop_at}
use Rattle.std.proofs.lemmas.List.Elements.{All-head, All-tail}
use Rattle.std.specs.List.{flat_map}
use mathlib.Core.List.{IsPrefix}
use Rattle.httparse.specs.Grammar.{RequestHead, ReadsRequest, print_request}
use Rattle.httparse.proofs.GrammarLemmas.{request_unique, ReadsRequest-append}
use Rattle.al_http.specs.declared.asking.SizeFault.{SizeFault}
use Rattle.al_http.specs.declared.head.BodySize.TheVariants.{Length}
use Rattle.al_http.specs.Fields.{fields_of, size_of}
use Rattle.al_http.specs.Requests.{Message, IsCut, IsRefusedHead, IsRequest, IsUnfinished, closes, spell, stream_of, IsRest}
use Rattle.al_http.specs.Sizes.{size_read}
use Rattle.al_http.proofs.RestLemmas.{size_fits, read_not_refused}

-- the head and the rest of a request
pub request_reads : (buf : List ℕ) (r : Message) (more : List ℕ) → IsRequest r → buf ≡ spell r ++ more → ReadsRequest buf r.head (r.body ++ more)
request_reads buf r more x is = (x.head, is ∙ append_assoc (print_request r.head) r.body more)

same_size : (m n : ℕ) → Length m ≡ Length n → m ≡ n
same_size m n is = cc

-- the body of a request is read
not_refused : (r : Message) (h : RequestHead) (fault : SizeFault) → IsRequest r → r.head ≡ h → size_read (size_of (fields_of h)) ≡ Err fault → ⊥
not_refused r h fault x same refused = read_not_refused (length r.body) fault (sym (size_fits (length r.body) x.most) ∙ ap size_read (sym x.size) ∙ ap (λ k. size_read (size_of (fields_of k))) same ∙ refused)

pub one_request : (a b : Message) (x y : List ℕ) → IsRequest a → IsRequest b → spell a ++ x ≡ spell b ++ y → (a ≡ b) × (x ≡ y)
one_request a b x y p q is =
    let heads = request_unique (spell a ++ x) a.head b.head (a.body ++ x) (b.body ++ y) (request_reads (spell a ++ x) a x p refl) (request_reads (spell a ++ x) b y q is) in
    let long : length a.body ≡ length b.body = same_size (length a.body) (length b.body) (sym p.size ∙ ap (λ h. size_of (fields_of h)) heads.0 ∙ q.size) in
    let bodies : a.body ≡ b.body = sym (take_at a.body x (length a.body) refl) ∙ ap (take (length a.body)) heads.1 ∙ take_at b.body y (length a.body) (sym long) in
    let rests : x ≡ y = sym (drop_at a.body x (length a.body) refl) ∙ ap (drop (length a.body)) heads.1 ∙ drop_at b.body y (length a.body) (sym long) in
    let same : a ≡ b = (λ i. record { head = heads.0 i; body = bodies i }) in
    (same, rests)

pub nothing_left : (rest more : List ℕ) (r : Message) → IsRest rest → IsRequest r → rest ≡ spell r ++ more → ⊥
nothing_left rest more r (inl (inl (tail, q, some, valid, whole))) x is =
    let both : spell r ++ (more ++ tail) ≡ spell q ++ [] = sym (append_assoc (spell r) more tail) ∙ ap (λ zs. zs ++ tail) (sym is) ∙ whole ∙ sym (append-nil (spell q)) in
    let left = one_request r q (more ++ tail) [] x valid both in
    absurd (omega (arith, some, ap length left.1, length-append more tail))
nothing_left rest more r (inl (inr part)) x is = part.none r.head (r.body ++ more) (request_reads rest r more x is)
nothing_left rest more r (inr (inl bad)) x is =
    bad.never [] r.head (r.body ++ more) (request_reads (rest ++ []) r more x (append-nil rest ∙ is)) x.limits
nothing_left rest more r (inr (inr (fault, (h, behind, reads, limits, refused)))) x is =
    let heads = request_unique rest h r.head behind (r.body ++ more) reads (request_reads rest r more x is) in
    not_refused r h fault x (sym heads.0) refused

stream_cons : (q : Message) (ys : List Message) (y : List ℕ) → stream_of (q ∷ ys) y ≡ spell q ++ stream_of ys y
stream_cons q ys y = append_assoc (spell q) (flat_map spell ys) y

pub cuts_agree : (xs ys : List Message) (x y : List ℕ) → All IsRequest xs → All IsRequest ys → stream_of xs x ≡ stream_of ys y → IsPrefix xs ys ⊎ IsPrefix ys xs
cuts_agree [] ys x y p q is = inl (ys, refl)
cuts_agree (a ∷ xs) [] x y p q is = inr (a ∷ xs, refl)
cuts_agree (a ∷ xs) (b ∷ ys) x y p q is =
    let one = one_request a b (stream_of xs x) (stream_of ys y) (All-head IsRequest a xs p) (All-head IsRequest b ys q) (sym (stream_cons a xs x) ∙ is ∙ stream_cons b ys y) in
    by_side one.0 (cuts_agree xs ys x y (All-tail IsRequest a xs p) (All-tail IsRequest b ys q) one.1)
  where
    by_side : a ≡ b → IsPrefix xs ys ⊎ IsPrefix ys xs → IsPrefix (a ∷ xs) (b ∷ ys) ⊎ IsPrefix (b ∷ ys) (a ∷ xs)
    by_side same (inl (zs, is)) = inl (zs, ap (λ r. r ∷ (xs ++ zs)) same ∙ ap (λ rs. b ∷ rs) is)
    by_side same (inr (zs, is)) = inr (zs, ap (λ r. r ∷ (ys ++ zs)) (sym same) ∙ ap (λ rs. a ∷ rs) is)

-- the first requests of two cuts of one stream are one
firsts : (a b : Message) (xs ys : List Message) (x y : List ℕ) → IsCut (a ∷ xs) x → IsCut (b ∷ ys) y → stream_of (a ∷ xs) x ≡ stream_of (b ∷ ys) y → (a ≡ b) × (stream_of xs x ≡ stream_of ys y)
firsts a b xs ys x y p q is = one_request a b (stream_of xs x) (stream_of ys y) (All-head IsRequest a xs p.each) (All-head IsRequest b ys q.each) (sym (stream_cons a xs x) ∙ is ∙ stream_cons b ys y)

-- a cut behind its first request
cut_tail : (a b : Message) (xs : List Message) (x : List ℕ) → IsCut (a ∷ b ∷ xs) x → IsCut (b ∷ xs) x
cut_tail a b xs x p = record {
  each = All-tail IsRequest a (b ∷ xs) p.each;
  going = p.going.1;
  ends = p.ends;
}

-- no request stands behind the last one
last_request : (a c : Message) (ys : List Message) (x y : List ℕ) → IsCut (a ∷ []) x → closes a ≡ false → IsRequest c → x ≡ spell c ++ stream_of ys y → ⊥
last_request a c ys x y p on valid is = by_end p.ends
  where
    by_end : IsRest x ⊎ (closes a ≡ true) → ⊥
    by_end (inl rest) = nothing_left x (stream_of ys y) c rest valid is
    by_end (inr closed) = true≢false (sym closed ∙ on)

pub one_cut : (xs ys : List Message) (x y : List ℕ) → IsCut xs x → IsCut ys y → stream_of xs x ≡ stream_of ys y → (xs ≡ ys) × (x ≡ y)
one_cut [] [] x y p q is = (refl, is)
one_cut [] (b ∷ ys) x y p q is = by_end p.ends
  where
    by_end : IsRest x ⊎ ⊥ → ([] ≡ b ∷ ys) × (x ≡ y)
    by_end (inl rest) = absurd (nothing_left x (stream_of ys y) b rest (All-head IsRequest b ys q.each) (is ∙ stream_cons b ys y))
    by_end (inr none) = absurd none
one_cut (a ∷ xs) [] x y p q is = by_end q.ends
  where
    by_end : IsRest y ⊎ ⊥ → (a ∷ xs ≡ []) × (x ≡ y)
    by_end (inl rest) = absurd (nothing_left y (stream_of xs x) a rest (All-head IsRequest a xs p.each) (sym is ∙ stream_cons a xs x))
    by_end (inr none) = absurd none
one_cut (a ∷ []) (b ∷ []) x y p q is =
    let one = firsts a b [] [] x y p q is in
    (ap (λ r. r ∷ []) one.0, one.1)
one_cut (a ∷ []) (b ∷ c ∷ ys) x y p q is =
    let one = firsts a b [] (c ∷ ys) x y p q is in
    absurd (last_request a c ys x y p (ap closes one.0 ∙ q.going.0) (All-head IsRequest c ys (All-tail IsRequest b (c ∷ ys) q.each)) (one.1 ∙ stream_cons c ys y))
one_cut (a ∷ d ∷ xs) (b ∷ []) x y p q is =
    let one = firsts a b (d ∷ xs) [] x y p q is in
    absurd (last_request b d xs y x q (ap closes (sym one.0) ∙ p.going.0) (All-head IsRequest d xs (All-tail IsRequest a (d ∷ xs) p.each)) (sym one.1 ∙ stream_cons d xs x))
one_cut (a ∷ d ∷ xs) (b ∷ c ∷ ys) x y p q is =
    let one = firsts a b (d ∷ xs) (c ∷ ys) x y p q is in
    let more = one_cut (d ∷ xs) (c ∷ ys) x y (cut_tail a d xs x p) (cut_tail b c ys y q) one.1 in
    (ap (λ r. r ∷ (d ∷ xs)) one.0 ∙ ap (λ rs. b ∷ rs) more.0, more.1)

pub unfinished_is_not_refused : (rest : List ℕ) (fault : SizeFault) → IsUnfinished rest → IsRefusedHead fault rest → ⊥
unfinished_is_not_refused rest fault (inl (more, m, some, valid, is)) (h, behind, reads, limits, refused) =
    let one = request_unique (rest ++ more) m.head h (m.body ++ []) (behind ++ more) (request_reads (rest ++ more) m [] valid (is ∙ sym (append-nil (spell m)))) (ReadsRequest-append rest h behind more reads) in
    not_refused m h fault valid one.0 refused
unfinished_is_not_refused rest fault (inr part) (h, behind, reads, limits, refused) = part.none h behind reads
