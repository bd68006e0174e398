-- Heads on a list of bytes, as more bytes come.
use Rattle.std.proofs.Common.{◌≡◌, ◌≤◌, ◌<◌, ◌⊎◌, inl, inr, ℕ, List, ◌++◌, length, take, drop, refl, sym, ap, ◌∙◌, arith, subst, append_assoc, length-append, ◌||◌, ◌==◌, map}
use Rattle.std.proofs.lemmas.List.{take-append-drop, take-append-le, take_at, drop-append-le, length-take-le, length-map, length-take}
use Rattle.httparse.specs.Grammar.{RequestHead, ReadsRequest, print_request, HasNoRequest, NeverHasRequest}
use Rattle.httparse.specs.Spans.{RequestExceeds, IsRequestAt, IsRequestWithin, header_bytes, name_and_value, span_bytes}
use Rattle.httparse.specs.declared.spans.HeaderSpan.{HeaderSpan}
use Rattle.httparse.specs.declared.spans.RequestSpans.{RequestSpans}
use Rattle.al_http.specs.Fields.{size_of, says_close}
use Rattle.httparse.proofs.GrammarLemmas.{ReadsRequest-append}
use Rattle.al_http.specs.declared.head.Head.{Head}
use Rattle.al_http.specs.declared.head.HeadRead.{HeadRead}
use Rattle.al_http.specs.declared.head.HeadRead.TheVariants as read
use Rattle.al_http.specs.Limits.{most_head, most_fields}
use Rattle.al_http.specs.Requests.{IsBadHead}
use Rattle.al_http.specs.Heads.{IsHeadAt, IsRead}

-- of two cuts of one list, the longer front has the shorter at its front
pub front_of : (xs ys ps qs : List ℕ) → xs ++ ys ≡ ps ++ qs → length ps ≤ length xs → xs ≡ ps ++ drop (length ps) xs
front_of xs ys ps qs same fits =
    let n = length ps in
    let front : take n xs ≡ ps = sym (take-append-le n xs ys fits) ∙ ap (take n) same ∙ take_at ps qs n refl in
    sym (take-append-drop n xs) ∙ ap (λ zs. zs ++ drop n xs) front

pub head_fits : (buf : List ℕ) (head : Head) (h : RequestHead) → IsHeadAt buf head h → head.used ≤ length buf
head_fits buf head h x = omega (arith, ap length x.reads.1, length-append (print_request h) (drop head.used buf), x.is.used)

-- a head stays as more bytes come
pub head_grows : (buf more : List ℕ) (head : Head) (h : RequestHead) → IsHeadAt buf head h → IsHeadAt (buf ++ more) head h
head_grows buf more head h x = record {
  reads = subst (λ rest. ReadsRequest (buf ++ more) h rest) (sym (drop-append-le head.used buf more (head_fits buf head h x))) (ReadsRequest-append buf h (drop head.used buf) more x.reads);
  limits = x.limits;
  is = x.is;
}

-- no head stands in the first 16,384 bytes, and there are more
pub bad_length : (front more : List ℕ) → length front ≡ most_head → HasNoRequest front → 0 < length more → IsBadHead (front ++ more)
bad_length front more long none some = record {
  cause = inr (inr (omega (arith, long, some, length-append front more)));
  never = λ m h behind x w. none h (drop (length (print_request h)) front) (x.0, front_of front (more ++ m) (print_request h) behind (sym (append_assoc front more m) ∙ x.1) (omega (arith, w.bytes, long)));
}

-- a bad head stays bad
pub bad_grows : (front more : List ℕ) → IsBadHead front → IsBadHead (front ++ more)
bad_grows front more x = record {
  cause = by_cause x.cause;
  never = λ m h behind y w. x.never (more ++ m) h behind (subst (λ bytes. ReadsRequest bytes h behind) (append_assoc front more m) y) w;
}
  where
    by_cause : NeverHasRequest front ⊎ RequestExceeds most_fields front ⊎ (most_head < length front) → NeverHasRequest (front ++ more) ⊎ RequestExceeds most_fields (front ++ more) ⊎ (most_head < length (front ++ more))
    by_cause (inl never) = inl (λ m h rest y. never (more ++ m) h rest (subst (λ bytes. ReadsRequest bytes h rest) (append_assoc front more m) y))
    by_cause (inr (inl (f, rest, is, h, reads, past))) = inr (inl (f, rest ++ more, ap (λ bytes. bytes ++ more) is ∙ append_assoc f rest more, h, reads, past))
    by_cause (inr (inr long)) = inr (inr (omega (arith, long, length-append front more)))

-- what the first 16,384 bytes say of longer bytes
pub got_in_front : (buf : List ℕ) (head : Head) (h : RequestHead) → IsHeadAt (take most_head buf) head h → IsHeadAt buf head h
got_in_front buf head h x = subst (λ bytes. IsHeadAt bytes head h) (take-append-drop most_head buf) (head_grows (take most_head buf) (drop most_head buf) head h x)

pub bad_in_front : (buf : List ℕ) (found : HeadRead) → IsRead (take most_head buf) found → ((head : Head) → found ≡ read.Got head → ⊥) → most_head < length buf → IsBadHead buf
bad_in_front buf (read.Got head) x not long = absurd (not head refl)
bad_in_front buf read.Partial x not long =
    let all = take-append-drop most_head buf in
    let short = length-take-le most_head buf (omega (arith, long)) in
    subst IsBadHead all (bad_length (take most_head buf) (drop most_head buf) short x.1 (omega (arith, long, short, ap length all, length-append (take most_head buf) (drop most_head buf))))
bad_in_front buf read.Bad x not long = subst IsBadHead (take-append-drop most_head buf) (bad_grows (take most_head buf) (drop most_head buf) x)

-- what the parser answers, as a head
pub head_at : (front : List ℕ) (headers : List HeaderSpan) (spans : RequestSpans) (head : Head) (h : RequestHead) → IsRequestAt front headers spans h → IsRequestWithin front headers spans → length front ≤ most_head → length headers ≤ most_fields
    → head.used ≡ spans.len → head.method ≡ span_bytes front spans.method → head.target ≡ span_bytes front spans.path → head.body ≡ size_of (map (header_bytes front) (take spans.headers headers))
    → head.close ≡ ((spans.version == 0) || says_close (map (header_bytes front) (take spans.headers headers))) → IsHeadAt front head h
head_at front headers spans head h x w short few used method target body close = record {
  reads = subst (λ n. ReadsRequest front h (drop n front)) (sym used) x.reads;
  limits = record {
    bytes = omega (arith, x.len, w.section.len_fits);
    fields =
        let same = ap length x.fields in
        let a = length-map (take spans.headers headers) (header_bytes front) in
        let b = length-map h.fields name_and_value in
        let t = length-take spans.headers headers in
        omega (arith, same, a, b, t, few);
  };
  is = record {
    used = used ∙ x.len;
    method = method ∙ x.method;
    target = target ∙ x.path;
    body = body ∙ ap size_of x.fields;
    close = close ∙ ap (λ n. (n == 0) || says_close (map (header_bytes front) (take spans.headers headers))) x.version ∙ ap (λ ps. (h.minor == 0) || says_close ps) x.fields;
  };
}
