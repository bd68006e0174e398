-- Bytes that leave a source and wait.
use Rattle.std.proofs.Common.{◌≡◌, ◌≤◌, ◌<◌, ◌⊎◌, ◌+◌, ℕ, List, [], ◌++◌, length, refl, sym, ap, ◌∙◌, arith, subst, append_assoc, length-append, Option, Some, None, Ok, Err}
use Rattle.std.proofs.lemmas.List.{append-nil}
use Rattle.httparse.specs.Grammar.{RequestHead, IsRequestHead, print_request}
use Rattle.al_base.specs.Causes.{Left}
use Rattle.al_routes.specs.Asks.{Answer, Asks, IsMemory}
use Rattle.al_http.specs.declared.asking.SizeFault.{SizeFault}
use Rattle.al_http.specs.declared.head.Head.{Head}
use Rattle.al_http.specs.Fields.{ends_after}
use Rattle.al_http.specs.Limits.{most_body, most_message}
use Rattle.al_http.specs.Requests.{Message, IsRequest, IsUnfinished, spell}
use Rattle.al_http.specs.Sizes.{size_read}
use Rattle.al_http.specs.Heads.{IsHeadAt, IsHeadOf}
use Rattle.al_http.proofs.HeadLemmas.{head_grows}
use Rattle.al_http.proofs.RestLemmas.{body_unfinished, refused_head, size_ok, whole_request}
use Rattle.al_session.specs.Taking.{Grown, Stops, IsNoHead, IsNoPiece, IsRefusedPiece, HeadNexts, IsPiece, Nexts}
use Rattle.al_session.specs.declared.inbox.Stop.{Stop}
use Rattle.al_session.specs.declared.inbox.Stop.TheVariants as stops

pub left_then : (a b c : Option (List ℕ)) (x y : List ℕ) → Left a b x → Left b c y → Left a c (x ++ y)
left_then None b c x y p q = tt
left_then (Some m) None c x y p q = absurd p
left_then (Some m) (Some n) None x y p q = absurd q
left_then (Some m) (Some n) (Some o) x y p q = p ∙ ap (λ zs. x ++ zs) q ∙ sym (append_assoc x y o)

pub left_none : (a : Option (List ℕ)) → Left a a []
left_none None = tt
left_none (Some m) = refl

pub grown_self : (old : List ℕ) (a : Option (List ℕ)) → Grown old old a a
grown_self old a = record { got = []; more = sym (append-nil old); left = left_none a }

pub grown_then : (old mid new : List ℕ) (a b c : Option (List ℕ)) → Grown old mid a b → Grown mid new b c → Grown old new a c
grown_then old mid new a b c p q = record {
  got = p.got ++ q.got;
  more = q.more ∙ ap (λ xs. xs ++ q.got) p.more ∙ append_assoc old p.got q.got;
  left = left_then a b c p.got q.got p.left q.left;
}

-- nothing more waits
pub grown_same : (old new : List ℕ) (b c : Option (List ℕ)) → new ≡ old → Left b c [] → Grown old new b c
grown_same old new b c is q = record { got = []; more = is ∙ sym (append-nil old); left = q }

-- what a head asks, unless memory was short for that
abbrev pub SaysAsked : Head → Answer → Type 0
SaysAsked head asked = (h : RequestHead) → IsRequestHead h → IsHeadOf h head → IsMemory asked ⊎ Asks h.method h.target asked

-- a whole head and its whole body are a request
whole : (buf : List ℕ) (head : Head) (h : RequestHead) (asked : Answer) (n : ℕ) → IsHeadAt buf head h → SaysAsked head asked → size_read head.body ≡ Ok n → head.used + n ≤ length buf → IsPiece buf (record { asked = asked; close = head.close; used = head.used; size = n })
whole buf head h asked n x asks read fits =
    let r = whole_request buf head h n x read fits in (
      r.0,
      r.1,
      r.2,
      subst (λ (k : RequestHead). IsMemory asked ⊎ Asks k.method k.target asked) (sym r.3) (asks h x.reads.0 x.is),
      x.is.close ∙ ap ends_after (sym r.3),
      x.is.used ∙ ap (λ k. length (print_request k)) (sym r.3),
      r.4,
      r.6,
    )

-- ---- stops

-- taking stopped behind bytes that were taken before
pub stops_then : (unfinished partial : List ℕ → Type 0) (refused bad : Stop → List ℕ → Type 0) (old mid new : List ℕ) (a b c : Option (List ℕ)) (s : Stop) → Grown old mid a b → (Grown mid new b c → unfinished new → partial new) → (refused s new → bad s new) → Stops unfinished refused mid new b c s
    → Stops partial bad old new a c s
stops_then unfinished partial refused bad old mid new a b c stops.End p still none x = (grown_then old mid new a b c p x.0, still x.0 x.1, x.2)
stops_then unfinished partial refused bad old mid new a b c stops.Fault p still none x = (grown_then old mid new a b c p x.0, still x.0 x.1)
stops_then unfinished partial refused bad old mid new a b c stops.BadHead p still none x = (grown_then old mid new a b c p x.0, none x.1)
stops_then unfinished partial refused bad old mid new a b c (stops.Refused fault) p still none x = (grown_then old mid new a b c p x.0, none x.1)
stops_then unfinished partial refused bad old mid new a b c stops.Memory p still none x = (p.got ++ x.0, left_then a b c p.got x.0 p.left x.1)

-- a take that gives nothing stops the wait for a head
pub head_stops : (old mid new : List ℕ) (a b c : Option (List ℕ)) (s : Stop) → Grown old mid a b → IsUnfinished mid → Stops (λ bytes. bytes ≡ mid) IsNoPiece mid new b c s → HeadNexts old new a c (Err s)
head_stops old mid new a b c s p part x = stops_then (λ bytes. bytes ≡ mid) IsUnfinished IsNoPiece IsNoHead old mid new a b c s p (λ g is. subst IsUnfinished (sym is) part) (λ none. absurd none) x

-- a take that gives nothing stops the wait for so many bytes
pub wait_stops : (old mid new : List ℕ) (a b c : Option (List ℕ)) (need : ℕ) (s : Stop) → Grown old mid a b → length mid < need → Stops (λ bytes. bytes ≡ mid) IsNoPiece mid new b c s → Stops (λ bytes. length bytes < need) IsNoPiece old new a c s
wait_stops old mid new a b c need s p short x = stops_then (λ bytes. bytes ≡ mid) (λ bytes. length bytes < need) IsNoPiece IsNoPiece old mid new a b c s p (λ g is. subst (λ xs. length xs < need) (sym is) short) (λ none. absurd none) x

-- ---- the next piece

-- a bad head is a piece that is refused
bad_refused : (s : Stop) (bytes : List ℕ) → IsNoHead s bytes → IsRefusedPiece s bytes
bad_refused stops.End bytes x = x
bad_refused stops.Fault bytes x = x
bad_refused stops.BadHead bytes x = x
bad_refused (stops.Refused fault) bytes x = absurd x
bad_refused stops.Memory bytes x = x

-- a head that does not come
pub head_stopped : (old new : List ℕ) (a c : Option (List ℕ)) (s : Stop) → HeadNexts old new a c (Err s) → Nexts old new a c (Err s)
head_stopped old new a c s x = stops_then IsUnfinished IsUnfinished IsNoHead IsRefusedPiece old old new a a c s (grown_self old a) (λ g part. part) (bad_refused s new) x

-- a whole head whose body is not read
pub size_refused : (old new : List ℕ) (a b : Option (List ℕ)) (head : Head) (fault : SizeFault) → HeadNexts old new a b (Ok head) → size_read head.body ≡ Err fault → Nexts old new a b (Err (stops.Refused fault))
size_refused old new a b head fault x refused = (x.0, refused_head new head x.1.0 fault x.1.1 refused)

-- a whole head stays while its body is waited for
head_stays : (mid new : List ℕ) (b c : Option (List ℕ)) (head : Head) (h : RequestHead) → IsHeadAt mid head h → Grown mid new b c → IsHeadAt new head h
head_stays mid new b c head h x g = subst (λ bytes. IsHeadAt bytes head h) (sym g.more) (head_grows mid g.got head h x)

-- the body came whole
pub body_came : (old mid new : List ℕ) (a b c : Option (List ℕ)) (head : Head) (asked : Answer) (n : ℕ) → HeadNexts old mid a b (Ok head) → SaysAsked head asked → size_read head.body ≡ Ok n → Grown mid new b c × (head.used + n ≤ length new)
    → Nexts old new a c (Ok (record { asked = asked; close = head.close; used = head.used; size = n }))
body_came old mid new a b c head asked n x asks read w = (grown_then old mid new a b c x.0 w.0, whole new head x.1.0 asked n (head_stays mid new b c head x.1.0 x.1.1 w.0) asks read w.1)

-- the body did not come whole
pub body_stops : (old mid new : List ℕ) (a b c : Option (List ℕ)) (head : Head) (n : ℕ) (s : Stop) → HeadNexts old mid a b (Ok head) → size_read head.body ≡ Ok n → Stops (λ bytes. length bytes < head.used + n) IsNoPiece mid new b c s → Nexts old new a c (Err s)
body_stops old mid new a b c head n s x read w =
    stops_then (λ bytes. length bytes < head.used + n) IsUnfinished IsNoPiece IsRefusedPiece old mid new a b c s x.0
    (λ g short. body_unfinished new head x.1.0 n (head_stays mid new b c head x.1.0 x.1.1 g) read short)
    (λ none. absurd none) w

-- the bytes that a body is waited for
pub need_fits : (old mid : List ℕ) (a b : Option (List ℕ)) (head : Head) (n : ℕ) → HeadNexts old mid a b (Ok head) → size_read head.body ≡ Ok n → head.used + n ≤ most_message
need_fits old mid a b head n x read =
    let size = size_ok head.body n read in
    omega (arith, x.1.1.is.used, x.1.1.limits.bytes, size.1)

-- the bytes of a request
pub request_length : (m : Message) (used size : ℕ) → used ≡ length (print_request m.head) → size ≡ length m.body → IsRequest m → (used + size ≡ length (spell m)) × (used + size ≤ most_message) × (size ≤ most_body)
request_length m used size head long valid = (omega (arith, head, long, length-append (print_request m.head) m.body), omega (arith, head, long, valid.limits.bytes, valid.most), omega (arith, long, valid.most))
