-- A served connection as a cut.
use Rattle.std.proofs.Common.{◌≡◌, ◌⊎◌, inl, inr, ◌<◌, ℕ, List, true, [], ◌∷◌, ◌++◌, length, length-append, refl, sym, ap, arith, subst, Option, IsUtf8}
use Rattle.std.proofs.lemmas.List.{append-nil}
use Rattle.std.proofs.lemmas.List.Elements.{All-cons, All-nil}
use Rattle.httparse.specs.Grammar.{RequestHead, IsRequestHead, HasNoRequest, IsField, crlf, is_token_byte, is_uri_byte, print_blank, print_end, print_request, print_section, print_version}
use Rattle.httparse.proofs.GrammarLemmas.{print_request-append}
use Rattle.al_http.specs.Requests.{GoesOn, IsClosed, IsCut, IsRest, IsUnfinished, Message}
use Rattle.al_states.specs.declared.told.Told.{Told}
use Rattle.al_states.specs.Held.{Held}
use Rattle.al_session.specs.Connection.{AreOpen, Served, EndsAs}
use Rattle.al_session.specs.Cuts.{IsEndOfInput}
use Rattle.al_session.specs.declared.link.Ended.{Ended}
use Rattle.al_session.specs.declared.link.Ended.TheVariants as ended
use Rattle.al_session.proofs.ServeLemmas.{open_all}

-- a small head
abbrev get : RequestHead
get = record { blank = []; method = 71 ∷ []; target = 47 ∷ []; minor = 1; line_end = crlf; fields = []; last = crlf }

token_byte : is_token_byte 71 ≡ true
unfolding is_token_byte
token_byte = refl

slash_text : IsUtf8 (47 ∷ [])
unfolding lib.Utf8.encode
slash_text = (47 ∷ [], (refl, refl))

get_is : IsRequestHead get
get_is = record {
  method = (omega arith, All-cons (λ b. is_token_byte b ≡ true) 71 [] token_byte (All-nil (λ b. is_token_byte b ≡ true)));
  target = (omega arith, All-cons (λ b. is_uri_byte b ≡ true) 47 [] refl (All-nil (λ b. is_uri_byte b ≡ true)));
  target_text = slash_text;
  minor = omega arith;
  fields = All-nil IsField;
}

-- a head has bytes
some_bytes : (h : RequestHead) (rest : List ℕ) → 0 < length (print_request h ++ rest)
some_bytes h rest =
    let tail : List ℕ = 32 ∷ (h.target ++ 32 ∷ (print_version h.minor ++ (print_end h.line_end ++ (print_section h.fields h.last ++ rest)))) in
    omega (arith, ap length (print_request-append h rest), length-append (print_blank h.blank) (h.method ++ tail), length-append h.method tail)

none_read : HasNoRequest []
none_read h rest x = absurd (omega (arith, ap length x.1, some_bytes h rest))

-- no bytes are unfinished
pub nothing_unfinished : IsUnfinished []
nothing_unfinished = inr (record { short = omega arith; none = none_read; may = inl (print_request get ++ [], get, some_bytes get [], get_is, append-nil (print_request get)) })

-- by how it ended
cut_by : (left_now : Option (List ℕ)) (taken : List ℕ) (end : Ended) (requests : List Message) (rest : List ℕ) (behind : List (List ℕ)) → IsEndOfInput end → EndsAs end left_now taken requests rest behind → IsRest rest ⊎ IsClosed requests
cut_by left_now taken ended.Finished requests rest behind p (same, inl (none, all, at)) = inl (inl (subst IsUnfinished (sym none) nothing_unfinished))
cut_by left_now taken ended.Finished requests rest behind p (same, inr closed) = inr closed
cut_by left_now taken (ended.CutShort at) requests rest behind p x = inl (inl x.2)
cut_by left_now taken ended.BadHead requests rest behind p x = inl (inr (inl x.0))
cut_by left_now taken ended.Unreadable requests rest behind p x = inl (inr (inr (x.0, x.1)))
cut_by left_now taken ended.SourceFault requests rest behind p x = inl (inl x.1)
cut_by left_now taken ended.SinkFault requests rest behind p x = absurd p
cut_by left_now taken ended.Spent requests rest behind p x = absurd p
cut_by left_now taken ended.Memory requests rest behind p x = absurd p

going_by : (end : Ended) (requests : List Message) → IsEndOfInput end → AreOpen end requests → GoesOn requests
going_by ended.Finished requests p x = x
going_by (ended.CutShort at) requests p x = open_all requests x
going_by ended.BadHead requests p x = open_all requests x
going_by ended.Unreadable requests p x = open_all requests x
going_by ended.SourceFault requests p x = open_all requests x
going_by ended.SinkFault requests p x = x
going_by ended.Spent requests p x = absurd p
going_by ended.Memory requests p x = absurd p

pub served_is_cut : (before after : Held) (left_now : Option (List ℕ)) (taken written : List ℕ) (end : Ended) (requests : List Message) (told : List Told) (rest : List ℕ) (behind : List (List ℕ)) → IsEndOfInput end → Served before after left_now taken written end requests told rest behind → IsCut requests rest
served_is_cut before after left_now taken written end requests told rest behind p x = record {
  each = x.each;
  going = going_by end requests p x.going;
  ends = cut_by left_now taken end requests rest behind p x.ends;
}
