-- What the fields of a head say, as functions of their names and values (RFC 9110, 5.1: names are one in any case of letters;
-- RFC 9112, 6: the length of a body).
use Rattle.std.specs.Prelude.{◌≡◌, ◌≤◌, ◌<◌, ◌-◌, ◌^◌, ◌||◌, ◌&&◌, ◌==◌, ℕ, Bool, List, [], ◌∷◌, length, min, map, if◌then◌else◌, nat_lt, codes}
use Rattle.std.specs.List.{list_any}
use Rattle.std.specs.Str.{bytes_eq, all_ascii_digits}
use Rattle.std.specs.Str.Parse.{digits_value}
use Rattle.std.specs.Char.{to_ascii_lowercase}
use Rattle.httparse.specs.Grammar.{RequestHead}
use Rattle.httparse.specs.Spans.{span_bytes, name_and_value}
use Rattle.al_http.specs.declared.head.BodySize.{BodySize}
use Rattle.al_http.specs.declared.head.BodySize.TheVariants.{Length, Coded, Bad}
use Rattle.al_http.specs.declared.fields.Named.{Named}
use Rattle.al_http.specs.declared.fields.Named.TheVariants as named

-- the names and values of a head, in order
abbrev pub fields_of : RequestHead → List (List ℕ × List ℕ)
fields_of h = map name_and_value h.fields

-- two texts are one but for the case of letters
abbrev pub is_same_text : List ℕ → List ℕ → Bool
is_same_text a b = bytes_eq (map to_ascii_lowercase a) (map to_ascii_lowercase b)

-- the values of the fields of that name, in order
abbrev pub values : List ℕ → List (List ℕ × List ℕ) → List (List ℕ)
values name [] = []
values name (p ∷ ps) = if is_same_text p.0 name then p.1 ∷ values name ps else values name ps

-- digits alone, leading zeros too
abbrev pub is_decimal : List ℕ → Bool
is_decimal text = nat_lt 0 (length text) && all_ascii_digits text

-- how long a body of this content-length is, or 2^64 - 1 bytes where that is more
abbrev pub size_of_text : List ℕ → BodySize
size_of_text text = if is_decimal text then Length (min (digits_value 10 text) (2 ^ 64 - 1)) else Bad

-- how long the body is, by the values of transfer-encoding and of content-length
abbrev pub size_from : List (List ℕ) → List (List ℕ) → BodySize
size_from (coding ∷ codings) lengths = Coded
size_from [] [] = Length 0
size_from [] (text ∷ []) = size_of_text text
size_from [] (text ∷ other ∷ others) = Bad

abbrev pub size_of : List (List ℕ × List ℕ) → BodySize
size_of fields = size_from (values (codes "transfer-encoding") fields) (values (codes "content-length") fields)

-- whether a field says that the connection ends
abbrev pub says_close : List (List ℕ × List ℕ) → Bool
says_close fields = list_any (λ value. is_same_text value (codes "close")) (values (codes "connection") fields)

-- whether the connection ends after a request of this head
abbrev pub ends_after : RequestHead → Bool
ends_after h = (h.minor == 0) || says_close (fields_of h)

-- what a search for a name found, where these are the values
abbrev pub IsNamed : List ℕ → List (List ℕ) → Named → Type 0
IsNamed buf vs named.Absent = vs ≡ []
IsNamed buf vs (named.Once s) = (vs ≡ span_bytes buf s ∷ []) × (s.start ≤ s.end) × (s.end ≤ length buf)
IsNamed buf vs named.Several = 1 < length vs
