-- No value that an answer shows has a float.
use Rattle.std.proofs.Common.{◌≡◌, ℕ, Bool, true, false, ◌||◌, List, refl}
use Rattle.std.specs.Ordering.{nat_cmp, match_ordering}
use Rattle.std.specs.declared.cmp.Ordering.TheVariants.{Less, Equal, Greater}
use Rattle.std.specs.Cmp.Lexicographic.{slice_cmp}
use Rattle.serde_json.specs.Data.{Data, number, unsigned, boolean, string, object, Members, no_members, member, put}
use Rattle.serde_json.specs.Written.{has_float, members_have_float}
use Rattle.al_answers.specs.Json.{Json, Fields, left_out, whole, flag, text, nested, no_fields, field, put_fields, put_json, members_of}

or_false : (a b : Bool) → a ≡ false → b ≡ false → (a || b) ≡ false
or_false true b p q = p
or_false false b p q = q

left_false : (a b : Bool) → (a || b) ≡ false → a ≡ false
left_false true b p = p
left_false false b p = refl

right_false : (a b : Bool) → (a || b) ≡ false → b ≡ false
right_false true true p = p
right_false true false p = refl
right_false false b p = p

put_plain : (k : List ℕ) (d : Data) (ms : Members) → has_float d ≡ false → members_have_float ms ≡ false → members_have_float (put k d ms) ≡ false
put_plain k d no_members p q = or_false (has_float d) false p refl
put_plain k d (member l e ms) p q =
    let here = left_false (has_float e) (members_have_float ms) q in
    let more = right_false (has_float e) (members_have_float ms) q in
    elim (slice_cmp nat_cmp k l) as (λ o. members_have_float (match_ordering o (member k d (member l e ms)) (member l d ms) (member l e (put k d ms))) ≡ false) [
      | Less ↦ or_false (has_float d) (has_float e || members_have_float ms) p q
      | Equal ↦ or_false (has_float d) (members_have_float ms) p more
      | Greater ↦ or_false (has_float e) (members_have_float (put k d ms)) here (put_plain k d ms p more)
    ]

mutual
  json_plain : (key : List ℕ) (j : Json) (ms : Members) → members_have_float ms ≡ false → members_have_float (put_json key j ms) ≡ false
  json_plain key left_out ms p = p
  json_plain key (whole n) ms p = put_plain key (number (unsigned n)) ms refl p
  json_plain key (flag b) ms p = put_plain key (boolean b) ms refl p
  json_plain key (text s) ms p = put_plain key (string s) ms refl p
  json_plain key (nested fs) ms p = put_plain key (object (put_fields fs no_members)) ms (fields_plain fs no_members refl) p

  fields_plain : (fs : Fields) (ms : Members) → members_have_float ms ≡ false → members_have_float (put_fields fs ms) ≡ false
  fields_plain no_fields ms p = p
  fields_plain (field key j fs) ms p = fields_plain fs (put_json key j ms) (json_plain key j ms p)

pub members_plain : (fs : Fields) → members_have_float (members_of fs) ≡ false
members_plain fs = fields_plain fs no_members refl
