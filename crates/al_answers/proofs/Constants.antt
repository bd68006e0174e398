-- The answers whose bytes are constants.
use Rattle.std.proofs.Common.{◌≡◌, ℕ, List, ◌++◌, codes, decimal, refl, ap, ap₂, ◌∙◌}
use Rattle.std.specs.Fmt.{digits}
use Rattle.json.specs.Print.{escape_byte}
use Rattle.serde_json.specs.Data.{object}
use Rattle.serde_json.specs.Written.{compact_text}
use Rattle.al_answers.specs.declared.answer.Answer.{Answer}
use Rattle.al_answers.specs.declared.answer.ErrorName.TheVariants as errors
use Rattle.al_answers.specs.Json.{fields, members_of}
use Rattle.al_answers.specs.Answers.{line_end, rest_of, body_of, answer_text, memory_answer, nothing, refusal, phrase_of, error_text}

four_hundred : decimal 400 ≡ codes "400"
unfolding digits
four_hundred = refl

four_hundred_thirteen : decimal 413 ≡ codes "413"
unfolding digits
four_hundred_thirteen = refl

five_hundred_one : decimal 501 ≡ codes "501"
unfolding digits
five_hundred_one = refl

five_hundred_seven : decimal 507 ≡ codes "507"
unfolding digits
five_hundred_seven = refl

eighteen : decimal 18 ≡ codes "18"
unfolding digits
eighteen = refl

nineteen : decimal 19 ≡ codes "19"
unfolding digits
nineteen = refl

twenty : decimal 20 ≡ codes "20"
unfolding digits
twenty = refl

twenty_one : decimal 21 ≡ codes "21"
unfolding digits
twenty_one = refl

phrase_400 : phrase_of 400 ≡ codes "Bad Request"
unfolding phrase_of
phrase_400 = refl

phrase_413 : phrase_of 413 ≡ codes "Payload Too Large"
unfolding phrase_of
phrase_413 = refl

phrase_501 : phrase_of 501 ≡ codes "Not Implemented"
unfolding phrase_of
phrase_501 = refl

phrase_507 : phrase_of 507 ≡ codes "Insufficient Storage"
unfolding phrase_of
phrase_507 = refl

abbrev text_of : Answer → List ℕ
text_of a = compact_text (object (members_of (fields (body_of a))))

abbrev head_with : List ℕ → List ℕ → List ℕ
head_with status phrase = codes "HTTP/1.1 " ++ status ++ codes " " ++ phrase ++ line_end ++ codes "content-type: application/json" ++ line_end

abbrev rest_with : List ℕ → List ℕ → List ℕ
rest_with length body = codes "content-length: " ++ length ++ line_end ++ line_end ++ body

memory_body : text_of memory_answer ≡ codes "{\"error\":\"Memory\"}"
unfolding error_text escape_byte
memory_body = refl

pub memory_is : answer_text memory_answer ≡ head_with (codes "507") (codes "Insufficient Storage") ++ rest_with (codes "18") (codes "{\"error\":\"Memory\"}")
unfolding answer_text
memory_is =
    ap₂ (λ h r. h ++ r)
    (ap₂ head_with five_hundred_seven phrase_507)
    (ap rest_of memory_body ∙ ap (λ d. rest_with d (codes "{\"error\":\"Memory\"}")) eighteen)

bad_head_body : text_of (refusal errors.BadHead nothing) ≡ codes "{\"error\":\"BadHead\"}"
unfolding error_text escape_byte
bad_head_body = refl

pub bad_head_is : answer_text (refusal errors.BadHead nothing) ≡ head_with (codes "400") (codes "Bad Request") ++ rest_with (codes "19") (codes "{\"error\":\"BadHead\"}")
unfolding answer_text
bad_head_is =
    ap₂ (λ h r. h ++ r)
    (ap₂ head_with four_hundred phrase_400)
    (ap rest_of bad_head_body ∙ ap (λ d. rest_with d (codes "{\"error\":\"BadHead\"}")) nineteen)

bad_length_body : text_of (refusal errors.BadLength nothing) ≡ codes "{\"error\":\"BadLength\"}"
unfolding error_text escape_byte
bad_length_body = refl

pub bad_length_is : answer_text (refusal errors.BadLength nothing) ≡ head_with (codes "400") (codes "Bad Request") ++ rest_with (codes "21") (codes "{\"error\":\"BadLength\"}")
unfolding answer_text
bad_length_is =
    ap₂ (λ h r. h ++ r)
    (ap₂ head_with four_hundred phrase_400)
    (ap rest_of bad_length_body ∙ ap (λ d. rest_with d (codes "{\"error\":\"BadLength\"}")) twenty_one)

coding_body : text_of (refusal errors.Coding nothing) ≡ codes "{\"error\":\"Coding\"}"
unfolding error_text escape_byte
coding_body = refl

pub coding_is : answer_text (refusal errors.Coding nothing) ≡ head_with (codes "501") (codes "Not Implemented") ++ rest_with (codes "18") (codes "{\"error\":\"Coding\"}")
unfolding answer_text
coding_is =
    ap₂ (λ h r. h ++ r)
    (ap₂ head_with five_hundred_one phrase_501)
    (ap rest_of coding_body ∙ ap (λ d. rest_with d (codes "{\"error\":\"Coding\"}")) eighteen)

too_large_body : text_of (refusal errors.TooLarge nothing) ≡ codes "{\"error\":\"TooLarge\"}"
unfolding error_text escape_byte
too_large_body = refl

pub too_large_is : answer_text (refusal errors.TooLarge nothing) ≡ head_with (codes "413") (codes "Payload Too Large") ++ rest_with (codes "20") (codes "{\"error\":\"TooLarge\"}")
unfolding answer_text
too_large_is =
    ap₂ (λ h r. h ++ r)
    (ap₂ head_with four_hundred_thirteen phrase_413)
    (ap rest_of too_large_body ∙ ap (λ d. rest_with d (codes "{\"error\":\"TooLarge\"}")) twenty)
