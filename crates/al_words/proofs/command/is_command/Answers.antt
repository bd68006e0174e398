use Rattle.std.proofs.Common.{◌≡◌, sym, ◌∙◌, map, true, false}
use Rattle.std.proofs.lemmas.Result.{IfOk-weaker}
use Rattle.al_words.specs.Commands.{has_dash}
use Rattle.al_words.proofs.Taken.{dashed, taken_form, form_taken}
use Rattle.al_words.proofs.command.is_command.Goals as goal

pub returns-then-has_dash : goal.returns-then-has_dash
returns-then-has_dash c =
    (λ t. cc, λ h. let no : true ≡ false = sym c.if-has_dash.true ∙ c.has_dash.ensures ∙ dashed c.args.words.now ∙ h.0 in cc)

pub returns : goal.returns
returns c =
    let clear : has_dash (map (λ w. w.now) c.args.words.now) ≡ false = sym (dashed c.args.words.now) ∙ sym c.has_dash.ensures ∙ c.if-has_dash.false in
    IfOk-weaker c.is_taken.result _ _ (λ b h. (λ t. (clear, taken_form _ clear (h.0 t)), λ l. h.1 (form_taken _ clear l.1))) c.is_taken.ensures
