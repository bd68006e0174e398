use Rattle.std.proofs.Common.{◌≡◌, ◌<◌, ◌++◌, ◌^◌, ◌∷◌, length, take, drop, rules, ap, ap₂, sym, ◌∙◌, Some}
use Rattle.std.proofs.lemmas.List.{take-append-drop}
use Rattle.al_base.specs.Keys.{number_bytes}
use Rattle.al_base.proofs.KeyLemmas.{as_resource, number_bytes_same}
use Rattle.al_base.specs.declared.key.Key.TheVariants.{Resource}
use Rattle.al_base.proofs.key.resource.Goals as goal

pub returns-in_err-address-clause-whole : goal.returns-in_err-address-clause-whole
returns-in_err-address-clause-whole c = λ key is e.
    let r = as_resource key c.args.bytes.now is e in
    let first : c.in_ok-holder.holder.now ≡ take 32 c.args.bytes.now = search rules in
    absurd (c.in_err-address.ensures (ap length first ∙ r.first_len))

pub returns-in_err-number-clause-whole : goal.returns-in_err-number-clause-whole
returns-in_err-number-clause-whole c = λ key is e.
    let r = as_resource key c.args.bytes.now is e in
    let rest : c.in_ok-holder.id.now ≡ drop 32 c.args.bytes.now = search rules in
    absurd (c.in_err-number.ensures (ap length rest ∙ r.rest_len))

pub returns-clause-found : goal.returns-clause-found
returns-clause-found c =
    let first : c.in_ok-address.field-0.0 ≡ take 32 c.args.bytes.now = search rules in
    let rest : number_bytes c.in_ok-number.field-0 ≡ drop 32 c.args.bytes.now = search rules in
    ap (λ bs. 1 ∷ bs) (ap₂ (λ a b. a ++ b) first rest ∙ take-append-drop 32 c.args.bytes.now)

pub returns-clause-whole : goal.returns-clause-whole
returns-clause-whole c = λ key is e.
    let r = as_resource key c.args.bytes.now is e in
    let first : c.in_ok-address.field-0.0 ≡ take 32 c.args.bytes.now = search rules in
    let rest : number_bytes c.in_ok-number.field-0 ≡ drop 32 c.args.bytes.now = search rules in
    let below : c.in_ok-number.field-0 < 2 ^ 64 = search rules in
    let holder : c.in_ok-address.field-0 ≡ r.holder = ap (λ bs. record { 0 = bs }) (first ∙ r.first) in
    let id = number_bytes_same _ r.id below r.below (rest ∙ r.rest) in
    ap Some (ap₂ Resource holder id ∙ sym r.is)
