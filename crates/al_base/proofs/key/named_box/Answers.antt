use Rattle.std.proofs.Common.{◌≡◌, ◌<◌, ◌^◌, take, drop, rules, ap, ap₂, sym, ◌∙◌, Some, None, arith}
use Rattle.al_base.specs.Keys.{number_bytes}
use Rattle.al_base.proofs.KeyLemmas.{as_box, number_bytes_same}
use Rattle.al_base.specs.declared.key.Key.TheVariants.{Box}
use Rattle.al_base.proofs.key.named_box.Goals as goal

pub returns-in_err-app-clause-whole : goal.returns-in_err-app-clause-whole
returns-in_err-app-clause-whole c = λ key is e.
    let b = as_box key c.args.bytes.now is e in
    absurd (omega (arith, b.len))

pub returns-in_err-new-clause-whole : goal.returns-in_err-new-clause-whole
returns-in_err-new-clause-whole c = λ key is e.
    let b = as_box key c.args.bytes.now is e in
    let name : c.in_ok-app.name.now ≡ drop 8 c.args.bytes.now = search rules in
    let found : None ≡ Some b.name = c.in_err-new.ensures.whole b.name b.name_len (sym b.rest ∙ sym name) in
    absurd (cc)

pub returns-clause-whole : goal.returns-clause-whole
returns-clause-whole c = λ key is e.
    let b = as_box key c.args.bytes.now is e in
    let name : c.in_ok-app.name.now ≡ drop 8 c.args.bytes.now = search rules in
    let found : Some c.in_ok-new.field-0 ≡ Some b.name = c.in_ok-new.ensures.whole b.name b.name_len (sym b.rest ∙ sym name) in
    let first : number_bytes c.in_ok-number.field-0 ≡ take 8 c.args.bytes.now = search rules in
    let below : c.in_ok-number.field-0 < 2 ^ 64 = search rules in
    let app = number_bytes_same _ b.app below b.below (first ∙ b.first) in
    let same : c.in_ok-new.field-0 ≡ b.name = cc in
    ap Some (ap₂ Box app same ∙ sym b.is)
