use Rattle.std.proofs.Common.{rules, ◌≤◌, length, Ok, Err, ap, subst, sym, refl, ◌∙◌}
use Rattle.httparse.specs.Outcome.{IfComplete}
use Rattle.httparse.specs.declared.Error.{Error}
use Rattle.httparse.specs.Grammar.{IsToken}
use Rattle.httparse.specs.Spans.{IsRequestOf, IsRequestWithin}
use Rattle.al_http.specs.Limits.{most_fields}
use Rattle.al_http.proofs.HeadLemmas.{head_at}
use Rattle.al_http.proofs.MethodLemmas.{method_token}
use Rattle.al_http.proofs.head.read_front.Goals as goal

pub unreachable-requires : goal.unreachable-requires
unreachable-requires c =
    let spans = c.in-Ok-Complete.spans in
    let front = c.args.front.now in
    let headers = c.parse_request.new.headers in
    let at : IsRequestOf front headers spans = subst (λ r. IfComplete {E = Error} (Ok r) (IsRequestOf front headers)) c.in-Ok-Complete.field-0-is c.in-Ok-Complete.ensures.complete in
    let token : IsToken c.of.result.now = subst IsToken (sym (c.of.ensures ∙ at.1.method)) at.1.reads.0.method in
    c.in-Err-Invalid.ensures.invalid.0 (ap Err c.in-Err-Invalid.field-0-is) (method_token c.of.result.now token)

pub returns-in_ok-of-in-Ok : goal.returns-in_ok-of-in-Ok
returns-in_ok-of-in-Ok c =
    let spans = c.in-Ok-Complete.spans in
    let front = c.args.front.now in
    let headers = c.parse_request.new.headers in
    let at : IsRequestOf front headers spans = subst (λ r. IfComplete {E = Error} (Ok r) (IsRequestOf front headers)) c.in-Ok-Complete.field-0-is c.in-Ok-Complete.ensures.complete in
    let within : IsRequestWithin front headers spans = subst (λ r. IfComplete {E = Error} (Ok r) (IsRequestWithin front headers)) c.in-Ok-Complete.field-0-is c.in-Ok-Complete.ensures.within in
    let few : length headers ≤ most_fields = search rules in
    (at.0, head_at front headers spans _ at.0 at.1 within c.requires few refl (search rules) (search rules) c.size_of.ensures c.closes.ensures)
