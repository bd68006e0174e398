use Rattle.std.proofs.Common.{rules, ◌≡◌, inr, refl, sym, ap, ◌∙◌, map, subst, None, List, ℕ, Bor}
use Rattle.al_routes.specs.Paths.{IsKindOf, IsPath, pieces_of}
use Rattle.al_routes.specs.Asks.{method_of, path_of, query_of}
use Rattle.al_routes.proofs.AskLemmas.{asks_by, same_texts}
use Rattle.al_routes.proofs.paths.Routes.request.Goals as goal

pub returns-in_default : goal.returns-in_default
returns-in_default c =
    let none : IsKindOf c.cut.result.0.now None = subst (IsKindOf c.cut.result.0.now) c.in_default.is c.kind.ensures in
    inr (inr ((λ kind p. none kind (subst (IsPath kind) (sym c.cut.ensures.path) p)), refl))

pub returns-in-Ok : goal.returns-in-Ok
returns-in-Ok c =
    let method : c.args.method.now ≡ method_of c.in-Some.kind = same_texts c.args.method.now c.method_of.result.now _ c.ne.ensures c.if-ne.false ∙ c.method_of.ensures in
    let query : c.as_bytes.result.now ≡ query_of c.args.target.now = search rules in
    let cut : map (λ (w : Bor (List ℕ)). w.now) c.deref.result.now ≡ pieces_of c.cut.result.0.now = ap (map (λ (w : Bor (List ℕ)). w.now)) c.deref.ensures.value ∙ c.in-Ok.ensures in
    inr (asks_by c.in-Some.kind c.args.method.now c.args.target.now c.cut.result.0.now c.as_bytes.result.now _ c.asked.result c.cut.ensures.path query cut c.in-Some.ensures method c.asked.ensures)
