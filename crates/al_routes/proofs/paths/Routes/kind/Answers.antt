use Rattle.std.proofs.Common.{sym, ap, ◌∙◌, arith}
use Rattle.matchit.specs.Seek.{first}
use Rattle.matchit.specs.Rows.{RowsOf}
use Rattle.matchit.specs.Router.{RouteOf}
use Rattle.al_routes.specs.declared.paths.Kind.{Kind}
use Rattle.al_routes.proofs.PathLemmas.{found_is, missing_is, plain_bytes}
use Rattle.al_routes.proofs.paths.Routes.kind.Goals as goal

pub returns-in-Ok : goal.returns-in-Ok
returns-in-Ok c =
    let path = c.args.path.now in
    found_is path _ (plain_bytes path (λ i. omega (arith, c.type_inv.path i)))
    (ap (λ (rs : RowsOf (RouteOf Kind)). first rs path) (sym c.args.self.now.whole) ∙ c.in-Ok.ensures.found)

pub returns-in-Err : goal.returns-in-Err
returns-in-Err c =
    let path = c.args.path.now in
    missing_is path (ap (λ (rs : RowsOf (RouteOf Kind)). first rs path) (sym c.args.self.now.whole) ∙ c.in-Err.ensures.missing)
