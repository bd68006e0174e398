use Rattle.std.proofs.Common.{inl, refl, subst}
use Rattle.al_routes.specs.Texts.{IsAddress, IsNumber}
use Rattle.al_routes.proofs.kinds.app.Goals as goal

pub returns : goal.returns
returns c =
    inl (
      c.in-Some.address,
      subst (λ t. IsAddress t c.in-Some.address) c.piece.ensures c.in-Some.ensures,
      inl (
        c.in-Some-number.id,
        subst (λ t. IsNumber t c.in-Some-number.id) c.piece-2.ensures c.in-Some-number.ensures,
        inl (c.in-Some-round.round, c.in-Some-round.ensures, refl),
      ),
    )
