use Rattle.std.proofs.Common.{inl, inr, refl, subst}
use Rattle.al_routes.specs.Texts.{IsName, IsNumber}
use Rattle.al_routes.proofs.kinds.box_of.Goals as goal

pub returns-in_default-round : goal.returns-in_default-round
returns-in_default-round c =
    inl (
      c.in-Some.app,
      subst (λ t. IsNumber t c.in-Some.app) c.piece.ensures c.in-Some.ensures,
      inl (
        c.in-Some-box_name.name,
        subst (λ t. IsName t c.in-Some-box_name.name) c.piece-2.ensures c.in-Some-box_name.ensures,
        inr (c.in_default-round.ensures, refl),
      ),
    )

pub returns : goal.returns
returns c =
    inl (
      c.in-Some.app,
      subst (λ t. IsNumber t c.in-Some.app) c.piece.ensures c.in-Some.ensures,
      inl (
        c.in-Some-box_name.name,
        subst (λ t. IsName t c.in-Some-box_name.name) c.piece-2.ensures c.in-Some-box_name.ensures,
        inl (c.in-Some-round.round, c.in-Some-round.ensures, refl),
      ),
    )
