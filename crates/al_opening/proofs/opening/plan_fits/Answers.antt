use Rattle.al_opening.proofs.Fits.{fits}
use Rattle.al_opening.proofs.opening.plan_fits.Goals as goal

pub returns : goal.returns
returns c = fits
