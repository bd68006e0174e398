use Rattle.al_rows.proofs.Views.{are-creators}
use Rattle.al_rows.proofs.index.creators_of.Goals as goal

pub returns : goal.returns
returns c = are-creators c.creators_among.result c.args.rows.now.entries c.creators_among.ensures.first c.creators_among.ensures.ordered
