use Rattle.std.proofs.Common.{◌∙◌, List, Some, ap, map, refl, subst, sym}
use Rattle.al_deltas.specs.declared.delta.RoundDelta.{RoundDelta}
use Rattle.al_tables.specs.Tables.{creator_pair, row_of}
use Rattle.al_deltas.specs.Net.{AreNet, AreNetCreators, levels_of, versions_of}
use Rattle.al_deltas.proofs.Nets.{all_levels_low, history_low}
use Rattle.al_deltas.proofs.batch.batch_of.Goals as goal

pub returns : goal.returns
returns c = λ q base all. record {
  from_is = ap Some (sym base);
  to_is = refl;
  rows = subst (λ (ds : List RoundDelta). AreNet ds (map row_of c.in_ok-rows_of.field-0)) (sym all) c.in_ok-rows_of.ensures.net;
  creators = subst (λ (ds : List RoundDelta). AreNetCreators ds (map creator_pair c.in_ok-creators_of.field-0)) (sym all) c.in_ok-creators_of.ensures;
  history = c.in_ok-history_of.ensures ∙ ap versions_of (sym all);
  levels = c.in_ok-levels_of.ensures ∙ ap levels_of (sym all);
  batch = record {
    most = c.requires.most;
    stored = c.in_ok-rows_of.ensures.stored;
    versions = history_low c.args.deltas.now c.in_ok-history_of.field-0 c.in_ok-history_of.ensures c.requires.low;
    level_rounds = all_levels_low c.args.deltas.now c.in_ok-levels_of.field-0 c.in_ok-levels_of.ensures c.requires.low;
  };
}
