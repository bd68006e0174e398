use Rattle.std.proofs.Common.{◌≡◌, ◌∙◌, List, Ordering, map, take, filter, ap, sym, subst}
use Rattle.std.proofs.lemmas.Result.{IfOk-weaker}
use Rattle.std.specs.BTreeMap.{IsOrdered}
use Rattle.std.specs.BTreeMap.Range.{entries_between}
use Rattle.std.specs.Option.{option_copied}
use Rattle.std.specs.declared.ops.Bound.{Bound}
use Rattle.std.specs.declared.ops.Bound.TheVariants.{Unbounded}
use Rattle.al_base.specs.declared.key.Key.{Key}
use Rattle.al_base.specs.Keys.{key_cmp}
use Rattle.al_rows.proofs.Above.{between}
use Rattle.al_rows.proofs.Keys.{derived_order}
use Rattle.al_rows.proofs.Views.{entries-of}
use Rattle.al_rows.specs.Above.{is_above, keyed_of, rows_above}
use Rattle.al_rows.specs.declared.stored.Keyed.{Keyed}
use Rattle.al_rows.specs.declared.stored.Stored.{Stored}
use Rattle.al_tables.specs.Tables.{StoredMap}
use Rattle.al_deltas.proofs.kept.KeptRows.rows_above.Goals as goal

pub returns : goal.returns
returns c =
    let es = c.self.inside.rows.entries in
    let after = option_copied c.args.after in
    let ordered = subst (λ (R : Key → Key → Ordering). IsOrdered R c.self.inside.rows) derived_order c.len-count.ensures.ordered in
    let firsts = λ (xs : List (Key × Stored)). map keyed_of (take c.args.max xs) in
    let same : firsts (entries_between key_cmp c.bound_of.result Unbounded es) ≡ rows_above after c.args.max c.args.self.now =
    ap (λ (b : Bound Key). firsts (entries_between key_cmp b Unbounded es)) c.bound_of.ensures
    ∙ ap firsts (between after es)
    ∙ ap (λ (xs : List (Key × Stored)). firsts (filter (λ (e : Key × Stored). is_above after e.0) xs)) (sym (entries-of es ordered))
    ∙ ap (λ (m : StoredMap). rows_above after c.args.max m) c.self.view_is in
    IfOk-weaker c.first_from.result (λ (out : List Keyed). out ≡ firsts (entries_between key_cmp c.bound_of.result Unbounded es)) (λ rows. rows ≡ rows_above after c.args.max c.args.self.now) (λ rows is. is ∙ same) c.first_from.ensures
