use Rattle.std.proofs.Common.{◌≡◌, ◌∙◌, ℕ, cond, nat_eq, Some, sym, subst}
use Rattle.std.specs.BTreeMap as tree
use Rattle.std.specs.Ordering.{nat_cmp}
use Rattle.al_base.specs.declared.key.Key.{Key}
use Rattle.al_deltas.specs.Index.{DifferAt}
use Rattle.al_deltas.proofs.Indexes.{index_apart, index_left, index_noted, index_stays, noted_first, other_test}
use Rattle.al_deltas.proofs.index.keep_up.Goals as goal

pub returns-then-had-has : goal.returns-then-had-has
returns-then-had-has c = λ old new index differ _. index_stays c.args.key.now c.args.had c.args.has old new c.args.creators.now c.if-had-has.true index differ

pub returns-then-has : goal.returns-then-has
returns-then-has c = λ old new index differ right.
    let was = c.args.creators.now in
    let now = c.note.new.creators in
    let who = c.in-Resource.who in
    let id = c.in-Resource.id in
    let h = noted_first {P = (q : ℕ) → tree.get nat_cmp now q ≡ cond (nat_eq id q) (Some who) (tree.get nat_cmp was q)} c.note.result (tree.get nat_cmp was id) (sym c.unwrap_or.ensures ∙ right) c.note.ensures.first c.note.ensures.noted in
    index_noted who id c.args.had c.args.has old new was now c.if-has.true h.0 h.1 index (subst (λ (k : Key). DifferAt k c.args.had c.args.has old new) c.in-Resource.is differ)

pub returns : goal.returns
returns c = λ old new index differ _.
    index_left c.in-Resource.who c.in-Resource.id c.args.had c.args.has old new c.args.creators.now c.forget.new.creators (other_test c.args.had c.args.has c.if-had-has.false c.if-has.false) c.if-has.false c.forget.ensures index (subst (λ (k : Key). DifferAt k c.args.had c.args.has old new) c.in-Resource.is differ)

pub returns-in_default : goal.returns-in_default
returns-in_default c = λ old new index differ _. index_apart c.args.key.now c.args.had c.args.has old new c.args.creators.now (λ id who. c.in_default.not-Resource who id) index differ
