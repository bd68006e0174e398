use Rattle.std.proofs.Common.{rules, ◌≡◌, ◌∙◌, ◌+◌, ◌∷◌, ◌++◌, ◌<◌, ◌^◌, [], drop, sum_by, sym, ap, subst, List}
use Rattle.std.proofs.lemmas.List.{append_assoc}
use Rattle.std.proofs.lemmas.Result.{err_from_is_err_and}
use Rattle.al_deltas.proofs.Applied.{drop_at}
use Rattle.al_eval.specs.Body.{AsksOne, Context}
use Rattle.al_tail.specs.declared.tail.Entry.{Entry}
use Rattle.al_eval.specs.Items.{all_items}
use Rattle.al_eval.specs.Groups.{opened, size_of}
use Rattle.al_tail.specs.Past.{entry_of}
use Rattle.al_eval.specs.Refusals.{IsDue, refusal_of}
use Rattle.std.specs.declared.result.Result.TheVariants.{Ok}
use Rattle.al_eval.proofs.Asks.{ask_at, counted_on, item_done, item_due}
use Rattle.al_eval.proofs.transact.all_items.Goals as goal

pub returns-in_err-take_turn : goal.returns-in_err-take_turn
returns-in_err-take_turn g c = let q = err_from_is_err_and c.from_residual-in_err-take_turn.result c.from_residual-in_err-take_turn.ensures.1 in rw (q.1, q.2) (record {
  fixed = search rules;
  gives = λ t asks.
      let i = c.item-item.result in
      let chain = c.args.before.now.chain in
      let level = c.args.work.now.level in
      let round = c.args.block.now.header.round in
      let p = c.loop-place in
      let after = drop (p.place + 1) c.args.block.now.items in
      let v = refusal_of c.in_err-take_turn.field-0.0 in
      let a : AsksOne p.work.block i = ask_at c.args.work.now.block p.work.block c.args.block.now.items p.place i (p.invariant.fixed.block t) asks (search rules) (search rules) in
      let left : drop p.place c.args.block.now.items ≡ i ∷ after = drop_at c.args.block.now.items p.place i (search rules) (search rules) in
      let opens : opened chain p.place p.left (i ∷ after) ≡ Ok c.in_ok-left.left = search rules in
      let x : Context = record { level = p.work.level; round = round; next = p.counter + 1; item = i } in
      let x_is : x ≡ record { level = level; round = round; next = p.counter + 1; item = i } = ap (λ l. record { level = l; round = round; next = p.counter + 1; item = i }) p.invariant.fixed.level in
      let due = item_due chain level round p.place (c.args.past.now ++ p.seen) p.counter p.left i after p.work.now x x_is c.in_ok-left.left opens v (c.in_err-take_turn.ensures.runs.gives t a) in
      subst (λ d. IsDue d v) (sym (ap (λ is. all_items chain level round p.place (c.args.past.now ++ p.seen) p.counter p.left is p.work.now) left) ∙ p.invariant.rest t asks) due;
  cause = search rules;
})

pub loop-place-preserved : goal.loop-place-preserved
loop-place-preserved g c = record {
  fixed = search rules;
  fits =
      let i = c.item-item.result in
      let p = c.loop-place in
      let after = drop (p.place + 1) c.args.block.now.items in
      let left : drop p.place c.args.block.now.items ≡ i ∷ after = drop_at c.args.block.now.items p.place i (search rules) (search rules) in
      let sized : c.size_of-counter.result ≡ size_of i = c.size_of-counter.ensures.value in
      subst (λ n. p.counter + n + sum_by size_of after < 2 ^ 64) (sym sized) (counted_on c.args.block.now.items p.place p.counter i after left p.invariant.fits);
  rest = λ t asks.
      let i = c.item-item.result in
      let chain = c.args.before.now.chain in
      let level = c.args.work.now.level in
      let round = c.args.block.now.header.round in
      let p = c.loop-place in
      let after = drop (p.place + 1) c.args.block.now.items in
      let a : AsksOne p.work.block i = ask_at c.args.work.now.block p.work.block c.args.block.now.items p.place i (p.invariant.fixed.block t) asks (search rules) (search rules) in
      let left : drop p.place c.args.block.now.items ≡ i ∷ after = drop_at c.args.block.now.items p.place i (search rules) (search rules) in
      let opens : opened chain p.place p.left (i ∷ after) ≡ Ok c.in_ok-left.left = search rules in
      let pushed : c.take_turn.new.seen ≡ p.seen ++ entry_of i.txn ∷ [] = c.in_ok-take_turn.ensures.seen in
      let past : c.args.past.now ++ c.take_turn.new.seen ≡ (c.args.past.now ++ p.seen) ++ entry_of i.txn ∷ [] = ap (λ (es : List Entry). c.args.past.now ++ es) pushed ∙ sym (append_assoc c.args.past.now p.seen (entry_of i.txn ∷ [])) in
      let counter : p.counter + c.size_of-counter.result ≡ p.counter + size_of i = search rules in
      let x : Context = record { level = p.work.level; round = round; next = p.counter + 1; item = i } in
      let x_is : x ≡ record { level = level; round = round; next = p.counter + 1; item = i } = ap (λ l. record { level = l; round = round; next = p.counter + 1; item = i }) p.invariant.fixed.level in
      let done = item_done chain level round p.place (c.args.past.now ++ p.seen) p.counter p.left i after p.work.now x x_is c.in_ok-left.left opens c.take_turn.new.work.now (c.in_ok-take_turn.ensures.runs.gives t a) in
      ap (λ (es : List Entry). all_items chain level round (p.place + 1) es (p.counter + c.size_of-counter.result) c.in_ok-left.left after c.take_turn.new.work.now) past
      ∙ ap (λ n. all_items chain level round (p.place + 1) ((c.args.past.now ++ p.seen) ++ entry_of i.txn ∷ []) n c.in_ok-left.left after c.take_turn.new.work.now) counter
      ∙ sym done
      ∙ sym (ap (λ is. all_items chain level round p.place (c.args.past.now ++ p.seen) p.counter p.left is p.work.now) left)
      ∙ p.invariant.rest t asks;
}
