use Rattle.std.proofs.Common.{rules, ◌≡◌, ◌+◌, ◌-◌, [], ◌∷◌, ◌++◌, ◌∙◌, arith}
use Rattle.std.specs.Option.{option_copied}
use Rattle.al_msgpack.specs.Reading.{value_at, entry}
use Rattle.al_msgpack.proofs.Codes.{next_value, next_entry}
use Rattle.al_msgpack.proofs.reading.+value.Goals as goal

pub entries-loop-preserved : goal.entries-loop-preserved
entries-loop-preserved t c =
    let all : c.push.new.self ≡ c.loop.items ++ entry c.in_ok-name.name.now c.in_ok-val.val ∷ [] = search rules in
    let less : c.args.count - (c.loop.counter + 1) ≡ c.args.count - c.loop.counter - 1 = omega arith in
    rw (all, less) (next_entry (value_at c.args.depth) c.loop.items (option_copied c.loop.before) c.in_ok-name.name.now c.in_ok-val.val (c.args.count - c.loop.counter) c.loop.rest.now c.in_ok-name.after.now c.in_ok-val.after.now (omega arith) c.in_ok-name.ensures c.in_ok-val.ensures ∙ c.loop.invariant)

pub values-loop-preserved : goal.values-loop-preserved
values-loop-preserved t c =
    let all : c.push.new.self ≡ c.loop.items ++ c.in_ok-item.item ∷ [] = search rules in
    let less : c.args.count - (c.loop.counter + 1) ≡ c.args.count - c.loop.counter - 1 = omega arith in
    rw (all, less) (next_value (value_at c.args.depth) c.loop.items c.in_ok-item.item (c.args.count - c.loop.counter) c.loop.rest.now c.in_ok-item.after.now (omega arith) c.in_ok-item.ensures ∙ c.loop.invariant)
