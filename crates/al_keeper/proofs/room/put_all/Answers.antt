use Rattle.std.proofs.Common.{◌∙◌, IsSome, All, subst, sym, ap, get_or}
use Rattle.std.specs.BTreeMap.{is_at}
use Rattle.std.specs.Map.{lookup}
use Rattle.al_rows.specs.Finite.{or_below}
use Rattle.al_keeper.specs.Rooms.{live_at, slot_at}
use Rattle.al_keeper.proofs.Lives.{put-last, all_front, all_last}
use Rattle.al_keeper.proofs.room.put_all.Goals as goal

pub put-requires : goal.put-requires
put-requires g c =
    all_last (λ k. IsSome (slot_at g.K.Ord.cmp c.loop-change.map.entries k.0)) c.pop.new.self.items c.in-Some.change
    (subst (All (λ k. IsSome (slot_at g.K.Ord.cmp c.loop-change.map.entries k.0))) c.in-Some.ensures.items c.loop-change.invariant.room)

pub loop-change-preserved : goal.loop-change-preserved
loop-change-preserved g c =
    let R = g.K.Ord.cmp in
    let old = c.loop-change.map.entries in
    let new = c.put.new.map.entries in
    let rest = c.pop.new.self.items in
    record {
      room = λ k d low. c.put.ensures.keeps (get_or rest k d).0 (all_front (λ k. IsSome (slot_at R old k.0)) rest c.in-Some.change (subst (All (λ k. IsSome (slot_at R old k.0))) c.in-Some.ensures.items c.loop-change.invariant.room) k d low);
      same = λ q.
          put-last g.met.K.Ord.total c.in-Some.change.0 c.in-Some.change.1 rest (live_at R old) (live_at R new) c.put.ensures.value q
          ∙ ap (λ cs. or_below (lookup (is_at (R q)) cs) (live_at R old q)) (sym c.in-Some.ensures.items)
          ∙ c.loop-change.invariant.same q;
    }
