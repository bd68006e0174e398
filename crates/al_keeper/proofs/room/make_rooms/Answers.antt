use Rattle.std.proofs.Common.{◌∙◌, IsSome, All, subst, take, get_or}
use Rattle.std.proofs.lemmas.List.Elements.{All-more}
use Rattle.std.proofs.lemmas.List.{take_all}
use Rattle.al_keeper.specs.Rooms.{slot_at}
use Rattle.al_keeper.proofs.room.make_rooms.Goals as goal

pub loop-change-preserved : goal.loop-change-preserved
loop-change-preserved g c =
    let x = c.change-item.result in
    let made = c.in_ok-make_room.ensures in
    let now = c.make_room.new.map.entries in
    record {
      same = λ q. made.same q ∙ c.loop-change.invariant.same q;
      room = All-more (λ k. IsSome (slot_at g.K.Ord.cmp now k.0)) c.args.changes.now c.loop-change.change-index x c.loop-change-test.true
          (λ k d low. made.keeps (get_or (take c.loop-change.change-index c.args.changes.now) k d).0 (c.loop-change.invariant.room k d low))
          (subst (λ k. IsSome (slot_at g.K.Ord.cmp now k.0)) c.change-item.is made.room);
    }

pub returns-clause-room : goal.returns-clause-room
returns-clause-room g c = subst (All (λ k. IsSome (slot_at g.K.Ord.cmp c.loop-change.map.entries k.0))) (take_all c.loop-change.change-index c.args.changes.now c.loop-change-test.false) c.loop-change.invariant.room
