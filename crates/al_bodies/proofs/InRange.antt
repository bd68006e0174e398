-- An effect with a record is in its range.
use Rattle.std.proofs.Common.{List, refl}
use Rattle.al_msgpack.specs.declared.val.Entry.{Entry}
use Rattle.al_record.specs.Columns.{IsRecord}
use Rattle.al_bodies.specs.declared.effect.Effect.{Effect}
use Rattle.al_bodies.specs.declared.effect.Effect.TheVariants as effects
use Rattle.al_bodies.specs.Effect.{Creation, whole_name, create, with_state, set_local, put_box, effect}
use Rattle.al_bodies.specs.Ranges.{EffectInRange}
use Rattle.al_bodies.proofs.Bounds.{AllBounded, record_bounded}
use Rattle.al_bodies.proofs.SameEffect.{of_effect}

-- a creation's numbers and state, in the order of its table
creation : (c : Creation) → AllBounded create c → EffectInRange (effects.Create c.uints c.slices c.local_uints c.local_slices c.pages c.state)
creation c p = (p.1.1.1.1.1.0, p.1.1.1.1.0, p.1.1.1.0, p.1.1.0, p.1.0, p.1.1.1.1.1.1.0.1)

pub in_range : (x : Effect) (es : List Entry) → IsRecord effect x es → EffectInRange x
in_range (effects.Create a b c d e f) es r =
    let made : Creation = record { uints = a; slices = b; local_uints = c; local_slices = d; pages = e; state = f } in
    creation made (record_bounded create made es refl (of_effect create (effects.Create a b c d e f) made es refl refl r))
in_range (effects.SetState s) es r = (record_bounded (with_state 2) s es refl (of_effect (with_state 2) (effects.SetState s) s es refl refl r)).1.0.1
in_range effects.Remove es r = tt
in_range (effects.OptIn s) es r = (record_bounded (with_state 4) s es refl (of_effect (with_state 4) (effects.OptIn s) s es refl refl r)).1.0.1
in_range (effects.SetLocal w s) es r = (record_bounded set_local (w.0, s) es refl (of_effect set_local (effects.SetLocal w s) (w.0, s) es refl refl r)).1.1.0.1
in_range effects.OptOut es r = tt
in_range (effects.PutBox n v) es r = (record_bounded put_box (whole_name n, v) es refl (of_effect put_box (effects.PutBox n v) (whole_name n, v) es refl refl r)).1.1.0.1
in_range (effects.RemoveBox n) es r = tt
in_range (effects.Inner t) es r = tt
