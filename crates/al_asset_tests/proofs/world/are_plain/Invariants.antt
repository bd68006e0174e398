use Rattle.std.proofs.Common.{◌≡◌, All, [], take}
use Rattle.al_asset_tests.proofs.world.are_plain.Given as goal

abbrev pub invariant-loop-item : goal.invariant-loop-item
invariant-loop-item l = All (λ i. i.effects ≡ []) (take l.item-index l.items)
