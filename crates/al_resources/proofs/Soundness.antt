-- Each body of an asset's transaction keeps rows sound.
use Rattle.std.proofs.Common.{◌≤◌, ◌+◌, ℕ, arith, Result, Option}
use Rattle.al_base.specs.declared.account.Special.{Special}
use Rattle.al_base.specs.declared.address.Address.{Address}
use Rattle.al_rows.specs.Rows.{RowMap}
use Rattle.al_bodies.specs.declared.body.AssetMove.{AssetMove}
use Rattle.al_bodies.specs.declared.body.Freeze.{Freeze}
use Rattle.al_overlay.specs.declared.rule.Rule.{Rule}
use Rattle.al_resources.specs.Assets.{frozen, transferred}
use Rattle.al_resources.specs.Kept.{AssetsAreSound, Ends, IsGood, Kept}
use Rattle.al_resources.proofs.Configs.{configures}
use Rattle.al_resources.proofs.Owings.{Owing, kept_owing, owing_kept}
use Rattle.al_resources.proofs.Steps.{ends_as}
use Rattle.al_resources.proofs.Shifts.{freezes_holding, transfers}

-- what keeps rows sound that owe nothing keeps them sound after more transactions
good : (level : ℕ) (special : Option Special) (start : RowMap) (counter size id : ℕ) (f : RowMap → Result RowMap Rule)
    → ((m : RowMap) → Owing level special start counter id 0 m → Ends (Owing level special start counter id 0) (f m)) → IsGood level special start counter size f
good level special start counter size id f stays m k =
    let more : counter ≤ counter + size = omega arith in
    ends_as (Owing level special start counter id 0) (Kept level special start (counter + size)) (f m) (λ n rows. owing_kept level special start counter (counter + size) id n more rows)
    (stays m (kept_owing level special start counter id m k))

transfer_good : (level : ℕ) (special : Option Special) (start : RowMap) (counter size : ℕ) (who : Address) (t : AssetMove) → IsGood level special start counter size (transferred who t)
transfer_good level special start counter size who t = good level special start counter size t.asset (transferred who t) (transfers level special start counter who t)

freeze_good : (level : ℕ) (special : Option Special) (start : RowMap) (counter size : ℕ) (who : Address) (f : Freeze) → IsGood level special start counter size (frozen who f)
freeze_good level special start counter size who f = good level special start counter size f.asset (frozen who f) (freezes_holding level special start counter who f)

pub assets_are_sound : AssetsAreSound
assets_are_sound = record {
  configured = λ level special start counter size who c some fits m k. configures level special start counter size who c m some fits k;
  transferred = transfer_good;
  frozen = freeze_good;
}
