-- Assets that are created, configured and destroyed: the rows stay sound.
use Rattle.std.proofs.Common.{◌≡◌, ◌≤◌, ◌+◌, ℕ, refl, sym, ap, subst, arith, true, false, not, if◌then◌else◌, nat_eq, eqb-true, true≢false, is_some, Option, Some, None, Err}
use Rattle.std.specs.FinMap.{get}
use Rattle.al_base.specs.declared.account.Special.{Special}
use Rattle.al_base.specs.declared.address.Address.{Address}
use Rattle.al_base.specs.declared.asset.AssetParams.{AssetParams}
use Rattle.al_base.specs.declared.key.Key.TheVariants as key
use Rattle.al_rows.specs.declared.row.AssetRow.{AssetRow}
use Rattle.al_rows.specs.declared.row.Row.{Row}
use Rattle.al_rows.specs.Rows.{AssetParamsInRange, RowMap, asset_params_eq, is_zero}
use Rattle.al_bodies.specs.declared.body.Config.{Config}
use Rattle.al_moves.specs.Resources.{put_resource}
use Rattle.al_overlay.specs.Rules.{plain_rule, then_do, too_few}
use Rattle.al_resources.specs.Assets.{amount_in, asset, asset_in, configured, controls, created, destroyed, issued, managed, no_asset, no_params, reconfigured, renewed_params, set_asset}
use Rattle.al_resources.specs.Kept.{Ends, Kept}
use Rattle.al_resources.specs.Sound.{total_in}
use Rattle.al_resources.specs.declared.asset.Issued.{Issued}
use Rattle.al_resources.proofs.Issues.{holding_ranged, issued_then, one_creator, params_ranged, there_issued}
use Rattle.al_resources.proofs.Owings.{After, Owing, kept_owing, owing_kept, set_ends}
use Rattle.al_resources.proofs.Steps.{ends_as, ends_if}

-- to take a row away is to put one without a part
gone_is : (who : Address) (id : ℕ) (m : RowMap) → put_resource who id None m ≡ set_asset who id no_asset m
unfolding is_zero
gone_is who id m = refl

no_row : (o : Option Row) → ((s : Row) → o ≡ Some s → ⊥) → asset_in o ≡ no_asset
no_row None h = refl
no_row (Some s) h = absurd (h s refl)

module _ (level : ℕ) (special : Option Special) (start : RowMap) (counter : ℕ) where
  -- ---- one is created, with the next number

  module _ (size : ℕ) (who : Address) (p : AssetParams) (m : RowMap) (some : 1 ≤ size) (fits : AssetParamsInRange (Some p)) (rows : Owing level special start counter (counter + 1) 0 m) where
    fresh : (b : Address) (s : Row) → get m (key.Resource b (counter + 1)) ≡ Some s → ⊥
    fresh b s e = omega (arith, rows.resources.given b (counter + 1) s e)

    creates : Ends (Owing level special start (counter + size) (counter + 1) 0) (created who p (counter + 1) m)
    unfolding created
    creates =
        let next : ℕ = counter + 1 in
        let new : AssetRow = record { params = Some p; holding = Some (record { amount = p.total; frozen = false }) } in
        let none : asset m who next ≡ no_asset = no_row (get m (key.Resource who next)) (fresh who) in
        let low : next ≤ counter + size = omega arith in
        let more : counter ≤ counter + size = omega arith in
        ends_as (After level special start (counter + size) next 0 who new m) (Owing level special start (counter + size) next 0) (set_asset who next new m) (λ n after. after.rows)
        (set_ends level special start counter (counter + size) next 0 0 who new m more rows (record { low = low; kinds = λ b s e. absurd (fresh b s e) }) (record {
          params = fits;
          holding = fits.0;
          creators = λ _ b s e _. absurd (fresh b s e);
          units = omega (arith, ap (λ (a : AssetRow). total_in a.params) none, ap (λ (a : AssetRow). amount_in a.holding) none);
        }))

  -- ---- one that there is

  module _ (id : ℕ) (m : RowMap) (rows : Owing level special start counter id 0 m) (a : Issued) (is : (asset m a.creator id).params ≡ Some a.params) where
    abbrev Stays : RowMap → Type 0
    Stays n = Owing level special start counter id 0 n

    reconfigures : (p : AssetParams) → Ends Stays (reconfigured id a p m)
    unfolding reconfigured
    reconfigures p =
        let new : AssetRow = record (asset m a.creator id) { params = Some (renewed_params a.params p) } in
        let old : AssetParamsInRange (Some a.params) = subst AssetParamsInRange is (params_ranged m a.creator id rows.ranges) in
        let had : total_in (asset m a.creator id).params ≡ a.params.total = ap total_in is in
        let low : counter ≤ counter = omega arith in
        ends_as (After level special start counter id 0 a.creator new m) Stays (set_asset a.creator id new m) (λ n after. after.rows)
        (set_ends level special start counter counter id 0 0 a.creator new m low rows (there_issued counter id m rows.resources a is) (record {
          params = (old.0, old.1);
          holding = holding_ranged m a.creator id rows.ranges;
          creators = λ _. one_creator counter m a.creator id rows.resources (ap is_some is);
          units = omega arith;
        }))

    destroys : Ends Stays (destroyed id a m)
    unfolding destroyed
    destroys = ends_if Stays (nat_eq (amount_in (asset m a.creator id).holding) a.params.total) (put_resource a.creator id None m) (Err (too_few 48 (amount_in (asset m a.creator id).holding) a.params.total)) goes (λ _. omega arith)
      where
        goes : nat_eq (amount_in (asset m a.creator id).holding) a.params.total ≡ true → Ends Stays (put_resource a.creator id None m)
        goes e =
            let had : total_in (asset m a.creator id).params ≡ a.params.total = ap total_in is in
            let all : amount_in (asset m a.creator id).holding ≡ a.params.total = eqb-true _ _ e in
            let low : counter ≤ counter = omega arith in
            subst (Ends Stays) (sym (gone_is a.creator id m)) (
            ends_as (After level special start counter id 0 a.creator no_asset m) Stays (set_asset a.creator id no_asset m) (λ n after. after.rows)
            (set_ends level special start counter counter id 0 0 a.creator no_asset m low rows (there_issued counter id m rows.resources a is) (record {
              params = tt;
              holding = tt;
              creators = λ some. absurd (true≢false (sym some));
              units = omega arith;
            })))

    manages : (who : Address) (p : AssetParams) → Ends Stays (managed who id p a m)
    unfolding managed
    manages who p =
        ends_if Stays (not (controls who a.params.manager)) (Err (plain_rule 47)) (if asset_params_eq p no_params then destroyed id a m else reconfigured id a p m) (λ _. omega arith)
        (λ _. ends_if Stays (asset_params_eq p no_params) (destroyed id a m) (reconfigured id a p m) (λ _. destroys) (λ _. reconfigures p))

  -- ---- either

  pub configures : (size : ℕ) (who : Address) (c : Config) (m : RowMap) → 1 ≤ size → AssetParamsInRange (Some c.params) → Kept level special start counter m → Ends (Kept level special start (counter + size)) (configured who c (counter + 1) m)
  unfolding configured
  configures size who c m some fits k =
      let same : counter + size ≤ counter + size = omega arith in
      let more : counter ≤ counter + size = omega arith in
      ends_if (Kept level special start (counter + size)) (nat_eq c.asset 0) (created who c.params (counter + 1) m) (then_do (issued c.asset m) (λ a. managed who c.asset c.params a m))
      (λ _. ends_as (Owing level special start (counter + size) (counter + 1) 0) (Kept level special start (counter + size)) (created who c.params (counter + 1) m)
      (λ n rows. owing_kept level special start (counter + size) (counter + size) (counter + 1) n same rows)
      (creates size who c.params m some fits (kept_owing level special start counter (counter + 1) m k)))
      (λ _. issued_then (Kept level special start (counter + size)) c.asset m (λ a. managed who c.asset c.params a m)
      (λ a is. ends_as (Owing level special start counter c.asset 0) (Kept level special start (counter + size)) (managed who c.asset c.params a m)
      (λ n rows. owing_kept level special start counter (counter + size) c.asset n more rows)
      (manages c.asset m (kept_owing level special start counter c.asset m k) a is who c.params)))
