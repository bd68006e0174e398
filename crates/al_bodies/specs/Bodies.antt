-- The fields that each type of a transaction has for itself.
use Rattle.std.specs.Prelude.{codes, List, [], ◌∷◌}
use Rattle.al_base.specs.declared.asset.AssetParams.{AssetParams}
use Rattle.al_bodies.specs.declared.body.Pay.{Pay}
use Rattle.al_bodies.specs.declared.body.KeyReg.{KeyReg}
use Rattle.al_bodies.specs.declared.body.Config.{Config}
use Rattle.al_bodies.specs.declared.body.AssetMove.{AssetMove}
use Rattle.al_bodies.specs.declared.body.Freeze.{Freeze}
use Rattle.al_bodies.specs.declared.body.AppCall.{AppCall}
use Rattle.al_record.specs.Columns.{FieldOf, Format, number, flag, array, text, record_field, table}
use Rattle.al_record.specs.Kinds.{by_name}

abbrev pub pay : List (FieldOf Pay)
pay =
    array (codes "rcv") 32 (λ p. p.receiver.0) ∷
    number (codes "amt") (λ p. p.amount) ∷
    array (codes "close") 32 (λ p. p.close.0) ∷
    []

abbrev pub keyreg : List (FieldOf KeyReg)
keyreg =
    array (codes "votekey") 32 (λ k. k.vote) ∷
    array (codes "selkey") 32 (λ k. k.selection) ∷
    array (codes "sprfkey") 64 (λ k. k.sprf) ∷
    number (codes "votefst") (λ k. k.first) ∷
    number (codes "votelst") (λ k. k.last) ∷
    number (codes "votekd") (λ k. k.dilution) ∷
    flag (codes "nonpart") (λ k. k.nonpart) ∷
    []

abbrev pub params_fields : List (FieldOf AssetParams)
params_fields = by_name (
    number (codes "t") (λ p. p.total) ∷
    number (codes "dc") (λ p. p.decimals) ∷
    flag (codes "df") (λ p. p.default_frozen) ∷
    text (codes "un") (λ p. p.unit) ∷
    text (codes "an") (λ p. p.name) ∷
    text (codes "au") (λ p. p.url) ∷
    array (codes "am") 32 (λ p. p.meta) ∷
    array (codes "m") 32 (λ p. p.manager.0) ∷
    array (codes "r") 32 (λ p. p.reserve.0) ∷
    array (codes "f") 32 (λ p. p.freeze.0) ∷
    array (codes "c") 32 (λ p. p.clawback.0) ∷
    [])

abbrev pub asset_params : Format AssetParams
asset_params = table params_fields

abbrev pub acfg : List (FieldOf Config)
acfg =
    number (codes "caid") (λ c. c.asset) ∷
    record_field (codes "apar") asset_params (λ c. c.params) ∷
    []

abbrev pub axfer : List (FieldOf AssetMove)
axfer =
    number (codes "xaid") (λ m. m.asset) ∷
    number (codes "aamt") (λ m. m.amount) ∷
    array (codes "asnd") 32 (λ m. m.source.0) ∷
    array (codes "arcv") 32 (λ m. m.receiver.0) ∷
    array (codes "aclose") 32 (λ m. m.close.0) ∷
    []

abbrev pub afrz : List (FieldOf Freeze)
afrz =
    array (codes "fadd") 32 (λ f. f.account.0) ∷
    number (codes "faid") (λ f. f.asset) ∷
    flag (codes "afrz") (λ f. f.frozen) ∷
    []

abbrev pub appl : List (FieldOf AppCall)
appl =
    number (codes "apid") (λ a. a.app) ∷
    []
