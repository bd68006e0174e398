-- The transactions of a generated chain in full.
use Rattle.std.specs.Prelude.{◌≡◌, ◌-◌, ◌+◌, ◌++◌, ℕ, List, [], ◌∷◌, drop, map, replicate, false, refl}
use Rattle.std.proofs.Common.{lit≤}
use Rattle.al_base.specs.Keys.{number_bytes}
use Rattle.al_base.specs.declared.address.Address.{Address}
use Rattle.al_base.specs.declared.asset.AssetParams.{AssetParams}
use Rattle.al_base.specs.declared.name.BoxName.{BoxName}
use Rattle.al_bodies.specs.declared.body.AppCall.{AppCall}
use Rattle.al_bodies.specs.declared.body.AssetMove.{AssetMove}
use Rattle.al_bodies.specs.declared.body.Body.{Body}
use Rattle.al_bodies.specs.declared.body.Body.TheVariants as bodies
use Rattle.al_bodies.specs.declared.body.Config.{Config}
use Rattle.al_bodies.specs.declared.body.KeyReg.{KeyReg}
use Rattle.al_bodies.specs.declared.body.Pay.{Pay}
use Rattle.al_bodies.specs.declared.effect.Effect.{Effect}
use Rattle.al_bodies.specs.declared.effect.Effect.TheVariants as effects
use Rattle.al_rows.specs.Rows.{no_address}
use Rattle.al_txn.specs.declared.txn.Item.{Item}
use Rattle.al_txn.specs.declared.txn.Txn.{Txn}
use Rattle.al_generator.specs.declared.turns.Action.{Action}
use Rattle.al_generator.specs.declared.turns.Action.TheVariants as acts
use Rattle.al_generator.specs.declared.turns.Made.{Made}

-- no key, lease or group
abbrev pub zeros : List ℕ
zeros = replicate 32 0

abbrev pub payment : Address → ℕ → Pay
payment receiver amount = record { receiver = receiver; amount = amount; close = no_address }

-- a new asset, of which its creator manages all
abbrev pub asset_of : Address → AssetParams
asset_of manager = record {
  total = 1000000;
  decimals = 0;
  default_frozen = false;
  unit = [];
  name = [];
  url = [];
  meta = zeros;
  manager = manager;
  reserve = no_address;
  freeze = no_address;
  clawback = no_address;
}

abbrev pub creation : Address → Config
creation manager = record { asset = 0; params = asset_of manager }

-- nothing of an asset, to oneself
abbrev pub opt_in : Address → ℕ → AssetMove
opt_in who asset = record { asset = asset; amount = 0; source = no_address; receiver = who; close = no_address }

-- keys from this round on, for a thousand more
abbrev pub online : ℕ → KeyReg
online round = record {
  vote = replicate 32 7;
  selection = replicate 32 8;
  sprf = replicate 64 0;
  first = round;
  last = round + 1000;
  dilution = 1000;
  nonpart = false;
}

abbrev pub offline : KeyReg
offline = record {
  vote = zeros;
  selection = zeros;
  sprf = replicate 64 0;
  first = 0;
  last = 0;
  dilution = 0;
  nonpart = false;
}

-- a call with no field but the application, 0 to create one
abbrev pub call : ℕ → AppCall
call app = record { app = app; rest = []; kept = refl; rising = refl }

-- what stands behind the 8 bytes of a name
pub padded : (n : ℕ) → drop 8 (number_bytes n ++ replicate 56 0) ≡ replicate (64 - 8) 0
unfolding number_bytes
padded n = refl

-- a number as the name of a box, in 8 bytes
abbrev pub box_name : ℕ → BoxName
box_name n = record { bytes = number_bytes n ++ replicate 56 0; len = 8; some = lit≤ tt; short = lit≤ tt; padded = padded n }

abbrev pub body_of : ℕ → Address → Action → Body
body_of round sender (acts.Pay receiver amount) = bodies.Pay (payment receiver amount)
body_of round sender acts.CreateAsset = bodies.Config (creation sender)
body_of round sender (acts.OptIn asset) = bodies.Move (opt_in sender asset)
body_of round sender acts.GoOnline = bodies.KeyReg (online round)
body_of round sender acts.GoOffline = bodies.KeyReg offline
body_of round sender acts.CreateApp = bodies.App (call 0)
body_of round sender (acts.PutBox app name) = bodies.App (call app)

-- what the call of an application does
abbrev pub effects_of : Action → List Effect
effects_of acts.CreateApp = effects.Create 0 0 0 0 0 [] ∷ []
effects_of (acts.PutBox app name) = effects.PutBox (box_name name) (replicate 32 42) ∷ []
effects_of action = []

-- its number is its note
abbrev pub txn_of : ℕ → List ℕ → Made → Txn
txn_of round genesis m = record {
  sender = m.sender;
  fee = 1000;
  first = round;
  last = round + 10;
  genesis_id = [];
  genesis_hash = genesis;
  note = number_bytes m.number;
  lease = zeros;
  rekey = no_address;
  group = zeros;
  body = body_of round m.sender m.action;
}

-- a transaction of a round
abbrev pub item_of : ℕ → List ℕ → Made → Item
item_of round genesis m = record { txn = txn_of round genesis m; effects = effects_of m.action }

abbrev pub items_of : ℕ → List ℕ → List Made → List Item
items_of round genesis made = map (item_of round genesis) made
