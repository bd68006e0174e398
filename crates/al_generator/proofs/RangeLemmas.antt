-- What a generator draws is in the ranges of its record.
use Rattle.std.proofs.Common.{◌≡◌, ◌<◌, ◌≤◌, ◌+◌, ◌*◌, ◌%◌, ◌^◌, ◌==◌, ◌++◌, ℕ, zero, suc, true, false, Bool, nat_lt, List, [], ◌∷◌, if◌then◌else◌, length, Option, Some, None, IfSome, refl, arith, lit<, lit≤}
use Rattle.std.specs.List.{AllByRecursion}
use Rattle.std.proofs.lemmas.List.{length-append, length-map}
use Rattle.std.proofs.lemmas.List.Elements.{recursion_from_All}
use Rattle.al_base.specs.Keys.{number_bytes}
use Rattle.al_base.specs.declared.address.Address.{Address}
use Rattle.al_bodies.specs.Effect.{whole_name}
use Rattle.al_bodies.specs.Ranges.{BodyRanges, EffectRanges, IsArray, IsName}
use Rattle.al_digest.specs.Digests.{digest_of, prefix_of}
use Rattle.al_digest.specs.declared.hashing.Prefix.{Prefix}
use Rattle.al_digest.specs.declared.hashing.Prefix.TheVariants as prefixes
use Rattle.al_digest.proofs.Readings.{digest_are_bytes}
use Rattle.al_record.specs.Laws.{IsShort}
use Rattle.al_txn.specs.Ranges.{ItemRanges, most_beside}
use Rattle.al_generator.specs.Draws.{after_draw, after_hand, drawn, hand, next, user}
use Rattle.al_generator.specs.Fits.{BlockFits, DrawsFit, IsWithin}
use Rattle.al_generator.specs.Genesis.{generated_bytes}
use Rattle.al_generator.specs.Items.{body_of, box_name, effects_of, item_of, items_of, zeros}
use Rattle.al_generator.specs.Turns.{Turn, act, block, called, counted, created, founded, opted, paid, registered, single, turn, turns}
use Rattle.al_generator.specs.declared.progress.Hand.{Hand}
use Rattle.al_generator.specs.declared.progress.Progress.{Progress}
use Rattle.al_generator.specs.declared.turns.Action.{Action}
use Rattle.al_generator.specs.declared.turns.Action.TheVariants as acts
use Rattle.al_generator.specs.declared.turns.Made.{Made}
use Rattle.al_generator.proofs.Good.{array_of}
use Rattle.sha2.specs.Sha512.{sha512_256}

-- ---- bytes

pub digest_array : (p : Prefix) (bytes : List ℕ) → IsArray 32 (digest_of p bytes)
digest_array p bytes = (let d = digest_are_bytes (prefix_of p ++ bytes) in (recursion_from_All (λ b. b < 256) (sha512_256 (prefix_of p ++ bytes)) d.1, d.0))

number_array : (n : ℕ) → IsArray 8 (number_bytes n)
unfolding number_bytes
number_array n = ((omega arith, (omega arith, (omega arith, (omega arith, (omega arith, (omega arith, (omega arith, (omega arith, tt)))))))), refl)

array_short : (n : ℕ) (bytes : List ℕ) → n < 2 ^ 32 → IsArray n bytes → IsShort bytes
array_short n bytes few h = (h.0, (let l = h.1 in omega (arith, l, few)))

zeros_array : IsArray 32 zeros
zeros_array = array_of 32 0 (lit< tt)

name_fits : (n : ℕ) → IsName (whole_name (box_name n))
unfolding number_bytes
name_fits n = (let a = number_array n in (a.0, lit≤ tt, lit≤ tt))

-- ---- transactions

abbrev ActionFits : Action → Type 0
ActionFits (acts.Pay receiver amount) = IsArray 32 receiver.0 × (amount < 2 ^ 64)
ActionFits acts.CreateAsset = Unit {0}
ActionFits (acts.OptIn asset) = asset < 2 ^ 64
ActionFits acts.GoOnline = Unit {0}
ActionFits acts.GoOffline = Unit {0}
ActionFits acts.CreateApp = Unit {0}
ActionFits (acts.PutBox app name) = app < 2 ^ 64

record MadeFits (m : Made) : Type 0 where
  sender : IsArray 32 m.sender.0
  action : ActionFits m.action

body_fits : (round : ℕ) (sender : Address) (a : Action) → round ≤ 2 ^ 62 → IsArray 32 sender.0 → ActionFits a → BodyRanges 12 (body_of round sender a)
body_fits round sender (acts.Pay receiver amount) few s h = record { receiver = h.0; amount = h.1; close = zeros_array }
body_fits round sender acts.CreateAsset few s h = record {
  asset = lit< tt;
  params = record {
    total = lit< tt;
    decimals = lit< tt;
    unit = (tt, lit< tt);
    name = (tt, lit< tt);
    url = (tt, lit< tt);
    meta = zeros_array;
    manager = s;
    reserve = zeros_array;
    freeze = zeros_array;
    clawback = zeros_array;
  };
}
body_fits round sender (acts.OptIn asset) few s h = record { asset = h; amount = lit< tt; source = zeros_array; receiver = s; close = zeros_array }
body_fits round sender acts.GoOnline few s h = record {
  vote = array_of 32 7 (lit< tt);
  selection = array_of 32 8 (lit< tt);
  sprf = array_of 64 0 (lit< tt);
  first = omega (arith, few);
  last = omega (arith, few);
  dilution = lit< tt;
}
body_fits round sender acts.GoOffline few s h = record { vote = zeros_array; selection = zeros_array; sprf = array_of 64 0 (lit< tt); first = lit< tt; last = lit< tt; dilution = lit< tt }
body_fits round sender acts.CreateApp few s h = record { app = lit< tt; rest = tt; count = lit< tt }
body_fits round sender (acts.PutBox app name) few s h = record { app = h; rest = tt; count = lit< tt }

effects_fit : (a : Action) → AllByRecursion EffectRanges (effects_of a)
effects_fit (acts.Pay receiver amount) = tt
effects_fit acts.CreateAsset = tt
effects_fit (acts.OptIn asset) = tt
effects_fit acts.GoOnline = tt
effects_fit acts.GoOffline = tt
effects_fit acts.CreateApp = ((lit≤ tt, lit≤ tt, lit≤ tt, lit≤ tt, lit≤ tt, (tt, lit≤ tt, lit≤ tt)), tt)
effects_fit (acts.PutBox app name) = ((name_fits name, ((array_of 32 42 (lit< tt)).0, lit≤ tt, lit≤ tt)), tt)

few_beside : (round : ℕ) (sender : Address) (a : Action) → length (effects_of a) ≤ most_beside (body_of round sender a)
few_beside round sender (acts.Pay receiver amount) = lit≤ tt
few_beside round sender acts.CreateAsset = lit≤ tt
few_beside round sender (acts.OptIn asset) = lit≤ tt
few_beside round sender acts.GoOnline = lit≤ tt
few_beside round sender acts.GoOffline = lit≤ tt
few_beside round sender acts.CreateApp = lit≤ tt
few_beside round sender (acts.PutBox app name) = lit≤ tt

item_fits : (round : ℕ) (genesis : List ℕ) (m : Made) → round ≤ 2 ^ 62 → IsArray 32 genesis → MadeFits m → ItemRanges 12 (item_of round genesis m)
item_fits round genesis m few hash h = record {
  inner = record {
    sender = h.sender;
    fee = lit< tt;
    first = omega (arith, few);
    last = omega (arith, few);
    genesis_id = (tt, lit< tt);
    genesis_hash = hash;
    note = array_short 8 (number_bytes m.number) (lit< tt) (number_array m.number);
    lease = zeros_array;
    rekey = zeros_array;
    group = zeros_array;
    body = body_fits round m.sender m.action few h.sender h.action;
  };
  few = few_beside round m.sender m.action;
  each = effects_fit m.action;
}

items_fit : (round : ℕ) (genesis : List ℕ) (ms : List Made) → round ≤ 2 ^ 62 → IsArray 32 genesis → AllByRecursion MadeFits ms → AllByRecursion (ItemRanges 12) (items_of round genesis ms)
items_fit round genesis [] few hash h = tt
items_fit round genesis (m ∷ ms) few hash h = (item_fits round genesis m few hash h.0, items_fit round genesis ms few hash h.1)

-- ---- turns

-- so many transactions at most, in their ranges, are counted
record TurnFits (most : ℕ) (g : Progress) (t : Turn) : Type 0 where
  all : AllByRecursion MadeFits t.0
  few : length t.0 ≤ most
  count : t.1.count ≡ g.count + length t.0
  within : IsWithin t.1

more : (o : Option ℕ) (m n : ℕ) → m ≤ n → IfSome o (λ id. id ≤ m) → IfSome o (λ id. id ≤ n)
more None m n le h = h
more (Some id) m n le h = omega (arith, le, h)

one_more : (g : Progress) → IsWithin g → IsWithin (counted g)
one_more g h = record { asset = more g.asset g.count (g.count + 1) (omega arith) h.asset; app = more g.app g.count (g.count + 1) (omega arith) h.app }

single_fits : (g : Progress) (sender : Address) (a : Action) → IsWithin g → IsArray 32 sender.0 → ActionFits a → TurnFits 2 g (single g sender a)
single_fits g sender a h s f = record { all = (record { sender = s; action = f }, tt); few = lit≤ tt; count = refl; within = one_more g h }

-- what a turn draws
record HandFits (h : Hand) : Type 0 where
  sender : IsArray 32 h.sender.0
  receiver : IsArray 32 h.receiver.0
  value : h.value < 1000

paid_fits : (g : Progress) (h : Hand) → IsWithin g → HandFits h → TurnFits 2 g (paid g h)
paid_fits g h w f = single_fits g h.sender (acts.Pay h.receiver (1000 + h.value)) w f.sender (f.receiver, (let v = f.value in omega (arith, v)))

created_fits : (g : Progress) (sender : Address) → IsWithin g → IsArray 32 sender.0 → TurnFits 2 g (created g sender)
created_fits g sender h s = record { all = (record { sender = s; action = tt }, tt); few = lit≤ tt; count = refl; within = record { asset = omega arith; app = more g.app g.count (g.count + 1) (omega arith) h.app } }

founded_fits : (g : Progress) (sender : Address) → IsWithin g → IsArray 32 sender.0 → TurnFits 2 g (founded g sender)
founded_fits g sender h s = record {
  all = (record { sender = s; action = tt }, (record { sender = s; action = (digest_array prefixes.App (number_bytes (g.count + 1)), lit< tt) }, tt));
  few = lit≤ tt;
  count = omega arith;
  within = record { asset = more g.asset g.count (g.count + 1 + 1) (omega arith) h.asset; app = omega arith };
}

opted_fits : (o : Option ℕ) (g : Progress) (h : Hand) → g.count < 2 ^ 63 → IfSome o (λ id. id ≤ g.count) → IsWithin g → HandFits h → TurnFits 2 g (opted o g h)
opted_fits None g h few i w f = paid_fits g h w f
opted_fits (Some asset) g h few i w f = single_fits g h.sender (acts.OptIn asset) w f.sender (omega (arith, few, i))

called_fits : (o : Option ℕ) (g : Progress) (h : Hand) → g.count < 2 ^ 63 → IfSome o (λ id. id ≤ g.count) → IsWithin g → HandFits h → TurnFits 2 g (called o g h)
called_fits None g h few i w f = founded_fits g h.sender w f.sender
called_fits (Some app) g h few i w f = single_fits g h.sender (acts.PutBox app (h.value % 16)) w f.sender (omega (arith, few, i))

either : (P : Turn → Type 0) (b : Bool) (x y : Turn) → P x → P y → P (if b then x else y)
either P true x y p q = p
either P false x y p q = q

registered_fits : (g : Progress) (h : Hand) → IsWithin g → HandFits h → TurnFits 2 g (registered g h)
registered_fits g h w f = either (TurnFits 2 g) (h.value % 2 == 0) (single g h.sender acts.GoOnline) (single g h.sender acts.GoOffline) (single_fits g h.sender acts.GoOnline w f.sender tt) (single_fits g h.sender acts.GoOffline w f.sender tt)

act_fits : (g : Progress) (h : Hand) → g.count < 2 ^ 63 → IsWithin g → HandFits h → TurnFits 2 g (act g h)
act_fits g h few w f =
    let call = called_fits g.app g h few w.app w f in
    let register = either (TurnFits 2 g) (h.kind == 6) (registered g h) (called g.app g h) (registered_fits g h w f) call in
    let opt = either (TurnFits 2 g) (h.kind == 5) (opted g.asset g h) _ (opted_fits g.asset g h few w.asset w f) register in
    let create = either (TurnFits 2 g) (h.kind == 4) (created g h.sender) _ (created_fits g h.sender w f.sender) opt in
    either (TurnFits 2 g) (nat_lt h.kind 4) (paid g h) _ (paid_fits g h w f) create

user_array : (n : ℕ) → IsArray 32 (user (n % 32)).0
user_array n = array_of 32 (16 + n % 32) (omega arith)

hand_fits : (x : ℕ) → HandFits (hand x)
hand_fits x = record { sender = user_array (drawn (next (next x))); receiver = user_array (drawn (next (next (next x)))); value = omega arith }

turn_fits : (g : Progress) → g.count < 2 ^ 63 → IsWithin g → TurnFits 2 g (turn g)
turn_fits g few w = (let h : TurnFits 2 (after_hand g) (act (after_hand g) (hand g.x)) = act_fits (after_hand g) (hand g.x) few (record { asset = w.asset; app = w.app }) (hand_fits g.x) in record { all = h.all; few = h.few; count = h.count; within = h.within })

both : (xs ys : List Made) → AllByRecursion MadeFits xs → AllByRecursion MadeFits ys → AllByRecursion MadeFits (xs ++ ys)
both [] ys a b = b
both (x ∷ xs) ys a b = (a.0, both xs ys a.1 b)

turns_fit : (n : ℕ) (g : Progress) → g.count + 2 * n < 2 ^ 63 → IsWithin g → TurnFits (2 * n) g (turns n g)
unfolding turns
turns_fit zero g few w = record { all = tt; few = omega arith; count = omega arith; within = w }
turns_fit (suc n) g few w =
    let one = turn_fits g (omega (arith, few)) w in
    let first = (turn g).0 in
    let rest = turns n (turn g).1 in
    let c = one.count in
    let f = one.few in
    let all = turns_fit n (turn g).1 (omega (arith, few, c, f)) one.within in
    let long = length-append first rest.0 in
    record {
      all = both first rest.0 one.all all.all;
      few = (let r = all.few in omega (arith, f, r, long));
      count = (let r = all.count in omega (arith, c, r, long));
      within = all.within;
    }

-- ---- blocks

block_fits : (round : ℕ) (genesis : List ℕ) (g : Progress) → round ≤ 2 ^ 62 → IsArray 32 genesis → g.count ≤ 2 ^ 62 → IsWithin g → BlockFits round genesis g
block_fits round genesis g few hash small w =
    let n = 1 + drawn (next g.x) % 4 in
    let some : n ≤ 4 = omega arith in
    let h = turns_fit n (after_draw g) (omega (arith, small, some)) (record { asset = w.asset; app = w.app }) in
    let ms = (block g).0 in
    let long = length-map ms (item_of round genesis) in
    record {
      items = items_fit round genesis ms few hash h.all;
      few = (let f = h.few in omega (arith, f, some, long));
      counted = (let c = h.count in omega (arith, c, long));
      within = h.within;
    }

pub draws : DrawsFit
draws = record { begun = λ number. record { asset = tt; app = tt }; hash = digest_array prefixes.Genesis generated_bytes; blocks = block_fits }
