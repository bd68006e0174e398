-- Generated transactions of different numbers have different spellings.
use Rattle.std.proofs.Common.{◌≡◌, ◌≢◌, ◌∙◌, ◌≤◌, ◌<◌, ◌^◌, ℕ, zero, suc, refl, sym, ap, subst, arith, List, [], ◌∷◌, ◌++◌, true, nat_le, nat_lt, inl, inr, get_or, replicate, lit<, ltb-true}
use Rattle.std.proofs.lemmas.Bool.{and_parts}
use Rattle.std.proofs.lemmas.List.{length-replicate}
use Rattle.std.proofs.lemmas.List.Elements.{recursion_from_All}
use Rattle.std.specs.Cmp.Lexicographic.{same_text}
use Rattle.al_base.specs.Keys.{number_bytes}
use Rattle.al_base.specs.declared.address.Address.{Address}
use Rattle.al_base.proofs.KeyLemmas.{length-number_bytes, number_bytes_same}
use Rattle.al_bodies.specs.Ranges.{BodyRanges, IsArray}
use Rattle.al_bodies.proofs.Ranged.{are_short}
use Rattle.al_digest.proofs.Readings.{digest_are_bytes}
use Rattle.al_digest.specs.Digests.{digest_of, prefix_of}
use Rattle.al_digest.specs.declared.hashing.Prefix.{Prefix}
use Rattle.al_digest.specs.declared.hashing.Prefix.TheVariants as prefixes
use Rattle.al_generator.specs.Items.{body_of, txn_of}
use Rattle.al_generator.specs.declared.turns.Action.{Action}
use Rattle.al_generator.specs.declared.turns.Action.TheVariants as acts
use Rattle.al_generator.specs.declared.turns.Made.{Made}
use Rattle.al_msgpack.specs.Grammar.{AreBytes}
use Rattle.al_msgpack.specs.Places.{IsSpelling}
use Rattle.al_msgpack.specs.declared.val.Val.TheVariants as values
use Rattle.al_msgpack.proofs.Canonical.{canonical_spells}
use Rattle.al_msgpack.proofs.Verdicts.{one_value}
use Rattle.al_record.specs.Laws.{IsShort}
use Rattle.al_rows.specs.Rows.{no_address}
use Rattle.al_txn.specs.Ranges.{TxnRanges}
use Rattle.al_txn.specs.Txn.{txn}
use Rattle.al_txn.specs.declared.txn.Txn.{Txn}
use Rattle.al_txn.proofs.Members.{map_back}
use Rattle.al_txn.proofs.Ranged.{txn_canonical, txn_record}
use Rattle.al_txn.proofs.Same.{txn_determined}
use Rattle.al_taken.specs.Taken.{txn_bytes}
use Rattle.al_taken.proofs.Standings.{is_user}
use Rattle.al_taken.proofs.AllHere.{Known}
use Rattle.al_taken.proofs.Events.{Asks, Makes}

-- ---- bytes

bytes_alike : (n b : ℕ) → b < 256 → AreBytes (replicate n b)
bytes_alike zero b lt = tt
bytes_alike (suc n) b lt = (lt, bytes_alike n b lt)

array_of : (n b : ℕ) → b < 256 → IsArray n (replicate n b)
array_of n b lt = (bytes_alike n b lt, length-replicate {A = ℕ} n b)

pub digest_array : (p : Prefix) (m : List ℕ) → IsArray 32 (digest_of p m)
digest_array p m = let h = digest_are_bytes (prefix_of p ++ m) in (recursion_from_All (λ b. b < 256) _ h.1, h.0)

number_are_bytes : (n : ℕ) → AreBytes (number_bytes n)
unfolding number_bytes
number_are_bytes n = (omega arith, (omega arith, (omega arith, (omega arith, (omega arith, (omega arith, (omega arith, (omega arith, tt))))))))

user_array : (a : Address) → is_user a ≡ true → IsArray 32 a.0
unfolding is_user
user_array a is =
    let p = and_parts (nat_le 16 (get_or a.0 0 0)) _ is in
    let q = and_parts (nat_lt (get_or a.0 0 0) 48) _ p.1 in
    subst (IsArray 32) (sym (same_text a.0 (replicate 32 (get_or a.0 0 0)) (sym q.1))) (array_of 32 (get_or a.0 0 0) (omega (arith, ltb-true (get_or a.0 0 0) 48 q.0)))

empty_short : IsShort []
empty_short = (are_short ([] ∷ []) refl).0

none_array : IsArray 32 no_address.0
none_array = array_of 32 0 (lit< tt)

-- ---- ranges

module _ (k : Known) (few : k.count ≤ 800000) (round : ℕ) (soon : round ≤ 100000) (hash : List ℕ) (hashed : IsArray 32 hash) (made : Made) (makes : Makes k made) where
  body_ranged : (action : Action) → Asks k action → BodyRanges 15 (body_of round made.sender action)
  body_ranged (acts.Pay receiver amount) (inl a) = record { receiver = user_array receiver a.0; amount = omega (arith, a.1); close = none_array }
  body_ranged (acts.Pay receiver amount) (inr a) = record { receiver = subst (λ (r : Address). IsArray 32 r.0) (sym a.4) (digest_array prefixes.App (number_bytes a.0)); amount = omega (arith, a.5); close = none_array }
  body_ranged acts.CreateAsset a = record {
    asset = lit< tt;
    params = record {
      total = lit< tt;
      decimals = lit< tt;
      unit = empty_short;
      name = empty_short;
      url = empty_short;
      meta = array_of 32 0 (lit< tt);
      manager = user_array made.sender makes.sender;
      reserve = none_array;
      freeze = none_array;
      clawback = none_array;
    };
  }
  body_ranged (acts.OptIn asset) a = record { asset = omega (arith, a.1); amount = lit< tt; source = none_array; receiver = user_array made.sender makes.sender; close = none_array }
  body_ranged acts.GoOnline a = record { vote = array_of 32 7 (lit< tt); selection = array_of 32 8 (lit< tt); sprf = array_of 64 0 (lit< tt); first = omega arith; last = omega arith; dilution = lit< tt }
  body_ranged acts.GoOffline a = record { vote = array_of 32 0 (lit< tt); selection = array_of 32 0 (lit< tt); sprf = array_of 64 0 (lit< tt); first = lit< tt; last = lit< tt; dilution = lit< tt }
  body_ranged acts.CreateApp a = record { app = lit< tt; rest = tt; count = lit< tt }
  body_ranged (acts.PutBox app name) a = record { app = omega (arith, a.1); rest = tt; count = lit< tt }

  pub txn_ranged : TxnRanges 15 (txn_of round hash made)
  txn_ranged = record {
    sender = user_array made.sender makes.sender;
    fee = lit< tt;
    first = omega arith;
    last = omega arith;
    genesis_id = empty_short;
    genesis_hash = hashed;
    note = (number_are_bytes made.number, omega (arith, length-number_bytes made.number));
    lease = array_of 32 0 (lit< tt);
    rekey = none_array;
    group = array_of 32 0 (lit< tt);
    body = body_ranged made.action makes.asks;
  }

-- ---- spellings

pub same_txn : (t u : Txn) → TxnRanges 15 t → TxnRanges 15 u → txn_bytes t ≡ txn_bytes u → t ≡ u
same_txn t u p q e =
    let a : IsSpelling (values.Map (txn.write t)) (txn_bytes t) = canonical_spells 16 _ (txn_canonical 14 t p) in
    let b : IsSpelling (values.Map (txn.write u)) (txn_bytes u) = canonical_spells 16 _ (txn_canonical 14 u q) in
    let same : txn.write t ≡ txn.write u = map_back _ _ (one_value _ _ (txn_bytes u) (subst (λ (x : List ℕ). IsSpelling (values.Map (txn.write t)) x) e a) b) in
    let r = txn_record 15 u q in
    txn_determined t u (txn.write t) (txn_record 15 t p) (record { fields = same; sound = ap txn.fault same ∙ r.sound })

pub differ : (t u : Txn) (m n : ℕ) → TxnRanges 15 t → TxnRanges 15 u → t.note ≡ number_bytes m → u.note ≡ number_bytes n → m < n → n < 2 ^ 64 → txn_bytes t ≢ txn_bytes u
differ t u m n p q note next less few e =
    let same : m ≡ n = number_bytes_same m n (omega (arith, less, few)) few (sym note ∙ ap (λ (x : Txn). x.note) (same_txn t u p q e) ∙ next) in
    absurd (omega arith)
