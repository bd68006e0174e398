-- The genesis of the generated chains is a good one.
use Rattle.std.proofs.Common.{◌≡◌, ◌<◌, ◌≤◌, ◌+◌, ℕ, zero, suc, codes, [], ◌∷◌, map, replicate, refl, arith, lit<, lit≤}
use Rattle.std.specs.List.{AllByRecursion, range_with_len}
use Rattle.std.proofs.lemmas.List.{length-replicate}
use Rattle.al_base.specs.declared.account.Status.{Status}
use Rattle.al_base.specs.declared.account.Status.TheVariants.{Offline, Online, NotParticipating}
use Rattle.al_msgpack.specs.declared.val.Val.TheVariants as values
use Rattle.al_msgpack.specs.Canonical.{IsCanonical}
use Rattle.al_msgpack.specs.Grammar.{AreBytes}
use Rattle.al_msgpack.proofs.Canonical.{canonical_spells}
use Rattle.al_record.specs.Columns.{IsRecord}
use Rattle.al_bodies.specs.Ranges.{IsArray}
use Rattle.al_bodies.proofs.Ranged.{AllRanged, are_short, array_32, array_64, ranged_canonical, ranged_record}
use Rattle.al_bodies.proofs.RangedBodies.{list_canonical, list_sound}
use Rattle.al_rows.specs.Limits.{max_balance}
use Rattle.al_genesis.specs.declared.genesis_fields.FirstAccount.{FirstAccount}
use Rattle.al_genesis.specs.Genesis.{IsGenesis, IsGood, account, account_fields, balance_of, genesis_fields, money_of, row, row_fields}
use Rattle.al_generator.specs.declared.genesis.Opening.{Opening}
use Rattle.al_generator.specs.Genesis.{first_account, generated_bytes, generated_genesis, generated_record, pool, pool_opening, sink, sink_opening, status_number, user_opening}

bytes_alike : (n b : ℕ) → b < 256 → AreBytes (replicate n b)
bytes_alike zero b lt = tt
bytes_alike (suc n) b lt = (lt, bytes_alike n b lt)

pub array_of : (n b : ℕ) → b < 256 → IsArray n (replicate n b)
array_of n b lt = (bytes_alike n b lt, length-replicate {A = ℕ} n b)

-- an account whose record is one
record Fair (a : FirstAccount) : Type 0 where
  named : IsArray 32 a.address.0
  ranged : AllRanged 12 row_fields a.row

small_status : (s : Status) → status_number s ≤ 2
small_status Offline = lit≤ tt
small_status Online = lit≤ tt
small_status NotParticipating = lit≤ tt

fair : (o : Opening) → IsArray 32 o.address.0 → o.balance ≤ max_balance → Fair (first_account o)
fair o a b =
    let s = small_status o.status in
    let zeros = array_32 (replicate 32 0) (array_of 32 0 (lit< tt)) in
    record {
      named = a;
      ranged = ((s, omega (arith, s)), ((b, omega (arith, b)), (zeros, (zeros, (array_64 (replicate 64 0) (array_of 64 0 (lit< tt)), (lit< tt, (lit< tt, (lit< tt, tt))))))));
    }

row_record : (a : FirstAccount) → Fair a → IsRecord row a.row (row.write a.row)
row_record a f = ranged_record 12 row_fields a.row refl f.ranged

account_ranged : (a : FirstAccount) → Fair a → AllRanged 13 account_fields a
account_ranged a f = (array_32 a.address.0 f.named, (((row_record a f).sound, ranged_canonical 12 row_fields a.row refl refl refl f.ranged), tt))

account_record : (a : FirstAccount) → Fair a → IsRecord account a (account.write a)
account_record a f = ranged_record 13 account_fields a refl (account_ranged a f)

account_canonical : (a : FirstAccount) → Fair a → IsCanonical 14 (values.Map (account.write a))
account_canonical a f = ranged_canonical 13 account_fields a refl refl refl (account_ranged a f)

users_fair : (i n : ℕ) → i + n ≤ 32 → AllByRecursion Fair (map first_account (map user_opening (range_with_len i n)))
users_fair i zero le = tt
users_fair i (suc n) le = (fair (user_opening i) (array_of 32 (16 + i) (omega (arith, le))) (lit≤ tt), users_fair (i + 1) n (omega (arith, le)))

all_fair : AllByRecursion Fair generated_record.accounts
all_fair = (fair sink_opening (array_of 32 1 (lit< tt)) (lit≤ tt), (fair pool_opening (array_of 32 2 (lit< tt)) (lit≤ tt), users_fair 0 32 (lit≤ tt)))

genesis_ranged : AllRanged 15 genesis_fields generated_record
genesis_ranged = (
  (refl, list_sound Fair account account_record generated_record.accounts all_fair, list_canonical Fair account 14 account_canonical generated_record.accounts (lit< tt) all_fair),
  ((lit≤ tt, lit< tt), (array_32 sink.0 (array_of 32 1 (lit< tt)), ((are_short (codes "gen" ∷ []) refl).0, ((lit≤ tt, lit< tt), (array_32 pool.0 (array_of 32 2 (lit< tt)), (lit< tt, tt)))))),
)

good : IsGood generated_record
good =
    let pool_has : balance_of pool generated_record.accounts ≡ 1000000000 = refl in
    let money : money_of generated_record.accounts ≡ 32001001000000 = refl in
    ((((refl, refl), omega (arith, pool_has)), refl), omega (arith, money))

pub is_genesis : IsGenesis generated_bytes generated_genesis
unfolding generated_bytes
is_genesis = record {
  fields = generated_record;
  is = record {
    spells = canonical_spells 16 _ (ranged_canonical 15 genesis_fields generated_record refl refl refl genesis_ranged);
    sound = (ranged_record 15 genesis_fields generated_record refl genesis_ranged).sound;
  };
  good = good;
  says = record { sink = refl; pool = refl; hash = refl; id = refl; interval = refl; catch_interval = refl; header = refl; accounts = refl };
}
