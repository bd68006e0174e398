-- An input has one meaning.
use Rattle.std.proofs.Common.{◌≡◌, ℕ, ◌≤◌, ◌^◌, List, [], map, codes, Some, None, Result, Ok, Err, refl, sym, ap, ap₂, subst, ◌∙◌}
use Rattle.std.proofs.Math.Bridge.{le_prop}
use Rattle.al_base.specs.declared.account.Special.{Special}
use Rattle.al_base.specs.declared.address.Address.{Address}
use Rattle.al_block.specs.declared.header.Header.{Header}
use Rattle.al_digest.specs.Digests.{digest_of}
use Rattle.al_digest.specs.declared.hashing.Prefix.TheVariants as prefixes
use Rattle.al_msgpack.specs.declared.val.Val.{Val, out-Val}
use Rattle.al_msgpack.specs.declared.val.Val.TheViews as views
use Rattle.al_msgpack.specs.declared.fault.DecodeFault.{DecodeFault}
use Rattle.al_msgpack.specs.Places.{IsSpelling, Means}
use Rattle.al_msgpack.proofs.Exact.{Fit}
use Rattle.al_msgpack.proofs.Sizes.{limit}
use Rattle.al_msgpack.proofs.Verdicts.{means_verdict, one_value}
use Rattle.al_record.specs.declared.fault.Fault.{Fault}
use Rattle.al_record.specs.declared.fault.Fault.TheVariants.{Field, Range}
use Rattle.al_record.specs.Columns.{IsRecord, member_open, map_of, list_of, value_at, members_fault}
use Rattle.al_record.proofs.Engine.{first_none}
use Rattle.al_record.proofs.Laws.{record_shows}
use Rattle.al_record.proofs.Same.{Determined}
use Rattle.al_txn.specs.declared.chain.Chain.{Chain}
use Rattle.al_txn.proofs.Members.{members_determined, map_back}
use Rattle.al_bodies.proofs.Same.{fields_agree}
use Rattle.al_genesis.specs.declared.genesis_fields.FirstRow.{FirstRow}
use Rattle.al_genesis.specs.declared.genesis_fields.FirstAccount.{FirstAccount}
use Rattle.al_genesis.specs.declared.genesis_fields.GenesisRecord.{GenesisRecord}
use Rattle.al_genesis.specs.declared.genesis.GenesisRow.{GenesisRow}
use Rattle.al_genesis.specs.declared.genesis.Genesis.{Genesis}
use Rattle.al_genesis.specs.declared.genesis.GenesisFault.{GenesisFault}
use Rattle.al_genesis.specs.declared.genesis.GenesisFault.TheVariants as faults
use Rattle.al_genesis.specs.Genesis.{row, row_fields, account, account_fields, genesis, genesis_fields, first_row, interval_of, zeros, first_header, IsSound, Breaks, IsRecordOf, IsNoRecord, IsGenesis, IsGenesisOf, IsRefusal, GenesisMeans, GenesisMeansUnless, GenesisAnswers}
use Rattle.al_genesis.proofs.Exclusive.{sound_breaks, breaks_once}

-- ---- a record determines its values

abbrev whole_row : FirstRow → FirstRow
whole_row r = record { status = r.status; balance = r.balance; vote = r.vote; selection = r.selection; sprf = r.sprf; first = r.first; last = r.last; dilution = r.dilution }

row_determined : Determined row
row_determined x y es r s =
    let a = fields_agree row_fields x y es refl r s in
    let same : whole_row x ≡ whole_row y = cc in
    same

address_same : (a b : Address) → a.0 ≡ b.0 → a ≡ b
address_same a b e = ap (λ (x : List ℕ). record { 0 = x }) e

abbrev one_account : Address → FirstRow → FirstAccount
one_account a r = record { address = a; row = r }

account_determined : Determined account
account_determined x y es r s =
    let p = record_shows account_fields x es refl r in
    let q = record_shows account_fields y es refl s in
    let ranges = first_none _ _ (first_none _ _ r.sound).1 in
    let sound : row.fault (map_of (value_at (codes "row") es)) ≡ None = (first_none _ _ ranges.1).0 in
    let address : x.address ≡ y.address = address_same x.address y.address (p.0 ∙ sym q.0) in
    let rest : x.row ≡ y.row = row_determined x.row y.row (map_of (value_at (codes "row") es)) (record { fields = sym p.1.0; sound = sound }) (record { fields = sym q.1.0; sound = sound }) in
    ap₂ (λ (a : Address) (w : FirstRow). one_account a w) address rest

-- two records agree
record Agree (x y : GenesisRecord) : Type 0 where
  accounts : x.accounts ≡ y.accounts
  catch_interval : x.catch_interval ≡ y.catch_interval
  sink : x.sink ≡ y.sink
  id : x.id ≡ y.id
  interval : x.interval ≡ y.interval
  pool : x.pool ≡ y.pool
  ts : x.ts ≡ y.ts

agree : (input : List ℕ) (x y : GenesisRecord) → IsRecordOf input x → IsRecordOf input y → Agree x y
agree input x y m n =
    let es = genesis.write x in
    let same : genesis.write x ≡ genesis.write y = map_back _ _ (one_value _ _ input m.spells n.spells) in
    let r : IsRecord genesis x es = record { fields = refl; sound = m.sound } in
    let s : IsRecord genesis y es = record { fields = same; sound = m.sound } in
    let p = record_shows genesis_fields x es refl r in
    let q = record_shows genesis_fields y es refl s in
    let ranges = first_none _ _ (first_none _ _ m.sound).1 in
    let sound : members_fault account.fault (list_of (value_at (codes "alloc") es)) ≡ None = ranges.0 in
    record {
      accounts = members_determined account account_determined x.accounts y.accounts (list_of (value_at (codes "alloc") es)) p.0 q.0 sound;
      catch_interval = p.1.0 ∙ sym q.1.0;
      sink = address_same x.sink y.sink (p.1.1.0 ∙ sym q.1.1.0);
      id = p.1.1.1.0 ∙ sym q.1.1.1.0;
      interval = p.1.1.1.1.0 ∙ sym q.1.1.1.1.0;
      pool = address_same x.pool y.pool (p.1.1.1.1.1.0 ∙ sym q.1.1.1.1.1.0);
      ts = p.1.1.1.1.1.1.0 ∙ sym q.1.1.1.1.1.1.0;
    }

-- what is said of sink, pool and accounts
moved : (P : Address → Address → List FirstAccount → Type 0) (x y : GenesisRecord) → Agree x y → P x.sink x.pool x.accounts → P y.sink y.pool y.accounts
moved P x y a h =
    subst (λ (s : Address). P s y.pool y.accounts) a.sink
    (subst (λ (p : Address). P x.sink p y.accounts) a.pool
    (subst (λ (xs : List FirstAccount). P x.sink x.pool xs) a.accounts h))

-- ---- the genesis that a record says

abbrev chain_of : Special → List ℕ → List ℕ → (n c : ℕ) → 1 ≤ n → n ≤ 2 ^ 62 → c ≤ 2 ^ 62 → Chain
chain_of s h i n c p q r = record { special = s; hash = h; id = i; interval = n; catch_interval = c; interval_some = p; interval_most = q; catch_interval_most = r }

chain_same : (a b : Chain) → a.special ≡ b.special → a.hash ≡ b.hash → a.id ≡ b.id → a.interval ≡ b.interval → a.catch_interval ≡ b.catch_interval → a ≡ b
chain_same a b es eh ei en ec =
    let n = a.interval in
    let c = a.catch_interval in
    let p = a.interval_some in
    let q = a.interval_most in
    let r = a.catch_interval_most in
    ap (λ (s : Special). chain_of s a.hash a.id n c p q r) es
    ∙ ap (λ (h : List ℕ). chain_of b.special h a.id n c p q r) eh
    ∙ ap (λ (i : List ℕ). chain_of b.special b.hash i n c p q r) ei
    ∙ subst (λ (m : ℕ). (u : 1 ≤ m) (v : m ≤ 2 ^ 62) → chain_of b.special b.hash b.id n c p q r ≡ chain_of b.special b.hash b.id m c u v r) en
    (λ u v. ap (λ (z : 1 ≤ n). chain_of b.special b.hash b.id n c z q r) (le_prop p u) ∙ ap (λ (z : n ≤ 2 ^ 62). chain_of b.special b.hash b.id n c u z r) (le_prop q v)) b.interval_some b.interval_most
    ∙ subst (λ (m : ℕ). (w : m ≤ 2 ^ 62) → chain_of b.special b.hash b.id b.interval c b.interval_some b.interval_most r ≡ chain_of b.special b.hash b.id b.interval m b.interval_some b.interval_most w) ec
    (λ w. ap (λ (z : c ≤ 2 ^ 62). chain_of b.special b.hash b.id b.interval c b.interval_some b.interval_most z) (le_prop r w)) b.catch_interval_most

abbrev special_of : Address → Address → Special
special_of sink pool = record { sink = sink; pool = pool }

abbrev head_of : List ℕ → ℕ → Address → Address → Header
head_of input ts sink pool = record {
  round = 0;
  prev = zeros;
  ts = ts;
  genesis_hash = digest_of prefixes.Genesis input;
  sink = sink;
  pool = pool;
  level = 0;
  rate = 0;
  residue = 0;
  recalc = 1;
  counter = 0;
  payset = zeros;
  expired = [];
}

heads_same : (input : List ℕ) (x y : GenesisRecord) → Agree x y → first_header input x ≡ first_header input y
heads_same input x y a =
    ap (λ (t : ℕ). head_of input t x.sink x.pool) a.ts
    ∙ ap (λ (s : Address). head_of input y.ts s x.pool) a.sink
    ∙ ap (λ (p : Address). head_of input y.ts y.sink p) a.pool

abbrev genesis_by : Chain → Header → List GenesisRow → Genesis
genesis_by c h rows = record { chain = c; header = h; accounts = rows }

genesis_same : (g k : Genesis) → g.chain ≡ k.chain → g.header ≡ k.header → g.accounts ≡ k.accounts → g ≡ k
genesis_same g k c h a =
    ap (λ (z : Chain). genesis_by z g.header g.accounts) c
    ∙ ap (λ (z : Header). genesis_by k.chain z g.accounts) h
    ∙ ap (λ (z : List GenesisRow). genesis_by k.chain k.header z) a

said_same : (input : List ℕ) (x y : GenesisRecord) (g k : Genesis) → Agree x y → IsGenesisOf input x g → IsGenesisOf input y k → g ≡ k
said_same input x y g k a m n =
    let sink : g.chain.special.sink ≡ k.chain.special.sink = m.sink ∙ a.sink ∙ sym n.sink in
    let pool : g.chain.special.pool ≡ k.chain.special.pool = m.pool ∙ a.pool ∙ sym n.pool in
    let special : g.chain.special ≡ k.chain.special = ap₂ (λ (s p : Address). special_of s p) sink pool in
    let chain = chain_same g.chain k.chain special (m.hash ∙ sym n.hash) (m.id ∙ a.id ∙ sym n.id) (m.interval ∙ ap interval_of a.interval ∙ sym n.interval) (m.catch_interval ∙ a.catch_interval ∙ sym n.catch_interval) in
    genesis_same g k chain (m.header ∙ heads_same input x y a ∙ sym n.header) (m.accounts ∙ ap (map first_row) a.accounts ∙ sym n.accounts)

pub once : (input : List ℕ) (g k : Genesis) → IsGenesis input g → IsGenesis input k → g ≡ k
once input g k m n = said_same input m.fields n.fields g k (agree input m.fields n.fields m.is n.is) m.says n.says

-- ---- one meaning

sound_refused : (input : List ℕ) (g : Genesis) (f : GenesisFault) → IsGenesis input g → IsRefusal input f → ⊥
sound_refused input g f m n =
    let a = agree input m.fields n.fields m.is n.is in
    sound_breaks n.fields.sink n.fields.pool n.fields.accounts f (moved IsSound m.fields n.fields a m.good) n.refused

refused_once : (input : List ℕ) (f k : GenesisFault) → IsRefusal input f → IsRefusal input k → f ≡ k
refused_once input f k m n =
    let a = agree input m.fields n.fields m.is n.is in
    breaks_once n.fields.sink n.fields.pool n.fields.accounts f k (moved (λ s p xs. Breaks s p xs f) m.fields n.fields a m.refused) n.refused

none_some : (f : Fault) → None ≡ Some f → ⊥
none_some f e = absurd cc

some_back : (f g : Fault) → Some f ≡ Some g → f ≡ g
some_back f g e = cc

record_faulty : (input : List ℕ) (x : GenesisRecord) (f : Fault) → IsRecordOf input x → IsNoRecord input f → ⊥
record_faulty input x f m n =
    let e = one_value _ n.value input m.spells n.spells in
    let o = ap (member_open genesis.fault) (sym (views.outs-Map (genesis.write x))) in
    none_some f (sym (sym o ∙ m.sound) ∙ ap (λ (v : Val). member_open genesis.fault (out-Val v)) e ∙ n.fault)

same_fault : (input : List ℕ) (f g : Fault) → IsNoRecord input f → IsNoRecord input g → f ≡ g
same_fault input f g m n =
    let e = one_value m.value n.value input m.spells n.spells in
    some_back f g (sym m.fault ∙ ap (λ (v : Val). member_open genesis.fault (out-Val v)) e ∙ n.fault)

means_same : (input : List ℕ) → Fit limit input → (r s : Result Val DecodeFault) → Means input r → Means input s → r ≡ s
means_same input fit r s p q = sym (means_verdict input fit r p) ∙ means_verdict input fit s q

spelled_faulty : (input : List ℕ) → Fit limit input → (v : Val) (f : DecodeFault) → IsSpelling v input → Means input (Err f) → ⊥
spelled_faulty input fit v f p q = let e = means_same input fit (Ok v) (Err f) p q in absurd cc

abbrev val_err : DecodeFault → Result Val DecodeFault
val_err f = Err f

decode_back : (f g : DecodeFault) → val_err f ≡ val_err g → f ≡ g
decode_back f g e = cc

field_back : (a b : List ℕ) → Field a ≡ Field b → a ≡ b
field_back a b e = cc

range_back : (a b : List ℕ) → Range a ≡ Range b → a ≡ b
range_back a b e = cc

field_range : (a b : List ℕ) → Field a ≡ Range b → ⊥
field_range a b e = absurd cc

-- what refuses an input: its bytes, its fields, or the conditions on them
data Kind (input : List ℕ) (f : GenesisFault) : Type 0 where
  bytes : (d : DecodeFault) → f ≡ faults.Decode d → Means input (Err d) → Kind input f
  field : (k : List ℕ) → f ≡ faults.Field k → IsNoRecord input (Field k) → Kind input f
  range : (k : List ℕ) → f ≡ faults.Range k → IsNoRecord input (Range k) → Kind input f
  condition : IsRefusal input f → Kind input f

kind : (input : List ℕ) (f : GenesisFault) → GenesisMeans input (Err f) → Kind input f
kind input (faults.Decode d) m = bytes d refl m
kind input (faults.Field k) m = field k refl m
kind input (faults.Range k) m = range k refl m
kind input (faults.Order p) m = condition m
kind input faults.Special m = condition m
kind input (faults.PoolLow b) m = condition m
kind input (faults.Minimum p) m = condition m
kind input faults.TotalLarge m = condition m
kind input faults.Memory m = absurd m

same_kind : (input : List ℕ) → Fit limit input → (f g : GenesisFault) → Kind input f → Kind input g → f ≡ g
same_kind input fit f g (bytes d e m) (bytes c i n) = e ∙ ap (λ z. faults.Decode z) (decode_back d c (means_same input fit (Err d) (Err c) m n)) ∙ sym i
same_kind input fit f g (bytes d e m) (field k i n) = absurd (spelled_faulty input fit n.value d n.spells m)
same_kind input fit f g (bytes d e m) (range k i n) = absurd (spelled_faulty input fit n.value d n.spells m)
same_kind input fit f g (bytes d e m) (condition n) = absurd (spelled_faulty input fit _ d n.is.spells m)
same_kind input fit f g (field k e m) (bytes d i n) = absurd (spelled_faulty input fit m.value d m.spells n)
same_kind input fit f g (field k e m) (field l i n) = e ∙ ap (λ z. faults.Field z) (field_back k l (same_fault input (Field k) (Field l) m n)) ∙ sym i
same_kind input fit f g (field k e m) (range l i n) = absurd (field_range k l (same_fault input (Field k) (Range l) m n))
same_kind input fit f g (field k e m) (condition n) = absurd (record_faulty input n.fields (Field k) n.is m)
same_kind input fit f g (range k e m) (bytes d i n) = absurd (spelled_faulty input fit m.value d m.spells n)
same_kind input fit f g (range k e m) (field l i n) = absurd (field_range l k (same_fault input (Field l) (Range k) n m))
same_kind input fit f g (range k e m) (range l i n) = e ∙ ap (λ z. faults.Range z) (range_back k l (same_fault input (Range k) (Range l) m n)) ∙ sym i
same_kind input fit f g (range k e m) (condition n) = absurd (record_faulty input n.fields (Range k) n.is m)
same_kind input fit f g (condition m) (bytes d i n) = absurd (spelled_faulty input fit _ d m.is.spells n)
same_kind input fit f g (condition m) (field k i n) = absurd (record_faulty input m.fields (Field k) m.is n)
same_kind input fit f g (condition m) (range k i n) = absurd (record_faulty input m.fields (Range k) m.is n)
same_kind input fit f g (condition m) (condition n) = refused_once input f g m n

good_kind : (input : List ℕ) → Fit limit input → (g : Genesis) (f : GenesisFault) → IsGenesis input g → Kind input f → ⊥
good_kind input fit g f m (bytes d i n) = spelled_faulty input fit _ d m.is.spells n
good_kind input fit g f m (field k i n) = record_faulty input m.fields (Field k) m.is n
good_kind input fit g f m (range k i n) = record_faulty input m.fields (Range k) m.is n
good_kind input fit g f m (condition n) = sound_refused input g f m n

same_meaning : (input : List ℕ) → Fit limit input → (r s : Result Genesis GenesisFault) → GenesisMeans input r → GenesisMeans input s → r ≡ s
same_meaning input fit (Ok a) (Ok b) m n = ap (λ (x : Genesis). Ok x) (once input a b m n)
same_meaning input fit (Ok a) (Err f) m n = absurd (good_kind input fit a f m (kind input f n))
same_meaning input fit (Err f) (Ok b) m n = absurd (good_kind input fit b f n (kind input f m))
same_meaning input fit (Err f) (Err g) m n = ap (λ (x : GenesisFault). Err x) (same_kind input fit f g (kind input f m) (kind input g n))

pub only_from : (input : List ℕ) → Fit limit input → (result r : Result Genesis GenesisFault) → GenesisMeansUnless input result → GenesisMeans input r → GenesisAnswers result r
only_from input fit (Ok g) r m n = same_meaning input fit r (Ok g) n m
only_from input fit (Err (faults.Decode d)) r m n = same_meaning input fit r (Err (faults.Decode d)) n m
only_from input fit (Err (faults.Field k)) r m n = same_meaning input fit r (Err (faults.Field k)) n m
only_from input fit (Err (faults.Range k)) r m n = same_meaning input fit r (Err (faults.Range k)) n m
only_from input fit (Err (faults.Order p)) r m n = same_meaning input fit r (Err (faults.Order p)) n m
only_from input fit (Err faults.Special) r m n = same_meaning input fit r (Err faults.Special) n m
only_from input fit (Err (faults.PoolLow b)) r m n = same_meaning input fit r (Err (faults.PoolLow b)) n m
only_from input fit (Err (faults.Minimum p)) r m n = same_meaning input fit r (Err (faults.Minimum p)) n m
only_from input fit (Err faults.TotalLarge) r m n = same_meaning input fit r (Err faults.TotalLarge) n m
only_from input fit (Err faults.Memory) r m n = tt
