-- The states of a genesis.
use Rattle.std.proofs.Common.{◌≤◌, ◌^◌, arith, ◌≡◌, ℕ, List, [], ◌∷◌, refl, ap, sym, subst, ◌∙◌, Err}
use Rattle.std.proofs.lemmas.List.Elements.{All-nil}
use Rattle.std.specs.FinMap.{empty, insert}
use Rattle.al_block.specs.Block.{IsBlock}
use Rattle.al_block.specs.declared.block.Block.{Block}
use Rattle.al_tables.specs.Tables.{StoredMap}
use Rattle.al_deltas.specs.Queue.{IsKeptDelta, Queue}
use Rattle.al_tail.specs.declared.tail.Entry.{Entry}
use Rattle.al_states.specs.declared.keeping.KeptBlock.{KeptBlock}
use Rattle.al_states.specs.Held.{Held}
use Rattle.al_states.specs.Opening.{Opens, IsRefusedGenesis, fault_of}
use Rattle.al_txn.specs.declared.chain.Chain.{Chain}
use Rattle.al_block.specs.declared.header.Header.{Header}
use Rattle.al_block.specs.Hashes.{header_hash_of}
use Rattle.al_genesis.specs.declared.genesis.Genesis.{Genesis}
use Rattle.al_genesis.specs.declared.genesis.GenesisFault.{GenesisFault}
use Rattle.al_genesis.specs.declared.genesis.GenesisFault.TheVariants as faults
use Rattle.al_genesis.specs.Genesis.{GenesisMeansUnless, IsGenesis, number_of}
use Rattle.al_online.specs.Memory.{Memory}
use Rattle.al_rows.specs.Rows.{bare}
use Rattle.al_eval.specs.Snaps.{snap_of}
use Rattle.al_eval.specs.State.{State, counts_in}
use Rattle.al_eval.specs.Sound.{AreInRange, Sound}
use Rattle.al_rewards.specs.declared.totals.Totals.{Totals}
use Rattle.al_states.specs.Keeping.{IsKeeping, origin_of, blocks_of}
use Rattle.al_states.proofs.MemoryLemmas.{remembers_first}
use Rattle.al_states.proofs.StoredLemmas.{AreStored}

pub kept_first : (chain : Chain) (first header : Header) (rows : StoredMap) (hash : List ℕ) (totals : Totals) (memory : Memory) → first ≡ header → hash ≡ header_hash_of first → Sound (origin_of chain header rows) → header.counter ≤ 2 ^ 62 → totals ≡ counts_in (origin_of chain header rows) → memory ≡ record { base = 0; snaps = snap_of header.level (bare rows) ∷ [] } → AreStored rows
    → IsKeeping chain first rows rows (record { base = 0; deltas = []; totals = totals; spare = 0 }) [] header hash totals [] memory
kept_first chain first header rows hash totals memory e h sound few counted known stored = record {
  past = [];
  snaps = insert empty 0 (snap_of header.level (bare rows));
  follows = ap (λ (x : Header). origin_of chain x rows) e;
  begins = refl;
  counted = counted ∙ ap (λ (x : Header). counts_in (origin_of chain x rows)) (sym e);
  changes = All-nil IsKeptDelta;
  newest_is = refl;
  hash_is = h ∙ ap header_hash_of e;
  few = few;
  tail_is = refl;
  sound = subst (λ (x : Header). Sound (origin_of chain x rows)) (sym e) sound;
  totals_are = counted;
  online = remembers_first memory (snap_of header.level (bare rows)) known;
  spelled = All-nil (λ (k : KeptBlock). IsBlock k.bytes.items k.block);
  ranged = All-nil (λ (k : KeptBlock). AreInRange k.block);
  since = stored;
}

pub kept_begun : (chain : Chain) (first header : Header) (base newest rows : StoredMap) (deltas : Queue) (hash : List ℕ) (totals : Totals) (kept : List KeptBlock) (tail : List Entry) (memory : Memory) → base ≡ rows → newest ≡ rows → deltas ≡ record { base = 0; deltas = []; totals = totals; spare = 0 } → kept ≡ [] → tail ≡ []
    → first ≡ header → hash ≡ header_hash_of first → Sound (origin_of chain header rows) → header.counter ≤ 2 ^ 62 → totals ≡ counts_in (origin_of chain header rows) → memory ≡ record { base = 0; snaps = snap_of header.level (bare rows) ∷ [] } → AreStored rows → IsKeeping chain first base newest deltas kept header hash totals tail memory
kept_begun chain first header base newest rows deltas hash totals kept tail memory b n d a t e h sound few counted known stored =
    let x = kept_first chain first header rows hash totals memory e h sound few counted known stored in
    let x1 = subst (λ (q : Queue). IsKeeping chain first rows rows q [] header hash totals [] memory) (sym d) x in
    let x2 = subst (λ (m : StoredMap). IsKeeping chain first rows m deltas [] header hash totals [] memory) (sym n) x1 in
    let x3 = subst (λ (m : StoredMap). IsKeeping chain first m newest deltas [] header hash totals [] memory) (sym b) x2 in
    let x4 = subst (λ (ks : List KeptBlock). IsKeeping chain first base newest deltas ks header hash totals [] memory) (sym a) x3 in
    subst (λ (ts : List Entry). IsKeeping chain first base newest deltas kept header hash totals ts memory) (sym t) x4

-- a genesis has created nothing
pub begun_few : (input : List ℕ) (g : Genesis) → IsGenesis input g → g.header.counter ≤ 2 ^ 62
begun_few input g is = subst (λ (h : Header). h.counter ≤ 2 ^ 62) (sym is.says.header) (omega arith)

-- what they hold
abbrev held_of : State → List Block → Held
held_of o bs = record { origin = o; blocks = bs }

pub held_begun : (chain : Chain) (first header : Header) (base rows : StoredMap) (kept : List KeptBlock) → first ≡ header → base ≡ rows → kept ≡ [] → held_of (origin_of chain first base) (blocks_of kept) ≡ held_of (origin_of chain header rows) []
held_begun chain first header base rows kept e f a =
    ap (λ (ks : List KeptBlock). held_of (origin_of chain first base) (blocks_of ks)) a
    ∙ ap (λ (h : Header). held_of (origin_of chain h base) []) e
    ∙ ap (λ (m : StoredMap). held_of (origin_of chain header m) []) f

-- a fault of the reader is shown by its number
pub fault_opens : (input : List ℕ) (f : GenesisFault) → GenesisMeansUnless input (Err f) → Opens input (Err (fault_of f))
fault_opens input faults.Memory x = tt
fault_opens input (faults.Decode e) x = (faults.Decode e, x, refl)
fault_opens input (faults.Field e) x = (faults.Field e, x, refl)
fault_opens input (faults.Range e) x = (faults.Range e, x, refl)
fault_opens input (faults.Order e) x = (faults.Order e, x, refl)
fault_opens input faults.Special x = (faults.Special, x, refl)
fault_opens input (faults.PoolLow e) x = (faults.PoolLow e, x, refl)
fault_opens input (faults.Minimum e) x = (faults.Minimum e, x, refl)
fault_opens input faults.TotalLarge x = (faults.TotalLarge, x, refl)

number_digit : (f : GenesisFault) → number_of f ≤ 9
number_digit (faults.Decode e) = omega arith
number_digit (faults.Field e) = omega arith
number_digit (faults.Range e) = omega arith
number_digit (faults.Order e) = omega arith
number_digit faults.Special = omega arith
number_digit (faults.PoolLow e) = omega arith
number_digit (faults.Minimum e) = omega arith
number_digit faults.TotalLarge = omega arith
number_digit faults.Memory = omega arith

-- the number that is shown is a digit
pub refused_digit : (file : List ℕ) (n : ℕ) → IsRefusedGenesis file n → n ≤ 9
refused_digit file n x = (let d = number_digit x.0 in omega (arith, x.2, d))
