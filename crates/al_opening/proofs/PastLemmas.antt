-- What kept blocks tell, one after another.
use Rattle.std.proofs.Common.{◌≡◌, ℕ, suc, ◌+◌, ◌≤◌, ◌<◌, List, [], ◌∷◌, ◌++◌, map, length, refl, sym, ap, ap₂, subst, ◌∙◌, Bool, true, false, ◌&&◌, nat_le, nat_lt, Some, Result, Ok, Err, arith, append_assoc, length-append}
use Rattle.std.proofs.lemmas.Bool.{le-leb, leb-true}
use Rattle.std.proofs.lemmas.List.{map-append}
use Rattle.al_block.specs.declared.block.Block.{Block}
use Rattle.al_block.specs.declared.decoding.BlockFault.{BlockFault}
use Rattle.al_block.specs.declared.decoding.BlockFault.TheVariants as faults
use Rattle.al_block.specs.Block.{BlockAnswers, BlockMeans, IsBlock}
use Rattle.al_block.proofs.Meaning.{once}
use Rattle.al_keeper.specs.Blocks.{Blocks, Span, block_at, is_within}
use Rattle.al_txn.specs.declared.txn.Item.{Item}
use Rattle.al_txn.specs.declared.txn.Txn.{Txn}
use Rattle.al_tail.specs.Past.{entry_of}
use Rattle.al_tail.specs.declared.tail.Entry.{Entry}
use Rattle.al_opening.specs.declared.past.Past.{Past}
use Rattle.al_opening.specs.declared.refusal.StartRefusal.{StartRefusal}
use Rattle.al_opening.specs.declared.refusal.StartRefusal.TheVariants as refusals
use Rattle.al_opening.specs.Past.{AddsBlock, DecodesKept, IsBad, IsOfChain, IsPast, ReadsFirst, ReadsPast, ReadsTo, Spells, SpellsAt, SpellsNone, StartsChain, and_block, last_header, past_of, refusal_of, txns_of}

-- ---- one block

-- bytes that are at fault spell no block
by_fault : (F G : Type 0) (bytes : List ℕ) (round : ℕ) (fault : BlockFault) → ((r : Result Block BlockFault) → BlockMeans bytes r → BlockAnswers (Err fault) r) → Spells {F = F} {G = G} bytes round (Err (refusal_of round fault))
by_fault F G bytes round (faults.Decode f) only = (refl, λ b is. (let h : ◌≡◌ {A = Result Block BlockFault} (Ok b) (Err (faults.Decode f)) = only (Ok b) is in cc))
by_fault F G bytes round (faults.Field name) only = (refl, λ b is. (let h : ◌≡◌ {A = Result Block BlockFault} (Ok b) (Err (faults.Field name)) = only (Ok b) is in cc))
by_fault F G bytes round (faults.Range name) only = (refl, λ b is. (let h : ◌≡◌ {A = Result Block BlockFault} (Ok b) (Err (faults.Range name)) = only (Ok b) is in cc))
by_fault F G bytes round faults.Memory only = tt

pub spells_none : {F G : Type 0} (bytes : List ℕ) (round : ℕ) (fault : BlockFault) (e : StartRefusal F G) → e ≡ refusal_of round fault → ((r : Result Block BlockFault) → BlockMeans bytes r → BlockAnswers (Err fault) r) → Spells bytes round (Err e)
spells_none {F} {G} bytes round fault e is only = subst (λ (x : StartRefusal F G). Spells bytes round (Err x)) (sym is) (by_fault F G bytes round fault only)

-- what the bytes spell is what the kept bytes of the round spell
pub kept_spells : {F G : Type 0} (kept : Blocks) (round : ℕ) (bytes : List ℕ) (r : Result Block (StartRefusal F G)) → Some bytes ≡ block_at kept round → Spells bytes round r → DecodesKept kept round r
kept_spells kept round bytes (Ok b) at s = record { bytes = bytes; at = sym at; spells = s }
kept_spells kept round bytes (Err (refusals.BadBlock r)) at s = (s.0, record { bytes = bytes; at = sym at; none = s.1 })
kept_spells kept round bytes (Err (refusals.OtherGenesis h)) at s = s
kept_spells kept round bytes (Err (refusals.Blocks f)) at s = tt
kept_spells kept round bytes (Err refusals.Memory) at s = tt
kept_spells kept round bytes (Err (refusals.Tables f)) at s = s
kept_spells kept round bytes (Err (refusals.Gap tables first last)) at s = s
kept_spells kept round bytes (Err (refusals.Total counted)) at s = s

-- kept bytes spell one block
pub one_kept : (kept : Blocks) (round : ℕ) (a b : Block) → SpellsAt kept round a → SpellsAt kept round b → a ≡ b
one_kept kept round a b x y =
    let both : Some x.bytes ≡ Some y.bytes = sym x.at ∙ y.at in
    let same : x.bytes ≡ y.bytes = cc in
    once y.bytes a b (subst (λ bytes. IsBlock bytes a) same x.spells) y.spells

-- a block of another round is none of this
pub other_round : (kept : Blocks) (round : ℕ) (b : Block) → SpellsAt kept round b → (b.header.round ≡ round → ⊥) → IsBad kept round
other_round kept round b s differs = record {
  bytes = s.bytes;
  at = s.at;
  none = λ d is same. differs (subst (λ (x : Block). x.header.round ≡ round) (once s.bytes d b is s.spells) same);
}

pub none_bad : (kept : Blocks) (round : ℕ) → SpellsNone kept round → IsBad kept round
none_bad kept round s = record { bytes = s.bytes; at = s.at; none = λ d is same. s.none d is }

pub of_chain : (hash : List ℕ) (kept : Blocks) (round : ℕ) (b : Block) → SpellsAt kept round b → b.header.genesis_hash ≡ hash → IsOfChain hash kept round
of_chain hash kept round b s same d x = ap (λ (y : Block). y.header.genesis_hash) (one_kept kept round d b x s) ∙ same

none_of_chain : (hash : List ℕ) (kept : Blocks) (round : ℕ) → SpellsNone kept round → IsOfChain hash kept round
none_of_chain hash kept round s d x =
    let both : Some x.bytes ≡ Some s.bytes = sym x.at ∙ s.at in
    let same : x.bytes ≡ s.bytes = cc in
    absurd (s.none d (subst (λ bytes. IsBlock bytes d) same x.spells))

-- what the first kept bytes are refused for
pub first_undecoded : {F G : Type 0} (hash : List ℕ) (kept : Blocks) (round : ℕ) (e : StartRefusal F G) → DecodesKept kept round (Err e) → ReadsFirst hash kept round (Err e)
first_undecoded hash kept round (refusals.BadBlock r) s = (s.0, none_bad kept round s.1, none_of_chain hash kept round s.1)
first_undecoded hash kept round (refusals.OtherGenesis h) s = absurd s
first_undecoded hash kept round (refusals.Blocks f) s = tt
first_undecoded hash kept round refusals.Memory s = tt
first_undecoded hash kept round (refusals.Tables f) s = s
first_undecoded hash kept round (refusals.Gap tables first last) s = s
first_undecoded hash kept round (refusals.Total counted) s = s

-- ---- blocks one after another

parts : (a b : Bool) → (a && b) ≡ true → (a ≡ true) × (b ≡ true)
parts true b h = (refl, h)
parts false b h = cc

pub within_between : (s : Span) (a b n : ℕ) → is_within s a ≡ true → is_within s b ≡ true → a ≤ n → n ≤ b → is_within s n ≡ true
within_between s a b n p q low high =
    let x = leb-true s.first a (parts (nat_le s.first a) (nat_lt a (s.first + s.count)) p).0 in
    let y = leb-true (suc b) (s.first + s.count) (parts (nat_le s.first b) (nat_lt b (s.first + s.count)) q).1 in
    ap₂ (λ c d. c && d) (le-leb s.first n (omega arith)) (le-leb (suc n) (s.first + s.count) (omega arith))

reads_more : (kept : Blocks) (from n : ℕ) (bs : List Block) (b : Block) → ReadsTo kept from bs → from + length bs ≡ n → SpellsAt kept n b → b.header.round ≡ n → ReadsTo kept from (bs ++ b ∷ [])
reads_more kept from n [] b h at s r =
    let here : n ≡ from = omega (arith, at) in
    (subst (λ m. SpellsAt kept m b) here s, r ∙ here, tt)
reads_more kept from n (c ∷ bs) b h at s r = (h.0, h.1, reads_more kept (suc from) n bs b h.2 (omega (arith, at)) s r)

txns_more : (bs : List Block) (b : Block) → txns_of (bs ++ b ∷ []) ≡ txns_of bs ++ map (λ i. i.txn) b.items
txns_more [] b = all_of (map (λ (i : Item). i.txn) b.items)
  where
    all_of : (ts : List Txn) → ts ++ [] ≡ ts
    all_of [] = refl
    all_of (t ∷ ts) = ap (λ x. t ∷ x) (all_of ts)
txns_more (c ∷ bs) b = ap (λ ts. map (λ (i : Item). i.txn) c.items ++ ts) (txns_more bs b) ∙ sym (append_assoc (map (λ (i : Item). i.txn) c.items) (txns_of bs) (map (λ (i : Item). i.txn) b.items))

last_more : (bs : List Block) (b : Block) → last_header (bs ++ b ∷ []) ≡ Some b.header
last_more [] b = refl
last_more (c ∷ []) b = refl
last_more (c ∷ d ∷ bs) b = last_more (d ∷ bs) b

starts_more : (hash : List ℕ) (bs : List Block) (b : Block) → StartsChain hash bs → StartsChain hash (bs ++ b ∷ [])
starts_more hash [] b h = absurd h
starts_more hash (c ∷ bs) b h = h

mapped : (is : List Item) → map (λ i. entry_of i.txn) is ≡ map entry_of (map (λ i. i.txn) is)
mapped [] = refl
mapped (i ∷ is) = ap (λ es. entry_of i.txn ∷ es) (mapped is)

nothing_more : (es : List Txn) → es ≡ es ++ []
nothing_more [] = refl
nothing_more (e ∷ es) = ap (λ x. e ∷ x) (nothing_more es)

pub first_past : (hash : List ℕ) (kept : Blocks) (from : ℕ) (b : Block) (p : Past) → SpellsAt kept from b → b.header.round ≡ from → b.header.genesis_hash ≡ hash → p ≡ past_of b → IsPast hash kept from from p
first_past hash kept from b p s r same is = subst (IsPast hash kept from from) (sym is) (record {
  blocks = b ∷ [];
  reads = (s, r, tt);
  count = omega arith;
  tail = mapped b.items ∙ ap (map entry_of) (nothing_more (map (λ (i : Item). i.txn) b.items));
  header = refl;
  chain = same;
})

pub more_past : (hash : List ℕ) (kept : Blocks) (from round n : ℕ) (b : Block) (old new : Past) → IsPast hash kept from round old → n ≡ suc round → SpellsAt kept n b → b.header.round ≡ n → new ≡ and_block b old → IsPast hash kept from n new
more_past hash kept from round n b old new p at s r is = subst (IsPast hash kept from n) (sym is) (record {
  blocks = p.blocks ++ b ∷ [];
  reads = reads_more kept from n p.blocks b p.reads (p.count ∙ sym at) s r;
  count = omega (arith, at, p.count, length-append p.blocks (b ∷ []));
  tail = ap₂ (λ (xs ys : List Entry). xs ++ ys) p.tail (mapped b.items) ∙ sym (map-append entry_of (txns_of p.blocks) (map (λ (i : Item). i.txn) b.items)) ∙ ap (map entry_of) (sym (txns_more p.blocks b));
  header = last_more p.blocks b;
  chain = starts_more hash p.blocks b p.chain;
})

-- ---- refusals

pub first_refused : {F G : Type 0} (hash : List ℕ) (kept : Blocks) (from to : ℕ) (e : StartRefusal F G) → from ≤ to → ReadsFirst hash kept from (Err e) → ReadsPast hash kept from to (Err e)
first_refused hash kept from to (refusals.BadBlock r) order s = record {
  blocks = [];
  reads = tt;
  at = s.0 ∙ omega arith;
  most = subst (λ n. n ≤ to) (sym s.0) order;
  bad = subst (IsBad kept) (sym s.0) s.1;
  chain = s.2;
}
first_refused hash kept from to (refusals.OtherGenesis h) order s = s
first_refused hash kept from to (refusals.Blocks f) order s = tt
first_refused hash kept from to refusals.Memory order s = tt
first_refused hash kept from to (refusals.Tables f) order s = s
first_refused hash kept from to (refusals.Gap tables first last) order s = s
first_refused hash kept from to (refusals.Total counted) order s = s

module _ (hash : List ℕ) (kept seen : Blocks) (from round n : ℕ) (old new : Past) (next : n ≡ suc round) (same : seen ≡ kept) (past : IsPast hash kept from round old) where
  -- the past with the kept block of the next round
  pub next_past : (b : Block) × SpellsAt seen n b × (b.header.round ≡ n) × (new ≡ and_block b old) → IsPast hash kept from n new
  next_past (b, s, r, is) = more_past hash kept from round n b old new past next (subst (λ k. SpellsAt k n b) same s) r is

  -- what it is refused for
  pub next_refused : {F G : Type 0} (to : ℕ) (e : StartRefusal F G) → round < to → IsOfChain hash kept from → AddsBlock seen n old new (Err e) → ReadsPast hash kept from to (Err e)
  next_refused to (refusals.BadBlock r) less chain s = record {
    blocks = past.blocks;
    reads = past.reads;
    at = s.0 ∙ next ∙ sym past.count;
    most = (let here = s.0 in omega (arith, here, next, less));
    bad = subst (IsBad kept) (sym s.0) (subst (λ k. IsBad k n) same s.1);
    chain = chain;
  }
  next_refused to (refusals.OtherGenesis h) less chain s = absurd s
  next_refused to (refusals.Blocks f) less chain s = tt
  next_refused to refusals.Memory less chain s = tt
  next_refused to (refusals.Tables f) less chain s = s
  next_refused to (refusals.Gap tables first last) less chain s = s
  next_refused to (refusals.Total counted) less chain s = s
