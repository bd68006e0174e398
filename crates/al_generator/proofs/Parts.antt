-- The genesis from its parts.
use Rattle.std.proofs.Common.{◌≡◌, ◌≤◌, ◌^◌, ℕ, List, codes, map, ap, ◌∙◌, lit≤}
use Rattle.std.proofs.Math.Bridge.{le_prop}
use Rattle.al_block.specs.declared.header.Header.{Header}
use Rattle.al_digest.specs.Digests.{digest_of}
use Rattle.al_digest.specs.declared.hashing.Prefix.TheVariants as prefixes
use Rattle.al_genesis.specs.Genesis.{first_header, first_row}
use Rattle.al_genesis.specs.declared.genesis.Genesis.{Genesis}
use Rattle.al_genesis.specs.declared.genesis.GenesisRow.{GenesisRow}
use Rattle.al_txn.specs.declared.chain.Chain.{Chain}
use Rattle.al_generator.specs.declared.genesis.Opening.{Opening}
use Rattle.al_generator.specs.Genesis.{first_account, generated_bytes, generated_genesis, generated_record, openings, pool, sink}

abbrev pub chain_of : List ℕ → List ℕ → 1 ≤ 100 → 100 ≤ 2 ^ 62 → 800 ≤ 2 ^ 62 → Chain
chain_of hash id p q r = record {
  special = record { sink = sink; pool = pool };
  hash = hash;
  id = id;
  interval = 100;
  catch_interval = 800;
  interval_some = p;
  interval_most = q;
  catch_interval_most = r;
}

abbrev pub genesis_of : Chain → Header → List GenesisRow → Genesis
genesis_of chain header rows = record { chain = chain; header = header; accounts = rows }

same_chain : (hash id : List ℕ) (p : 1 ≤ 100) (q : 100 ≤ 2 ^ 62) (r : 800 ≤ 2 ^ 62) → hash ≡ digest_of prefixes.Genesis generated_bytes → id ≡ codes "gen" → chain_of hash id p q r ≡ generated_genesis.chain
same_chain hash id p q r h i =
    ap (λ (x : List ℕ). chain_of x id p q r) h
    ∙ ap (λ (x : List ℕ). chain_of (digest_of prefixes.Genesis generated_bytes) x p q r) i
    ∙ ap (λ (x : 1 ≤ 100). chain_of (digest_of prefixes.Genesis generated_bytes) (codes "gen") x q r) (le_prop p (lit≤ tt))
    ∙ ap (λ (x : 100 ≤ 2 ^ 62). chain_of (digest_of prefixes.Genesis generated_bytes) (codes "gen") (lit≤ tt) x r) (le_prop q (lit≤ tt))
    ∙ ap (λ (x : 800 ≤ 2 ^ 62). chain_of (digest_of prefixes.Genesis generated_bytes) (codes "gen") (lit≤ tt) (lit≤ tt) x) (le_prop r (lit≤ tt))

pub same_genesis : (hash id : List ℕ) (p : 1 ≤ 100) (q : 100 ≤ 2 ^ 62) (r : 800 ≤ 2 ^ 62) (header : Header) (all : List Opening) (rows : List GenesisRow) → hash ≡ digest_of prefixes.Genesis generated_bytes → id ≡ codes "gen" → header ≡ first_header generated_bytes generated_record → all ≡ openings → rows ≡ map first_row (map first_account all) → genesis_of (chain_of hash id p q r) header rows ≡ generated_genesis
same_genesis hash id p q r header all rows h i first opened are =
    ap (λ (x : Chain). genesis_of x header rows) (same_chain hash id p q r h i)
    ∙ ap (λ (x : Header). genesis_of generated_genesis.chain x rows) first
    ∙ ap (λ (x : List GenesisRow). genesis_of generated_genesis.chain generated_genesis.header x) (are ∙ ap (λ (x : List Opening). map first_row (map first_account x)) opened)
