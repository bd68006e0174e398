-- A registration of keys, or keys that expire, change nothing that a transaction keeps.
use Rattle.std.proofs.Common.{ℕ, refl, ap, ◌∙◌, arith, Option, Some, None, IfSome}
use Rattle.std.specs.FinMap.{get}
use Rattle.al_base.specs.declared.account.Special.{Special}
use Rattle.al_base.specs.declared.address.Address.{Address}
use Rattle.al_base.specs.declared.key.Key.TheVariants as key
use Rattle.al_rows.specs.declared.account.AccountRow.{AccountRow}
use Rattle.al_rows.specs.Rows.{RowMap}
use Rattle.al_moves.specs.Keys.{KeysMove}
use Rattle.al_moves.proofs.Keyed.{keys_apart, keys_bases, keys_keep, keys_range, keys_resources, keys_rows, keys_sums}
use Rattle.al_resources.specs.Sound.{FieldsInRange}
use Rattle.al_resources.proofs.Steadies.{Calm, Gains, Stays, account_ranged, counts_of}

-- what holds of every one holds of one that is told
each_told : (P : Special → Type 0) (o : Option Special) → ((s : Special) → P s) → IfSome o P
each_told P None h = tt
each_told P (Some s) h = h s

pub keys_calm : (level : ℕ) (special : Option Special) (who : Address) (m n : RowMap) → KeysMove who m n → Calm level special m n
keys_calm level special who m n move = record {
  keeps = record {
    resources = keys_resources who m n move;
    sums = keys_sums who m n move;
    counts = keys_keep who m n move counts_of (λ _. refl) (λ _. refl);
    bases = keys_bases who m n move level;
    ranges = λ all. keys_rows who m n move FieldsInRange all (keys_range who m n move (account_ranged who (get m (key.Account who)) (all (key.Account who))));
  };
  pool = each_told (λ s. Gains s.pool m n) special (λ s is. (let same = keys_apart who m n move s.pool is in (ap (λ (r : AccountRow). r.status) same ∙ is, omega (arith, ap (λ (r : AccountRow). r.balance) same))));
  sink = each_told (λ s. Stays s.sink m n) special (λ s is. ap (λ (r : AccountRow). r.status) (keys_apart who m n move s.sink is) ∙ is);
}
