-- What a value that is read says of the input.
use Rattle.std.proofs.Common.{◌≡◌, List, ℕ, None, Err, sym, ap, ◌∙◌, subst}
use Rattle.al_msgpack.specs.declared.val.Val.{Val, out-Val}
use Rattle.al_msgpack.specs.declared.val.Val.TheOpen.{Val-F}
use Rattle.al_msgpack.specs.declared.val.Entry.{Entry}
use Rattle.al_msgpack.specs.declared.val.Val.TheVariants as values
use Rattle.al_msgpack.specs.declared.val.Val.TheViews as views
use Rattle.al_msgpack.specs.Places.{IsSpelling}
use Rattle.al_record.specs.Columns.{member_open}
use Rattle.al_genesis.specs.declared.genesis_fields.GenesisRecord.{GenesisRecord}
use Rattle.al_genesis.specs.declared.genesis.GenesisFault.{GenesisFault}
use Rattle.al_genesis.specs.declared.genesis.GenesisFault.TheVariants as faults
use Rattle.al_genesis.specs.Genesis.{genesis, IsRecordOf, IsRefused, GenesisMeansUnless}

pub record_of : (input : List ℕ) (v : Val) (r : GenesisRecord) → IsSpelling v input → (values.Map (genesis.write r) ≡ v) × (member_open genesis.fault (out-Val v) ≡ None) → IsRecordOf input r
record_of input v r s h =
    let o : out-Val v ≡ Val-F.Map (genesis.write r) = ap out-Val (sym h.0) ∙ views.outs-Map (genesis.write r) in
    record {
      spells = subst (λ (w : Val). IsSpelling w input) (sym h.0) s;
      sound = subst (λ (w : Val-F Val Entry). member_open genesis.fault w ≡ None) o h.1;
    }

pub refused_means : (input : List ℕ) (r : GenesisRecord) (f : GenesisFault) → IsRecordOf input r → IsRefused r f → GenesisMeansUnless input (Err f)
refused_means input r (faults.Decode f) is h = absurd h
refused_means input r (faults.Field name) is h = absurd h
refused_means input r (faults.Range name) is h = absurd h
refused_means input r (faults.Order place) is h = record { fields = r; is = is; refused = h }
refused_means input r faults.Special is h = record { fields = r; is = is; refused = h }
refused_means input r (faults.PoolLow balance) is h = record { fields = r; is = is; refused = h }
refused_means input r (faults.Minimum place) is h = record { fields = r; is = is; refused = h }
refused_means input r faults.TotalLarge is h = record { fields = r; is = is; refused = h }
refused_means input r faults.Memory is h = absurd h
