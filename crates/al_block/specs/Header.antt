-- The header of a block.
use Rattle.std.specs.Prelude.{◌^◌, map, codes, List, [], ◌∷◌}
use Rattle.al_block.specs.declared.header.Header.{Header}
use Rattle.al_record.specs.Columns.{FieldOf, Format, number, up_to, array, addresses, table}

abbrev pub header_fields : List (FieldOf Header)
header_fields =
    number (codes "earn") (λ h. h.level) ∷
    addresses (codes "exp") 32 (λ h. map (λ a. a.0) h.expired) ∷
    array (codes "fees") 32 (λ h. h.sink.0) ∷
    number (codes "frac") (λ h. h.residue) ∷
    array (codes "gh") 32 (λ h. h.genesis_hash) ∷
    array (codes "prev") 32 (λ h. h.prev) ∷
    number (codes "rate") (λ h. h.rate) ∷
    up_to (codes "rnd") (2 ^ 62) (λ h. h.round) ∷
    number (codes "rwcalr") (λ h. h.recalc) ∷
    array (codes "rwd") 32 (λ h. h.pool.0) ∷
    up_to (codes "tc") (2 ^ 62) (λ h. h.counter) ∷
    number (codes "ts") (λ h. h.ts) ∷
    array (codes "txn") 32 (λ h. h.payset) ∷
    []

abbrev pub header : Format Header
header = table header_fields
