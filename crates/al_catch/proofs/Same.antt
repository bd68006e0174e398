-- The records of files determine their values.
use Rattle.std.proofs.Common.{◌≡◌, true, List, [], ◌∷◌, map, None, codes, refl, sym, ap, ap₂, ◌∙◌}
use Rattle.al_msgpack.specs.declared.val.Val.{Val, out-Val}
use Rattle.al_msgpack.specs.declared.val.Val.TheVariants as values
use Rattle.al_msgpack.specs.declared.val.Val.TheViews as views
use Rattle.al_msgpack.specs.declared.val.Entry.{Entry}
use Rattle.al_msgpack.specs.Rising.{rises}
use Rattle.al_record.specs.Columns.{FieldOf, Format, IsRecord, field_fault, first_of, heads, list_of, map_in, map_of, member_open, members_fault, range_fault, rules_of, table, value_at}
use Rattle.al_record.specs.Laws.{AllAgree}
use Rattle.al_record.proofs.Engine.{first_none, names}
use Rattle.al_record.proofs.Laws.{record_shows}
use Rattle.al_record.proofs.Same.{Determined}
use Rattle.al_record.proofs.Tables.{all_agree}
use Rattle.al_rewards.specs.declared.totals.Totals.{Totals}
use Rattle.al_rewards.specs.Record.{totals, totals_fields}
use Rattle.al_catch.specs.declared.chunk.Chunk.{Chunk}
use Rattle.al_catch.specs.declared.chunk.ChunkRow.{ChunkRow}
use Rattle.al_catch.specs.declared.info.CatchInfo.{CatchInfo}
use Rattle.al_catch.specs.Records.{chunk, chunk_fields, info, info_fields, row, row_fields}

pub map_back : (es ds : List Entry) → values.Map es ≡ values.Map ds → es ≡ ds
map_back es ds e = ap map_in (sym (views.outs-Map es)) ∙ ap (λ (v : Val). map_in (out-Val v)) e ∙ ap map_in (views.outs-Map ds)

-- values with one record agree on the fields of a table
fields_agree : {X : Type 0} (fs : List (FieldOf X)) (x y : X) (es : List Entry) → rises (names (heads (rules_of fs))) ≡ true → IsRecord (table fs) x es → IsRecord (table fs) y es → AllAgree fs x y
fields_agree fs x y es r h k = all_agree fs x y es (record_shows fs x es r h) (record_shows fs y es r k)

-- the members of a list of records
members_determined : {X : Type 0} (format : Format X) → Determined format → (xs ys : List X) (vs : List Val) → map (λ es. values.Map es) (map format.write xs) ≡ vs → map (λ es. values.Map es) (map format.write ys) ≡ vs → members_fault format.fault vs ≡ None → xs ≡ ys
members_determined format d [] [] vs p q n = refl
members_determined format d [] (y ∷ ys) vs p q n = let e = p ∙ sym q in absurd cc
members_determined format d (x ∷ xs) [] vs p q n = let e = p ∙ sym q in absurd cc
members_determined format d (x ∷ xs) (y ∷ ys) [] p q n = absurd cc
members_determined {X} format d (x ∷ xs) (y ∷ ys) (v ∷ vs) p q n =
    let k = first_none (member_open format.fault (out-Val v)) (members_fault format.fault vs) n in
    let px : values.Map (format.write x) ≡ v = cc in
    let py : values.Map (format.write y) ≡ v = cc in
    let same_es : format.write x ≡ format.write y = map_back _ _ (px ∙ sym py) in
    let f : format.fault (format.write x) ≡ None = ap (member_open format.fault) (sym (views.outs-Map (format.write x)) ∙ ap out-Val px) ∙ k.0 in
    let rx : IsRecord format x (format.write x) = record { fields = refl; sound = f } in
    let ry : IsRecord format y (format.write x) = record { fields = same_es; sound = f } in
    let more_x : map (λ es. values.Map es) (map format.write xs) ≡ vs = cc in
    let more_y : map (λ es. values.Map es) (map format.write ys) ≡ vs = cc in
    ap₂ (λ (z : X) (more : List X). z ∷ more) (d x y _ rx ry) (members_determined format d xs ys vs more_x more_y k.1)

-- ---- chunks

abbrev whole_row : ChunkRow → ChunkRow
whole_row r = record { key = r.key; spelling = r.spelling; changed = r.changed }

row_same : (x y : ChunkRow) → AllAgree row_fields x y → x ≡ y
row_same x y a = let same : whole_row x ≡ whole_row y = cc in same

row_determined : Determined row
row_determined x y es r s = row_same x y (fields_agree row_fields x y es refl r s)

abbrev whole_chunk : Chunk → Chunk
whole_chunk c = record { number = c.number; rows = c.rows }

chunk_same : (x y : Chunk) → x.number ≡ y.number → x.rows ≡ y.rows → x ≡ y
chunk_same x y n r = let same : whole_chunk x ≡ whole_chunk y = cc in same

pub chunk_determined : Determined chunk
chunk_determined x y es r s =
    let p = record_shows chunk_fields x es refl r in
    let q = record_shows chunk_fields y es refl s in
    let rows = members_fault row.fault (list_of (value_at (codes "rows") es)) in
    let ranges : first_of rows None ≡ None = (first_none (field_fault (heads (rules_of chunk_fields)) es) (range_fault (rules_of chunk_fields) es) r.sound).1 in
    let i : rows ≡ None = (first_none rows None ranges).0 in
    chunk_same x y (p.0 ∙ sym q.0) (members_determined row row_determined x.rows y.rows (list_of (value_at (codes "rows") es)) p.1.0 q.1.0 i)

-- ---- what a catchpoint says of itself

abbrev whole_totals : Totals → Totals
whole_totals t = record {
  level = t.level;
  online = record { money = t.online.money; units = t.online.units };
  offline = record { money = t.offline.money; units = t.offline.units };
  apart = record { money = t.apart.money; units = t.apart.units };
}

totals_same : (x y : Totals) → AllAgree totals_fields x y → x ≡ y
totals_same x y a = let same : whole_totals x ≡ whole_totals y = cc in same

totals_determined : Determined totals
totals_determined x y es r s = totals_same x y (fields_agree totals_fields x y es refl r s)

abbrev whole_info : CatchInfo → CatchInfo
whole_info i = record { chunks = i.chunks; round = i.round; totals = i.totals }

info_same : (x y : CatchInfo) → x.chunks ≡ y.chunks → x.round ≡ y.round → x.totals ≡ y.totals → x ≡ y
info_same x y c r t = let same : whole_info x ≡ whole_info y = cc in same

pub info_determined : Determined info
info_determined x y es r s =
    let p = record_shows info_fields x es refl r in
    let q = record_shows info_fields y es refl s in
    let inner = totals.fault (map_of (value_at (codes "t") es)) in
    let ranges : first_of inner None ≡ None = (first_none (field_fault (heads (rules_of info_fields)) es) (range_fault (rules_of info_fields) es) r.sound).1 in
    let t : inner ≡ None = (first_none inner None ranges).0 in
    info_same x y (p.0 ∙ sym q.0) (p.1.0 ∙ sym q.1.0)
    (totals_determined x.totals y.totals (map_of (value_at (codes "t") es)) (record { fields = sym p.1.1.0; sound = t }) (record { fields = sym q.1.1.0; sound = t }))
