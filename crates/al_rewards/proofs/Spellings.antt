-- The spellings of totals.
use Rattle.std.proofs.Common.{◌≡◌, ℕ, List, ◌++◌, ◌<◌, ◌^◌, OnOk, Result, refl, sym, ap, subst, ◌∙◌, rules, arith}
use Rattle.std.specs.List.{AllByRecursion}
use Rattle.al_msgpack.specs.declared.val.Val.{Val, out-Val}
use Rattle.al_msgpack.specs.declared.val.Val.TheVariants as values
use Rattle.al_msgpack.specs.declared.val.Val.TheViews as views
use Rattle.al_msgpack.specs.declared.val.Entry.{Entry}
use Rattle.al_msgpack.specs.Places.{IsSpelling}
use Rattle.al_msgpack.specs.Spelled.{spelled}
use Rattle.al_msgpack.proofs.Canonical.{canonical_spells, spells_only}
use Rattle.al_msgpack.proofs.Verdicts.{one_value}
use Rattle.al_record.specs.Columns.{IsRecord, map_in}
use Rattle.al_record.specs.Laws.{AllAgree, IsShort, names_of}
use Rattle.al_record.proofs.Laws.{record_shows}
use Rattle.al_record.proofs.Same.{Determined}
use Rattle.al_record.proofs.Sound.{has_record}
use Rattle.al_record.proofs.Tables.{all_agree, written_canonical}
use Rattle.al_rewards.specs.declared.totals.Totals.{Totals}
use Rattle.al_rewards.specs.Totals.{AreTotals}
use Rattle.al_rewards.specs.Record.{SpellsTotals, totals, totals_fields}

map_back : (es ds : List Entry) → values.Map es ≡ values.Map ds → es ≡ ds
map_back es ds e = ap map_in (sym (views.outs-Map es)) ∙ ap (λ (v : Val). map_in (out-Val v)) e ∙ ap map_in (views.outs-Map ds)

-- totals by their parts
abbrev whole : Totals → Totals
whole t = record {
  level = t.level;
  online = record { money = t.online.money; units = t.online.units };
  offline = record { money = t.offline.money; units = t.offline.units };
  apart = record { money = t.apart.money; units = t.apart.units };
}

totals_agree : (t u : Totals) → AllAgree totals_fields t u → t ≡ u
totals_agree t u a = let same : whole t ≡ whole u = cc in same

is_record : (t : Totals) → IsRecord totals t (totals.write t)
is_record t = has_record totals_fields t refl (refl, (refl, (refl, (refl, (refl, (refl, (refl, tt)))))))

totals_determined : Determined totals
totals_determined t u es r s = totals_agree t u (all_agree totals_fields t u es (record_shows totals_fields t es refl r) (record_shows totals_fields u es refl s))

pub once : (t u : Totals) (bytes : List ℕ) → SpellsTotals t bytes → SpellsTotals u bytes → t ≡ u
once t u bytes p q =
    let same : totals.write t ≡ totals.write u = map_back _ _ (one_value _ _ bytes p q) in
    let r = is_record t in
    totals_determined t u (totals.write t) r (record { fields = same; sound = r.sound })

short_names : AllByRecursion IsShort (names_of totals_fields)
short_names = search rules

pub spells : (t : Totals) → t.level < 2 ^ 64 → AreTotals t → SpellsTotals t (spelled (values.Map (totals.write t)))
spells t l h =
    canonical_spells 16 _ (written_canonical 15 totals_fields t refl short_names (omega arith) (h.1.0, (h.1.1, (l, (h.0.0, (h.0.1, (h.2.0, (h.2.1, tt))))))))

-- the one spelling is what is appended
pub back_from : {E : Type 0} (r : Result (Unit {0}) E) (input : List ℕ) (v : Val) (new old : List ℕ) → IsSpelling v input → OnOk r (new ≡ old ++ spelled v) → OnOk r (new ≡ old ++ input)
back_from r input v new old m h = subst (λ (bytes : List ℕ). OnOk r (new ≡ old ++ bytes)) (spells_only 16 v input m) h
