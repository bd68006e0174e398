-- An index of the creators of assets and applications beside the rows.
use Rattle.std.specs.Prelude.{◌≡◌, ◌↔◌, ℕ, Bool, true, false}
use Rattle.std.specs.declared.option.Option.{Option}
use Rattle.std.specs.declared.option.Option.TheVariants.{None, Some}
use Rattle.std.specs.BTreeMap.{BTreeMap, is_at}
use Rattle.std.specs.BTreeMap as tree
use Rattle.std.specs.Ordering.{nat_cmp}
use Rattle.al_base.specs.declared.address.Address.{Address}
use Rattle.al_base.specs.declared.key.Key.{Key}
use Rattle.al_base.specs.declared.key.Key.TheVariants as key
use Rattle.al_base.specs.Keys.{key_cmp}
use Rattle.al_rows.specs.declared.stored.Stored.{Stored}
use Rattle.al_rows.specs.Rows.{has_params}

-- whether there is a row that has params
abbrev pub shows_params : Option Stored → Bool
shows_params None = false
shows_params (Some s) = has_params s.row

-- an index of the creators among rows: an address is noted under an id exactly where its row of that id has params
unfoldable pub IsIndex : BTreeMap Key Stored → BTreeMap ℕ Address → Type 0
IsIndex rows creators = (id : ℕ) (who : Address) → (tree.get nat_cmp creators id ≡ Some who) ↔ (shows_params (tree.get key_cmp rows (key.Resource who id)) ≡ true)

-- rows before and after a change under one key, and whether the row there had params and has them
pub record DifferAt (k : Key) (had has : Bool) (old new : BTreeMap Key Stored) : Type 0 where
  pub before : had ≡ shows_params (tree.get key_cmp old k)
  pub after : has ≡ shows_params (tree.get key_cmp new k)
  pub others : (q : Key) → is_at (key_cmp k) q ≡ false → tree.get key_cmp new q ≡ tree.get key_cmp old q
