-- What resource and box rows count for the account that owns them, and how its counts follow its rows.
use Rattle.std.specs.Prelude.{◌≡◌, ℕ, ◌+◌, ◌-◌, ◌^◌, ◌≤◌, Bool, ◌&&◌, nat_eq, nat_le, if◌then◌else◌, List, length, is_some}
use Rattle.std.specs.declared.option.Option.{Option}
use Rattle.std.specs.declared.option.Option.TheVariants.{None, Some}
use Rattle.std.specs.declared.result.Result.{Result}
use Rattle.std.specs.declared.result.Result.TheVariants.{Ok, Err}
use Rattle.std.specs.FinMap.{get}
use Rattle.al_base.specs.declared.address.Address.{Address}
use Rattle.al_base.specs.declared.key.Key.{Key}
use Rattle.al_base.specs.declared.key.Key.TheVariants as key
use Rattle.al_base.specs.declared.name.BoxName.{BoxName}
use Rattle.al_base.specs.Keys.{number_bytes}
use Rattle.al_base.specs.Name.{name_of}
use Rattle.al_digest.specs.Digests.{digest_of}
use Rattle.al_digest.specs.declared.hashing.Prefix.TheVariants as prefixes
use Rattle.al_rows.specs.declared.account.AccountRow.{AccountRow}
use Rattle.al_rows.specs.declared.row.AppParams.{AppParams}
use Rattle.al_rows.specs.declared.row.Local.{Local}
use Rattle.al_rows.specs.declared.row.Row.{Row}
use Rattle.al_rows.specs.declared.row.Row.TheVariants as row
use Rattle.al_rows.specs.Finite.{set_at, total}
use Rattle.al_rows.specs.Limits.{max_count}
use Rattle.al_rows.specs.Rows.{RowMap, account, set_account}
use Rattle.al_moves.specs.declared.resource.Counts.{Counts}
use Rattle.al_overlay.specs.declared.rule.Rule.{Rule}
use Rattle.al_overlay.specs.Rules.{of_account, then_do}
use Rattle.al_overlay.specs.Accounts.{same_address}
use Rattle.al_overlay.specs.Work.{nonzero}

abbrev pub one_if : Bool → ℕ
one_if b = if b then 1 else 0

-- ---- what a resource row counts for its owner

abbrev pub assets_held_in : Row → ℕ
assets_held_in (row.Asset a) = one_if (is_some a.holding)
assets_held_in r = 0

abbrev pub assets_created_in : Row → ℕ
assets_created_in (row.Asset a) = one_if (is_some a.params)
assets_created_in r = 0

abbrev pub apps_created_in : Row → ℕ
apps_created_in (row.App a) = one_if (is_some a.params)
apps_created_in r = 0

abbrev pub apps_opted_in : Row → ℕ
apps_opted_in (row.App a) = one_if (is_some a.local)
apps_opted_in r = 0

abbrev pub of_params : (AppParams → ℕ) → Option AppParams → ℕ
of_params f None = 0
of_params f (Some p) = f p

abbrev pub of_local : (Local → ℕ) → Option Local → ℕ
of_local f None = 0
of_local f (Some l) = f l

abbrev pub extra_pages_in : Row → ℕ
extra_pages_in (row.App a) = of_params (λ p. p.extra_pages) a.params
extra_pages_in r = 0

-- the schema entries of an application that was created, and of one that was opted in to
abbrev pub uints_in : Row → ℕ
uints_in (row.App a) = of_params (λ p. p.global_uints) a.params + of_local (λ l. l.uints) a.local
uints_in r = 0

abbrev pub byte_slices_in : Row → ℕ
byte_slices_in (row.App a) = of_params (λ p. p.global_slices) a.params + of_local (λ l. l.slices) a.local
byte_slices_in r = 0

-- what the resource rows of an address count
abbrev pub owned : Address → (Row → ℕ) → Key → Row → ℕ
owned who f (key.Resource a id) r = if same_address a who then f r else 0
owned who f k r = 0

-- ---- what a box counts for its application's account

-- the account of an application: the digest of its number
abbrev pub app_account : ℕ → Address
app_account app = record { 0 = digest_of prefixes.App (number_bytes app) }

abbrev pub box_bytes_in : List ℕ → Row → ℕ
box_bytes_in name (row.Box b) = length name + length b.value
box_bytes_in name r = 0

abbrev pub boxes_of : Address → Key → Row → ℕ
boxes_of who (key.Box app name) r = if same_address (app_account app) who then 1 else 0
boxes_of who k r = 0

abbrev pub box_bytes_of : Address → Key → Row → ℕ
box_bytes_of who (key.Box app name) r = if same_address (app_account app) who then box_bytes_in (name_of name) r else 0
box_bytes_of who k r = 0

-- the counts of an address are those of its resource and box rows; an account without a row has none
pub record CountsAgree (m : RowMap) (who : Address) : Type 0 where
  pub assets_held : (account m who).assets_held ≡ total (owned who assets_held_in) m
  pub assets_created : (account m who).assets_created ≡ total (owned who assets_created_in) m
  pub apps_created : (account m who).apps_created ≡ total (owned who apps_created_in) m
  pub apps_opted : (account m who).apps_opted ≡ total (owned who apps_opted_in) m
  pub extra_pages : (account m who).extra_pages ≡ total (owned who extra_pages_in) m
  pub uints : (account m who).uints ≡ total (owned who uints_in) m
  pub byte_slices : (account m who).byte_slices ≡ total (owned who byte_slices_in) m
  pub boxes : (account m who).boxes ≡ total (boxes_of who) m
  pub box_bytes : (account m who).box_bytes ≡ total (box_bytes_of who) m

-- ---- the counts of one row

abbrev pub no_counts : Counts
no_counts = record { assets_held = 0; assets_created = 0; apps_created = 0; apps_opted = 0; extra_pages = 0; uints = 0; byte_slices = 0; boxes = 0; box_bytes = 0 }

abbrev pub resource_counts : Row → Counts
resource_counts r = record {
  assets_held = assets_held_in r;
  assets_created = assets_created_in r;
  apps_created = apps_created_in r;
  apps_opted = apps_opted_in r;
  extra_pages = extra_pages_in r;
  uints = uints_in r;
  byte_slices = byte_slices_in r;
  boxes = 0;
  box_bytes = 0;
}

abbrev pub box_counts : List ℕ → Row → Counts
box_counts name r = record no_counts { boxes = 1; box_bytes = box_bytes_in name r }

-- what a row counts for the owner of its key
abbrev pub counted_at : Key → Row → Counts
counted_at (key.Account who) r = no_counts
counted_at (key.Resource who id) r = resource_counts r
counted_at (key.Box app name) r = box_counts (name_of name) r

-- the same of a row that may be there
abbrev pub counts_at : Key → Option Row → Counts
counts_at k None = no_counts
counts_at k (Some r) = counted_at k r

-- the counts of one row are far below the most of an account
pub record AreFew (c : Counts) : Type 0 where
  pub assets_held : c.assets_held ≤ 2 ^ 16
  pub assets_created : c.assets_created ≤ 2 ^ 16
  pub apps_created : c.apps_created ≤ 2 ^ 16
  pub apps_opted : c.apps_opted ≤ 2 ^ 16
  pub extra_pages : c.extra_pages ≤ 2 ^ 16
  pub uints : c.uints ≤ 2 ^ 16
  pub byte_slices : c.byte_slices ≤ 2 ^ 16
  pub boxes : c.boxes ≤ 2 ^ 16
  pub box_bytes : c.box_bytes ≤ 2 ^ 16

abbrev pub same_counts : Counts → Counts → Bool
same_counts c d =
    nat_eq c.assets_held d.assets_held && nat_eq c.assets_created d.assets_created && nat_eq c.apps_created d.apps_created
    && nat_eq c.apps_opted d.apps_opted && nat_eq c.extra_pages d.extra_pages && nat_eq c.uints d.uints
    && nat_eq c.byte_slices d.byte_slices && nat_eq c.boxes d.boxes && nat_eq c.box_bytes d.box_bytes

-- ---- counts follow rows

-- an account with each count moved by the difference of two rows' counts, and never below 0
abbrev pub recounted : Counts → Counts → AccountRow → AccountRow
recounted old new r = record r {
  assets_held = r.assets_held + new.assets_held - old.assets_held;
  assets_created = r.assets_created + new.assets_created - old.assets_created;
  apps_created = r.apps_created + new.apps_created - old.apps_created;
  apps_opted = r.apps_opted + new.apps_opted - old.apps_opted;
  extra_pages = r.extra_pages + new.extra_pages - old.extra_pages;
  uints = r.uints + new.uints - old.uints;
  byte_slices = r.byte_slices + new.byte_slices - old.byte_slices;
  boxes = r.boxes + new.boxes - old.boxes;
  box_bytes = r.box_bytes + new.box_bytes - old.box_bytes;
}

-- whether no count passes the most
abbrev pub counts_within : AccountRow → Bool
counts_within r =
    nat_le r.assets_held max_count && nat_le r.assets_created max_count && nat_le r.apps_created max_count
    && nat_le r.apps_opted max_count && nat_le r.extra_pages max_count && nat_le r.uints max_count
    && nat_le r.byte_slices max_count && nat_le r.boxes max_count && nat_le r.box_bytes max_count

-- 65: no count passes the most
abbrev pub put_counts : RowMap → Address → AccountRow → Result RowMap Rule
put_counts m who r = if counts_within r then Ok (set_account m who r) else Err (of_account 65 who)

-- the counts of an account move from those of one row to those of another; where these are the same, nothing changes
unfoldable pub recount : Address → Counts → Counts → RowMap → Result RowMap Rule
recount who old new m = if same_counts old new then Ok m else put_counts m who (recounted old new (account m who))

-- a row stands under a key in place of one with these counts, and the counts of its owner follow
unfoldable pub put_over : Address → Key → Counts → Option Row → RowMap → Result RowMap Rule
put_over who k old now m = then_do (recount who old (counts_at k now) m) (λ n. Ok (set_at n k now))

unfoldable pub put_counted : Address → Key → Option Row → RowMap → Result RowMap Rule
put_counted who k now m = put_over who k (counts_at k (get m k)) now m

-- a resource row is set or taken away, and the counts of its address follow
abbrev pub put_resource : Address → ℕ → Option Row → RowMap → Result RowMap Rule
put_resource who id now m = put_counted who (key.Resource who id) (nonzero now) m

-- a box is set or taken away, and the counts of its application's account follow
abbrev pub put_box : ℕ → BoxName → Option Row → RowMap → Result RowMap Rule
put_box app name now m = put_counted (app_account app) (key.Box app name) (nonzero now) m

-- the counts of all accounts stay those of their rows
pub record CountsFollow : Type 0 where
  pub resources : (who : Address) (id : ℕ) (now : Option Row) (m n : RowMap) → ((a : Address) → CountsAgree m a) → put_resource who id now m ≡ Ok n → (a : Address) → CountsAgree n a
  pub boxes : (app : ℕ) (name : BoxName) (now : Option Row) (m n : RowMap) → ((a : Address) → CountsAgree m a) → put_box app name now m ≡ Ok n → (a : Address) → CountsAgree n a
