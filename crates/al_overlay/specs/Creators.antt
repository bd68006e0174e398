-- Who created what among the rows that a work holds.
use Rattle.std.specs.Prelude.{◌≡◌, ℕ, List, Bool, true, false, if◌then◌else◌, is_some, IsSome, ⊤}
use Rattle.std.specs.declared.option.Option.{Option}
use Rattle.std.specs.declared.option.Option.TheVariants.{None, Some}
use Rattle.std.specs.BTreeMap.{BTreeMap, is_at}
use Rattle.std.specs.BTreeMap as tree
use Rattle.std.specs.Ordering.{is_lt, nat_cmp}
use Rattle.std.specs.declared.cmp.Ordering.TheVariants.{Less}
use Rattle.al_base.specs.declared.address.Address.{Address}
use Rattle.al_base.specs.declared.key.Key.{Key}
use Rattle.al_base.specs.declared.key.Key.TheVariants as key
use Rattle.al_base.specs.Keys.{address_cmp, key_cmp}
use Rattle.al_rows.specs.declared.row.Row.{Row}
use Rattle.al_rows.specs.Rows.{creator_at, has_params}
use Rattle.al_overlay.specs.declared.creator.First.{First}
use Rattle.al_overlay.specs.declared.held.Held.{Held}
use Rattle.al_overlay.specs.Held.{at, now_at, nows}

-- the creator that a row under a key shows, none where there is no row
abbrev pub shown : ℕ → Key → Option Row → Option Address
shown id k None = None
shown id k (Some r) = creator_at id k r

-- whether a row that may be there has the params of its asset or application
abbrev pub creates : Option Row → Bool
creates None = false
creates (Some r) = has_params r

-- whether the row of an address and an id is held and has params
abbrev pub shows : List (Key × Held) → ℕ → Address → Bool
shows es id a = creates (now_at (nows es) (key.Resource a id))

-- the least address that a test holds of, or none where it holds of none
abbrev pub IsLeast : (Address → Bool) → Option Address → Type 0
IsLeast p None = (a : Address) → p a ≡ false
IsLeast p (Some a) = (p a ≡ true) × ((b : Address) → address_cmp b a ≡ Less → p b ≡ false)

-- the same, and where it is said to be alone it is the only one
abbrev pub IsFirst : (Address → Bool) → Option First → Type 0
IsFirst p None = (a : Address) → p a ≡ false
IsFirst p (Some s) = (p s.who ≡ true) × ((b : Address) → address_cmp b s.who ≡ Less → p b ≡ false) × (s.alone ≡ true → (b : Address) → p b ≡ true → b ≡ s.who)

-- a test that holds of an address, or does not, and is another of every other one
pub record IsWith (p q : Address → Bool) (who : Address) : Type 0 where
  pub here : q who ≡ true
  pub there : (a : Address) → (a ≡ who → ⊥) → q a ≡ p a

pub record IsWithout (p q : Address → Bool) (who : Address) : Type 0 where
  pub here : q who ≡ false
  pub there : (a : Address) → (a ≡ who → ⊥) → q a ≡ p a

-- what is noted of an id: nothing where no row of it is held, or the first creator among those that are
abbrev pub IsNoted : List (Key × Held) → ℕ → Option (Option First) → Type 0
IsNoted es id None = (a : Address) → at es (key.Resource a id) ≡ None
IsNoted es id (Some o) = IsFirst (shows es id) o

-- what is noted of each id
unfoldable pub AreNoted : List (Key × Held) → BTreeMap ℕ (Option First) → Type 0
AreNoted es creators = (id : ℕ) → IsNoted es id (tree.get nat_cmp creators id)

-- the address and the id of a resource's key
abbrev pub resource_of : Key → Option (Address × ℕ)
resource_of (key.Account who) = None
resource_of (key.Resource who id) = Some (who, id)
resource_of (key.Box app name) = None

-- something is noted of the id of a resource's key
abbrev pub HasRoom : Key → BTreeMap ℕ (Option First) → Type 0
HasRoom (key.Account who) creators = ⊤
HasRoom (key.Resource who id) creators = IsSome (tree.get nat_cmp creators id)
HasRoom (key.Box app name) creators = ⊤

-- the rows that are held are the same under all keys but one
abbrev pub AreOthers : Key → List (Key × Held) → List (Key × Held) → Type 0
AreOthers k es fs = (q : Key) → is_at (key_cmp k) q ≡ false → at fs q ≡ at es q

-- the view's creator, unless its row is held
abbrev pub unchanged : ℕ → Option Address → List (Key × Option Row) → Option Address
unchanged id None es = None
unchanged id (Some who) es = if is_some (at es (key.Resource who id)) then None else Some who

-- the lesser of two creators that may be there
abbrev pub lesser : Option Address → Option First → Option Address
lesser held None = held
lesser None (Some s) = Some s.who
lesser (Some who) (Some s) = if is_lt (address_cmp who s.who) then Some who else Some s.who

-- the creator by what is noted of an id: the view's where no row of it is held
abbrev pub creator_noted : ℕ → Option Address → Option (Option First) → List (Key × Option Row) → Option Address
creator_noted id viewed None es = viewed
creator_noted id viewed (Some o) es = lesser (unchanged id viewed es) o
