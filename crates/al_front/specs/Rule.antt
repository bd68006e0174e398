-- The front rule, and what each step tells. Floors and lengths count rounds; base is the opening floor.
use Rattle.std.specs.Prelude.{◌≡◌, ℕ, ◌+◌, ◌≤◌, ◌⊎◌, max, List, [], ◌∷◌, ◌++◌, length, Bool, true, false, nat_lt, if◌then◌else◌}
use mathlib.Core.Option.{some}
use mathlib.Core.List.{IsPrefix}
use lib.ListN.{get_elem?}
use Rattle.atomic_table.specs.Table.{State, Me, Step}
use Rattle.atomic_table.specs.Seated.{TableId}
use Rattle.al_front.specs.declared.view.View.{View}

-- a view at rest: nothing is joined to it, and it is not spent
abbrev pub sitting : Bool → Bool → ℕ → List (List ℕ) → ℕ → View
sitting main store base list floor = record { base = base; list = list; met = []; floor = floor; met_floor = base; is_main = main; is_store = store; spent = false }

-- the view of a note that has been met
abbrev pub nobody : View
nobody = record { base = 0; list = []; met = []; floor = 0; met_floor = 0; is_main = false; is_store = false; spent = true }

-- a floor is the opening one, or at least 4 below the length that is known with it
abbrev pub FloorFits : ℕ → ℕ → ℕ → Type 0
FloorFits base floor top = (floor ≡ base) ⊎ (floor + 4 ≤ top)

-- what a view that is not spent may know, where the main list is log and the store seat's floor is floor
pub record Knows (base : ℕ) (log : List (List ℕ)) (floor : ℕ) (v : View) : Type 0 where
  pub base_is : v.base ≡ base
  pub list : IsPrefix v.list log
  pub met : IsPrefix v.met log
  pub low : base ≤ v.floor
  pub high : v.floor ≤ floor
  pub met_low : base ≤ v.met_floor
  pub met_high : v.met_floor ≤ floor
  pub fits : FloorFits base v.floor (base + max (length v.list) (length v.met))
  pub met_fits : FloorFits base v.met_floor (base + max (length v.list) (length v.met))

-- what is so of the view at the place by: the main seat stands at main alone and knows the whole list, the store's seat at store alone and knows the floor
pub record ViewRule (base main store : ℕ) (log : List (List ℕ)) (floor by : ℕ) (v : View) : Type 0 where
  pub main_is : v.is_main ≡ true → (by ≡ main) × (v.list ≡ log)
  pub store_is : v.is_store ≡ true → (by ≡ store) × (v.floor ≡ floor)
  pub known : v.spent ≡ false → Knows base log floor v

-- the front rule: word 0 is the length of the main seat's list, word 1 the store seat's floor, and each view fits them
pub record FrontRule (base : ℕ) (words : List ℕ) (views : List View) (main store : ℕ) (log : List (List ℕ)) (floor : ℕ) : Type 0 where
  pub words_are : words ≡ (base + length log) ∷ floor ∷ []
  pub fits : FloorFits base floor (base + length log)
  pub main_there : (v : View) × (get_elem? views main ≡ some v) × (v.is_main ≡ true)
  pub store_there : (v : View) × (get_elem? views store ≡ some v) × (v.is_store ≡ true)
  pub each : (by : ℕ) (v : View) → get_elem? views by ≡ some v → ViewRule base main store log floor by v

-- the rule holds for some places of the two seats, some main list and some floor, of which the seats' views say what they are
abbrev pub Holds : ℕ → State (Unit {0}) View → Type 0
Holds base s = (main : ℕ) × (store : ℕ) × (log : List (List ℕ)) × (floor : ℕ) × FrontRule base s.words s.views main store log floor

-- the longer of two lists, and the first where they are equally long
abbrev pub longer : List (List ℕ) → List (List ℕ) → List (List ℕ)
longer xs ys = if nat_lt (length xs) (length ys) then ys else xs

-- the view with one entry more
abbrev pub with_entry : List ℕ → View → View
with_entry entry v = record v { list = v.list ++ entry ∷ [] }

-- the view that has taken the longer of its two lists
abbrev pub settled : View → View
settled v = record v { list = longer v.list v.met; met = [] }

-- the view that has taken the greater of its two floors
abbrev pub looked : View → View
looked v = record v { floor = max v.floor v.met_floor; met_floor = v.base }

-- the first seat's view as the main seat's
abbrev pub as_main : View → View
as_main v = record v { is_store = false }

-- the first seat's view as the store seat's
abbrev pub as_store : View → View
as_store v = record v { is_main = false }

-- the view of a note of a view at rest
abbrev pub note_of : View → View
note_of v = sitting false false v.base v.list v.floor

-- a view with what a note brings beside its own
abbrev pub met_with : View → View → View
met_with v w = record v { met = w.list; met_floor = w.floor }

-- the view of a seat at rest that a note was joined to
abbrev pub joined : Bool → Bool → ℕ → List (List ℕ) → ℕ → List (List ℕ) → ℕ → View
joined m s base list floor met met_floor = met_with (sitting m s base list floor) (sitting false false base met met_floor)

-- a seat as a step sees it: its view, and the slots that it holds, of which there are none
abbrev S : Type 0
S = Me (Unit {0}) View

-- an append makes the list longer by the entry
abbrev pub appended : List ℕ → Step (Unit {0}) → S → ℕ → S → Type 0
appended entry st m r m' = m' ≡ (with_entry entry m.0, m.1)

-- settling takes the longer list, of which both are prefixes; the main seat's is the longer
abbrev pub settles : Step (Unit {0}) → S → ℕ → S → Type 0
settles st m r m' = (m' ≡ (settled m.0, m.1)) × IsPrefix m.0.list m'.0.list × IsPrefix m.0.met m'.0.list × (m.0.is_main ≡ true → m'.0.list ≡ m.0.list)

-- looking takes the greater floor, which is the store seat's own there
abbrev pub looks : Step (Unit {0}) → S → ℕ → S → Type 0
looks st m r m' = (m' ≡ (looked m.0, m.1)) × (m.0.is_store ≡ true → m.0.met_floor ≤ m.0.floor)

-- a raise takes the greater of the floor and the given one
abbrev pub raised : Step (Unit {0}) → S → ℕ → S → Type 0
raised st m r m' = m' ≡ (record m.0 { floor = max m.0.floor st.first }, m.1)

-- what is so of each seat, note and pass: whose it is, what its view is, and that the numbers beside it are the view's
pub record Seated (main store : Bool) (table : TableId) (base len floor : ℕ) (of : TableId) (me : S) : Type 0 where
  pub of_table : of ≡ table
  pub view : me ≡ (sitting main store base me.0.list floor, [])
  pub long : len ≡ base + length me.0.list
  pub low : base ≤ floor
  pub fits : FloorFits base floor len

-- what is so of a front that has no name yet: its two words are keyed by the opening floor, and both seats know the empty list and that floor
pub record IsUnnamed (table : TableId) (key base : ℕ) (of_main : TableId) (main : S) (of_store : TableId) (store : S) : Type 0 where
  pub words : (table.words ≡ 2) × (table.slots ≡ 0)
  pub keyed : key ≡ base
  pub seated : (of_main ≡ table) × (of_store ≡ table)
  pub main_is : main ≡ (sitting true false base [] base, [])
  pub store_is : store ≡ (sitting false true base [] base, [])
