-- The rules on a transaction's form, by the Algorand ledger specification: a list of numbered tests, of which the first that is broken counts.
use Rattle.std.specs.Prelude.{ℕ, ◌+◌, ◌-◌, List, [], ◌∷◌, length, Bool, true, false, not, ◌&&◌, ◌||◌, nat_eq, nat_lt, if◌then◌else◌, replicate}
use Rattle.std.specs.declared.option.Option.{Option}
use Rattle.std.specs.declared.option.Option.TheVariants.{None, Some}
use Rattle.std.specs.declared.result.Result.{Result}
use Rattle.std.specs.declared.result.Result.TheVariants.{Ok, Err}
use Rattle.std.specs.Option.{option_or, is_some}
use Rattle.std.specs.List.{list_any}
use Rattle.std.specs.Cmp.Lexicographic.{pointwise}
use Rattle.al_base.specs.declared.address.Address.{Address}
use Rattle.al_bodies.specs.declared.body.KeyReg.{KeyReg}
use Rattle.al_bodies.specs.declared.body.Config.{Config}
use Rattle.al_bodies.specs.declared.body.AssetMove.{AssetMove}
use Rattle.al_bodies.specs.declared.body.Freeze.{Freeze}
use Rattle.al_bodies.specs.declared.body.Body.{Body}
use Rattle.al_bodies.specs.declared.body.Body.TheVariants as body
use Rattle.al_bodies.specs.declared.effect.Effect.{Effect}
use Rattle.al_bodies.specs.declared.effect.Effect.TheVariants as effect
use Rattle.al_bodies.specs.declared.effect.Inner.TheVariants as inner
use Rattle.al_txn.specs.declared.chain.Chain.{Chain}
use Rattle.al_txn.specs.declared.txn.Txn.{Txn}
use Rattle.al_txn.specs.declared.txn.Item.{Item}
use Rattle.al_txn.specs.declared.form.Ill.{Ill}

-- a test: a rule's number, and whether it is broken
abbrev pub first_broken : List (ℕ × Bool) → Option ℕ
first_broken [] = None
first_broken (t ∷ ts) = if t.1 then Some t.0 else first_broken ts

abbrev pub bytes_eq : List ℕ → List ℕ → Bool
bytes_eq = pointwise nat_eq

abbrev pub address_eq : Address → Address → Bool
address_eq a b = bytes_eq a.0 b.0

-- an address is given where it is not zero
abbrev pub is_given : Address → Bool
is_given who = not (bytes_eq who.0 (replicate 32 0))

-- the fee sink may pay to the pool alone, and may not register keys
abbrev pub is_barred : Address → Body → Bool
is_barred pool (body.Pay p) = not (address_eq p.receiver pool) || is_given p.close
is_barred pool (body.KeyReg k) = true
is_barred pool b = false

-- the tests of all transactions
unfoldable pub common_tests : Txn → Chain → List (ℕ × Bool)
common_tests t c =
    (1, bytes_eq t.sender.0 (replicate 32 0))
    ∷ (2, address_eq t.sender c.special.pool)
    ∷ (3, nat_lt t.last t.first)
    ∷ (4, nat_lt 1000 (t.last - t.first))
    ∷ (5, nat_lt 1024 (length t.note))
    ∷ (6, not (bytes_eq t.genesis_hash c.hash))
    ∷ (7, not (nat_eq (length t.genesis_id) 0) && not (bytes_eq t.genesis_id c.id))
    ∷ (8, address_eq t.sender c.special.sink && is_barred c.special.pool t.body)
    ∷ []

abbrev pub no_keys : KeyReg → Bool
no_keys k = bytes_eq k.vote (replicate 32 0) && bytes_eq k.selection (replicate 32 0) && nat_eq k.dilution 0

abbrev pub all_keys : KeyReg → Bool
all_keys k = not (bytes_eq k.vote (replicate 32 0)) && not (bytes_eq k.selection (replicate 32 0)) && not (nat_eq k.dilution 0)

-- of a key registration, in a transaction that is valid up to a round
unfoldable pub keyreg_tests : KeyReg → ℕ → List (ℕ × Bool)
keyreg_tests k last =
    (10, nat_lt k.last k.first || nat_lt 16777215 (k.last - k.first))
    ∷ (11, not (no_keys k || all_keys k))
    ∷ (12, no_keys k && (not (nat_eq k.first 0) || not (nat_eq k.last 0) || not (bytes_eq k.sprf (replicate 64 0))))
    ∷ (13, all_keys k && k.nonpart)
    ∷ (14, all_keys k && nat_lt (last + 1) k.first)
    ∷ []

unfoldable pub move_tests : AssetMove → List (ℕ × Bool)
move_tests m = (15, nat_eq m.asset 0) ∷ (16, is_given m.source && is_given m.close) ∷ []

unfoldable pub config_tests : Config → List (ℕ × Bool)
config_tests c =
    (17, nat_lt 19 c.params.decimals) ∷ (18, nat_lt 8 (length c.params.unit)) ∷ (19, nat_lt 32 (length c.params.name)) ∷ (20, nat_lt 96 (length c.params.url)) ∷ []

unfoldable pub freeze_tests : Freeze → List (ℕ × Bool)
freeze_tests f = (21, nat_eq f.asset 0) ∷ (22, not (is_given f.account)) ∷ []

-- an effect that creates an application
abbrev pub creates : Effect → Bool
creates (effect.Create uints slices local_uints local_slices pages state) = true
creates e = false

-- of a call of an application, 0 for none: an effect that creates one stands behind the first, or where one is called; or none is called, and the first creates none
abbrev pub is_misplaced : ℕ → List Effect → Bool
is_misplaced app [] = false
is_misplaced app (e ∷ es) = list_any creates es || (creates e && not (nat_eq app 0)) || (nat_eq app 0 && not (creates e))

-- an inner transaction that breaks a rule of a transfer
abbrev pub is_ill_inner : Effect → Bool
is_ill_inner (effect.Inner (inner.Move m)) = is_some (first_broken (move_tests m))
is_ill_inner e = false

-- of a call with its effects
unfoldable pub call_tests : ℕ → List Effect → List (ℕ × Bool)
call_tests app es = (23, is_misplaced app es) ∷ (24, list_any is_ill_inner es) ∷ []

abbrev pub tests_of : Item → Body → List (ℕ × Bool)
tests_of i (body.Pay p) = (9, address_eq p.close i.txn.sender) ∷ []
tests_of i (body.KeyReg k) = keyreg_tests k i.txn.last
tests_of i (body.Config c) = config_tests c
tests_of i (body.Move m) = move_tests m
tests_of i (body.Freeze f) = freeze_tests f
tests_of i (body.App a) = call_tests a.app i.effects

-- the tests of the body, and of the effects beside it
unfoldable pub body_tests : Item → List (ℕ × Bool)
body_tests i = tests_of i i.txn.body

-- the first broken rule
abbrev pub form_fault : Item → Chain → Option ℕ
form_fault i c = option_or (first_broken (common_tests i.txn c)) (first_broken (body_tests i))

-- the number that an answer names
abbrev pub number_in : {A : Type 0} → Result A Ill → Option ℕ
number_in (Ok x) = None
number_in (Err i) = Some i.number
