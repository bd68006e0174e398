-- What the turns of a block make.
use Rattle.std.specs.Prelude.{◌+◌, ◌%◌, ◌==◌, ℕ, zero, suc, List, [], ◌∷◌, ◌++◌, if◌then◌else◌, nat_lt, Option, Some, None}
use Rattle.al_base.specs.declared.address.Address.{Address}
use Rattle.al_moves.specs.Resources.{app_account}
use Rattle.al_generator.specs.declared.progress.Progress.{Progress}
use Rattle.al_generator.specs.declared.progress.Hand.{Hand}
use Rattle.al_generator.specs.declared.turns.Action.{Action}
use Rattle.al_generator.specs.declared.turns.Action.TheVariants as acts
use Rattle.al_generator.specs.declared.turns.Made.{Made}
use Rattle.al_generator.specs.Draws.{after_draw, after_hand, drawn, hand, next}

-- the transactions of a turn, and the generator behind them
abbrev pub Turn : Type 0
Turn = List Made × Progress

-- one transaction more
abbrev pub counted : Progress → Progress
counted g = record g { count = g.count + 1 }

-- the next transaction, numbered from 1
abbrev pub made : Progress → Address → Action → Made
made g sender action = record { number = g.count + 1; sender = sender; action = action }

-- a turn of one transaction
abbrev pub single : Progress → Address → Action → Turn
single g sender action = (made g sender action ∷ [], counted g)

-- an asset has the number of the transaction that creates it
abbrev pub created : Progress → Address → Turn
created g sender = (made g sender acts.CreateAsset ∷ [], record (counted g) { asset = Some (g.count + 1) })

-- so has an application, whose account is then paid
abbrev pub founded : Progress → Address → Turn
founded g sender = (made g sender acts.CreateApp ∷ made (counted g) sender (acts.Pay (app_account (g.count + 1)) 1000000) ∷ [], record (counted (counted g)) { app = Some (g.count + 1) })

abbrev pub paid : Progress → Hand → Turn
paid g h = single g h.sender (acts.Pay h.receiver (1000 + h.value))

-- into the asset created last; a payment where there is none
abbrev pub opted : Option ℕ → Progress → Hand → Turn
opted None g h = paid g h
opted (Some asset) g h = single g h.sender (acts.OptIn asset)

-- with keys or without
abbrev pub registered : Progress → Hand → Turn
registered g h = if h.value % 2 == 0 then single g h.sender acts.GoOnline else single g h.sender acts.GoOffline

-- a call of the application; its creation where there is none
abbrev pub called : Option ℕ → Progress → Hand → Turn
called None g h = founded g h.sender
called (Some app) g h = single g h.sender (acts.PutBox app (h.value % 16))

-- by the kind that was drawn
abbrev pub act : Progress → Hand → Turn
act g h =
    if nat_lt h.kind 4 then paid g h
    else if h.kind == 4 then created g h.sender
    else if h.kind == 5 then opted g.asset g h
    else if h.kind == 6 then registered g h
    else called g.app g h

abbrev pub turn : Progress → Turn
turn g = act (after_hand g) (hand g.x)

-- so many turns, each behind the one before
unfoldable pub turns : ℕ → Progress → Turn
turns zero g = ([], g)
turns (suc n) g = ((turn g).0 ++ (turns n (turn g).1).0, (turns n (turn g).1).1)

-- the turns of a block: one more than a draw modulo 4
abbrev pub block : Progress → Turn
block g = turns (1 + drawn (next g.x) % 4) (after_draw g)
