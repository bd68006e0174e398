use Rattle.std.proofs.Common.{◌≡◌, ◌≤◌, ◌*◌, List, length}
use Rattle.std.specs.List.{flat_map}
use Rattle.al_http.specs.Limits.{most_message}
use Rattle.al_http.specs.Requests.{Message, spell}
use Rattle.al_states.specs.declared.told.Told.{Told}
use Rattle.al_session.specs.Connection.{Serving}
use Rattle.al_states.specs.Keeping.{IsStates, held}
use Rattle.al_session.proofs.link.serve_link.Given as goal

abbrev pub invariant-loop-i : goal.invariant-loop-i
invariant-loop-i g l =
    (requests : List Message) × (told : List Told)
    × Serving (held l.fn.states) (held l.states) (g.S.Source.left l.fn.source) (g.S.Source.left l.source) (g.T.Sink.written l.fn.sink) (g.T.Sink.written l.sink) l.inbox requests told
    × (length requests ≡ l.i) × (l.done ≡ length (flat_map spell requests)) × (l.done ≤ l.i * most_message)
    × (g.S.Source.faults l.source ≡ g.S.Source.faults l.fn.source) × (g.T.Sink.faults l.sink ≡ g.T.Sink.faults l.fn.sink)
    × IsStates l.states × (l.caller.seen ≡ length (held l.states).blocks)
