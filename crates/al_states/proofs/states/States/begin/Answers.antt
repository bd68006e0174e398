use Rattle.std.proofs.Common.{◌≡◌, ◌∙◌, ◌∷◌, [], ap, sym, subst, List}
use Rattle.al_base.specs.declared.online.OnlineChange.{OnlineChange}
use Rattle.al_online.specs.Memory.{IsEachOnce, Memory}
use Rattle.al_online.specs.Stakes.{Snap, first_snap}
use Rattle.al_rows.specs.Rows.{bare}
use Rattle.al_rewards.specs.Totals.{AreTotals}
use Rattle.al_eval.specs.Snaps.{snap_of}
use Rattle.al_eval.specs.Start.{start_online, start_rows, start_totals}
use Rattle.al_eval.specs.State.{counts_in}
use Rattle.al_eval.proofs.Onlines.{start_snap}
use Rattle.al_states.specs.Keeping.{origin_of}
use Rattle.al_states.proofs.OpenLemmas.{kept_begun, held_begun}
use Rattle.al_states.proofs.StoredLemmas.{start_stored}
use Rattle.al_states.proofs.states.States.begin.Goals as goal

pub new-requires : goal.new-requires
new-requires c = subst IsEachOnce (sym (c.in_ok-known.ensures ∙ ap start_online c.as_slice-4.ensures)) c.requires.once

pub returns-clause-states : goal.returns-clause-states
returns-clause-states c =
    let g = c.args.genesis in
    let fits : AreTotals (start_totals c.as_slice-3.result.now) = subst (λ xs. AreTotals (start_totals xs)) (sym c.as_slice-3.ensures) c.requires.totals.1 in
    let totals : c.start_totals-totals.result ≡ counts_in (origin_of g.chain g.header (start_rows g.accounts)) = c.start_totals-totals.ensures fits ∙ ap start_totals c.as_slice-3.ensures ∙ c.requires.totals.0 in
    let level = g.header.level in
    let memory : c.in_ok-online.online ≡ record { base = 0; snaps = snap_of level (bare (start_rows g.accounts)) ∷ [] } =
    c.in_ok-online.ensures
    ∙ ap (λ (cs : List OnlineChange). let m : Memory = record { base = 0; snaps = first_snap level cs ∷ [] } in m) (c.in_ok-known.ensures ∙ ap start_online c.as_slice-4.ensures)
    ∙ ap (λ (s : Snap). let m : Memory = record { base = 0; snaps = s ∷ [] } in m) (start_snap level g.accounts) in
    kept_begun g.chain c.in_ok-first.first g.header c.in_ok-base.base c.in_ok-newest.newest (start_rows g.accounts) c.new-2.result c.in_ok-hash.hash c.start_totals-totals.result c.new-3.result.items c.new-4.result c.in_ok-online.online
    (c.in_ok-base.ensures ∙ ap start_rows c.as_slice.ensures) (c.in_ok-newest.ensures ∙ ap start_rows c.as_slice-2.ensures) c.new-2.ensures c.new-3.ensures.items c.new-4.ensures c.in_ok-first.ensures c.in_ok-hash.ensures c.requires.sound c.requires.few totals memory (start_stored g.accounts c.requires.ranged)

pub returns-clause-origin : goal.returns-clause-origin
returns-clause-origin c = held_begun c.args.genesis.chain c.in_ok-first.first c.args.genesis.header c.in_ok-base.base (start_rows c.args.genesis.accounts) c.new-3.result.items c.in_ok-first.ensures (c.in_ok-base.ensures ∙ ap start_rows c.as_slice.ensures) c.new-3.ensures.items
