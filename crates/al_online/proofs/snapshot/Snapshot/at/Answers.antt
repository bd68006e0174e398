use Rattle.std.proofs.Common.{◌≡◌, ◌∙◌, ap, Option, Some, None, option_map, rules}
use Rattle.al_base.specs.declared.online.OnlineData.{OnlineData}
use Rattle.al_base.specs.Keys.{address_cmp}
use Rattle.std.specs.FinMap.{find}
use Rattle.al_online.specs.Memory.{capped_stake}
use Rattle.al_online.specs.declared.stake.Stake.{Stake}
use Rattle.al_online.proofs.Snaps.{at_is}
use Rattle.al_online.proofs.snapshot.Snapshot.at.Goals as goal

pub returns-in_err-known : goal.returns-in_err-known
returns-in_err-known c =
    let none : c.from_residual.result ≡ None = search rules in
    let gone : None ≡ find address_cmp c.args.who.now c.self.inside.online.items = c.in_err-known.ensures ∙ ap (find address_cmp c.args.who.now) c.deref.ensures.value in
    none ∙ ap (option_map capped_stake) (at_is c.self.inside.level c.self.inside.online.items c.args.self.now c.self.view_is c.self.invariant c.args.who.now None gone)

pub returns : goal.returns
returns c =
    let found : Some c.in_ok-known.known.now ≡ find address_cmp c.args.who.now c.self.inside.online.items = c.in_ok-known.ensures ∙ ap (find address_cmp c.args.who.now) c.deref.ensures.value in
    ap (λ (s : Stake). Some s) c.of.ensures ∙ ap (option_map capped_stake) (at_is c.self.inside.level c.self.inside.online.items c.args.self.now c.self.view_is c.self.invariant c.args.who.now (Some c.in_ok-known.known.now) found)
