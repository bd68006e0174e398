use Rattle.std.proofs.Common.{◌≡◌, ◌++◌, ◌∷◌, [], ap, ◌∙◌}
use Rattle.al_base.specs.declared.address.Address.{Address}
use Rattle.al_base.specs.declared.account.Status.TheVariants.{Offline}
use Rattle.al_generator.specs.declared.genesis.Opening.{Opening}
use Rattle.al_generator.specs.Genesis.{pool_opening, sink_opening, user_opening}
use Rattle.al_generator.proofs.Openings.{one_more}
use Rattle.al_generator.proofs.genesis.openings.Goals as goal

abbrev with_balance : Address → Opening
with_balance who = record { address = who; status = Offline; balance = 1000000000000 }

pub loop-i-preserved : goal.loop-i-preserved
loop-i-preserved c =
    let pushed : c.push-in-loop-i.new.self.items ≡ c.loop-i.all.items ++ user_opening c.loop-i.i ∷ [] = c.in_ok-push-3.ensures.items ∙ ap (λ (who : Address). c.loop-i.all.items ++ with_balance who ∷ []) c.user.ensures in
    one_more user_opening sink_opening pool_opening c.loop-i.i c.loop-i.all.items c.push-in-loop-i.new.self.items c.loop-i.invariant pushed
