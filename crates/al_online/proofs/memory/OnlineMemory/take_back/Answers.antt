use Rattle.std.proofs.Common.{◌≡◌, ◌∙◌, rules, arith}
use Rattle.std.proofs.lemmas.Grind.{common_steps}
use Rattle.al_online.specs.contracts.memory.OnlineMemory.{the_view}
use Rattle.al_online.specs.Memory.{Memory, top, without_last}
use Rattle.al_online.proofs.Rounds.{back_is}
use Rattle.al_online.proofs.memory.OnlineMemory.take_back.Goals as goal

pub returns-clause-back : goal.returns-clause-back
returns-clause-back c m level cs e =
    let now : the_view (record { alloc = c.self.inside.alloc; base = c.self.inside.base; rounds = c.pop.new.self }) ≡ without_last c.args.self.now = first_of (search rules, grind (arith, common_steps)) in
    now ∙ back_is c.args.self.now m level cs e c.requires
