use Rattle.std.proofs.Common.{rules, ◌≡◌, ◌≤◌, arith, suc}
use Rattle.al_msgpack.specs.Heads.{head_at}
use Rattle.al_msgpack.specs.Reading.{lead}
use Rattle.al_msgpack.proofs.Codes.{key_reach}
use Rattle.al_msgpack.proofs.key.key.Goals as goal

pub rising-requires : goal.rising-requires
rising-requires c =
    let floor : c.floor-floor.result ≡ suc (lead c.in-Some-before.before.now) = search rules in
    let q : c.floor-floor.result ≤ c.in_ok-len.len = key_reach c.floor-floor.result (head_at c.in-Some.head.now) c.in-Some-size_of_key.size c.in-Some.rest.now c.in_ok-len.len c.in_ok-len.rest.now (search rules) c.in_ok-len.ensures in
    omega arith
