use Rattle.std.proofs.Common.{◌≡◌, ◌<◌, ℕ, length, rules, get_or}
use Rattle.al_base.proofs.KeyLemmas.{number_bytes_of}
use Rattle.al_base.proofs.key.number.Goals as goal

pub returns : goal.returns
returns c =
    let len : length c.args.bytes.now ≡ 8 = search rules in
    let small : (i : ℕ) → get_or c.args.bytes.now i 0 < 256 = search rules in
    number_bytes_of c.args.bytes.now _ len small (search rules)
